use Rattle.std.proofs.Common.{◌<◌, ◌≢◌, All, length, sym, subst, ◌∙◌, IfErr, refl, arith, rules}
use Rattle.std.proofs.lemmas.Bool.{eqb-false}
use Rattle.ark_words.specs.Faults.{IsFault}
use Rattle.ark_words.specs.Numbers.{AreReduced}
use Rattle.ark_words.specs.Codes.{FitCode, HasCodeFor, IsEncodable}
use Rattle.ark_words.proofs.Faults.{for_error, refused, refused_memory}
use Rattle.ark_words.proofs.WordLists.{numbers_below}
use Rattle.ark_words.proofs.codes.judged.Goals as goal

pub returns-in_default-clause-fault : goal.returns-in_default-clause-fault
returns-in_default-clause-fault g c =
    let message = c.args.message.now in
    let word = c.args.word.now in
    let whole = rw c.WIDTH-width.ensures at c.if-message-width-ne0.false in
    let room = rw c.WIDTH-width.ensures at c.if-word-width-ne0.false in
    let items : length message ≢ 0 = eqb-false (length message) 0 (sym c.is_empty.ensures ∙ c.if-is_empty.false) in
    let found = rw c.WIDTH-width.ensures at c.in_default.ensures.some in
    let one : c.one.result ≢ g.F.Field.field.zero = subst (λ x. x ≢ g.F.Field.field.zero) (sym (c.one.ensures ∙ g.met.F.Field.one_law)) g.met.F.Field.field_laws.one_not_zero in
    subst (λ f. IsFault (FitCode f message word) (AreReduced f message) (HasCodeFor f word) c.refusal.result) (sym g.met.F.WordElement.spelled_law)
    (refused _ _ _ c.refusal.result (whole, room, omega arith, omega arith)
    (λ some. let there = found.1 (some, one) in absurd (search rules))
    c.refusal.ensures)

pub returns-in_err-elements-clause-fault : goal.returns-in_err-elements-clause-fault
returns-in_err-elements-clause-fault g c =
    let message = c.args.message.now in
    let word = c.args.word.now in
    let whole = rw c.WIDTH-width.ensures at c.if-message-width-ne0.false in
    let room = rw c.WIDTH-width.ensures at c.if-word-width-ne0.false in
    let items : length message ≢ 0 = eqb-false (length message) 0 (sym c.is_empty.ensures ∙ c.if-is_empty.false) in
    let found = rw c.WIDTH-width.ensures at c.in-Some.ensures.some in
    subst (λ f. IfErr c.from_residual.result (IsFault (FitCode f message word) (AreReduced f message) (HasCodeFor f word))) (sym g.met.F.WordElement.spelled_law)
    (for_error _ c.from_residual.result c.in_err-elements.field-0.0 c.from_residual.ensures.1
    (refused_memory _ _ _ c.in_err-elements.field-0.0 (whole, room, omega arith, omega arith) (found.0 refl).0 c.in_err-elements.ensures.refusal))

pub returns-clause-taken : goal.returns-clause-taken
returns-clause-taken g c =
    let F = g.F.PrimeNumbers in
    let message = c.args.message.now in
    let word = c.args.word.now in
    let whole = rw c.WIDTH-width.ensures at c.if-message-width-ne0.false in
    let room = rw c.WIDTH-width.ensures at c.if-word-width-ne0.false in
    let items : length message ≢ 0 = eqb-false (length message) 0 (sym c.is_empty.ensures ∙ c.if-is_empty.false) in
    let all = subst (All (λ x. x < F.modulus)) c.in_ok-elements.ensures.numbers (numbers_below F.numbering c.in_ok-elements.field-0.items) in
    let found = rw c.WIDTH-width.ensures at c.in-Some.ensures.some in
    subst (λ f. IsEncodable f message word) (sym g.met.F.WordElement.spelled_law)
    ((whole, room, omega arith, omega arith), all, (found.0 refl).0)
