use Rattle.std.proofs.Common.{◌≢◌, ◌<◌, ◌≤◌, All, sym, subst, ◌∙◌, refl, arith, rules}
use Rattle.ark_words.specs.Codes.{left_count}
use Rattle.ark_words.proofs.Faults.{for_error, refused_code, refused_few, refused_words}
use Rattle.ark_words.proofs.WordLists.{numbers_below}
use Rattle.ark_words.proofs.codes.prepared.Goals as goal

pub returns-in_default-clause-fault : goal.returns-in_default-clause-fault
returns-in_default-clause-fault g c =
    let one : c.one.result ≢ g.F.Field.field.zero = subst (λ x. x ≢ g.F.Field.field.zero) (sym (c.one.ensures ∙ g.met.F.Field.one_law)) g.met.F.Field.field_laws.one_not_zero in
    refused_code _ _ _ c.refusal.result (λ some. let there = c.in_default.ensures.some.1 (some, one) in absurd (search rules)) c.refusal.ensures

pub returns-then-count_left-k-clause-fault : goal.returns-then-count_left-k-clause-fault
returns-then-count_left-k-clause-fault g c =
    let few : c.count_left.result < c.args.k = c.if-count_left-k.true in
    refused_few _ _ _ c.refusal-then-count_left-k.result (c.in-Some.ensures.some.0 refl).0
    (λ enough. absurd (omega (arith, few, c.count_left.ensures, enough)))
    c.refusal-then-count_left-k.ensures

pub returns-in_err-items-clause-fault : goal.returns-in_err-items-clause-fault
returns-in_err-items-clause-fault g c =
    let enough : c.args.k ≤ left_count c.args.erased.now = omega (arith, c.count_left.ensures, c.if-count_left-k.false) in
    for_error _ c.from_residual.result c.in_err-items.field-0.0 c.from_residual.ensures.1
    (refused_words _ _ _ c.in_err-items.field-0.0 (c.in-Some.ensures.some.0 refl).0 enough c.in_err-items.ensures.refusal)

pub returns-in_default-lost_places-clause-fault : goal.returns-in_default-lost_places-clause-fault
returns-in_default-lost_places-clause-fault g c =
    let F = g.F.PrimeNumbers in
    let enough : c.args.k ≤ left_count c.args.erased.now = omega (arith, c.count_left.ensures, c.if-count_left-k.false) in
    (tt, subst (All (λ x. x < F.modulus)) c.in_ok-items.ensures.numbers (numbers_below F.numbering c.in_ok-items.items.items), (c.in-Some.ensures.some.0 refl).0, enough)

pub returns-in_default-decoder-clause-fault : goal.returns-in_default-decoder-clause-fault
returns-in_default-decoder-clause-fault g c =
    let F = g.F.PrimeNumbers in
    let enough : c.args.k ≤ left_count c.args.erased.now = omega (arith, c.count_left.ensures, c.if-count_left-k.false) in
    (tt, subst (All (λ x. x < F.modulus)) c.in_ok-items.ensures.numbers (numbers_below F.numbering c.in_ok-items.items.items), (c.in-Some.ensures.some.0 refl).0, enough)
