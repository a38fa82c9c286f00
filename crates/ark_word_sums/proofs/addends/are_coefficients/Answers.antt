use Rattle.std.proofs.Common.{◌≡◌, ◌≤◌, ◌<◌, ℕ, arith, not, refl, sym, subst, ap, ◌∙◌, true≢false, ⊎_elim}
use Rattle.std.proofs.lemmas.Bool.{cases_lt}
use Rattle.ark_math.specs.Words.{number_of_words}
use Rattle.ark_sum_check.specs.Cube.{Product}
use Rattle.ark_word_sums.proofs.AddendFronts.{begin_all, begin_bad, begin_more, begin_stuck, none_given, none_left, some_left, split_given}
use Rattle.ark_word_sums.proofs.Spelling.{modulus_is}
use Rattle.ark_word_sums.proofs.addends.are_coefficients.Goals as goal

pub returns-in_default : goal.returns-in_default
returns-in_default g c ps spelled =
    let f = g.F.WordElement.spelled in
    absurd
    (begin_stuck f (λ (a : Product ℕ). a.coefficient < f.known.modulus) c.args.words.now c.loop-rest.rest.now c.loop-rest.invariant
    (some_left c.loop-rest.rest.now c.is_empty.result c.is_empty.ensures c.loop-rest-test.true)
    (none_given f g.F.WordElement.WIDTH _ g.met.F.WordElement.spelled_law c.WIDTH.result c.WIDTH.ensures c.loop-rest.rest.now (c.in_default.ensures.none refl)) ps spelled)

pub returns-then-is_none : goal.returns-then-is_none
returns-then-is_none g c ps spelled =
    let f = g.F.WordElement.spelled in
    let modulus : f.known.modulus ≡ g.F.PrimeNumbers.modulus = modulus_is f g.F.WordElement.WIDTH _ g.met.F.WordElement.spelled_law in
    let is =
    split_given f g.F.WordElement.WIDTH _ g.met.F.WordElement.spelled_law c.WIDTH.result c.WIDTH.ensures c.loop-rest.rest.now
    c.in-Some.coefficient.now c.in-Some.field-0-1.now c.in-Some.next.now c.in-Some.ensures.width c.in-Some.ensures.words in
    let above : g.F.PrimeNumbers.modulus ≤ number_of_words c.in-Some.coefficient.now =
    c.from_words.ensures.none.0 (c.is_none.ensures ∙ ap not c.if-is_none.true) in (
      (λ e. absurd (true≢false (sym e))),
      (λ all. absurd
          (begin_bad f (λ (a : Product ℕ). a.coefficient < f.known.modulus) c.args.words.now c.loop-rest.rest.now c.loop-rest.invariant
          c.in-Some.coefficient.now c.in-Some.field-0-1.now c.in-Some.next.now is (λ below. omega (arith, modulus, above, below)) ps spelled all)),
    )

pub loop-rest-preserved : goal.loop-rest-preserved
loop-rest-preserved g c =
    let f = g.F.WordElement.spelled in
    let modulus : f.known.modulus ≡ g.F.PrimeNumbers.modulus = modulus_is f g.F.WordElement.WIDTH _ g.met.F.WordElement.spelled_law in
    let n = number_of_words c.in-Some.coefficient.now in
    let is =
    split_given f g.F.WordElement.WIDTH _ g.met.F.WordElement.spelled_law c.WIDTH.result c.WIDTH.ensures c.loop-rest.rest.now
    c.in-Some.coefficient.now c.in-Some.field-0-1.now c.in-Some.next.now c.in-Some.ensures.width c.in-Some.ensures.words in
    let below : n < g.F.PrimeNumbers.modulus = ⊎_elim
    (λ (l : n < g.F.PrimeNumbers.modulus). l)
    (λ (l : g.F.PrimeNumbers.modulus ≤ n). absurd (true≢false (sym (c.is_none.ensures ∙ ap not c.if-is_none.false) ∙ c.from_words.ensures.none.1 l)))
    (cases_lt n g.F.PrimeNumbers.modulus) in
    begin_more f (λ (a : Product ℕ). a.coefficient < f.known.modulus) c.args.words.now c.loop-rest.rest.now c.loop-rest.invariant
    c.in-Some.coefficient.now c.in-Some.field-0-1.now c.in-Some.next.now is (subst (λ p. n < p) (sym modulus) below)

pub returns : goal.returns
returns g c ps spelled =
    let f = g.F.WordElement.spelled in
    let end = none_left c.loop-rest.rest.now c.is_empty.result c.is_empty.ensures c.loop-rest-test.false in (
      (λ e. begin_all f (λ (a : Product ℕ). a.coefficient < f.known.modulus) c.args.words.now c.loop-rest.rest.now c.loop-rest.invariant end ps spelled),
      (λ all. refl),
    )
