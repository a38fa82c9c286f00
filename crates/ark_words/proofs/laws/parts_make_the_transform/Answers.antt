use Rattle.std.proofs.Common.{◌≢◌, ◌+◌, ◌*◌, ◌<◌, ◌≤◌, ◌^◌, ℕ, List, All, sym, subst}
use Rattle.ark_numbers.specs.Answers.{coset_of, AreValues}
use Rattle.ark_numbers.proofs.Values.{number_field, shown_field}
use Rattle.ark_words.specs.Numbers.{Spelled}
use Rattle.ark_words.specs.Parts.{AreColumns, AreRows, AreOrdered}
use Rattle.ark_words.proofs.PartsLaw.{made_in_order}
use Rattle.ark_words.proofs.laws.parts_make_the_transform.Goals as goal

pub returns : goal.returns
returns g c =
    let F = g.F.PrimeNumbers in
    let laws = g.met.F.PrimeNumbers in
    let S = number_field F.numbering F.prime laws.field_law laws.generator_law laws.root_law g.met.F.FftField.roots_law in
    subst (λ (f : Spelled).
    (a b h : ℕ) (xs values : List ℕ) (columns rows : ℕ → List ℕ) → a + b < 64 → a + b ≤ f.known.adicity.two → h < f.known.modulus → h ≢ 0 → All (λ x. x < f.known.modulus) xs
    → AreColumns f.known a b h xs columns → AreRows f.known a b h columns rows → AreValues f.known (coset_of f.known (2 ^ a * 2 ^ b) h) xs values → AreOrdered f.known a b values rows) (sym g.met.F.WordElement.spelled_law)
    (λ a b h xs values columns rows few within below some all made_columns made_rows is.
    subst (λ v. AreOrdered (shown_field S) a b v rows) (sym is) (made_in_order S a b h few within below some xs columns rows all made_columns made_rows))
