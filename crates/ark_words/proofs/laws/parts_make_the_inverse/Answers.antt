use Rattle.std.proofs.Common.{◌≡◌, ◌≢◌, ◌+◌, ◌*◌, ◌<◌, ◌≤◌, ◌^◌, ℕ, List, All, length, sym, subst}
use Rattle.ark_numbers.specs.Answers.{coset_of, AreInterpolated}
use Rattle.ark_numbers.proofs.Values.{number_field}
use Rattle.ark_words.specs.Numbers.{Spelled}
use Rattle.ark_words.specs.Parts.{AreRowsBack, AreColumnsBack, AreOrdered}
use Rattle.ark_words.proofs.PartsLaw.{unmade_in_order}
use Rattle.ark_words.proofs.laws.parts_make_the_inverse.Goals as goal

pub returns : goal.returns
returns g c =
    let F = g.F.PrimeNumbers in
    let laws = g.met.F.PrimeNumbers in
    let S = number_field F.numbering F.prime laws.field_law laws.generator_law laws.root_law g.met.F.FftField.roots_law in
    subst (λ (f : Spelled).
    (a b h : ℕ) (values xs : List ℕ) (rows before : ℕ → List ℕ) → a + b < 64 → a + b ≤ f.known.adicity.two → h < f.known.modulus → h ≢ 0 → All (λ x. x < f.known.modulus) values → length xs ≡ 2 ^ a * 2 ^ b
    → AreOrdered f.known a b values rows → AreRowsBack f.known a b h rows before → AreColumnsBack f.known a b h before xs → AreInterpolated f.known (coset_of f.known (2 ^ a * 2 ^ b) h) values xs) (sym g.met.F.WordElement.spelled_law)
    (λ a b h values xs rows before few within below some all len order back_rows back_columns.
    unmade_in_order S a b h few within below some values xs rows before all len order back_rows back_columns)
