-- The laws that the impls of a prime field of four words cite.
use Rattle.std.specs.Prelude.{◌≡◌, ℕ, nat_eq, IsTrue, Decides}
use Rattle.std.proofs.Common.{ap, ◌∙◌}
use Rattle.std.proofs.lemmas.Bool.{eqb-true, eq-eqb}
use Rattle.std.specs.Ordering.{on, is_eq, nat_cmp}
use Rattle.std.specs.Cmp.Rules.{comparing}
use Rattle.std.proofs.Common.{rules}
use Rattle.ark_prime256.specs.Words.{words_of}
use Rattle.ark_math.specs.Field.{natural}
use Rattle.ark_base.specs.Residues.{residue_of}
use Rattle.ark_base.specs.ResiduesLaws.{natural_residue, number_of_residue}
use Rattle.ark_prime256.specs.Element.{Shown, number, numbering, field_of, same_by_number}
use Rattle.ark_prime256.specs.declared.words.BigInteger256.{BigInteger256}
use Rattle.ark_prime256.specs.declared.prime_field.PrimeField256.{PrimeField256}
use Rattle.ark_prime256.specs.declared.prime_field.PrimeModulus256.{Ghosts}

-- equal numbers have the same words
pub same_input : {M : Type 0} {g : Ghosts M} {A : Type 0} (f : BigInteger256 → A) (x y : PrimeField256 M g) → IsTrue (on number nat_eq x y) →
    f (words_of (number x)) ≡ f (words_of (number y))
same_input f x y t = ap (λ n. f (words_of n)) (eqb-true (number x) (number y) t)

-- the order tells equal numbers as the test does
pub ties_are_equal : (m n : ℕ) → nat_eq m n ≡ is_eq (nat_cmp m n)
ties_are_equal m n = search (comparing, rules)

pub equal_elements : {M : Type 0} {g : Ghosts M} (S : Shown g) (x y : PrimeField256 M g) → Decides (on number nat_eq x y) (x ≡ y)
equal_elements S x y = (λ t. same_by_number S x y (eqb-true (number x) (number y) t), λ e. eq-eqb (number x) (number y) (ap number e))

-- a number's residue is one, that many times over
pub natural_element : {M : Type 0} {g : Ghosts M} (S : Shown g) (n : ℕ) (r : PrimeField256 M g) → r ≡ residue_of (numbering {M = M} {g = g} S) S.numbers.prime n →
    r ≡ natural (field_of {M = M} {g = g} S) n
natural_element {M} {g} S n r e =
    natural_residue (numbering {M = M} {g = g} S) S.numbers.prime n r (ap number e ∙ number_of_residue (numbering {M = M} {g = g} S) S.numbers.prime n)
