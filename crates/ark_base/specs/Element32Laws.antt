-- The laws that the impls of a prime field on words of 32 bits cite.
use Rattle.std.specs.Prelude.{◌≡◌, ℕ, nat_eq, IsTrue, Decides}
use Rattle.std.proofs.Common.{ap}
use Rattle.std.proofs.lemmas.Bool.{eqb-true, eq-eqb}
use Rattle.std.specs.Ordering.{on}
use Rattle.ark_base.specs.Element32.{Shown, number, same_by_number}
use Rattle.ark_base.specs.declared.prime_field32.PrimeField32.{PrimeField32}
use Rattle.ark_base.specs.declared.prime_field32.PrimeModulus32.{Ghosts}

-- what is made of equal numbers is the same
pub same_input : {M : Type 0} {g : Ghosts M} {A : Type 0} (f : ℕ → A) (x y : PrimeField32 M g) → IsTrue (on number nat_eq x y) → f (number x) ≡ f (number y)
same_input f x y t = ap f (eqb-true (number x) (number y) t)

pub equal_elements : {M : Type 0} {g : Ghosts M} (S : Shown g) (x y : PrimeField32 M g) → Decides (on number nat_eq x y) (x ≡ y)
equal_elements S x y = (λ t. same_by_number S x y (eqb-true (number x) (number y) t), λ e. eq-eqb (number x) (number y) (ap number e))
