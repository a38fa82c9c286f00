-- Elements that are written, and numbers that are no element's.
use Rattle.std.proofs.Common.{◌≡◌, ℕ, ◌≤◌, arith, subst, Result}
use Rattle.ark_math_formats.specs.Format.{number}
use Rattle.ark_math_formats.proofs.Formats.OneToOne.{number_tells}
use Rattle.ark_bytes.specs.Reading.{SourceState, TakesSpelling, TakesFault}
use Rattle.ark_bytes.proofs.Reading.{unlawful}
use Rattle.ark_bytes.specs.Writing.{SinkState, Writes}
use Rattle.ark_bytes.specs.declared.error.SerializationError.{SerializationError}
use Rattle.ark_bytes.proofs.Writing.{write_fields}
use Rattle.ark_prime256.specs.Element.{Shown, number_below}
use Rattle.ark_prime256.specs.Element as element
use Rattle.ark_prime256.specs.ElementBytes.{residue_in_bytes}
use Rattle.ark_prime256.specs.declared.prime_field.PrimeField256.{PrimeField256}
use Rattle.ark_prime256.specs.declared.prime_field.PrimeModulus256.{Ghosts}

-- a number that is not below the modulus is the spelling of no element
pub past_the_modulus : {M : Type 0} {g : Ghosts M} (S : Shown g) (a b : SourceState) (v : ℕ) → g.MODULUS ≤ v → TakesSpelling (number 32) a b v →
    TakesFault (residue_in_bytes {M = M} {g = g}) a b
past_the_modulus {M} {g} S a b v above t =
    unlawful (number 32) (λ (x : PrimeField256 M g). element.number x) (λ _. Unit {0}) a b v
    (λ y has lawful e.
    let same : v ≡ element.number y = number_tells 32 v (element.number y) t.has has e in
    let below = number_below S y in
    omega (arith, above, same, below))
    t

pub written_element : {M : Type 0} {g : Ghosts M} {A : Type 0} (a b : SinkState) (x : PrimeField256 M g) (n : ℕ) (r : Result A SerializationError) →
    n ≡ element.number x → Writes (number 32) n a b r → Writes (residue_in_bytes {M = M} {g = g}) x a b r
written_element a b x n r e w =
    write_fields (number 32) element.number (λ _. Unit {0}) a b x r tt (subst (λ m. Writes (number 32) m a b r) e w)
