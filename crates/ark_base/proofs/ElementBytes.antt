-- Elements that are read, and numbers that are no element's.
use Rattle.std.proofs.Common.{◌≡◌, ℕ, ◌≤◌, arith, subst, sym}
use Rattle.ark_math_formats.specs.Format.{number}
use Rattle.ark_math_formats.proofs.Formats.OneToOne.{number_tells}
use Rattle.ark_bytes.specs.Reading.{SourceState, TakesSpelling, TakesFault}
use Rattle.ark_bytes.proofs.Reading.{unlawful}
use Rattle.ark_base.specs.Residues.{Numbering}
use Rattle.ark_base.specs.Widths.{width_of, residue}

module _ {F : Type 0} {p : ℕ} (N : Numbering F p) where
  pub read_element : (a b : SourceState) (x : F) (v : ℕ) → N.number x ≡ v → TakesSpelling (number (width_of p)) a b v → TakesSpelling (residue p N.number) a b x
  read_element a b x v e t =
      let same = subst (λ n. TakesSpelling (number (width_of p)) a b n) (sym e) t in
      record { has = (same.has, tt); takes = same.takes }

  -- a number that is not below the modulus is the spelling of no element
  pub past_the_modulus : (a b : SourceState) (v : ℕ) → p ≤ v → TakesSpelling (number (width_of p)) a b v → TakesFault (residue p N.number) a b
  past_the_modulus a b v above t =
      unlawful (number (width_of p)) N.number (λ _. Unit {0}) a b v
      (λ y has lawful e.
      let same : v ≡ N.number y = number_tells (width_of p) v (N.number y) t.has has e in
      let below = N.below y in
      omega (arith, above, same, below))
      t
