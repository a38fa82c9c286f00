-- The field of the numbers below a prime, on any type whose elements are these numbers.
use Rattle.std.specs.Prelude.{◌≡◌, ℕ, ◌+◌, ◌*◌, ◌-◌, ◌%◌, ◌<◌}
use Rattle.std.proofs.Common.{option_map, Option, mod-lt, le_of_lt}
use Rattle.ark_math.specs.Field.{FieldOn}
use Rattle.ark_math.specs.Prime.{IsPrime}
use Rattle.ark_math.specs.Root.{Adicity}
use Rattle.ark_base.specs.Generator.{root_by}
use Rattle.ark_base.specs.Modulus.{IsModulus}
use Rattle.ark_base.specs.ModulusLaws.{below_modulus}

-- the elements of F are the numbers below p
pub record Numbering (F : Type 0) (p : ℕ) : Type 0 where
  pub number : F → ℕ
  pub element : (v : ℕ) → v < p → F
  pub below : (x : F) → number x < p
  pub number_of : (v : ℕ) (h : v < p) → number (element v h) ≡ v
  pub same : (x y : F) → number x ≡ number y → x ≡ y

-- the element that a number leaves as its remainder
abbrev pub residue_of : {F : Type 0} {p : ℕ} → Numbering F p → IsPrime p → ℕ → F
residue_of {p = p} N P v = N.element (v % p) (mod-lt v (le_of_lt P.above_one))

-- sums, products and negatives modulo the prime
abbrev pub residues : {F : Type 0} {p : ℕ} → Numbering F p → IsPrime p → FieldOn F
residues {p = p} N P = record {
  zero = N.element 0 (le_of_lt P.above_one);
  one = N.element 1 P.above_one;
  plus = λ x y. residue_of N P (N.number x + N.number y);
  times = λ x y. residue_of N P (N.number x * N.number y);
  negated = λ x. residue_of N P (p - N.number x);
}

-- ---- what a modulus gives

module _ {F : Type 0} {b p : ℕ} {s : Adicity} {g two_adic : ℕ} {large : Option ℕ} {greatest : ℕ} (N : Numbering F p) (S : IsModulus b p s g two_adic large greatest) where
  abbrev pub generator_of : F
  generator_of = N.element g S.generator.powers.below

  -- the generator's power of order n
  abbrev pub root_of : ℕ → F
  root_of n = root_by (residues N S.prime) (p - 1) generator_of n

  abbrev pub two_adic_root : F
  two_adic_root = N.element two_adic (below_modulus S.prime b _ _ _ S.two_adic_is)

  abbrev pub large_root : Option F
  large_root = option_map (residue_of N S.prime) large
