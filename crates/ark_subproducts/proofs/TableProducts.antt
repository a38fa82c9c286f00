-- Products by blocks: their coefficients from those of a polynomial with the same values at the first elements of a table, and the
-- sizes that halves of the roots go by.
use Rattle.std.proofs.Common.{◌≡◌, ℕ, suc, ◌+◌, ◌-◌, ◌*◌, ◌/◌, ◌^◌, ◌<◌, ◌≤◌, List, ◌++◌, length, take, Option, Some, None, IfSome, Vec, refl, sym, ◌∙◌, ap, ap₂, subst, arith, pow_mono, inl, inr}
use Rattle.std.specs.declared.alloc.Global.{Global}
use mathlib.Core.Path.{fun_ext}
use Rattle.std.proofs.lemmas.Bool.{cases_lt}
use Rattle.std.proofs.lemmas.List.{get_or_append_left, get_or-take, length-take}
use Rattle.ark_math.specs.Field.{FieldOn, IsField, minus}
use Rattle.ark_math.specs.Univariate.{IsBelow, of_list}
use Rattle.ark_math.proofs.Algebra.Ring.{ring2}
use Rattle.ark_math.proofs.Algebra.Solve.{◌⊕◌, ◌⊖◌}
use Rattle.ark_math.proofs.Domains.Sizes.{power_lt}
use Rattle.ark_math_polynomials.proofs.Polynomials.Univariate.{same_below}
use Rattle.ark_math_polynomials.proofs.Polynomials.UnivariateLists.{of_list-past}
use Rattle.ark_math_polynomials.proofs.Polynomials.UnivariateLoops.{cut, cut-inside, cut-outside}
use Rattle.ark_math.proofs.Numbers.PowersOfTwo.{pow_twice}
use Rattle.ark_bit_reversed.specs.Blocks.{AreFirstValues, AreReversed, AreValuesFrom, IsPowerOfTwo}
use Rattle.ark_bit_reversed.proofs.Callers.PowersOfTwo.{half_is_power}
use Rattle.ark_bit_reversed.proofs.Callers.Padded.{item_behind, whole_blocks}
use Rattle.ark_bit_reversed.proofs.Callers.Runs.{values_wrapped}
use Rattle.ark_subproducts.specs.Tree.{IsBegun}

-- twice a power of two below 2 ^ 64 isn't above it
pub twice_within : (n : ℕ) → IsPowerOfTwo n → n < 2 ^ 64 → n + n ≤ 2 ^ 64
twice_within n (k, e) fits =
    let few : k < 64 = power_lt k 64 (omega (arith, e, fits)) in
    let most : 2 ^ suc k ≤ 2 ^ 64 = pow_mono few in
    omega (arith, most, pow_twice k, e)

-- a power of two of which 17 / 16 is enough for a number above 40 is a multiple of 64
multiple_of_64 : (n count : ℕ) → IsPowerOfTwo count → 40 < n → 16 * n ≤ 17 * count → count / 64 * 64 ≡ count
multiple_of_64 n count power many enough = whole_blocks 33 64 count (6, refl) (omega arith) power (omega (arith, many, enough))

-- so it is 64 at least
pub sixty_four : (n count : ℕ) → IsPowerOfTwo count → 40 < n → 16 * n ≤ 17 * count → 64 ≤ count
sixty_four n count power many enough = omega (arith, multiple_of_64 n count power many enough, many, enough)

-- and half of it is enough for half of the number, and for what is left
pub enough_for_halves : (n count : ℕ) → IsPowerOfTwo count → 40 < n → 16 * n ≤ 17 * count → 16 * (n - n / 2) ≤ 17 * (count / 2)
enough_for_halves n count power many enough = omega (arith, multiple_of_64 n count power many enough, enough)

-- values at a power of two of elements, at least half as many as coefficients, begin those at n: what IsBegun says of them
pub begun_by : {F : Type 0} (K : FieldOn F) (table coeffs values : List F) (count n : ℕ) → IsPowerOfTwo count → count ≤ n → length coeffs ≤ count + count → AreFirstValues K table count (of_list K coeffs) values →
    IsPowerOfTwo (length values) × (length values ≤ n) × (length coeffs ≤ length values + length values) × AreFirstValues K table (length values) (of_list K coeffs) values
begun_by K table coeffs values count n power within few V =
    subst (λ m. IsPowerOfTwo m × (m ≤ n) × (length coeffs ≤ m + m) × AreFirstValues K table m (of_list K coeffs) values) (sym V.len) (power, within, few, V)

-- and so do values at half of n elements of a polynomial with no more than one coefficient more than these, where they are known
pub begun_from_half : {F : Type 0} (K : FieldOn F) (table coeffs : List F) (known : Option (Vec F Global)) (n : ℕ) → 1 < n → IsPowerOfTwo n → length coeffs ≤ n / 2 + 1 → IfSome known (λ v. AreFirstValues K table (n / 2) (of_list K coeffs) v.items) → IsBegun K table n coeffs known
begun_from_half K table coeffs None n many power few h = omega (arith, many, few)
begun_from_half K table coeffs (Some v) n many power few h = begun_by K table coeffs v.items (n / 2) n (half_is_power n many power) (omega arith) (omega (arith, many, few)) h

module _ {F : Type 0} (K : FieldOn F) (N : IsField K) where
  -- from what has the values of a polynomial at n elements where x ^ n is one: those from n on are subtracted, and put behind
  pub unwrapped : (size n : ℕ) (x a : ℕ → F) (v made low high : List F) → AreReversed K size x → IsPowerOfTwo n → n ≤ size → IsBelow K (n + n) a → AreValuesFrom K x 0 n a v → ((r : ℕ → F) → IsBelow K n r → AreValuesFrom K x 0 n r v → of_list K made ≡ r)
      → length low ≡ n → ((i : ℕ) → i < n → of_list K low i ≡ minus K (of_list K made i) (of_list K high i)) → ((i : ℕ) → of_list K high i ≡ a (n + i)) → of_list K (low ++ high) ≡ a
  unwrapped size n x a v made low high rev two room below V only len each past = fun_ext (λ i. elim (cases_lt i n) [
    | inl inside ↦
        get_or_append_left low high K.zero i (omega (arith, inside, len))
        ∙ each i inside
        ∙ ap₂ (minus K) (ap (λ t. t i) folded ∙ cut-inside K n sums i inside) (past i)
        ∙ ring2 K N (λ a b. ((a ⊕ b) ⊖ b, a)) refl (a i) (a (n + i))
    | inr outside ↦
        let place : n + (i - n) ≡ i = omega (arith, outside) in
        ap (of_list K (low ++ high)) (sym place) ∙ item_behind K low high n len (i - n) ∙ past (i - n) ∙ ap a place
  ])
    where
      sums : ℕ → F
      sums j = K.plus (a j) (a (n + j))

      folded : of_list K made ≡ cut K n sums
      folded = only (cut K n sums) (cut-outside K n sums) (values_wrapped K N size n x a (cut K n sums) v rev two room below (cut-outside K n sums) (λ j l. cut-inside K n sums j l) V)

  -- a list cut down to as many items as the polynomial has coefficients
  pub truncated : (n : ℕ) (a : ℕ → F) (xs : List F) → IsBelow K n a → of_list K xs ≡ a → of_list K (take n xs) ≡ a
  truncated n a xs below is = same_below K n (of_list K (take n xs)) a
      (λ i l. of_list-past K (take n xs) i (omega (arith, l, length-take n xs)))
      below
      (λ i l. get_or-take n xs i K.zero l ∙ ap (λ t. t i) is)
