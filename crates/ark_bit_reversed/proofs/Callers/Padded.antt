-- Coefficients put behind a list, filled up with zeros; the logarithm of a power of two, and how often one goes into another.
use Rattle.std.proofs.Common.{◌≡◌, ◌/◌, ◌%◌, max, ◌-◌, drop, ℕ, ◌+◌, ◌*◌, ◌^◌, ◌<◌, ◌≤◌, min, List, ◌++◌, length, take, replicate, sym, ◌∙◌, ap, arith, inl, inr}
use Rattle.std.proofs.Math.Nat.{mod-add-div', mul-mod_left}
use Rattle.std.proofs.lemmas.Nat.{pow-add}
use Rattle.std.proofs.lemmas.Bool.{cases_lt}
use Rattle.std.proofs.lemmas.List.{get_or-append-add, length-append, get_or-drop, get_or-take, length-take-le}
use Rattle.ark_math.specs.Field.{FieldOn}
use Rattle.ark_math.specs.Univariate.{of_list}
use Rattle.ark_math.proofs.Domains.Sizes.{next_at_most, power_between, power_le}
use Rattle.ark_math_polynomials.proofs.Polynomials.UnivariateLists.{of_list-padded, of_list-past}
use Rattle.ark_bit_reversed.specs.Blocks.{IsPowerOfTwo}

-- a power of two is that of its logarithm
pub log_is : (n r : ℕ) → IsPowerOfTwo n → 2 ^ r ≤ n → n < 2 * 2 ^ r → n ≡ 2 ^ r
log_is n r p low high = p.1 ∙ sym (ap (λ e. 2 ^ e) (power_between r p.0 (omega (arith, low, p.1)) (omega (arith, high, p.1))))

-- the least power of two from a number on goes into each that isn't below the number
pub whole_blocks : (k p n : ℕ) → IsPowerOfTwo p → p / 2 < max 1 k → IsPowerOfTwo n → k ≤ n → n / p * p ≡ n
whole_blocks k p n at_p least at_n room =
    let a = at_p.0 in
    let b = at_n.0 in
    let less : p ≤ 2 ^ b = next_at_most k p a b at_p.1 least (omega (arith, at_n.1, room)) in
    let within : a ≤ b = power_le a b (omega (arith, less, at_p.1)) in
    let split : b - a + a ≡ b = omega (arith, within) in
    let many : n ≡ 2 ^ (b - a) * p = at_n.1 ∙ ap (λ t. 2 ^ t) (sym split) ∙ pow-add 2 (b - a) a ∙ ap (λ t. 2 ^ (b - a) * t) (sym at_p.1) in
    let none : n % p ≡ 0 = ap (λ t. t % p) many ∙ mul-mod_left (2 ^ (b - a)) p in
    omega (arith, mod-add-div' n p, none)

module _ {F : Type 0} (K : FieldOn F) where
  -- the items behind a list
  pub item_behind : (old c : List F) (n : ℕ) → length old ≡ n → (i : ℕ) → of_list K (old ++ c) (n + i) ≡ of_list K c i
  item_behind old c n len i = ap (λ t. of_list K (old ++ c) (t + i)) (sym len) ∙ get_or-append-add old c i K.zero

  -- and with zeros behind them
  pub padded_behind : (old c : List F) (n m k : ℕ) (x : F) → length old ≡ n → n + length c ≤ m → x ≡ K.zero → (i : ℕ) → of_list K (take m (old ++ c) ++ replicate k x) (n + i) ≡ of_list K c i
  padded_behind old c n m k x len room none i =
      ap (λ f. f (n + i)) (of_list-padded K (old ++ c) m k x (omega (arith, length-append old c, len, room)) none)
      ∙ item_behind old c n len i

  -- the first items, as far as there are some
  pub item_of_front : (c : List F) (m i : ℕ) → i < m → of_list K (take (min m (length c)) c) i ≡ of_list K c i
  item_of_front c m i l = elim (cases_lt i (length c)) [
    | inl inside ↦ get_or-take (min m (length c)) c i K.zero (omega (arith, inside, l))
    | inr past ↦ of_list-past K (take (min m (length c)) c) i (omega (arith, past, length-take-le (min m (length c)) c (omega arith))) ∙ sym (of_list-past K c i past)
  ]

  -- and those after them
  pub item_of_back : (c : List F) (m i : ℕ) → of_list K c (min m (length c) + i) ≡ of_list K c (m + i)
  item_of_back c m i = elim (cases_lt (length c) m) [
    | inl less ↦ of_list-past K c (min m (length c) + i) (omega (arith, less)) ∙ sym (of_list-past K c (m + i) (omega (arith, less)))
    | inr many ↦ let same : min m (length c) ≡ m = omega (arith, many) in ap (λ t. of_list K c (t + i)) same
  ]

  -- the items of a list from a place on
  pub item_from : (c : List F) (s i : ℕ) → i < length c - s → of_list K (take (length c - s) (drop s c)) i ≡ of_list K c (s + i)
  item_from c s i l = get_or-take (length c - s) (drop s c) i K.zero l ∙ get_or-drop s c i K.zero
