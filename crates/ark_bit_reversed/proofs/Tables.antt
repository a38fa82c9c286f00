-- The sizes of tables of roots. The tables, made by halves: the second half's are the first half's times one
-- root. And their inverses, one after another.
use Rattle.std.proofs.Common.{◌≡◌, ◌≢◌, ◌^◌, zero, ℕ, suc, Bool, true, false, if◌then◌else◌, ◌==◌, ◌+◌, ◌*◌, ◌-◌, ◌/◌, ◌%◌, ◌<◌, List, ◌++◌, length, sym, ◌∙◌, ap, ap₂, refl, subst, arith, inl, inr}
use Rattle.std.proofs.Common.{◌≤◌, Option, None, Some, mod-eq_of_lt}
use Rattle.std.proofs.Math.Nat.{mul-div_cancel_left, mul-one, pow-zero}
use Rattle.std.proofs.lemmas.Bool.{cases_lt}
use Rattle.std.proofs.lemmas.Nat.{pow_pos}
use Rattle.std.proofs.lemmas.List.{get_or_append_left, get_or-append-add, length-append}
use Rattle.std.specs.Int.{IsNextPowerOfTwo}
use Rattle.ark_math.specs.Domain.{radix2, HasNone, IsLeast, IsSize}
use Rattle.ark_math.specs.Field.{FieldOn, IsField, natural, power}
use Rattle.ark_math.proofs.Algebra.Powers.{half_of_order, power-add, power-times}
use Rattle.ark_math_transforms.proofs.Domains.Domains.{size_supported}
use Rattle.ark_math_transforms.proofs.Domains.Exponents.{splits_with_base, splits_without_base}
use Rattle.ark_math_transforms.proofs.Domains.GeneralSizes.{none_from_no_least}
use Rattle.ark_math.proofs.Domains.Sizes.{next_at_most, next_is_least, none_past_word, power_le, power_lt, radix2_splits, size_power}
use Rattle.ark_math.proofs.Numbers.GreatestPowers.{greatest_power}
use Rattle.ark_math.specs.Root.{Adicity, HasOrder, IsAdicity, IsGreatestPower, IsSupported}
use Rattle.ark_math.specs.Univariate.{of_list}
use Rattle.ark_math.proofs.Algebra.Solve.{◌⊗◌, negative}
use Rattle.ark_math.proofs.Algebra.Ring.{ring1, ring2}
use Rattle.ark_math.proofs.Numbers.PowersOfTwo.{pow_twice}
use Rattle.ark_bit_reversed.specs.Blocks.{AreReversed, AreRoots, IsPowerOfTwo, element_of}

-- a power of two above one is twice one
pub half_of_power : (n : ℕ) → IsPowerOfTwo n → n / 2 ≢ 0 → IsPowerOfTwo (n / 2) × (n ≡ n / 2 + n / 2)
half_of_power n (zero, e) some = absurd (some (omega (arith, e)))
half_of_power n (suc k, e) some =
    let twice : 2 ^ suc k ≡ 2 * 2 ^ k = pow_twice k in
    ((k, omega (arith, e, twice)), omega (arith, e, twice))

-- one that isn't is one
pub power_of_few : (n : ℕ) → IsPowerOfTwo n → n / 2 ≡ 0 → n ≡ 1
power_of_few n (zero, e) none = e
power_of_few n (suc k, e) none =
    let twice : 2 ^ suc k ≡ 2 * 2 ^ k = pow_twice k in
    absurd (omega (arith, e, twice, none, pow_pos k))

-- a supported power of two is a size of radix 2, since no other power of the odd base than one divides it
module _ (s : Adicity) (lawful : IsAdicity s) (n a : ℕ) (is : n ≡ 2 ^ a) (supported : IsSupported s n) where
  -- it is a power of two times one
  times_one : n ≡ 2 ^ a * 1
  times_one = is ∙ sym (mul-one (2 ^ a))

  greatest_twos : IsGreatestPower 2 n a
  greatest_twos =
      let greatest = greatest_power 2 a 1 (omega arith) (λ z. absurd (omega (arith, z))) in
      subst (λ m. IsGreatestPower 2 m a) (sym times_one) greatest

  size_with_base : (base most : ℕ) → s.odd ≡ Some (base, most) → IsSize s radix2 n
  size_with_base base most some =
      let three : 3 ≤ base = (lawful (base, most) some).0 in
      let one : 1 % base ≡ 1 = mod-eq_of_lt (omega (arith, three)) in
      let greatest = greatest_power base 0 1 (omega (arith, three)) (λ z. absurd (omega (arith, one, z))) in
      let rest : n / 2 ^ a ≡ 1 = ap (λ m. m / 2 ^ a) times_one ∙ mul-div_cancel_left 1 (pow_pos a) in
      let same : base ^ 0 * 1 ≡ n / 2 ^ a = ap (λ t. t * 1) (pow-zero base) ∙ sym rest in
      let none = subst (λ m. IsGreatestPower base m 0) same greatest in
      (a, splits_with_base s n lawful supported a 0 base most some greatest_twos (λ ne. none))

  size_by_base : (odd : Option (ℕ × ℕ)) → s.odd ≡ odd → IsSize s radix2 n
  size_by_base None none = (a, splits_without_base s n lawful supported a none greatest_twos)
  size_by_base (Some p) some = size_with_base p.0 p.1 some

  pub size_from_supported : IsSize s radix2 n
  size_from_supported = size_by_base s.odd refl

-- where there is a least number there is one
pub least_is_some : (P : ℕ → Type 0) (k n : ℕ) → IsLeast P k n → HasNone P k → ⊥
least_is_some P k n least none =
    let above : k ≤ n = least.above in
    let below : n < k = none n least.holds in
    omega arith

module _ (s : Adicity) where
  -- the least power of two from a number on is a size where any that isn't below the number is
  next_size : (k p n : ℕ) → IsNextPowerOfTwo k p → IsSize s radix2 n → k ≤ n → IsSize s radix2 p
  next_size k p n next size room =
      let a = next.0.0 in
      let b = size_power s n size in
      let less : p ≤ 2 ^ b.0 = next_at_most k p a b.0 next.0.1 next.2 (omega (arith, b.1, room)) in
      let within : a ≤ b.0 = power_le a b.0 (omega (arith, less, next.0.1)) in
      let fits : p < 2 ^ 64 = omega (arith, less, b.1, b.3) in
      (a, radix2_splits s p a next.0.1 (omega (arith, within, b.2)) fits)

  -- then it is the least size
  pub next_least : (k p : ℕ) → IsNextPowerOfTwo k p → IsSize s radix2 p → IsLeast (IsSize s radix2) k p
  next_least k p next size =
      let r = size_power s p size in
      let above : p < 2 * 2 ^ r.0 = omega (arith, r.1, pow_pos r.0) in
      let few : r.0 < 64 = power_lt r.0 64 (omega (arith, r.1, r.3)) in
      next_is_least s k p r.0 next (omega (arith, r.1)) above few r.2

  -- and else there is none
  pub none_unsupported : (k p : ℕ) → IsNextPowerOfTwo k p → (IsSupported s p → ⊥)
      → HasNone (IsSize s radix2) k
  none_unsupported k p next none n size = elim (cases_lt n k) [
    | inl less ↦ less
    | inr room ↦ absurd (none (size_supported s radix2 p (next_size k p n next size room)))
  ]

  -- nor past the greatest power of two of 64 bits
  pub none_past_64_bits : (k : ℕ) → 2 ^ 63 < k → HasNone (IsSize s radix2) k
  none_past_64_bits k past = none_from_no_least (IsSize s radix2) k (none_past_word s k past)

  -- two is a size where any from two on is
  two_is_size : (n : ℕ) → IsSize s radix2 n → 2 ≤ n → IsSize s radix2 2
  two_is_size n size some =
      let b = size_power s n size in
      let within : 1 ≤ b.0 = power_le 1 b.0 (omega (arith, b.1, some)) in
      (1, radix2_splits s 2 1 refl (omega (arith, within, b.2)) (omega arith))

module _ {F : Type 0} (K : FieldOn F) (N : IsField K) where
  -- where there is a size from two on, two isn't zero
  pub two_not_zero : (s : Adicity) → ((n : ℕ) → IsSupported s n → natural K n ≢ K.zero)
      → (n : ℕ) → IsSize s radix2 n → 2 ≤ n → K.plus K.one K.one ≢ K.zero
  two_not_zero s invertible n size some zeros =
      let one : K.plus K.zero K.one ≡ K.one = N.plus_comm K.zero K.one ∙ N.plus_zero K.one in
      let two = size_supported s radix2 2 (two_is_size s n size some) in
      invertible 2 two (ap (λ t. K.plus t K.one) one ∙ zeros)

  -- a value, or minus it
  abbrev signed : Bool → F → F
  signed s v = if s then v else K.negated v

  -- both have one square
  signed-square : (s : Bool) (v : F) → K.times (signed s v) (signed s v) ≡ K.times v v
  signed-square true v = refl
  signed-square false v = ring1 K N (λ v. (negative v ⊗ negative v, v ⊗ v)) refl v

  -- the sign of a product
  signed-times : (s : Bool) (v r : F) → signed s (K.times v r) ≡ K.times (signed s v) r
  signed-times true v r = refl
  signed-times false v r = ring2 K N (λ v r. (negative (v ⊗ r), negative v ⊗ r)) refl v r

  -- halfway to the order of a root is minus one
  pub root_halfway : (root : F) (n : ℕ) → IsPowerOfTwo n → n / 2 ≢ 0 → HasOrder K root n → power K root (n / 2) ≡ K.negated K.one
  root_halfway root n two some order =
      let h = half_of_power n two some in
      half_of_order K N root (n / 2) (omega (arith, some)) (subst (HasOrder K root) (h.1 ∙ omega arith) order)

  -- half as high a power of the square
  pub power_of_square : (root : F) (m : ℕ) → power K (K.times root root) m ≡ power K root (m + m)
  power_of_square root m = power-times K N root root m ∙ sym (power-add K N root m m)

  -- the first of each two elements is the list's item
  even_element : (r : List F) (b : ℕ) → element_of K r (b + b) ≡ of_list K r b
  even_element r b =
      let even : (b + b) % 2 ≡ 0 = omega arith in
      let half : (b + b) / 2 ≡ b = omega arith in
      ap₂ (λ t j. signed (t == 0) (of_list K r j)) even half

  -- and the second minus that
  odd_element : (r : List F) (b : ℕ) → element_of K r (suc (b + b)) ≡ K.negated (of_list K r b)
  odd_element r b =
      let odd : suc (b + b) % 2 ≡ 1 = omega arith in
      let half : suc (b + b) / 2 ≡ b = omega arith in
      ap₂ (λ t j. signed (t == 0) (of_list K r j)) odd half

  -- the elements that a list gives, where the first is one and their squares are the earlier ones
  roots_from : (r : List F) → of_list K r 0 ≡ K.one → ((i : ℕ) → i < length r + length r → K.times (element_of K r i) (element_of K r i) ≡ element_of K r (i / 2)) → AreRoots K (element_of K r) r
  roots_from r first squares = record {
    reversed = record {
      first = first;
      squares = squares;
      opposites = λ b l. odd_element r b ∙ ap K.negated (sym (even_element r b));
    };
    each = λ b l. sym (even_element r b);
  }

  -- a single root is one
  pub one_root : (r : List F) → length r ≡ 1 → of_list K r 0 ≡ K.one → AreRoots K (element_of K r) r
  one_root r one first = roots_from r first (λ i l.
      let start : i / 2 ≡ 0 = omega (arith, l, one) in
      signed-square (i % 2 == 0) (of_list K r (i / 2))
      ∙ ap (λ j. K.times (of_list K r j) (of_list K r j)) start
      ∙ ap₂ K.times first first
      ∙ N.times_one K.one
      ∙ sym (ap (element_of K r) start ∙ first))

  module _ (low high : List F) (root : F) (same : length high ≡ length low) (each : (i : ℕ) → i < length low → of_list K high i ≡ K.times (of_list K low i) root) where
    -- the elements of the first half are those of the whole
    in_front : (i : ℕ) → i < length low + length low → element_of K (low ++ high) i ≡ element_of K low i
    in_front i l = ap (signed (i % 2 == 0)) (get_or_append_left low high K.zero (i / 2) (omega (arith, l)))

    -- those of the second half are these times the root
    behind : (i : ℕ) → i < length low + length low → element_of K (low ++ high) (length low + length low + i) ≡ K.times (element_of K (low ++ high) i) root
    behind i l =
        let h = length low in
        let parity : (h + h + i) % 2 ≡ i % 2 = omega arith in
        let half : (h + h + i) / 2 ≡ h + i / 2 = omega arith in
        ap₂ (λ t j. signed (t == 0) (of_list K (low ++ high) j)) parity half
        ∙ ap (signed (i % 2 == 0)) (get_or-append-add low high (i / 2) K.zero ∙ each (i / 2) (omega (arith, l)))
        ∙ signed-times (i % 2 == 0) (of_list K low (i / 2)) root
        ∙ ap (λ t. K.times t root) (sym (in_front i l))

    -- what is said of `next`, of the whole
    pub next_roots : (n i : ℕ) → n ≡ length low + length low → i < n → element_of K (low ++ high) (n + i) ≡ K.times (element_of K (low ++ high) i) root
    next_roots n i e l = ap (λ t. element_of K (low ++ high) (t + i)) e ∙ behind i (subst (λ t. i < t) e l)

    -- both halves together
    pub joined_roots : AreRoots K (element_of K low) low → ((i : ℕ) → i < length low → element_of K low (length low + i) ≡ K.times (element_of K low i) (K.times root root)) → 0 < length low → AreRoots K (element_of K (low ++ high)) (low ++ high)
    joined_roots L next some = roots_from (low ++ high) (in_front 0 (omega (arith, some)) ∙ L.reversed.first) (λ i l.
        let h = length low in
        let X = element_of K (low ++ high) in
        let many : length (low ++ high) ≡ h + h = length-append low high ∙ ap (λ t. h + t) same in
        elim (cases_lt i (h + h)) [
          | inl inside ↦
              ap₂ K.times (in_front i inside) (in_front i inside)
              ∙ L.reversed.squares i inside
              ∙ sym (in_front (i / 2) (omega (arith, inside)))
          | inr past ↦
              let c = i - (h + h) in
              let place : i ≡ h + h + c = omega (arith, past) in
              let inside : c < h + h = omega (arith, place, l, many) in
              let half : i / 2 ≡ h + c / 2 = omega (arith, place) in
              let fewer : c / 2 < h = omega (arith, inside) in
              ap (λ t. K.times (X t) (X t)) place
              ∙ ap₂ K.times (behind c inside) (behind c inside)
              ∙ ring2 K N (λ v r. ((v ⊗ r) ⊗ (v ⊗ r), (v ⊗ v) ⊗ (r ⊗ r))) refl (X c) root
              ∙ ap (λ t. K.times t (K.times root root)) (ap₂ K.times (in_front c inside) (in_front c inside) ∙ L.reversed.squares c inside)
              ∙ sym (next (c / 2) fewer)
              ∙ sym (in_front (h + c / 2) (omega (arith, fewer)))
              ∙ ap X (sym half)
        ])

  -- the inverse of a root from that of its square
  pub next_inverse : (x : ℕ → F) (n : ℕ) → AreReversed K n x → (i : ℕ) → i + i < n → (v : F) → K.times v (x (i / 2 + i / 2)) ≡ K.one → K.times (if i % 2 == 0 then K.times (x (i + i)) v else K.negated (K.times (x (i + i)) v)) (x (i + i)) ≡ K.one
  next_inverse x n R i l v known =
      let j = i / 2 in
      let z = x (i + i) in
      let back : (i + i) / 2 ≡ i = omega arith in
      let square : K.times z z ≡ x i = R.squares (i + i) l ∙ ap x back in
      elim (cases_lt (i % 2) 1) [
        | inl few ↦
            let even : i % 2 ≡ 0 = omega (arith, few) in
            let place : i ≡ j + j = omega (arith, even) in
            ap (λ t. K.times (if t == 0 then K.times z v else K.negated (K.times z v)) z) even
            ∙ ring2 K N (λ z v. ((z ⊗ v) ⊗ z, v ⊗ (z ⊗ z))) refl z v
            ∙ ap (K.times v) (square ∙ ap x place)
            ∙ known
        | inr many ↦
            let odd : i % 2 ≡ 1 = omega (arith, many) in
            let place : i ≡ suc (j + j) = omega (arith, odd) in
            let within : suc (j + j) < n = omega (arith, place, l) in
            ap (λ t. K.times (if t == 0 then K.times z v else K.negated (K.times z v)) z) odd
            ∙ ring2 K N (λ z v. (negative (z ⊗ v) ⊗ z, negative (v ⊗ (z ⊗ z)))) refl z v
            ∙ ap (λ t. K.negated (K.times v t)) (square ∙ ap x place ∙ R.opposites j within)
            ∙ ring2 K N (λ v y. (negative (v ⊗ negative y), v ⊗ y)) refl v (x (j + j))
            ∙ known
      ]
