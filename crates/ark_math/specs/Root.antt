-- The sizes for which a field has roots of unity, and the roots.
use Rattle.std.specs.Prelude.{◌≡◌, ◌≢◌, ℕ, ◌*◌, ◌^◌, ◌%◌, ◌<◌, ◌≤◌, ◌↔◌, Option, Some, None, IsSome}
use Rattle.ark_math.specs.Field.{FieldOn, power, natural}

-- the greatest power of two that has a root, and an odd base with its greatest power, where there is one
pub record Adicity : Type 0 where
  pub two : ℕ
  pub odd : Option (ℕ × ℕ)

-- the adicity that three constants tell
abbrev pub adicity_of : ℕ → Option ℕ → Option ℕ → Adicity
adicity_of two None most = record { two = two; odd = None }
adicity_of two (Some base) None = record { two = two; odd = None }
adicity_of two (Some base) (Some most) = record { two = two; odd = Some (base, most) }

-- a base is odd and at least 3
abbrev pub IsAdicity : Adicity → Type 0
IsAdicity s = (p : ℕ × ℕ) → s.odd ≡ Some p → (3 ≤ p.0) × (p.0 % 2 ≡ 1)

abbrev pub odd_base : Option (ℕ × ℕ) → ℕ
odd_base None = 1
odd_base (Some p) = p.0

abbrev pub odd_most : Option (ℕ × ℕ) → ℕ
odd_most None = 0
odd_most (Some p) = p.1

-- the greatest supported size, where it fits 64 bits
abbrev pub greatest_size : Adicity → ℕ
greatest_size s = 2 ^ s.two * odd_base s.odd ^ odd_most s.odd

-- n is 2 ^ twos * base ^ odds, within what the field has, and fits 64 bits
pub record Splits (s : Adicity) (n twos odds : ℕ) : Type 0 where
  pub product : n ≡ 2 ^ twos * odd_base s.odd ^ odds
  pub twos_within : twos ≤ s.two
  pub odds_within : odds ≤ odd_most s.odd
  pub fits : n < 2 ^ 64

abbrev pub IsSupported : Adicity → ℕ → Type 0
IsSupported s n = (twos : ℕ) × (odds : ℕ) × Splits s n twos odds

-- a root of unity of order n: no smaller positive power of it is one
pub record HasOrder {F : Type 0} (K : FieldOn F) (x : F) (n : ℕ) : Type 0 where
  pub one : power K x n ≡ K.one
  pub least : (k : ℕ) → 0 < k → k < n → power K x k ≢ K.one

-- the roots that a field hands out
pub record AreRoots {F : Type 0} (K : FieldOn F) (s : Adicity) (root : ℕ → F) : Type 0 where
  pub base : IsAdicity s
  pub order : (n : ℕ) → IsSupported s n → HasOrder K (root n) n
  pub tower : (m k : ℕ) → IsSupported s m → IsSupported s (m * k) → root m ≡ power K (root (m * k)) k
  pub invertible : (n : ℕ) → IsSupported s n → natural K n ≢ K.zero

-- the constants that a field shows: the roots of the greatest sizes, where these fit
pub record AreGreatest {F : Type 0} (s : Adicity) (root : ℕ → F) (two_adic : F) (large : Option F) : Type 0 where
  pub two_adic_is : 2 ^ s.two < 2 ^ 64 → two_adic ≡ root (2 ^ s.two)
  pub large_is : (x : F) → large ≡ Some x → greatest_size s < 2 ^ 64 → x ≡ root (greatest_size s)
  pub together : IsSome large ↔ IsSome s.odd

-- k ^ e is the greatest power of k that divides n
pub record IsGreatestPower (k n e : ℕ) : Type 0 where
  pub divides : n % k ^ e ≡ 0
  pub greatest : (f : ℕ) → n % k ^ f ≡ 0 → f ≤ e
