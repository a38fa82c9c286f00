-- The transform by halves: the tables of twiddles that it reads, and how bit reversal deals blocks of four.
use Rattle.std.specs.Prelude.{◌≡◌, ℕ, suc, zero, ◌+◌, ◌*◌, ◌^◌, ◌<◌, List, length, get_or, take, drop}
use Rattle.ark_math.specs.Field.{FieldOn, power}

-- the first n powers of w
pub record ArePowers {F : Type 0} (K : FieldOn F) (w : F) (n : ℕ) (table : List F) : Type 0 where
  pub len : length table ≡ n
  pub powers : (i : ℕ) → i < n → get_or table i K.zero ≡ power K w i

-- the powers of w from 0 on, half as many as its order. At order one there are none
pub record IsHalfTable {F : Type 0} (K : FieldOn F) (w : F) (table : List F) : Type 0 where
  pub powers : (i : ℕ) → i < length table → get_or table i K.zero ≡ power K w i
  pub half : 0 < length table → power K w (length table) ≡ K.negated K.one

-- the powers of w, half as many as the 2 ^ n of its order, and after them those of its square, and so on
abbrev pub AreLevels : {F : Type 0} → FieldOn F → F → ℕ → List F → Type 0
AreLevels K w zero tables = Unit
AreLevels K w (suc n) tables = IsHalfTable K w (take (2 ^ n) tables) × AreLevels K (power K w 2) n (drop (2 ^ n) tables)

-- block k of a list has the items e of block k of the first, the third, the second and the fourth list
pub record IsDealt {X : Type 0} (first second third fourth : List X) (e k : ℕ) (now : List X) : Type 0 where
  pub at0 : (d : X) → get_or now (4 * k) d ≡ get_or first (4 * k + e) d
  pub at1 : (d : X) → get_or now (4 * k + 1) d ≡ get_or third (4 * k + e) d
  pub at2 : (d : X) → get_or now (4 * k + 2) d ≡ get_or second (4 * k + e) d
  pub at3 : (d : X) → get_or now (4 * k + 3) d ≡ get_or fourth (4 * k + e) d
