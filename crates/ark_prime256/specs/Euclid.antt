-- What the steps of Euclid's algorithm by halvings and differences do.
use Rattle.std.specs.Prelude.{◌≡◌, ℕ, ◌+◌, ◌*◌, ◌<◌, ◌^◌, Bool, true, false, not}
use Rattle.ark_math.specs.Field.{FieldOn, natural}
use Rattle.ark_prime256.specs.Words.{integer}
use Rattle.ark_prime256.specs.declared.euclid.Step.{Step}

-- the left number halved some times, and what belongs to the right one doubled
pub record IsHalved (s r : Step) : Type 0 where
  pub zeros : ℕ
  pub some : 0 < zeros
  pub left : integer r.left * 2 ^ zeros ≡ integer s.left
  pub right : r.right ≡ s.right
  pub of_left : r.of_left ≡ s.of_left
  pub of_right : integer r.of_right ≡ integer s.of_right * 2 ^ zeros
  pub halvings : r.halvings ≡ s.halvings + zeros
  pub turned : r.turned ≡ s.turned

-- the right number taken from the left one
pub record IsLessened (s r : Step) : Type 0 where
  pub left : integer r.left + integer s.right ≡ integer s.left
  pub right : r.right ≡ s.right
  pub of_left : integer r.of_left ≡ integer s.of_left + integer s.of_right
  pub of_right : r.of_right ≡ s.of_right
  pub halvings : r.halvings ≡ s.halvings
  pub turned : r.turned ≡ s.turned

-- the left number taken from the right one, and their places changed
pub record IsTurned (s r : Step) : Type 0 where
  pub left : integer r.left + integer s.left ≡ integer s.right
  pub right : r.right ≡ s.left
  pub of_left : integer r.of_left ≡ integer s.of_left + integer s.of_right
  pub of_right : r.of_right ≡ s.of_left
  pub halvings : r.halvings ≡ s.halvings
  pub turned : r.turned ≡ not s.turned

-- a value of a field, or its negative
abbrev pub signed : {F : Type 0} → FieldOn F → Bool → F → F
signed K true x = K.negated x
signed K false x = x

-- what belongs to the right number, after k halvings, is minus 2 ^ k times the inverse of x, or of minus x where the numbers are turned
pub record IsAlmostInverse {F : Type 0} (K : FieldOn F) (x : F) (s : Step) : Type 0 where
  pub product : K.plus (K.times (signed K s.turned x) (natural K (integer s.of_right))) (natural K (2 ^ s.halvings)) ≡ K.zero
