-- Polynomials at points of a caller's own: their values there, and how much each value counts elsewhere.
use Rattle.std.specs.Prelude.{◌≡◌, ◌≢◌, ℕ, ◌<◌, List, length, get_or, if◌then◌else◌, ◌==◌}
use Rattle.ark_math.specs.Field.{FieldOn, minus, product_below}
use Rattle.ark_math.specs.Module.{sum_below, itself}
use Rattle.ark_math.specs.Univariate.{IsBelow, IsValue, of_list, value_below}

-- of the first n points no two are one
abbrev pub AreDifferent : {F : Type 0} → ℕ → (ℕ → F) → Type 0
AreDifferent n x = (i j : ℕ) → i < j → j < n → x i ≢ x j

-- of the first n points two are one
abbrev pub HasRepeated : {F : Type 0} → ℕ → (ℕ → F) → Type 0
HasRepeated n x = (i : ℕ) × (j : ℕ) × (i < j) × (j < n) × (x i ≡ x j)

-- the x of pair i, and its y
abbrev pub x_of : {F : Type 0} → FieldOn F → List (F × F) → ℕ → F
x_of K points i = (get_or points i (K.zero, K.zero)).0

abbrev pub y_of : {F : Type 0} → FieldOn F → List (F × F) → ℕ → F
y_of K points i = (get_or points i (K.zero, K.zero)).1

-- y 0, .., y (n - 1) are the values of a at x 0, .., x (n - 1)
abbrev pub HasValues : {F : Type 0} → FieldOn F → ℕ → (ℕ → F) → (ℕ → F) → (ℕ → F) → Type 0
HasValues K n x y a = (i : ℕ) → i < n → IsValue K a (x i) (y i)

-- a list has the values of a at points, one for each
pub record AreValuesAt {F : Type 0} (K : FieldOn F) (points ys : List F) (a : ℕ → F) : Type 0 where
  pub len : length ys ≡ length points
  pub values : HasValues K (length points) (of_list K points) (of_list K ys) a

-- a is the polynomial through pairs with different x: of a degree below their number it alone has the value y at each x
pub record IsThrough {F : Type 0} (K : FieldOn F) (points : List (F × F)) (a : ℕ → F) : Type 0 where
  pub below : IsBelow K (length points) a
  pub values : HasValues K (length points) (x_of K points) (y_of K points) a
  pub only : (b : ℕ → F) → IsBelow K (length points) b → HasValues K (length points) (x_of K points) (y_of K points) b → b ≡ a
  pub different : AreDifferent (length points) (x_of K points)

-- the weights by which the values at n points give the value at tau, for every polynomial below n
pub record AreWeightsAt {F : Type 0} (K : FieldOn F) (n : ℕ) (x : ℕ → F) (tau : F) (weights : List F) : Type 0 where
  pub count : length weights ≡ n
  pub give : (a : ℕ → F) → IsBelow K n a →
      sum_below (itself K) n (λ i. K.times (of_list K weights i) (value_below K n a (x i))) ≡ value_below K n a tau

-- the product of t - x j for each j below n other than i
abbrev pub differences : {F : Type 0} → FieldOn F → (ℕ → F) → ℕ → ℕ → F → F
differences K x i n t = product_below K n (λ j. if j == i then K.one else minus K t (x j))
