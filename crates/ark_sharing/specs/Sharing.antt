-- Secrets in shares: values of a polynomial whose value at zero is the secret.
use Rattle.std.specs.Prelude.{◌≡◌, ◌≢◌, ℕ, ◌<◌, List, [], ◌∷◌, length, map, zip}
use Rattle.ark_math.specs.Field.{FieldOn}
use Rattle.ark_math.specs.Univariate.{IsBelow, IsValue}
use Rattle.ark_math_points.specs.AtPoints.{HasValues, x_of, y_of}

-- a is a polynomial below k, and its value at zero is the secret
pub record IsSharing {F : Type 0} (K : FieldOn F) (k : ℕ) (secret : F) (a : ℕ → F) : Type 0 where
  pub below : IsBelow K k a
  pub at_zero : IsValue K a K.zero secret

-- each share is a point and the value of a there
abbrev pub AreShares : {F : Type 0} → FieldOn F → (ℕ → F) → List (F × F) → Type 0
AreShares K a shares = HasValues K (length shares) (x_of K shares) (y_of K shares) a

-- a is a sharing of the secret, and has these shares
abbrev pub IsSharingWith : {F : Type 0} → FieldOn F → ℕ → F → List (F × F) → (ℕ → F) → Type 0
IsSharingWith K k secret shares a = IsSharing K k secret a × AreShares K a shares

-- the values of two lists of shares added, place by place
abbrev pub added_shares : {F : Type 0} → FieldOn F → List (F × F) → List (F × F) → List (F × F)
added_shares K left right = map (λ s. (s.0.0, K.plus s.0.1 s.1.1)) (zip left right)

-- each value times c
abbrev pub scaled_shares : {F : Type 0} → FieldOn F → F → List (F × F) → List (F × F)
scaled_shares K c shares = map (λ s. (s.0, K.times c s.1)) shares

-- none of the first n points is zero
abbrev pub AreNotZero : {F : Type 0} → FieldOn F → ℕ → (ℕ → F) → Type 0
AreNotZero K n x = (i : ℕ) → i < n → x i ≢ K.zero

-- one of them is
abbrev pub HasZero : {F : Type 0} → FieldOn F → ℕ → (ℕ → F) → Type 0
HasZero K n x = (i : ℕ) × (i < n) × (x i ≡ K.zero)

-- what has P and what has Q are one to one: two maps take each to the other, and undo each other there
pub record AreOneToOne {A B : Type 0} (P : A → Type 0) (Q : B → Type 0) : Type 0 where
  pub there : A → B
  pub back : B → A
  pub has_q : (a : A) → P a → Q (there a)
  pub has_p : (b : B) → Q b → P (back b)
  pub undone_there : (a : A) → P a → back (there a) ≡ a
  pub undone_back : (b : B) → Q b → there (back b) ≡ b
