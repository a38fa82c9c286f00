-- Two levels of butterflies at once, of items at equal places of the quarters of a list.
use Rattle.std.specs.Prelude.{◌≡◌, ℕ, ◌+◌, ◌<◌, List, get_or}
use Rattle.ark_math.specs.Field.{FieldOn}
use Rattle.ark_math.specs.Module.{ModuleOn}

-- the item at one place of each quarter, by butterflies across the halves, with the twiddle factors upper and lower, and then across the quarters of each half, with below
pub record IsColumn {F M : Type 0} (V : ModuleOn F M) (upper lower below : F) (x0 x1 x2 x3 y0 y1 y2 y3 : M) : Type 0 where
  pub first : y0 ≡ V.plus (V.plus x0 x2) (V.plus x1 x3)
  pub second : y1 ≡ V.scale below (V.plus (V.plus x0 x2) (V.negated (V.plus x1 x3)))
  pub third : y2 ≡ V.plus (V.scale upper (V.plus x0 (V.negated x2))) (V.scale lower (V.plus x1 (V.negated x3)))
  pub fourth : y3 ≡ V.scale below (V.plus (V.scale upper (V.plus x0 (V.negated x2))) (V.negated (V.scale lower (V.plus x1 (V.negated x3)))))

-- all columns of a list of quarters of n items, f before and g after
abbrev pub AreColumns : {F M : Type 0} → FieldOn F → ModuleOn F M → List F → ℕ → (ℕ → M) → (ℕ → M) → Type 0
AreColumns K V tables n f g = (i : ℕ) → i < n → IsColumn V (get_or tables i K.zero) (get_or tables (n + i) K.zero) (get_or tables (n + n + i) K.zero) (f i) (f (n + i)) (f (n + n + i)) (f (n + n + n + i)) (g i) (g (n + i)) (g (n + n + i)) (g (n + n + n + i))
