-- The inverse transform, from the sums at the inverse of the root and the scaling after them.
use Rattle.std.proofs.Common.{◌≡◌, ℕ, ◌<◌, List, length, map, ◌∙◌, ap}
use Rattle.std.proofs.lemmas.List.{length-map}
use Rattle.ark_math.specs.Field.{FieldOn, IsField, power, natural}
use Rattle.ark_math.specs.Root.{HasOrder}
use Rattle.ark_math.specs.Module.{ModuleOn, IsModule, item}
use Rattle.ark_math.specs.Domain.{Domain}
use Rattle.ark_math.specs.Transform.{IsInverse}
use Rattle.ark_math_transforms.proofs.Transforms.Inverses.{is_inverse}
use Rattle.ark_math.proofs.Algebra.Sums.{sum_below-same}
use Rattle.ark_fft.proofs.Levels.{AreTransformed}

-- the inverses of a domain's root, of its offset, and of its size
pub record AreInverses {F : Type 0} (K : FieldOn F) (d : Domain F) (v p f : F) : Type 0 where
  pub of_root : K.times d.root v ≡ K.one
  pub of_offset : K.times d.offset p ≡ K.one
  pub of_size : K.times (natural K d.size) f ≡ K.one

-- a list fitted to a domain's size, and what was made of it scaled by f and by the powers of p
pub record IsScaledBack {F M X : Type 0} (K : FieldOn F) (V : ModuleOn F M) (m : X → M) (d : Domain F) (p f : F) (old fitted mid now : List X) : Type 0 where
  pub len_fitted : length fitted ≡ d.size
  pub len_now : length now ≡ d.size
  pub fit : (j : ℕ) → j < d.size → item V (map m fitted) j ≡ item V (map m old) j
  pub scaled : (j : ℕ) → j < d.size → item V (map m now) j ≡ V.scale (K.times f (power K p j)) (item V (map m mid) j)

module _ {F M X : Type 0} {K : FieldOn F} {V : ModuleOn F M} (N : IsField K) (L : IsModule K V) (m : X → M) where
  -- it is the inverse, where the sums at the root's inverse were made
  pub inverse_of_sums : (d : Domain F) → HasOrder K d.root d.size → (v p f : F) (old fitted mid now : List X) → AreInverses K d v p f → IsScaledBack K V m d p f old fitted mid now → AreTransformed K V d.size d.size v (item V (map m fitted)) (item V (map m mid)) → IsInverse K V d (map m old) (map m now)
  inverse_of_sums d order v p f old fitted mid now inverses back sums =
      is_inverse N L d v p f order inverses.of_root inverses.of_offset inverses.of_size (map m old) (map m now) (length-map now m ∙ back.len_now)
      (λ j l.
      back.scaled j l
      ∙ ap (V.scale (K.times f (power K p j)))
      (sums j l ∙ sum_below-same V d.size _ _ (λ k b. ap (V.scale (power K (power K v j) k)) (back.fit k b))))
