-- The places of a transform, as sums at the domain's root.
use Rattle.std.proofs.Common.{◌≡◌, ℕ, ◌+◌, ◌-◌, ◌++◌, ⊎_elim, get_or, map, take, drop, arith, ◌<◌, ◌≤◌, List, length, sym, ◌∙◌, ap, refl}
use Rattle.std.proofs.lemmas.Bool.{cases_lt}
use Rattle.std.proofs.lemmas.List.{get_or_past, get_or-take, get_or-drop, drop-map, length-map}
use Rattle.std.specs.List.{take-map}
use Rattle.ark_math.specs.Field.{FieldOn, IsField, power}
use Rattle.ark_math.specs.Module.{ModuleOn, IsModule, item, sum_below}
use Rattle.ark_math.specs.Domain.{Domain, element}
use Rattle.ark_math.specs.Transform.{transform, fit, value_at}
use Rattle.ark_math_transforms.proofs.Transforms.Places.{dft_at}
use Rattle.ark_math.proofs.Algebra.Groups.{scale_zero}
use Rattle.ark_math.proofs.Lists.Tabulated.{length-tabulate, item-tabulate, is_tabulated}
use Rattle.ark_math.proofs.Lists.Lists.{read_front, read_back}
use Rattle.ark_math.proofs.Algebra.Powers.{power-one, power-times}
use Rattle.ark_math.proofs.Algebra.Sums.{sum_below-same}
use Rattle.ark_math.proofs.Algebra.Solve.{◌⊗◌, ◌•◌}
use Rattle.ark_math.proofs.Algebra.Ring.{module2_1}

module _ {F M : Type 0} {K : FieldOn F} {V : ModuleOn F M} (N : IsField K) (L : IsModule K V) (d : Domain F) where
  -- f has the items of c, each times its power of the offset
  abbrev pub AreShifted : List M → (ℕ → M) → Type 0
  AreShifted c f = (j : ℕ) → j < d.size → f j ≡ V.scale (power K d.offset j) (item V c j)

  -- at offset one they are the items
  pub unshifted : (c : List M) (f : ℕ → M) → d.offset ≡ K.one → ((j : ℕ) → j < d.size → f j ≡ item V c j) → AreShifted c f
  unshifted c f one same j l =
      same j l ∙ sym (ap (λ t. V.scale (power K t j) (item V c j)) one ∙ (ap (λ t. V.scale t (item V c j)) (power-one K N j) ∙ L.one_scale (item V c j)))

  -- and past the end of c they are zeros
  pub shifted_past : (c : List M) (f : ℕ → M) → AreShifted c f → (j : ℕ) → length c ≤ j → j < d.size → f j ≡ V.zero
  shifted_past c f shifted j past l = shifted j l ∙ (ap (V.scale (power K d.offset j)) (get_or_past c j V.zero past) ∙ scale_zero L (power K d.offset j))

  value_there : (c : List M) (f : ℕ → M) → AreShifted c f → (i : ℕ) → value_at K V (fit V c d.size) (element K d i) ≡ dft_at K V d.size d.root f i
  value_there c f shifted i =
      let x = element K d i in
      let y = power K d.root i in
      ap (λ t. sum_below V t (λ j. V.scale (power K x j) (item V (fit V c d.size) j))) (length-tabulate d.size (item V c))
      ∙ sum_below-same V d.size _ _
      (λ j l.
      ap (V.scale (power K x j)) (item-tabulate V d.size (item V c) j l)
      ∙ (ap (λ t. V.scale t (item V c j)) (power-times K N d.offset y j)
      ∙ (module2_1 N L (λ a b x. ((a ⊗ b) • x, b • (a • x))) refl (power K d.offset j) (power K y j) (item V c j)
      ∙ ap (V.scale (power K y j)) (sym (shifted j l)))))

  pub transform-at : (c : List M) (f : ℕ → M) → AreShifted c f → (i : ℕ) → i < d.size → item V (transform K V d c) i ≡ dft_at K V d.size d.root f i
  transform-at c f shifted i l = item-tabulate V d.size (λ k. value_at K V (fit V c d.size) (element K d k)) i l ∙ value_there c f shifted i

  -- a list of those sums is the transform
  pub is_transform : (c r : List M) (f : ℕ → M) → AreShifted c f → length r ≡ d.size → ((i : ℕ) → i < d.size → item V r i ≡ dft_at K V d.size d.root f i) → r ≡ transform K V d c
  is_transform c r f shifted size sums = is_tabulated V.zero r d.size _ size (λ i l. sums i l ∙ sym (value_there c f shifted i))

-- the values of the fitted list at the places, one by one, are the transform
pub is_plain_transform : {F M : Type 0} (K : FieldOn F) (V : ModuleOn F M) (d : Domain F) (old fitted now : List M) → length fitted ≡ d.size → length now ≡ d.size → ((j : ℕ) → j < d.size → item V fitted j ≡ item V old j) → ((i : ℕ) → i < d.size → item V now i ≡ value_at K V fitted (element K d i)) → now ≡ transform K V d old
is_plain_transform K V d old fitted now size_fitted size_now fitting values =
    is_tabulated V.zero now d.size (λ i. value_at K V (fit V old d.size) (element K d i)) size_now
    (λ i l. values i l ∙ ap (λ t. value_at K V t (element K d i)) (is_tabulated V.zero fitted d.size (item V old) size_fitted fitting))

module _ {F M X : Type 0} {K : FieldOn F} {V : ModuleOn F M} (N : IsField K) (L : IsModule K V) (m : X → M) where
  -- the fitted items, of which those of the list alone were scaled
  pub shifted_front : (d : Domain F) (len : ℕ) (old fitted front : List X) → length old ≡ len → length front ≡ len → ((j : ℕ) → j < d.size → item V (map m fitted) j ≡ item V (map m old) j) → ((j : ℕ) → j < len → item V (map m front) j ≡ V.scale (power K d.offset j) (item V (map m (take len fitted)) j)) → AreShifted N L d (map m old) (item V (map m (front ++ drop len fitted)))
  shifted_front d len old fitted front of_old of_front fit scaled j l =
      ⊎_elim
      (λ (b : j < len).
      read_front m V.zero front (drop len fitted) j (omega arith)
      ∙ (scaled j b
      ∙ ap (V.scale (power K d.offset j))
      (ap (λ t. get_or t j V.zero) (sym (take-map m len fitted)) ∙ (get_or-take len (map m fitted) j V.zero b ∙ fit j l))))
      (λ (b : len ≤ j).
      let e : len + (j - len) ≡ j = omega arith in
      let past : length (map m old) ≤ j = omega (arith, length-map old m) in
      ap (λ t. item V (map m (front ++ drop len fitted)) t) (sym e)
      ∙ (read_back m V.zero front (drop len fitted) len (j - len) of_front
      ∙ (ap (λ t. get_or t (j - len) V.zero) (sym (drop-map m len fitted))
      ∙ (get_or-drop len (map m fitted) (j - len) V.zero
      ∙ (ap (λ t. get_or (map m fitted) t V.zero) e
      ∙ (fit j l
      ∙ (get_or_past (map m old) j V.zero past
      ∙ sym (ap (V.scale (power K d.offset j)) (get_or_past (map m old) j V.zero past) ∙ scale_zero L (power K d.offset j)))))))))
      (cases_lt j len)
