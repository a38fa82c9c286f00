-- Columns transformed, and then rows, are the whole transform.
use Rattle.std.proofs.Common.{◌≡◌, ℕ, ◌+◌, ◌*◌, ◌<◌, List, sym, ◌∙◌, ap, ap₂, refl, arith}
use Rattle.std.proofs.lemmas.Nat.{mul-add-lt}
use Rattle.ark_math.specs.Field.{FieldOn, IsField, power}
use Rattle.ark_math.specs.Module.{ModuleOn, IsModule, item, sum_below}
use Rattle.ark_math.specs.Domain.{Domain, element}
use Rattle.ark_math.specs.Transform.{transform}
use Rattle.ark_math_transforms.proofs.Transforms.Places.{dft_at}
use Rattle.ark_math_transforms.proofs.Transforms.Transforms.{transform-at}
use Rattle.ark_math.proofs.Algebra.Powers.{power-add, power-mul, power-times}
use Rattle.ark_math.proofs.Algebra.Sums.{sum_below-same, sum_below-scale}
use Rattle.ark_math.proofs.Algebra.Solve.{◌•◌}
use Rattle.ark_math.proofs.Algebra.Ring.{module2_1}
use Rattle.ark_math.proofs.Lists.Tabulated.{item-tabulate}
use Rattle.ark_fft_parts.specs.Parts.{column, across, of_columns, of_row, AreColumnsMade, AreRowsMade, AreInParts}
use Rattle.ark_fft.proofs.Split.{join_at}

module _ {F M : Type 0} {K : FieldOn F} {V : ModuleOn F M} (N : IsField K) (L : IsModule K V) (d : Domain F) (r c : ℕ) where
  -- the items of a list, and of column j, each times its power of the offset
  shifted : List M → ℕ → M
  shifted xs k = V.scale (power K d.offset k) (item V xs k)

  shifted_column : List M → ℕ → ℕ → M
  shifted_column xs j i = V.scale (power K (power K d.offset c) i) (item V (column V r c xs j) i)

  -- an item of a column, from that of the list
  shifted-item : (xs : List M) (j i : ℕ) → i < r → shifted xs (c * i + j) ≡ V.scale (power K d.offset j) (shifted_column xs j i)
  unfolding shifted shifted_column
  shifted-item xs j i l =
      let place : c * i + j ≡ i * c + j = omega arith in
      ap₂ (λ a k. V.scale a (item V xs k))
      (power-add K N d.offset (c * i) j ∙ (N.times_comm _ _ ∙ ap (K.times (power K d.offset j)) (power-mul K N d.offset c i))) place
      ∙ (L.times_scale (power K d.offset j) (power K (power K d.offset c) i) (item V xs (i * c + j))
      ∙ ap (λ x. V.scale (power K d.offset j) (V.scale (power K (power K d.offset c) i) x)) (sym (item-tabulate V r (λ i. item V xs (i * c + j)) i l)))

  -- the sums of a column
  column_sum : (xs : List M) (j i : ℕ) → dft_at K V r (power K d.root c) (λ k. shifted xs (c * k + j)) i ≡ V.scale (power K d.offset j) (dft_at K V r (power K d.root c) (shifted_column xs j) i)
  unfolding shifted shifted_column
  column_sum xs j i =
      let x = power K (power K d.root c) i in
      sum_below-same V r _ (λ k. V.scale (power K d.offset j) (V.scale (power K x k) (shifted_column xs j k)))
      (λ k l.
      ap (V.scale (power K x k)) (shifted-item xs j k l)
      ∙ module2_1 N L (λ a b x. (a • (b • x), b • (a • x))) refl (power K x k) (power K d.offset j) (shifted_column xs j k))
      ∙ sum_below-scale L r (power K d.offset j) (λ k. V.scale (power K x k) (shifted_column xs j k))

  -- the twiddle of item j of row i, by the powers of the root and of the offset
  twiddle : (i j : ℕ) → power K (element K d i) j ≡ K.times (power K d.root (j * i)) (power K d.offset j)
  twiddle i j =
      let turn : i * j ≡ j * i = omega arith in
      power-times K N d.offset (power K d.root i) j
      ∙ (N.times_comm (power K d.offset j) (power K (power K d.root i) j)
      ∙ ap (λ t. K.times t (power K d.offset j)) (sym (power-mul K N d.root i j) ∙ ap (power K d.root) turn))

  -- a part of the splitting law, from the item of a row times its twiddle
  part : (xs : List M) (i j b : ℕ) (y : M) → i < r → y ≡ dft_at K V r (power K d.root c) (shifted_column xs b) i → V.scale (power K (power K (power K d.root r) j) b) (V.scale (power K (element K d i) b) y) ≡ V.scale (power K (power K d.root (j * r)) b) (V.scale (power K d.root (b * i)) (dft_at K V r (power K d.root c) (λ k. shifted xs (c * k + b)) i))
  part xs i j b y l e =
      let leap : power K (power K d.root r) j ≡ power K d.root (j * r) = sym (power-mul K N d.root r j) ∙ ap (power K d.root) (let t : r * j ≡ j * r = omega arith in t) in
      let z = dft_at K V r (power K d.root c) (shifted_column xs b) i in
      ap₂ (λ s t. V.scale (power K s b) (V.scale t y)) leap (twiddle i b)
      ∙ ap (V.scale (power K (power K d.root (j * r)) b))
      (ap (V.scale (K.times (power K d.root (b * i)) (power K d.offset b))) e
      ∙ (L.times_scale (power K d.root (b * i)) (power K d.offset b) z
      ∙ ap (V.scale (power K d.root (b * i))) (sym (column_sum xs b i))))

  column_item : (xs : List M) (columns : ℕ → List M) → AreColumnsMade K V d r c xs columns → (b i : ℕ) → b < c → i < r → item V (columns b) i ≡ dft_at K V r (power K d.root c) (shifted_column xs b) i
  unfolding shifted_column
  column_item xs columns made b i l m =
      ap (λ t. item V t i) (made b l)
      ∙ transform-at N L (of_columns K d r c) (column V r c xs b) (shifted_column xs b) (λ k h. refl) i m

  row_item : (columns rows : ℕ → List M) → AreRowsMade K V d r c columns rows → (i j : ℕ) → i < r → j < c → item V (rows i) j ≡ sum_below V c (λ b. V.scale (power K (power K (power K d.root r) j) b) (V.scale (power K (element K d i) b) (item V (columns b) i)))
  row_item columns rows made i j l m =
      ap (λ t. item V t j) (made i l)
      ∙ (transform-at N L (of_row K d r c i) (across V c columns i) (λ b. V.scale (power K (element K d i) b) (item V (across V c columns i) b)) (λ b h. refl) j m
      ∙ sum_below-same V c _ _
      (λ b h. ap (λ x. V.scale (power K (power K (power K d.root r) j) b) (V.scale (power K (element K d i) b) x)) (item-tabulate V c (λ k. item V (columns k) i) b h)))

  whole_item : (xs : List M) → d.size ≡ c * r → power K d.root (c * r) ≡ K.one → (i j : ℕ) → i < r → j < c → item V (transform K V d xs) (j * r + i) ≡ sum_below V c (λ b. V.scale (power K (power K d.root (j * r)) b) (V.scale (power K d.root (b * i)) (dft_at K V r (power K d.root c) (λ k. shifted xs (c * k + b)) i)))
  unfolding shifted
  whole_item xs size one i j l m =
      let below : j * r + i < d.size = omega (arith, mul-add-lt j r i c m l) in
      transform-at N L d xs (shifted xs) (λ k h. refl) (j * r + i) below
      ∙ (ap (λ n. dft_at K V n d.root (shifted xs) (j * r + i)) size
      ∙ join_at N L c r d.root (shifted xs) j i one)

  pub parts_make_the_transform : (xs : List M) (columns rows : ℕ → List M) → d.size ≡ r * c → power K d.root d.size ≡ K.one → AreColumnsMade K V d r c xs columns → AreRowsMade K V d r c columns rows → AreInParts V r c (transform K V d xs) rows
  parts_make_the_transform xs columns rows size one made_columns made_rows i j a b =
      let turned : r * c ≡ c * r = omega arith in
      let n : d.size ≡ c * r = size ∙ turned in
      let place : j * r + i ≡ i + r * j = omega arith in
      row_item columns rows made_rows i j a b
      ∙ (sum_below-same V c _ _ (λ k l. part xs i j k (item V (columns k) i) a (column_item xs columns made_columns k i l a))
      ∙ (sym (whole_item xs n (ap (power K d.root) (sym n) ∙ one) i j a b)
      ∙ ap (item V (transform K V d xs)) place))
