-- Maps that carry the operations of one field to those of another, or of one module to those of another, carry sums,
-- products, values and transforms.
use mathlib.Core.Path.{fun_ext}
use Rattle.std.proofs.Common.{◌≡◌, ℕ, zero, suc, ◌+◌, ◌-◌, List, [], ◌∷◌, length, map, sym, ◌∙◌, ap, ap₂, refl}
use Rattle.std.proofs.lemmas.List.{length-map}
use Rattle.ark_math.specs.Field.{FieldOn, power}
use Rattle.ark_math.specs.Module.{ModuleOn, IsItself, itself, item, tabulate, tabulate_from, sum_below}
use Rattle.ark_math.specs.Domain.{Domain, element}
use Rattle.ark_math.specs.Transform.{transform, fit, value_at, IsInverse}
use Rattle.ark_math.specs.Univariate.{of_list, product, IsBelow, IsQuotient}
use Rattle.ark_math.proofs.Lists.Tabulated.{tabulate-same}
use Rattle.ark_math.proofs.Algebra.Sums.{sum_below-same}

pub record Carries {F G : Type 0} (K : FieldOn F) (L : FieldOn G) (g : F → G) : Type 0 where
  pub zero_kept : g K.zero ≡ L.zero
  pub one_kept : g K.one ≡ L.one
  pub plus_kept : (x y : F) → g (K.plus x y) ≡ L.plus (g x) (g y)
  pub times_kept : (x y : F) → g (K.times x y) ≡ L.times (g x) (g y)

-- a linear map, whose scalars are carried by g
pub record IsLinear {F G M X : Type 0} (g : F → G) (V : ModuleOn F M) (W : ModuleOn G X) (h : M → X) : Type 0 where
  pub zero_kept : h V.zero ≡ W.zero
  pub plus_kept : (x y : M) → h (V.plus x y) ≡ W.plus (h x) (h y)
  pub scale_kept : (a : F) (x : M) → h (V.scale a x) ≡ W.scale (g a) (h x)

-- the domain of the root's and the offset's images
abbrev pub carried : {F G : Type 0} → (F → G) → Domain F → Domain G
carried g d = record { kind = d.kind; size = d.size; root = g d.root; offset = g d.offset }

map-tabulate_from : {F G : Type 0} (h : F → G) (i n : ℕ) (f : ℕ → F) → map h (tabulate_from i n f) ≡ tabulate_from i n (λ k. h (f k))
map-tabulate_from h i zero f = refl
map-tabulate_from h i (suc n) f = ap (λ t. h (f i) ∷ t) (map-tabulate_from h (suc i) n f)

pub map-tabulate : {F G : Type 0} (h : F → G) (n : ℕ) (f : ℕ → F) → map h (tabulate n f) ≡ tabulate n (λ k. h (f k))
map-tabulate h n f = map-tabulate_from h 0 n f

-- a field's values are carried as those of a module
pub itself_linear : {F G : Type 0} {K : FieldOn F} {L : FieldOn G} {g : F → G} → Carries K L g → IsLinear g (itself K) (itself L) g
itself_linear C = record { zero_kept = C.zero_kept; plus_kept = C.plus_kept; scale_kept = C.times_kept }

-- and so are the meanings of a module that is the field itself, with the same scalars
pub same_carries : {F : Type 0} (K : FieldOn F) → Carries K K (λ x. x)
same_carries K = record { zero_kept = refl; one_kept = refl; plus_kept = λ x y. refl; times_kept = λ x y. refl }

pub meaning_linear : {F M : Type 0} {K : FieldOn F} {V : ModuleOn F M} {meaning : F → M} → IsItself K V meaning → IsLinear (λ x. x) (itself K) V meaning
meaning_linear I = record { zero_kept = I.zero_kept; plus_kept = I.plus_kept; scale_kept = I.times_kept }

module _ {F G : Type 0} {K : FieldOn F} {L : FieldOn G} {g : F → G} (C : Carries K L g) where
  pub power-carried : (x : F) (n : ℕ) → g (power K x n) ≡ power L (g x) n
  power-carried x zero = C.one_kept
  power-carried x (suc n) = C.times_kept x (power K x n) ∙ ap (L.times (g x)) (power-carried x n)

  element-carried : (d : Domain F) (i : ℕ) → g (element K d i) ≡ element L (carried g d) i
  element-carried d i = C.times_kept d.offset (power K d.root i) ∙ ap (L.times (g d.offset)) (power-carried d.root i)

  module _ {M X : Type 0} {V : ModuleOn F M} {W : ModuleOn G X} {h : M → X} (I : IsLinear g V W h) where
    pub sum_below-linear : (n : ℕ) (f : ℕ → M) → h (sum_below V n f) ≡ sum_below W n (λ i. h (f i))
    sum_below-linear zero f = I.zero_kept
    sum_below-linear (suc n) f = I.plus_kept (sum_below V n f) (f n) ∙ ap (λ t. W.plus t (h (f n))) (sum_below-linear n f)

    pub item-linear : (c : List M) (i : ℕ) → h (item V c i) ≡ item W (map h c) i
    item-linear [] i = I.zero_kept
    item-linear (x ∷ c) zero = refl
    item-linear (x ∷ c) (suc i) = item-linear c i

    pub fit-linear : (c : List M) (n : ℕ) → map h (fit V c n) ≡ fit W (map h c) n
    fit-linear c n = map-tabulate h n (item V c) ∙ tabulate-same n (λ i. h (item V c i)) (item W (map h c)) (λ i l. item-linear c i)

    value_at-linear : (c : List M) (x : F) → h (value_at K V c x) ≡ value_at L W (map h c) (g x)
    value_at-linear c x =
        sum_below-linear (length c) (λ i. V.scale (power K x i) (item V c i))
        ∙ sum_below-same W (length c) _ (λ i. W.scale (power L (g x) i) (item W (map h c) i))
        (λ i l. I.scale_kept (power K x i) (item V c i) ∙ ap₂ W.scale (power-carried x i) (item-linear c i))
        ∙ ap (λ n. sum_below W n (λ i. W.scale (power L (g x) i) (item W (map h c) i))) (sym (length-map c h))

    pub transform-linear : (d : Domain F) (c : List M) → map h (transform K V d c) ≡ transform L W (carried g d) (map h c)
    transform-linear d c =
        map-tabulate h d.size (λ i. value_at K V (fit V c d.size) (element K d i))
        ∙ tabulate-same d.size _ (λ i. value_at L W (fit W (map h c) d.size) (element L (carried g d) i))
        (λ i l. value_at-linear (fit V c d.size) (element K d i) ∙ ap₂ (value_at L W) (fit-linear c d.size) (element-carried d i))

    IsInverse-linear : (d : Domain F) (v u : List M) → IsInverse K V d v u → IsInverse L W (carried g d) (map h v) (map h u)
    IsInverse-linear d v u inverse = record {
      size = length-map u h ∙ inverse.size;
      values = sym (transform-linear d u) ∙ (ap (map h) inverse.values ∙ fit-linear v d.size);
    }

  pub value_at-carried : (c : List F) (x : F) → g (value_at K (itself K) c x) ≡ value_at L (itself L) (map g c) (g x)
  value_at-carried c x = value_at-linear (itself_linear C) c x

  pub transform-carried : (d : Domain F) (c : List F) → map g (transform K (itself K) d c) ≡ transform L (itself L) (carried g d) (map g c)
  transform-carried d c = transform-linear (itself_linear C) d c

  pub IsInverse-carried : (d : Domain F) (v u : List F) → IsInverse K (itself K) d v u → IsInverse L (itself L) (carried g d) (map g v) (map g u)
  IsInverse-carried d v u inverse = IsInverse-linear (itself_linear C) d v u inverse

  pub of_list-carried : (c : List F) (i : ℕ) → g (of_list K c i) ≡ of_list L (map g c) i
  of_list-carried c i = item-linear (itself_linear C) c i

  pub product-carried : (a b : ℕ → F) (k : ℕ) → g (product K a b k) ≡ product L (λ i. g (a i)) (λ i. g (b i)) k
  product-carried a b k =
      sum_below-linear (itself_linear C) (suc k) (λ i. K.times (a i) (b (k - i)))
      ∙ sum_below-same (itself L) (suc k) _ _ (λ i l. C.times_kept (a i) (b (k - i)))

  below-carried : (n : ℕ) (a : ℕ → F) → IsBelow K n a → IsBelow L n (λ i. g (a i))
  below-carried n a b i l = ap g (b i l) ∙ C.zero_kept

  -- where nothing else is carried to zero
  pub IsQuotient-carried : ((x : F) → g x ≡ L.zero → x ≡ K.zero) → (a d q r : ℕ → F) → IsQuotient K a d q r → IsQuotient L (λ i. g (a i)) (λ i. g (d i)) (λ i. g (q i)) (λ i. g (r i))
  IsQuotient-carried one a d q r Q =
      let k = Q.degree.0 in
      record {
        finite = (Q.finite.0, below-carried Q.finite.0 q Q.finite.1);
        whole = fun_ext (λ i. ap (λ h. g (h i)) Q.whole ∙ C.plus_kept (product K q d i) (r i) ∙ ap (λ t. L.plus t (g (r i))) (product-carried q d i));
        degree = (k, (λ e. Q.degree.1 (one (d k) e)), below-carried (k + 1) d Q.degree.2, below-carried k r Q.degree.3);
      }
