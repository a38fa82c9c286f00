-- Maps that carry the operations of one field to those of another, opposites too, carry multilinear extensions.
use mathlib.Core.Path.{fun_ext}
use Rattle.std.proofs.Common.{◌≡◌, ℕ, zero, suc, ◌^◌, Bool, true, false, if◌then◌else◌, List, length, map, sym, ◌∙◌, ap, ap₂, refl}
use Rattle.std.proofs.lemmas.List.{length-map}
use Rattle.ark_math.specs.Field.{FieldOn, minus, product_below}
use Rattle.ark_math.specs.Module.{itself, item, sum_below}
use Rattle.ark_math_variables.specs.Multilinear.{bit, weight, extension}
use Rattle.ark_math.proofs.Algebra.Sums.{sum_below-same}
use Rattle.ark_math_transforms.proofs.Transforms.Carried.{Carries, itself_linear, item-linear, sum_below-linear}

module _ {F G : Type 0} {K : FieldOn F} {L : FieldOn G} {g : F → G} (C : Carries K L g) (negated_kept : (x : F) → g (K.negated x) ≡ L.negated (g x)) where
  product_below-carried : (n : ℕ) (f : ℕ → F) → g (product_below K n f) ≡ product_below L n (λ i. g (f i))
  product_below-carried zero f = C.one_kept
  product_below-carried (suc n) f = C.times_kept (product_below K n f) (f n) ∙ ap (λ t. L.times t (g (f n))) (product_below-carried n f)

  part-carried : (b : Bool) (x : F) → g (if b then x else minus K K.one x) ≡ (if b then g x else minus L L.one (g x))
  part-carried true x = refl
  part-carried false x = C.plus_kept K.one (K.negated x) ∙ ap₂ L.plus C.one_kept (negated_kept x)

  weight-carried : (x : List F) (b : ℕ) → g (weight K x b) ≡ weight L (map g x) b
  weight-carried x b =
      product_below-carried (length x) (λ i. if bit b i then item (itself K) x i else minus K K.one (item (itself K) x i))
      ∙ ap (product_below L (length x)) (fun_ext (λ i. part-carried (bit b i) (item (itself K) x i) ∙ ap (λ y. if bit b i then y else minus L L.one y) (item-linear C (itself_linear C) x i)))
      ∙ ap (λ n. product_below L n (λ i. if bit b i then item (itself L) (map g x) i else minus L L.one (item (itself L) (map g x) i))) (sym (length-map x g))

  pub extension-carried : (t : ℕ → F) (x : List F) → g (extension K t x) ≡ extension L (λ b. g (t b)) (map g x)
  extension-carried t x =
      sum_below-linear C (itself_linear C) (2 ^ length x) (λ b. K.times (t b) (weight K x b))
      ∙ sum_below-same (itself L) (2 ^ length x) _ (λ b. L.times (g (t b)) (weight L (map g x) b))
      (λ b l. C.times_kept (t b) (weight K x b) ∙ ap (L.times (g (t b))) (weight-carried x b))
      ∙ ap (λ n. sum_below (itself L) (2 ^ n) (λ b. L.times (g (t b)) (weight L (map g x) b))) (sym (length-map x g))
