-- The product of x - r has a leading coefficient of one.
use Rattle.std.proofs.Common.{◌≡◌, ℕ, suc, ◌<◌, List, [], ◌∷◌, length, ◌∙◌, ap, ap₂, refl, arith}
use Rattle.ark_math.specs.Field.{FieldOn, IsField}
use Rattle.ark_math.proofs.Algebra.Solve.{◌⊕◌, ◌⊗◌, negative, unit, nought}
use Rattle.ark_math.proofs.Algebra.Ring.{ring1}
use Rattle.ark_math_polynomials.specs.Nodes.{nodes}
use Rattle.rs_code.proofs.Factors.{factor-product, nodes-short}

-- of degree n, with one as the leading coefficient
pub record IsMonic {F : Type 0} (K : FieldOn F) (n : ℕ) (a : ℕ → F) : Type 0 where
  pub leading : a n ≡ K.one
  pub rest : (i : ℕ) → n < i → a i ≡ K.zero

module _ {F : Type 0} (K : FieldOn F) (N : IsField K) where
  nodes_leading : (rs : List F) → nodes K rs (length rs) ≡ K.one
  nodes_leading [] = refl
  nodes_leading (r ∷ rs) =
      ap (λ a. a (suc (length rs))) (factor-product K N r (nodes K rs))
      ∙ ap₂ (λ x y. K.plus x (K.times (K.negated r) y)) (nodes_leading rs) (nodes-short K N rs (suc (length rs)) (omega arith))
      ∙ ring1 K N (λ r. (unit ⊕ negative r ⊗ nought, unit)) refl r

  pub nodes_monic : (rs : List F) → IsMonic K (length rs) (nodes K rs)
  nodes_monic rs = record { leading = nodes_leading rs; rest = λ i l. nodes-short K N rs i (omega arith) }
