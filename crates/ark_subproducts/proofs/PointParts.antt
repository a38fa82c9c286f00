-- From what stands for a polynomial over points to what does over a part of them, and from both parts' values to all.
use Rattle.std.proofs.Common.{◌≡◌, ℕ, ◌+◌, ◌-◌, ◌<◌, ◌≤◌, List, ◌++◌, length, refl, sym, ◌∙◌, ap, subst₂, arith, ⊎_elim}
use Rattle.std.proofs.lemmas.Bool.{cases_lt}
use Rattle.std.proofs.lemmas.List.{get_or-append_right, get_or_append_left, length-append}
use Rattle.ark_math.specs.Field.{FieldOn, IsField}
use Rattle.ark_math.specs.Univariate.{IsBelow, IsValue, of_list, product, scaled}
use Rattle.ark_math_polynomials.proofs.Polynomials.LinearFactors.{nodes-joined}
use Rattle.ark_math_polynomials.proofs.Polynomials.UnivariateProducts.{product_comm, product-below}
use Rattle.ark_math_points.specs.AtPoints.{HasValues}
use Rattle.ark_math_polynomials.specs.Nodes.{nodes}
use Rattle.ark_subproducts.specs.Tree.{IsScaledRemainderBefore, IsScaledRemainder}
use Rattle.ark_subproducts.proofs.Multiples.{product-scaled}
use Rattle.ark_subproducts.proofs.Nodes.{nodes-below}
use Rattle.ark_subproducts.proofs.ScaledRemainders.{remainder_of_factor}

-- a part of the points, and the others
pub record AreParts {F : Type 0} (K : FieldOn F) (points own others : List F) : Type 0 where
  pub whole : product K (nodes K own) (nodes K others) ≡ nodes K points
  pub count : length own + length others ≡ length points

module _ {F : Type 0} (K : FieldOn F) (N : IsField K) (points low high : List F) (joined : low ++ high ≡ points) where
  pub low_part : AreParts K points low high
  low_part = record { whole = sym (nodes-joined K N low high) ∙ ap (nodes K) joined; count = sym (length-append low high) ∙ ap length joined }

  pub high_part : AreParts K points high low
  high_part = record {
    whole = product_comm K N (nodes K high) (nodes K low) ∙ low_part.whole;
    count = omega (arith, low_part.count);
  }

  pub values-joined : (v w : List F) (p : ℕ → F) → length v ≡ length low → HasValues K (length low) (of_list K low) (of_list K v) p → HasValues K (length high) (of_list K high) (of_list K w) p → HasValues K (length points) (of_list K points) (of_list K (v ++ w)) p
  values-joined v w p len first second k l = ⊎_elim
      (λ (b : k < length low).
      subst₂ (IsValue K p)
      (sym (get_or_append_left low high K.zero k b) ∙ ap (λ t. of_list K t k) joined)
      (sym (get_or_append_left v w K.zero k (omega (arith, b, len))))
      (first k b))
      (λ (b : length low ≤ k).
      subst₂ (IsValue K p)
      (sym (get_or-append_right low high (length low) k K.zero refl b) ∙ ap (λ t. of_list K t k) joined)
      (sym (get_or-append_right v w (length low) k K.zero len b))
      (second (k - length low) (omega (arith, b, l, low_part.count))))
      (cases_lt k (length low))

module _ {F : Type 0} (K : FieldOn F) (N : IsField K) (points own others : List F) (parts : AreParts K points own others) where
  -- a middle product stands over the part for what the whole one does over all points, and so do their multiples
  pub remainder_of_part : 0 < length own → (end : ℕ) → length own ≤ end → (scale : F) (p s t : ℕ → F) → ((j : ℕ) → j < length own → t j ≡ product K (nodes K others) s (end - length own + j))
      → IsScaledRemainderBefore K end (length points) (nodes K points) p (scaled K scale s) → IsScaledRemainder K (length own) (nodes K own) p (scaled K scale t)
  remainder_of_part some end inside scale p s t same =
      remainder_of_factor K N end (length points) (length own) (nodes K points) (nodes K own) (nodes K others) p (scaled K scale s) (scaled K scale t) some inside (omega (arith, parts.count))
      (λ i l. nodes-below K N others i (omega (arith, l, parts.count)))
      (sym parts.whole)
      (λ j l. product-scaled K N (nodes K others) s scale (end - length own + j) ∙ ap (K.times scale) (sym (same j l)))

  -- the product with the other one is short enough for a domain with room for all points
  pub product_of_others-below : (end size : ℕ) (s : ℕ → F) → length own ≤ end → IsBelow K end s → length points ≤ size → IsBelow K (end - length own + size) (product K (nodes K others) s)
  product_of_others-below end size s inside below room i l =
      product-below K N (length others + 1) end (nodes K others) s (nodes-below K N others) below i (omega (arith, l, parts.count, room, inside))
