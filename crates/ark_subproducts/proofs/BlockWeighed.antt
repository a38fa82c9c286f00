-- Weighed products over both halves of points, from values over the first elements of a table.
use Rattle.std.proofs.Common.{◌≡◌, ℕ, ◌≤◌, List, ◌++◌, length, sym, ap₂, subst, ◌∙◌, arith}
use Rattle.ark_math.specs.Field.{FieldOn, IsField}
use Rattle.ark_math.specs.Univariate.{IsBelow, added, of_list, product}
use Rattle.ark_math_polynomials.specs.Nodes.{nodes}
use Rattle.ark_subproducts.specs.Tree.{AreFactors, weighed}
use Rattle.ark_subproducts.specs.declared.blocks.Factors.{Factors}
use Rattle.ark_subproducts.proofs.Weighed.{weighed-below, weighed-parts}

-- points and their weights in two parts
pub record AreWeighedParts {F : Type 0} (points weights low high first second : List F) : Type 0 where
  pub joined : low ++ high ≡ points
  pub weighted : first ++ second ≡ weights
  pub len : length first ≡ length low

-- the sum of two products, each of what is weighed over a part with the product over the other, is what is weighed over all
pub weighed_by_parts : {F : Type 0} (K : FieldOn F) → IsField K → (table points weights low high first second : List F) → AreWeighedParts points weights low high first second → (left right : Factors F) (count : ℕ) → length points ≤ count
    → AreFactors K table left (weighed K low (of_list K first)) (nodes K high) → AreFactors K table right (weighed K high (of_list K second)) (nodes K low) → (Claim : (ℕ → F) → Type 0)
    → ((f a s b : ℕ → F) → AreFactors K table left f a → AreFactors K table right s b → IsBelow K count (added K (product K f a) (product K s b)) → Claim (added K (product K f a) (product K s b)))
    → Claim (weighed K points (of_list K weights))
weighed_by_parts K N table points weights low high first second parts left right count room L R Claim holds =
    let sums = weighed K low (of_list K first) in
    let others = weighed K high (of_list K second) in
    let whole : added K (product K sums (nodes K high)) (product K others (nodes K low)) ≡ weighed K points (of_list K weights) =
    weighed-parts K N low high first second parts.len ∙ ap₂ (λ t u. weighed K t (of_list K u)) parts.joined parts.weighted in
    subst Claim whole
    (holds sums (nodes K high) others (nodes K low) L R
    (subst (IsBelow K count) (sym whole) (λ i l. weighed-below K N points (of_list K weights) i (omega (arith, l, room)))))
