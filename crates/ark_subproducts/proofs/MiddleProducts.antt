-- Halves of a part and of its tree; and what a tree hands down to its halves gives them the values of the polynomial that it
-- stands for.
use Rattle.std.proofs.Common.{◌≡◌, ℕ, ◌+◌, ◌-◌, ◌/◌, ◌<◌, ◌≤◌, List, ◌++◌, length, take, drop, Vec, sym, ◌∙◌, ap, ap₂, subst, arith}
use Rattle.std.proofs.lemmas.List.{take-append-drop}
use Rattle.std.specs.declared.alloc.Global.{Global}
use Rattle.ark_bit_reversed.proofs.Callers.PowersOfTwo.{two_halves}
use Rattle.ark_bit_reversed.specs.Blocks.{AreFirstValues, size_of}
use Rattle.ark_math.specs.Field.{FieldOn, IsField}
use Rattle.ark_math.specs.Univariate.{IsBelow, of_list, product, scaled}
use Rattle.ark_math_polynomials.proofs.Polynomials.UnivariateLoops.{cut, cut-inside, cut-outside}
use Rattle.ark_math_polynomials.specs.Nodes.{nodes}
use Rattle.ark_math_points.specs.AtPoints.{HasValues}
use Rattle.ark_subproducts.specs.Tree.{AreValuesOver, HasMiddle, IsBlockTreeOver, IsHalfOf, IsMiddle, IsPart, IsScaledRemainderBefore, IsTreeOfPart, RepresentsMultiple}
use Rattle.ark_subproducts.specs.declared.few.FewProducts.{FewProducts}
use Rattle.ark_subproducts.specs.declared.halves.Part.{Part}
use Rattle.ark_subproducts.specs.declared.multiple.Multiple.{Multiple}
use Rattle.ark_subproducts.specs.declared.tree.Tree.{Tree}
use Rattle.ark_subproducts.proofs.PointParts.{AreParts, product_of_others-below, remainder_of_part}

-- what holds of a half's points holds of the half
pub of_half : {F : Type 0} (part half : Part F) (xs : List F) → IsHalfOf part xs half → (P : List F → ℕ → List F → Type 0) → P part.blocks.now (part.count / 2) xs → P half.blocks.now half.count half.points.now
of_half part half xs h P holds =
    subst (λ zs. P half.blocks.now half.count zs) (sym h.points)
    (subst (λ n. P half.blocks.now n xs) (sym h.count) (subst (λ r. P r (part.count / 2) xs) (sym h.blocks) holds))

-- and the other way
pub from_half : {F : Type 0} (part half : Part F) (xs : List F) → IsHalfOf part xs half → (P : List F → ℕ → List F → Type 0) → P half.blocks.now half.count half.points.now → P part.blocks.now (part.count / 2) xs
from_half part half xs h P holds =
    subst (λ zs. P part.blocks.now (part.count / 2) zs) h.points
    (subst (λ n. P part.blocks.now n half.points.now) h.count (subst (λ r. P r half.count half.points.now) h.blocks holds))

-- both halves have all points
pub halves-joined : {F : Type 0} (part low high : Part F) (half : ℕ) → IsHalfOf part (take half part.points.now) low → IsHalfOf part (drop half part.points.now) high → low.points.now ++ high.points.now ≡ part.points.now
halves-joined part low high half first second = ap₂ (λ s t. s ++ t) first.points second.points ∙ take-append-drop half part.points.now

-- and each has half of the elements
pub half-count : {F : Type 0} (part half : Part F) (xs : List F) → IsPart part → 1 < part.count → IsHalfOf part xs half → half.count + half.count ≡ part.count
half-count part half xs h many is = ap₂ (λ m n. m + n) is.count is.count ∙ two_halves part.count many h.power

module _ {F : Type 0} (K : FieldOn F) where
  pub tree_of_half : (part half : Part F) (xs : List F) (t u : Tree (FewProducts F) (List F) (Vec F Global)) → IsHalfOf part xs half → u ≡ t → IsBlockTreeOver K part.blocks.now (part.count / 2) xs t → IsTreeOfPart K half u
  tree_of_half part half xs t u h same tree = of_half part half xs h (λ r n zs. IsBlockTreeOver K r n zs u) (subst (IsBlockTreeOver K part.blocks.now (part.count / 2) xs) (sym same) tree)

  pub values_over_half : (part half : Part F) (xs : List F) (a : ℕ → F) (v : List F) → IsPart part → 1 < part.count → IsHalfOf part xs half → AreValuesOver K part a v → AreFirstValues K half.blocks.now (half.count + half.count) a v
  values_over_half part half xs a v h many is V =
      subst (λ r. AreFirstValues K r (half.count + half.count) a v) (sym is.blocks)
      (subst (λ n. AreFirstValues K part.blocks.now n a v) (sym (half-count part half xs h many is)) V)

-- of what a whole is given each half takes a middle product
pub half-middle : {F : Type 0} (part half : Part F) (xs factor : List F) (given : Multiple F) → IsPart part → 1 < part.count → IsHalfOf part xs half → length factor ≡ part.count → length given.items.items ≡ part.count → length xs ≤ given.end → given.end ≤ part.count → HasMiddle half factor given
half-middle part half xs factor given h many is factors items start end =
    let twice = half-count part half xs h many is in
    record {
      within = subst (λ r. half.count + half.count ≤ size_of r) (sym is.blocks) (omega (arith, twice, h.within));
      factor = factors ∙ sym twice;
      items = items ∙ sym twice;
      start = omega (arith, start, ap length is.points);
      end = omega (arith, end, twice);
    }

-- what calls make for a part of the points: from what all are given and from the others' product a middle product, and from this
-- values
pub record GoesDown {F : Type 0} (K : FieldOn F) (half : Part F) (tree : Tree (FewProducts F) (List F) (Vec F Global)) (factor : List F) (given made : Multiple F) (values : List F) : Type 0 where
  pub end : made.end ≡ length half.points.now
  pub middle : (a s t : ℕ → F) → AreFirstValues K half.blocks.now (half.count + half.count) a factor → AreFirstValues K half.blocks.now (half.count + half.count) s given.items.items
      → IsMiddle K half given (product K a s) t → RepresentsMultiple K half tree made (scaled K given.scale t)
  pub reached : (p s : ℕ → F) → RepresentsMultiple K half tree made s → IsScaledRemainderBefore K made.end (length half.points.now) (nodes K half.points.now) p s
      → HasValues K (length half.points.now) (of_list K half.points.now) (of_list K values) p

-- the part has points and room for all of them, and is given what ends late enough
pub record HasEnough {F : Type 0} (points : List F) (half : Part F) (given : Multiple F) : Type 0 where
  pub some : 0 < length half.points.now
  pub room : length points ≤ half.count + half.count
  pub inside : length half.points.now ≤ given.end

module _ {F : Type 0} (K : FieldOn F) (N : IsField K) (points others : List F) (half : Part F) (parts : AreParts K points half.points.now others) where
  pub values_of_half : (tree : Tree (FewProducts F) (List F) (Vec F Global)) (factor : List F) (given made : Multiple F) (values : List F) → GoesDown K half tree factor given made values → HasEnough points half given → (own p : ℕ → F) → IsBelow K given.end own
      → AreFirstValues K half.blocks.now (half.count + half.count) (nodes K others) factor → AreFirstValues K half.blocks.now (half.count + half.count) own given.items.items
      → IsScaledRemainderBefore K given.end (length points) (nodes K points) p (scaled K given.scale own) → HasValues K (length half.points.now) (of_list K half.points.now) (of_list K values) p
  values_of_half tree factor given made values down enough own p below V S stands =
      let n = length half.points.now in
      let item : ℕ → F = λ j. product K (nodes K others) own (given.end - n + j) in
      down.reached p (scaled K given.scale (cut K n item))
      (down.middle (nodes K others) own (cut K n item) V S (record {
        short = product_of_others-below K N points half.points.now others parts given.end (half.count + half.count) own enough.inside below enough.room;
        below = cut-outside K n item;
        items = cut-inside K n item;
      }))
      (subst (λ e. IsScaledRemainderBefore K e n (nodes K half.points.now) p (scaled K given.scale (cut K n item))) (sym down.end)
      (remainder_of_part K N points half.points.now others parts enough.some given.end enough.inside given.scale p own (cut K n item) (cut-inside K n item) stands))
