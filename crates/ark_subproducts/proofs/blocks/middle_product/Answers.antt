use Rattle.std.proofs.Common.{◌≡◌, ℕ, ◌+◌, ◌-◌, ◌<◌, length, refl, sym, ap, ap₂, subst, ◌∙◌, arith}
use Rattle.ark_bit_reversed.specs.Blocks.{AreFirstValues}
use Rattle.ark_math.specs.Univariate.{IsBelow, added, product, scaled}
use Rattle.ark_math_polynomials.proofs.Polynomials.Univariate.{added-below}
use Rattle.ark_subproducts.specs.Tree.{HasRoom, Represents}
use Rattle.ark_subproducts.proofs.Multiples.{scaled_by_half}
use Rattle.ark_subproducts.proofs.Nodes.{own_end}
use Rattle.ark_subproducts.proofs.blocks.middle_product.Goals as goal

pub returns-then-given-len-clause-given : goal.returns-then-given-len-clause-given
returns-then-given-len-clause-given g c =
    let part = c.args.part.now in
    let n = length part.points.now in
    record {
      room = subst (λ tree. HasRoom tree n part.count (length c.in_ok-doubled.doubled.items)) (sym c.in-Halves.is) c.in_ok-doubled.ensures.len;
      end = own_end c.args.tree.now n part.count n refl c.requires.part.room;
    }

pub returns-then-given-len-clause-middle : goal.returns-then-given-len-clause-middle
returns-then-given-len-clause-middle g c =
    let K = g.F.Field.field in
    let N = g.met.F.Field.field_laws in
    let part = c.args.part.now in
    let roots = part.blocks.now in
    let scale = c.args.given.now.scale in
    let n = length part.points.now in
    let count = part.count in
    let is : n ≡ count = c.if-len-part.true in
    let start : c.args.given.now.end - n ≡ count = c.if-given-len.true ∙ is in
    let by : c.mul.result ≡ K.times scale c.half.result = g.met.F.Field.mul_law _ _ _ c.mul.ensures in
    let doubled = c.in_ok-doubled.doubled.items in
    λ a s t A S middle.
    let each : (i : ℕ) → i < count → t i ≡ product K a s (count + i) = λ i l. middle.items i (omega (arith, l, is)) ∙ ap (λ m. product K a s (m + i)) start in
    let below : IsBelow K n (added K t t) = added-below K N n t t middle.below middle.below in
    record {
      own = added K t t;
      below = below;
      represents = subst (λ tree. Represents K roots tree count (added K t t) doubled) (sym c.in-Halves.is)
          (c.in_ok-doubled.ensures.values a s (added K t t) A (subst (AreFirstValues K roots (count + count) s) (sym c.deref.ensures.value) S)
          (subst (λ m. IsBelow K (m + (count + count)) (product K a s)) start middle.short)
          (subst (λ m. IsBelow K m (added K t t)) is below)
          (λ i l. ap₂ K.plus (each i l) (each i l)));
      multiple = ap (λ f. scaled K f (added K t t)) by ∙ scaled_by_half K N scale c.half.result t c.half.ensures;
    }

pub returns-clause-given : goal.returns-clause-given
returns-clause-given g c =
    let part = c.args.part.now in
    let n = length part.points.now in
    record { room = c.in_ok-items.ensures.room; end = own_end c.args.tree.now n part.count n refl c.requires.part.room }

pub returns-clause-middle : goal.returns-clause-middle
returns-clause-middle g c a s t A S middle =
    record { own = t; below = middle.below; represents = c.in_ok-items.ensures.middle a s t A S middle; multiple = refl }
