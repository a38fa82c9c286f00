use Rattle.std.proofs.Common.{rules, ◌≢◌, ◌*◌, ◌/◌, ◌<◌, sym, ap, ◌∙◌, arith}
use Rattle.std.proofs.lemmas.Bool.{false≢true}
use Rattle.ark_bit_reversed.specs.Blocks.{element_of}
use Rattle.ark_math.specs.Field.{power}
use Rattle.ark_bit_reversed.proofs.Callers.PowersOfTwo.{half_is_power, some_power, two_halves}
use Rattle.ark_subproducts.proofs.RootPlaces.{second_root, square_of_root}
use Rattle.ark_subproducts.proofs.roots.+index_of.Goals as goal

pub index_of-first-requires : goal.index_of-first-requires
index_of-first-requires g t c κs within =
    let K = g.F.Field.field in
    let N = g.met.F.Field.field_laws in
    let count = c.args.count in
    let many : 1 < count = omega (arith, some_power count c.requires.power) in (
      omega (arith, many),
      (
        search rules,
        (
          c.requires.elements,
          (
            half_is_power count many c.requires.power,
            (
              omega (arith, c.requires.within),
              ap (λ r. power K r (count / 2)) (g.met.F.Field.mul_law _ _ _ c.mul.ensures) ∙ square_of_root K N c.args.root count many c.requires.power c.requires.root,
            ),
          ),
        ),
      ),
    )

pub returns-else-eq-clause-is : goal.returns-else-eq-clause-is
returns-else-eq-clause-is g t c =
    let K = g.F.Field.field in
    let x = element_of K c.args.blocks.now in
    let j = c.index_of-first.result in
    let other : x (2 * j) ≢ c.args.root = λ e. false≢true (sym c.if-eq.false ∙ c.eq.ensures ∙ (g.met.F.Field.equality_law c.element.result c.args.root).1 (c.element.ensures ∙ e)) in
    second_root K g.met.F.Field.field_laws _ x j c.args.root c.requires.elements
    (let halves = two_halves c.args.count (omega (arith, some_power c.args.count c.requires.power)) c.requires.power in omega (arith, c.index_of-first.ensures.below, c.requires.within, halves))
    (c.index_of-first.ensures.is ∙ g.met.F.Field.mul_law _ _ _ c.mul.ensures) other
