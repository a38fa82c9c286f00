use Rattle.std.proofs.Common.{rules, ◌≡◌, ◌-◌, ◌/◌, ◌<◌, length, take, drop, ap₂, ◌∙◌, arith}
use Rattle.std.proofs.lemmas.List.{length-drop, length-take-le}
use Rattle.ark_math.specs.Univariate.{product}
use Rattle.ark_math.proofs.Outcomes.Results.{IfOk_more}
use Rattle.ark_bit_reversed.proofs.Callers.PowersOfTwo.{half_is_power}
use Rattle.ark_subproducts.proofs.Nodes.{nodes-parts}
use Rattle.ark_subproducts.proofs.TableProducts.{enough_for_halves, sixty_four}
use Rattle.ark_subproducts.proofs.products.+product.Goals as goal

pub product-requires : goal.product-requires
product-requires g t c κs within =
    let roots = c.args.points.now in
    let count = c.args.count in
    let n = length roots in
    let many : 40 < n = omega arith in
    let large = sixty_four n count c.requires.power many c.requires.enough in
    let enough = enough_for_halves n count c.requires.power many c.requires.enough in
    let len : length (take (n / 2) roots) ≡ n / 2 = length-take-le (n / 2) roots (omega arith) in (
      omega (arith, len, many),
      (
        search rules,
        (half_is_power count (omega (arith, large)) c.requires.power, (omega (arith, c.requires.within), omega (arith, len, enough))),
      ),
    )

pub product-requires-2 : goal.product-requires-2
product-requires-2 g t c κs within =
    let roots = c.args.points.now in
    let count = c.args.count in
    let n = length roots in
    let many : 40 < n = omega arith in
    let large = sixty_four n count c.requires.power many c.requires.enough in
    let enough = enough_for_halves n count c.requires.power many c.requires.enough in
    let len : length (take (n - n / 2) (drop (n / 2) roots)) ≡ n - n / 2 = length-take-le (n - n / 2) (drop (n / 2) roots) (omega (arith, length-drop (n / 2) roots)) in (
      omega (arith, len, many),
      (
        search rules,
        (half_is_power count (omega (arith, large)) c.requires.power, (omega (arith, c.requires.within), omega (arith, len, enough))),
      ),
    )

pub joined-requires-clause-low : goal.joined-requires-clause-low
joined-requires-clause-low g t c =
    let many : 40 < length c.args.points.now = omega arith in
    c.in_ok-low.ensures.begun c.args.count (sixty_four (length c.args.points.now) c.args.count c.requires.power many c.requires.enough) (omega arith)

pub joined-requires-clause-high : goal.joined-requires-clause-high
joined-requires-clause-high g t c =
    let many : 40 < length c.args.points.now = omega arith in
    c.in_ok-high.ensures.begun c.args.count (sixty_four (length c.args.points.now) c.args.count c.requires.power many c.requires.enough) (omega arith)

pub returns-clause-product : goal.returns-clause-product
returns-clause-product g t c =
    let K = g.F.Field.field in
    let whole = ap₂ (product K) c.in_ok-low.ensures.product c.in_ok-high.ensures.product ∙ nodes-parts K g.met.F.Field.field_laws c.args.points.now (length c.args.points.now / 2) in
    IfOk_more c.joined.result (λ p h. h ∙ whole) c.joined.ensures.product

pub returns-clause-begun : goal.returns-clause-begun
returns-clause-begun g t c = IfOk_more c.joined.result (λ p h n large more. h n more) c.joined.ensures.begun
