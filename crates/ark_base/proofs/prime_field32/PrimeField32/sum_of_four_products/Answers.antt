use Rattle.std.proofs.Common.{◌+◌, ◌%◌, ap, ap₂, ◌∙◌}
use Rattle.ark_base.proofs.Element32.{four_products_are}
use Rattle.ark_base.proofs.prime_field32.PrimeField32.sum_of_four_products.Goals as goal

pub returns : goal.returns
returns g c =
    let m = g.M.PrimeModulus32 in
    let left = ap₂ (λ x y. x + y) c.word_product.ensures.product c.word_product-2.ensures.product in
    let right = ap₂ (λ x y. x + y) c.word_product-3.ensures.product c.word_product-4.ensures.product in
    four_products_are {g = m} m.modulus c.args.first c.args.second c.args.third c.args.fourth _
    (c.of_word_products.ensures.residue ∙ ap₂ (λ x y. (x + y) % m.MODULUS) left right)
