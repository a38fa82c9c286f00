use Rattle.std.proofs.Common.{◌≡◌, ap, ap₂, ◌∙◌}
use Rattle.ark_math.specs.Field.{minus}
use Rattle.ark_extensions.specs.Elements.{element}
use Rattle.ark_extensions.specs.QuadraticLaws.{karatsuba}
use Rattle.ark_extensions.proofs.modulus.QuadraticModulus.product.Goals as goal

pub returns : goal.returns
returns g c =
    let K = g.F.Field.field in
    let w = g.Self.QuadraticModulus.non_residue in
    let L = g.met.F.Field in
    let a = c.args.a.now in
    let b = c.args.b.now in
    let low : c.mul-low.result ≡ K.times a.c0 b.c0 = L.mul_law _ _ _ c.mul-low.ensures in
    let high : c.mul-high.result ≡ K.times a.c1 b.c1 = L.mul_law _ _ _ c.mul-high.ensures in
    let sums : c.mul-sums.result ≡ K.times (K.plus a.c0 a.c1) (K.plus b.c0 b.c1) =
    L.mul_law _ _ _ c.mul-sums.ensures ∙ ap₂ K.times (L.add_law _ _ _ c.add.ensures) (L.add_law _ _ _ c.add-2.ensures) in
    let first = L.add_law _ _ _ c.add-3.ensures ∙ ap₂ K.plus low (c.times_non_residue.ensures ∙ ap (K.times w) high) in
    let second =
    L.sub_law _ _ _ c.sub-2.ensures
    ∙ ap₂ (minus K) (L.sub_law _ _ _ c.sub.ensures ∙ ap₂ (minus K) sums low) high
    ∙ karatsuba K L.field_laws w a.c0 a.c1 b.c0 b.c1 in
    ap element (c.new.ensures ∙ ap₂ (λ x y. (x, y)) first second)
