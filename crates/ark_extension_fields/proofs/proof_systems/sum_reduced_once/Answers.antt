use Rattle.std.proofs.Common.{ap, ap₂, ◌∙◌}
use Rattle.ark_base.specs.Element32.{numbering, field_of}
use Rattle.ark_base.specs.ResiduesLaws.{residues_laws}
use Rattle.ark_extensions.specs.Elements.{element}
use Rattle.ark_extension_fields.proofs.proof_systems.sum_reduced_once.Goals as goal

pub returns : goal.returns
returns g c =
    let m = g.P.PrimeModulus32 in
    let K = field_of {g = m} m.modulus in
    let assoc = (residues_laws (numbering {g = m} m.modulus) m.modulus.numbers.prime).times_assoc in
    let w = c.args.w in
    let a = c.args.a.now in
    let b = c.args.b.now in
    let x = c.args.c.now in
    let y = c.args.d.now in
    let first =
    c.sum_of_four_products.ensures
    ∙ ap₂ (λ u v. K.plus (K.plus (K.times a.c0 b.c0) u) (K.plus (K.times x.c0 y.c0) v))
    (ap (λ t. K.times t b.c1) c.mul-a_turned.ensures ∙ assoc w a.c1 b.c1)
    (ap (λ t. K.times t y.c1) c.mul-c_turned.ensures ∙ assoc w x.c1 y.c1) in
    ap element (c.new.ensures ∙ ap₂ (λ u v. (u, v)) first c.sum_of_four_products-2.ensures)
