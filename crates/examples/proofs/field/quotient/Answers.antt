use Rattle.std.proofs.Common.{◌≡◌, ap, ◌∙◌}
use Rattle.examples.proofs.field.quotient.Goals as goal

-- b * (a * i) is a * (i * b), where i is the inverse of b
pub returns-clause-some : goal.returns-clause-some
returns-clause-some g c =
    let K = g.F.Field.field in
    let laws = g.met.F.Field.field_laws in
    let a = c.args.a in
    let b = c.args.b in
    let i = c.in_ok-inverse.field-0 in
    let product : c.mul.result ≡ K.times a i = g.met.F.Field.mul_law a i c.mul.result c.mul.ensures in
    let inverse : K.times b i ≡ K.one = c.in_ok-inverse.ensures.some in
    ap (K.times b) product
    ∙ (laws.times_comm b (K.times a i)
    ∙ (laws.times_assoc a i b
    ∙ (ap (K.times a) (laws.times_comm i b ∙ inverse) ∙ laws.times_one a)))
