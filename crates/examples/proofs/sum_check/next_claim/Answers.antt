use Rattle.std.proofs.Common.{◌≡◌, ◌-◌, ◌^◌, ◌∙◌, sym, ap, ap₂}
use Rattle.ark_math.specs.Field.{minus}
use Rattle.ark_math_variables.proofs.Polynomials.Multilinear.{cube_sum-affine}
use Rattle.examples.proofs.sum_check.next_claim.Goals as goal

pub returns : goal.returns
returns g c =
    let K = g.F.Field.field in
    let F = g.met.F.Field in
    let x = c.args.x in
    let line : c.add.result ≡ K.plus c.args.low (K.times x (minus K c.args.high c.args.low)) =
    F.add_law _ _ _ c.add.ensures ∙ ap (K.plus c.args.low) (F.mul_law _ _ _ c.mul.ensures ∙ ap (K.times x) (F.sub_law _ _ _ c.sub.ensures)) in
    record {
      line = line;
      honest = λ t low high. line ∙ ap₂ (λ u v. K.plus u (K.times x (minus K v u))) low high ∙ sym (cube_sum-affine K F.field_laws (2 ^ (t.variables - 1)) t.value x);
    }
