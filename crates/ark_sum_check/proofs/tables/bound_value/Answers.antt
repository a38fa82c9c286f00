use Rattle.std.proofs.Common.{◌≡◌, ◌+◌, ◌*◌, sym, ap, ap₂, ◌∙◌, arith}
use Rattle.std.proofs.lemmas.List.{get_or_read}
use Rattle.ark_math.specs.Field.{minus}
use Rattle.ark_math.specs.Univariate.{of_list}
use Rattle.ark_math_variables.proofs.Polynomials.Multilinear.{fixed-one}
use Rattle.ark_sum_check.proofs.tables.bound_value.Goals as goal

pub returns : goal.returns
returns g c =
    let K = g.F.Field.field in
    let F = g.met.F.Field in
    let t = c.args.table.now in
    let i = 2 * c.args.corner in
    let low : c.index-table-corner.result ≡ of_list K t i = get_or_read t i c.index-table-corner.result (omega arith) c.index-table-corner.is K.zero in
    let high : c.index-table-corner-2.result ≡ of_list K t (i + 1) = get_or_read t (i + 1) c.index-table-corner-2.result (omega arith) c.index-table-corner-2.is K.zero in
    F.add_law _ _ _ c.add.ensures
    ∙ ap₂ K.plus low (F.mul_law _ _ _ c.mul.ensures ∙ ap (K.times c.args.x) (F.sub_law _ _ _ c.sub.ensures ∙ ap₂ (minus K) high low))
    ∙ sym (ap (λ f. f c.args.corner) (fixed-one K F.field_laws (of_list K t) c.args.x))
