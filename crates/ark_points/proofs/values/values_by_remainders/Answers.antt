use Rattle.std.proofs.Common.{◌≡◌, length, sym, subst}
use Rattle.std.proofs.lemmas.Result.{IfOk-weaker}
use Rattle.ark_math.specs.Univariate.{of_list}
use Rattle.ark_subproducts.specs.Tree.{IsTreeOver}
use Rattle.ark_subproducts.proofs.Callers.Values.{values_of_remainder}
use Rattle.ark_points.proofs.values.values_by_remainders.Goals as goal

pub remainder-requires : goal.remainder-requires
remainder-requires g c =
    let K = g.F.Field.field in
    let points = c.args.points.now in
    record { monic = (length points, c.product.ensures.monic points (subst (IsTreeOver K points) (sym c.deref.ensures) c.in_ok-tree.ensures.tree)) }

pub returns-clause-values : goal.returns-clause-values
returns-clause-values g c =
    let K = g.F.Field.field in
    let points = c.args.points.now in
    let is = c.product.ensures.product points (subst (IsTreeOver K points) (sym c.deref.ensures) c.in_ok-tree.ensures.tree) in
    IfOk-weaker c.values.result _ _
    (λ v h. record {
      len = h.len;
      values = values_of_remainder K g.met.F.Field.field_laws (of_list K c.args.polynomial.now) (of_list K c.in_ok-rest.rest) (of_list K c.product.result.now) points v.items is c.in_ok-rest.ensures.remainder h.values;
    })
    c.values.ensures.values
