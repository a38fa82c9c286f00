use Rattle.std.proofs.Common.{◌≡◌, ◌+◌, subst, arith}
use Rattle.ark_bit_reversed.specs.Blocks.{element_of}
use Rattle.ark_math_polynomials.specs.Nodes.{nodes}
use Rattle.ark_math.specs.Univariate.{IsValue, of_list}
use Rattle.ark_math.proofs.Outcomes.Results.{IfOk_more}
use Rattle.ark_math_polynomials.proofs.Polynomials.UnivariateValues.{one_value}
use Rattle.rs_code.specs.Locator.{locator_at}
use Rattle.rs_code.proofs.Factors.{nodes-value}
use Rattle.rs_code.proofs.turns.products.values_over.Goals as goal

pub returns-clause-len : goal.returns-clause-len
returns-clause-len g c = IfOk_more c.product_values.result (λ v V. V.len) c.product_values.ensures.values

pub returns-clause-values : goal.returns-clause-values
returns-clause-values g c =
    let K = g.F.Field.field in
    let N = g.met.F.Field.field_laws in
    let rs = c.args.roots.now in
    let x = element_of K c.args.table.now in
    IfOk_more c.product_values.result
    (λ v V i l.
    let place : 0 + i ≡ i = omega arith in
    one_value K N (nodes K rs) (x i) (of_list K v.items i) (locator_at K rs (x i))
    (subst (λ j. IsValue K (nodes K rs) (x j) (of_list K v.items i)) place (V.values i l))
    (nodes-value K N rs (x i)))
    c.product_values.ensures.values
