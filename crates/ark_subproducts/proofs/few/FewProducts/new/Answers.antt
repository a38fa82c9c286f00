use Rattle.std.proofs.Common.{◌≡◌, ◌+◌, ◌-◌, ◌/◌, length, take, drop, ap, ap₂, ◌∙◌, arith}
use Rattle.std.proofs.lemmas.List.{length-drop, length-take-le, take_all}
use Rattle.ark_math.specs.Univariate.{of_list, product}
use Rattle.ark_math_polynomials.specs.Nodes.{nodes}
use Rattle.ark_subproducts.proofs.Nodes.{nodes-halves}
use Rattle.ark_subproducts.proofs.few.FewProducts.new.Goals as goal

pub returns : goal.returns
returns g c =
    let K = g.F.Field.field in
    let points = c.args.points.now in
    let n = length points in
    let half = n / 2 in
    let upper : take (n - half) (drop half points) ≡ drop half points = take_all (n - half) (drop half points) (omega (arith, length-drop half points)) in
    let low = c.in_ok-low.ensures in
    let high = c.in_ok-high.ensures in
    let high_is : of_list K c.in_ok-high.high.items ≡ nodes K (drop half points) = high.product ∙ ap (nodes K) upper in
    record {
      whole = c.in_ok-whole.ensures
          ∙ ap₂ (λ a b. product K (of_list K a) (of_list K b)) c.deref.ensures.value c.deref-2.ensures.value
          ∙ ap₂ (product K) low.product high_is
          ∙ nodes-halves K g.met.F.Field.field_laws points half;
      low = low.product;
      low_count = low.len ∙ ap (λ m. m + 1) (length-take-le half points (omega arith));
      high = high_is;
      high_count = high.len ∙ ap (λ m. m + 1) (ap length upper ∙ length-drop half points);
    }
