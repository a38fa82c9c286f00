use Rattle.std.proofs.Common.{◌≡◌, ℕ, ◌+◌, ◌<◌, subst, ap, ◌∙◌, length, arith}
use Rattle.ark_math.specs.Univariate.{IsBelow, of_list, product}
use Rattle.ark_math_polynomials.proofs.Polynomials.UnivariateLists.{of_list-below}
use Rattle.ark_math_polynomials.specs.Nodes.{nodes}
use Rattle.ark_subproducts.proofs.PastProducts.{past_points, values_past}
use Rattle.ark_subproducts.proofs.few.write_values_of_remainder.Goals as goal

pub returns-clause-values : goal.returns-clause-values
returns-clause-values g c p stands =
    let K = g.F.Field.field in
    let N = g.met.F.Field.field_laws in
    let points = c.args.points.now in
    let n = length points in
    let s = of_list K c.args.given.now in
    let past = c.copy_from_slice.new.self in
    let below : IsBelow K n s = subst (λ m. IsBelow K m s) c.requires.given (of_list-below K c.args.given.now) in
    let each : (j : ℕ) → j < n → of_list K past j ≡ product K (nodes K points) s (n + j) = λ j l.
    ap (λ t. of_list K t j) c.copy_from_slice.ensures.after
    ∙ c.write_part.ensures.part j (omega (arith, l, c.requires.len))
    ∙ ap (λ a. product K a s (n + j)) c.requires.over_points in
    values_past K N points s past below p c.write_values_of.new.values
    (past_points K N points s past below (ap length c.copy_from_slice.ensures.after ∙ c.write_part.ensures.len ∙ c.requires.len) each)
    c.write_values_of.ensures.values stands
