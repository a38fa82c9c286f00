use Rattle.std.proofs.Common.{◌≡◌, length, map, sym, ap, subst, ◌∙◌, arith}
use Rattle.std.proofs.lemmas.List.{length-map}
use Rattle.ark_math.specs.Univariate.{of_list, IsValue}
use Rattle.ark_math_polynomials.proofs.Polynomials.UnivariateValues.{one_value}
use Rattle.ark_math_points.specs.AtPoints.{x_of, y_of}
use Rattle.ark_math_points.proofs.AtPoints.PairParts.{same_items, x_of_is, y_of_is}
use Rattle.ark_points.proofs.laws.points_and_back.Goals as goal

pub returns-clause-same : goal.returns-clause-same
returns-clause-same g c =
    let K = g.F.Field.field in
    let points = c.args.points.now in
    let a = of_list K c.in_ok-polynomial.polynomial in
    let v = c.in_ok-evaluate_at.field-0.items in
    let list : c.deref.result.now ≡ map (λ p. p.0) points = c.deref.ensures.value ∙ c.in_ok-first_parts.ensures in
    let xs : of_list K c.deref.result.now ≡ x_of K points = ap (of_list K) list ∙ x_of_is K points in
    let count : length c.deref.result.now ≡ length points = ap length list ∙ length-map points (λ p. p.0) in
    let many : length (map (λ p. p.1) points) ≡ length points = length-map points (λ p. p.1) in
    same_items K v (map (λ p. p.1) points) (c.in_ok-evaluate_at.ensures.len ∙ count ∙ sym many)
    (λ i l.
    one_value K g.met.F.Field.field_laws a (x_of K points i) (of_list K v i) (y_of K points i)
    (subst (λ x. IsValue K a (x i) (of_list K v i)) xs (c.in_ok-evaluate_at.ensures.values i (omega (arith, l, many, count))))
    (c.in_ok-polynomial.ensures.values i (omega (arith, l, many)))
    ∙ sym (ap (λ y. y i) (y_of_is K points)))
