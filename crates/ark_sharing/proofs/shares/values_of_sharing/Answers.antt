use Rattle.std.proofs.Common.{◌≡◌, ◌∷◌, [], ◌++◌, length, sym, ap, subst, ◌∙◌, arith}
use Rattle.std.proofs.lemmas.List.{length-map}
use Rattle.ark_math.specs.Univariate.{of_list, IsValue}
use Rattle.ark_math_points.specs.AtPoints.{x_of, y_of}
use Rattle.ark_math_points.proofs.AtPoints.PairParts.{x_of_is, y_of_is}
use Rattle.ark_sharing.proofs.shares.values_of_sharing.Goals as goal

pub returns-clause-values : goal.returns-clause-values
returns-clause-values g c =
    let K = g.F.Field.field in
    let points = c.args.points.now in
    let secret = c.args.secret in
    let coeffs = c.args.coeffs.now in
    let a = of_list K (secret ∷ coeffs) in
    let values = c.in_ok-values.values.items in
    let shares = c.in_ok-paired.field-0.items in
    let first = c.in_ok-push.ensures.items ∙ ap (λ t. t ++ secret ∷ []) c.in_ok-all.ensures.items in
    let same : of_list K c.from_coefficients_vec-polynomial.result ≡ a =
    c.from_coefficients_vec-polynomial.ensures.coefficients ∙ ap (of_list K) (c.in_ok-extend_from_slice.ensures.items ∙ ap (λ t. t ++ coeffs) first) in
    let xs : of_list K points ≡ x_of K shares = sym (ap (of_list K) c.in_ok-paired.ensures.points) ∙ x_of_is K shares in
    let ys : of_list K values ≡ y_of K shares = sym (ap (of_list K) (c.in_ok-paired.ensures.values ∙ c.deref.ensures.value)) ∙ y_of_is K shares in
    let len : length shares ≡ length points = sym (length-map shares (λ p. p.0)) ∙ ap length c.in_ok-paired.ensures.points in
    λ i l.
    subst (λ s. IsValue K a (s i) (y_of K shares i)) xs
    (subst (λ t. IsValue K a (of_list K points i) (t i)) ys
    (subst (λ b. IsValue K b (of_list K points i) (of_list K values i)) same (c.in_ok-values.ensures.values i (omega (arith, l, len)))))
