use Rattle.std.proofs.Common.{◌≡◌, length, sym, ap, subst₂, ◌∙◌, arith}
use Rattle.std.proofs.lemmas.List.{length-map}
use Rattle.std.proofs.lemmas.Result.{IfOk-weaker}
use Rattle.ark_math.specs.Univariate.{of_list, IsValue}
use Rattle.ark_math_polynomials.proofs.Polynomials.Univariate.{IsBelow-more}
use Rattle.ark_math_polynomials.proofs.Polynomials.UnivariateLists.{of_list-below}
use Rattle.ark_math_points.specs.AtPoints.{HasRepeated, x_of, y_of}
use Rattle.ark_math_points.proofs.AtPoints.PairParts.{x_of_is, y_of_is}
use Rattle.ark_points.proofs.laws.values_and_back.Goals as goal

pub returns-clause-same : goal.returns-clause-same
returns-clause-same g c =
    let K = g.F.Field.field in
    let points = c.args.points.now in
    let a = c.args.polynomial.now in
    let values = c.in_ok-values.values.items in
    let pairs = c.deref-2.result.now in
    let is : pairs ≡ c.in_ok-paired.field-0.items = c.deref-2.ensures.value in
    let xs : x_of K pairs ≡ of_list K points = ap (x_of K) is ∙ sym (x_of_is K c.in_ok-paired.field-0.items) ∙ ap (of_list K) c.in_ok-paired.ensures.points in
    let ys : y_of K pairs ≡ of_list K values = ap (y_of K) is ∙ sym (y_of_is K c.in_ok-paired.field-0.items) ∙ ap (of_list K) (c.in_ok-paired.ensures.values ∙ c.deref.ensures.value) in
    let len : length pairs ≡ length points = ap length is ∙ sym (length-map c.in_ok-paired.field-0.items (λ p. p.0)) ∙ ap length c.in_ok-paired.ensures.points in
    IfOk-weaker c.from_points.result _ _
    (λ p only. sym (only (of_list K a)
    (IsBelow-more K (length a) (length pairs) (of_list K a) (omega (arith, c.requires, len)) (of_list-below K a))
    (λ i l. subst₂ (λ s t. IsValue K (of_list K a) (s i) (t i)) (sym xs) (sym ys) (c.in_ok-values.ensures.values i (omega (arith, l, len))))))
    c.from_points.ensures.only

pub returns-clause-repeated : goal.returns-clause-repeated
returns-clause-repeated g c =
    let K = g.F.Field.field in
    let points = c.args.points.now in
    let pairs = c.deref-2.result.now in
    let is : pairs ≡ c.in_ok-paired.field-0.items = c.deref-2.ensures.value in
    let xs : x_of K pairs ≡ of_list K points = ap (x_of K) is ∙ sym (x_of_is K c.in_ok-paired.field-0.items) ∙ ap (of_list K) c.in_ok-paired.ensures.points in
    let len : length pairs ≡ length points = ap length is ∙ sym (length-map c.in_ok-paired.field-0.items (λ p. p.0)) ∙ ap length c.in_ok-paired.ensures.points in
    λ e. subst₂ HasRepeated len xs (c.from_points.ensures.repeated e)
