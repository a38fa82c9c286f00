use Rattle.std.proofs.Common.{◌≡◌, length, sym, ap, subst, subst₂, ◌∙◌, arith}
use Rattle.std.proofs.lemmas.List.{length-map}
use Rattle.std.proofs.lemmas.Result.{IfOk-weaker}
use Rattle.ark_math_points.specs.AtPoints.{AreDifferent, x_of, y_of}
use Rattle.ark_math.specs.Univariate.{of_list, IsBelow, IsValue}
use Rattle.ark_math_points.proofs.AtPoints.PairParts.{x_of_is, y_of_is}
use Rattle.ark_words.proofs.interpolations.through.Goals as goal

pub returns-clause-below : goal.returns-clause-below
returns-clause-below g c =
    let K = g.F.Field.field in
    let pairs = c.deref.result.now in
    let is : pairs ≡ c.in_ok-paired.field-0.items = c.deref.ensures.value in
    let len : length pairs ≡ length c.args.points.now = ap length is ∙ sym (length-map c.in_ok-paired.field-0.items (λ p. p.0)) ∙ ap length c.in_ok-paired.ensures.points in
    IfOk-weaker c.from_points.result _ _ (λ p h. subst (λ n. IsBelow K n (of_list K p)) len h) c.from_points.ensures.below

pub returns-clause-values : goal.returns-clause-values
returns-clause-values g c =
    let K = g.F.Field.field in
    let points = c.args.points.now in
    let values = c.args.values.now in
    let pairs = c.deref.result.now in
    let is : pairs ≡ c.in_ok-paired.field-0.items = c.deref.ensures.value in
    let xs : x_of K pairs ≡ of_list K points = ap (x_of K) is ∙ sym (x_of_is K c.in_ok-paired.field-0.items) ∙ ap (of_list K) c.in_ok-paired.ensures.points in
    let ys : y_of K pairs ≡ of_list K values = ap (y_of K) is ∙ sym (y_of_is K c.in_ok-paired.field-0.items) ∙ ap (of_list K) c.in_ok-paired.ensures.values in
    let len : length pairs ≡ length points = ap length is ∙ sym (length-map c.in_ok-paired.field-0.items (λ p. p.0)) ∙ ap length c.in_ok-paired.ensures.points in
    IfOk-weaker c.from_points.result _ _
    (λ p h i l. subst₂ (λ s t. IsValue K (of_list K p) (s i) (t i)) xs ys (h i (omega (arith, l, len))))
    c.from_points.ensures.values

pub returns-clause-only : goal.returns-clause-only
returns-clause-only g c =
    let K = g.F.Field.field in
    let points = c.args.points.now in
    let values = c.args.values.now in
    let pairs = c.deref.result.now in
    let is : pairs ≡ c.in_ok-paired.field-0.items = c.deref.ensures.value in
    let xs : x_of K pairs ≡ of_list K points = ap (x_of K) is ∙ sym (x_of_is K c.in_ok-paired.field-0.items) ∙ ap (of_list K) c.in_ok-paired.ensures.points in
    let ys : y_of K pairs ≡ of_list K values = ap (y_of K) is ∙ sym (y_of_is K c.in_ok-paired.field-0.items) ∙ ap (of_list K) c.in_ok-paired.ensures.values in
    let len : length pairs ≡ length points = ap length is ∙ sym (length-map c.in_ok-paired.field-0.items (λ p. p.0)) ∙ ap length c.in_ok-paired.ensures.points in
    IfOk-weaker c.from_points.result _ _
    (λ p only a below has. only a (subst (λ n. IsBelow K n a) (sym len) below)
    (λ i l. subst₂ (λ s t. IsValue K a (s i) (t i)) (sym xs) (sym ys) (has i (omega (arith, l, len)))))
    c.from_points.ensures.only

pub returns-clause-different : goal.returns-clause-different
returns-clause-different g c =
    let K = g.F.Field.field in
    let points = c.args.points.now in
    let pairs = c.deref.result.now in
    let is : pairs ≡ c.in_ok-paired.field-0.items = c.deref.ensures.value in
    let xs : x_of K pairs ≡ of_list K points = ap (x_of K) is ∙ sym (x_of_is K c.in_ok-paired.field-0.items) ∙ ap (of_list K) c.in_ok-paired.ensures.points in
    let len : length pairs ≡ length points = ap length is ∙ sym (length-map c.in_ok-paired.field-0.items (λ p. p.0)) ∙ ap length c.in_ok-paired.ensures.points in
    IfOk-weaker c.from_points.result _ _ (λ p different. subst₂ AreDifferent len xs different) c.from_points.ensures.different
