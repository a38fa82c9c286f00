use Rattle.std.proofs.Common.{◌≡◌, length, map, sym, ap, subst₂, ◌∙◌, true≢false}
use Rattle.std.proofs.lemmas.List.{length-map}
use Rattle.ark_math.specs.Univariate.{of_list}
use Rattle.ark_math_points.specs.AtPoints.{AreDifferent, HasRepeated, x_of, y_of}
use Rattle.ark_math_points.proofs.AtPoints.Newton.{only_interpolation}
use Rattle.ark_math_points.proofs.AtPoints.PairParts.{x_of_is}
use Rattle.ark_points.proofs.interpolation.naive_from_points.Goals as goal

pub through_different-requires : goal.through_different-requires
through_different-requires g c =
    let K = g.F.Field.field in
    let points = c.args.points.now in
    let xs : c.deref.result.now ≡ map (λ p. p.0) points = c.deref.ensures.value ∙ c.in_ok-xs.ensures in
    λ i j l b e. true≢false (sym (c.has_repeated.ensures.1
    (subst₂ HasRepeated (sym (ap length xs ∙ length-map points (λ p. p.0))) (sym (ap (of_list K) xs ∙ x_of_is K points)) (i, j, l, b, e))) ∙ c.if-has_repeated.false)

pub returns-then-has_repeated-clause-repeated : goal.returns-then-has_repeated-clause-repeated
returns-then-has_repeated-clause-repeated g c =
    let K = g.F.Field.field in
    let points = c.args.points.now in
    let xs : c.deref.result.now ≡ map (λ p. p.0) points = c.deref.ensures.value ∙ c.in_ok-xs.ensures in
    λ e. subst₂ HasRepeated (ap length xs ∙ length-map points (λ p. p.0)) (ap (of_list K) xs ∙ x_of_is K points) (c.has_repeated.ensures.0 c.if-has_repeated.true)

pub returns-clause-only : goal.returns-clause-only
returns-clause-only g c =
    let K = g.F.Field.field in
    let points = c.args.points.now in
    let xs : c.deref.result.now ≡ map (λ p. p.0) points = c.deref.ensures.value ∙ c.in_ok-xs.ensures in
    let different : AreDifferent (length points) (x_of K points) =
    λ i j l b e. true≢false (sym (c.has_repeated.ensures.1
    (subst₂ HasRepeated (sym (ap length xs ∙ length-map points (λ p. p.0))) (sym (ap (of_list K) xs ∙ x_of_is K points)) (i, j, l, b, e))) ∙ c.if-has_repeated.false) in
    let h = c.in_ok-through_different.ensures in
    λ a below values. only_interpolation K g.met.F.Field.field_laws (x_of K points) (y_of K points) (length points) different a _ below h.below values h.values

pub returns-clause-different : goal.returns-clause-different
returns-clause-different g c =
    let K = g.F.Field.field in
    let points = c.args.points.now in
    let xs : c.deref.result.now ≡ map (λ p. p.0) points = c.deref.ensures.value ∙ c.in_ok-xs.ensures in
    let different : AreDifferent (length points) (x_of K points) =
    λ i j l b e. true≢false (sym (c.has_repeated.ensures.1
    (subst₂ HasRepeated (sym (ap length xs ∙ length-map points (λ p. p.0))) (sym (ap (of_list K) xs ∙ x_of_is K points)) (i, j, l, b, e))) ∙ c.if-has_repeated.false) in
    let h = c.in_ok-through_different.ensures in
    different
