use Rattle.std.proofs.Common.{◌≡◌, Err, length, map, sym, ap, subst₂, ◌∙◌}
use Rattle.std.proofs.lemmas.List.{length-map}
use Rattle.ark_math.specs.Univariate.{of_list}
use Rattle.ark_math_points.specs.AtPoints.{AreDifferent, AreWeightsAt, HasRepeated, x_of, y_of}
use Rattle.ark_math_points.proofs.AtPoints.PairParts.{x_of_is}
use Rattle.ark_sharing.proofs.Secrets.{secret_is}
use Rattle.ark_sharing.proofs.reconstruction.reconstruct.Goals as goal

pub weighted_sum-requires : goal.weighted_sum-requires
weighted_sum-requires g c =
    let shares = c.args.shares.now in
    let list : c.deref.result.now ≡ map (λ p. p.0) shares = c.deref.ensures.value ∙ c.in_ok-points.ensures in
    ap length c.deref-in-Ok.ensures.value ∙ c.in-Ok.ensures.weights.count ∙ ap length list ∙ length-map shares (λ p. p.0)

pub returns-in-Ok-clause-secret : goal.returns-in-Ok-clause-secret
returns-in-Ok-clause-secret g c =
    let K = g.F.Field.field in
    let shares = c.args.shares.now in
    let list : c.deref.result.now ≡ map (λ p. p.0) shares = c.deref.ensures.value ∙ c.in_ok-points.ensures in
    let xs : of_list K c.deref.result.now ≡ x_of K shares = ap (of_list K) list ∙ x_of_is K shares in
    let len : length c.deref.result.now ≡ length shares = ap length list ∙ length-map shares (λ p. p.0) in
    let weights = c.deref-in-Ok.result.now in
    let here : AreWeightsAt K (length c.deref.result.now) (of_list K c.deref.result.now) K.zero weights =
    subst₂ (λ t w. AreWeightsAt K (length c.deref.result.now) (of_list K c.deref.result.now) t w) (c.zero.ensures ∙ g.met.F.Field.zero_law) (sym c.deref-in-Ok.ensures.value) c.in-Ok.ensures.weights in
    let is : AreWeightsAt K (length shares) (x_of K shares) K.zero weights = subst₂ (λ n x. AreWeightsAt K n x K.zero weights) len xs here in
    λ k secret a l h values. secret_is K g.met.F.Field.field_laws (length shares) k (x_of K shares) (y_of K shares) weights secret c.weighted_sum.result a is l h values c.weighted_sum.ensures

pub returns-in-Ok-clause-different : goal.returns-in-Ok-clause-different
returns-in-Ok-clause-different g c =
    let K = g.F.Field.field in
    let shares = c.args.shares.now in
    let list : c.deref.result.now ≡ map (λ p. p.0) shares = c.deref.ensures.value ∙ c.in_ok-points.ensures in
    subst₂ (λ n x. AreDifferent n x) (ap length list ∙ length-map shares (λ p. p.0)) (ap (of_list K) list ∙ x_of_is K shares) c.in-Ok.ensures.different

pub returns-clause-repeated : goal.returns-clause-repeated
returns-clause-repeated g c =
    let K = g.F.Field.field in
    let shares = c.args.shares.now in
    let list : c.deref.result.now ≡ map (λ p. p.0) shares = c.deref.ensures.value ∙ c.in_ok-points.ensures in
    λ e. subst₂ HasRepeated (ap length list ∙ length-map shares (λ p. p.0)) (ap (of_list K) list ∙ x_of_is K shares) (c.weights_at.ensures.repeated (c.in-Err-RepeatedPoint.is ∙ ap Err c.in-Err-RepeatedPoint.field-0-is))
