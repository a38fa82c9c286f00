use Rattle.std.proofs.Common.{◌≡◌, ◌+◌, ◌∷◌, ◌≤◌, length, map, sym, ap, ap₂, subst, ◌∙◌, arith}
use Rattle.std.proofs.lemmas.List.{length-map}
use Rattle.std.proofs.lemmas.Result.{IfOk-weaker}
use Rattle.ark_math.specs.Univariate.{added, of_list}
use Rattle.ark_sharing.specs.Sharing.{AreShares, IsSharing, added_shares}
use Rattle.ark_sharing.proofs.Secrets.{sharing_more}
use Rattle.ark_sharing.proofs.Sums.{length-added_shares}
use Rattle.examples.proofs.shared_sum.sum_from_shares.Goals as goal

pub sum_of_sharings-requires : goal.sum_of_sharings-requires
sum_of_sharings-requires g c =
    record {
      points =
          ap (map (λ s. s.0)) c.deref.ensures.value
          ∙ c.in_ok-left_shares.ensures.points
          ∙ sym c.in_ok-right_shares.ensures.points
          ∙ ap (map (λ s. s.0)) (sym c.deref-2.ensures.value);
    }

pub with_values_added-requires : goal.with_values_added-requires
with_values_added-requires g c =
    let left = c.in_ok-left_shares.left_shares.items in
    let right = c.in_ok-right_shares.right_shares.items in
    let points : map (λ s. s.0) right ≡ map (λ s. s.0) left = c.in_ok-right_shares.ensures.points ∙ sym c.in_ok-left_shares.ensures.points in
    let same : length right ≡ length left = sym (length-map right (λ s. s.0)) ∙ ap length points ∙ length-map left (λ s. s.0) in
    ap length c.deref-4.ensures.value ∙ same ∙ sym (ap length c.deref-3.ensures.value)

pub returns : goal.returns
returns g c =
    let K = g.F.Field.field in
    let N = g.met.F.Field.field_laws in
    let n = length c.args.points.now in
    let s = c.args.left.now.secret in
    let t = c.args.right.now.secret in
    let left_coeffs = c.args.left.now.coeffs.now in
    let right_coeffs = c.args.right.now.coeffs.now in
    let a = of_list K (s ∷ left_coeffs) in
    let b = of_list K (t ∷ right_coeffs) in
    let left = c.deref.result.now in
    let right = c.deref-2.result.now in
    let sums = c.deref-5.result.now in
    let whole : AreShares K (added K a b) (added_shares K left right) =
    c.sum_of_sharings.ensures.shares a b
    (subst (AreShares K a) (sym c.deref.ensures.value) c.in_ok-left_shares.ensures.values)
    (subst (AreShares K b) (sym c.deref-2.ensures.value) c.in_ok-right_shares.ensures.values) in
    let same : sums ≡ added_shares K left right =
    c.deref-5.ensures.value
    ∙ c.in_ok-sums.ensures
    ∙ ap₂ (added_shares K) (c.deref-3.ensures.value ∙ sym c.deref.ensures.value) (c.deref-4.ensures.value ∙ sym c.deref-2.ensures.value) in
    let sharing : IsSharing K n (K.plus s t) (added K a b) =
    c.sum_of_sharings.ensures.sharing n s t a b
    (sharing_more K N (length left_coeffs + 1) n s a (omega (arith, c.in_ok-left_shares.ensures.threshold)) c.in_ok-left_shares.ensures.sharing)
    (sharing_more K N (length right_coeffs + 1) n t b (omega (arith, c.in_ok-right_shares.ensures.threshold)) c.in_ok-right_shares.ensures.sharing) in
    let left_count : length left ≡ n = ap length c.deref.ensures.value ∙ sym (length-map c.in_ok-left_shares.left_shares.items (λ s. s.0)) ∙ ap length c.in_ok-left_shares.ensures.points in
    let right_count : length right ≡ n = ap length c.deref-2.ensures.value ∙ sym (length-map c.in_ok-right_shares.right_shares.items (λ s. s.0)) ∙ ap length c.in_ok-right_shares.ensures.points in
    let enough : n ≤ length sums = omega (arith, ap length same, length-added_shares K N left right (right_count ∙ sym left_count), left_count) in
    IfOk-weaker c.reconstruct.result _ _ (λ r is. is n (K.plus s t) (added K a b) enough sharing (subst (AreShares K (added K a b)) (sym same) whole)) c.reconstruct.ensures.secret
