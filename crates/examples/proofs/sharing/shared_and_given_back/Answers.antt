use Rattle.std.proofs.Common.{◌≡◌, ◌-◌, ◌≤◌, length, take, drop, sym, ap, subst, ◌∙◌, arith}
use Rattle.std.proofs.lemmas.List.{length-drop, length-map}
use Rattle.std.proofs.lemmas.Result.{IfOk-weaker}
use Rattle.std.proofs.Math.Seq.{take-length}
use Rattle.ark_sharing.specs.Sharing.{AreShares}
use Rattle.ark_sharing.proofs.Some.{last_shares}
use Rattle.examples.proofs.sharing.shared_and_given_back.Goals as goal

pub returns : goal.returns
returns g c =
    let K = g.F.Field.field in
    let k = c.args.k in
    let of = c.in_ok-shares.ensures.sharing in
    let shares = c.deref.result.now in
    let m = c.len.result - k in
    let whole : AreShares K of.0 shares = subst (AreShares K of.0) (sym c.deref.ensures.value) of.2 in
    let some : take (length shares - m) (drop m shares) ≡ drop m shares = ap (λ n. take n (drop m shares)) (sym (length-drop m shares)) ∙ take-length (drop m shares) in
    let count : length shares ≡ c.len.result = c.deref.ensures.len ∙ sym c.len.ensures in
    let given = c.in_ok-shares.shares.items in
    let all : length given ≡ length c.args.points.now = sym (length-map given (λ s. s.0)) ∙ ap length c.in_ok-shares.ensures.points in
    let enough : k ≤ length (take (length shares - m) (drop m shares)) = omega (arith, ap length some, length-drop m shares, count, ap length c.deref.ensures.value, all, c.in_ok-shares.ensures.threshold.1) in
    record {
      secret =
          IfOk-weaker c.reconstruct.result _ _
          (λ s is. is k c.args.secret of.0 enough of.1 (subst (AreShares K of.0) (sym some) (last_shares K of.0 shares m whole)))
          c.reconstruct.ensures.secret;
    }
