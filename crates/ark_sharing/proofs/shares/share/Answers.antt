use Rattle.std.proofs.Common.{◌≡◌, ◌+◌, ◌∷◌, length, ap, sym, subst, arith}
use Rattle.std.proofs.lemmas.Result.{IfOk-weaker}
use Rattle.ark_math.specs.Univariate.{of_list}
use Rattle.ark_math.specs.Draws.{AreDrawn}
use Rattle.ark_sharing.specs.Sharing.{IsSharing}
use Rattle.ark_sharing.proofs.Secrets.{sharing_of_list}
use Rattle.ark_sharing.proofs.shares.share.Goals as goal

pub returns-clause-sharing : goal.returns-clause-sharing
returns-clause-sharing g c =
    let K = g.F.Field.field in
    let secret = c.args.secret in
    let coeffs = c.deref.result.now in
    let count : length coeffs + 1 ≡ c.args.k = omega (arith, ap length c.deref.ensures.value, c.in_ok-coeffs.ensures.count) in
    IfOk-weaker c.values_of_sharing.result _ _
    (λ shares h. (of_list K (secret ∷ coeffs), subst (λ n. IsSharing K n secret (of_list K (secret ∷ coeffs))) count (sharing_of_list K g.met.F.Field.field_laws secret coeffs), h))
    c.values_of_sharing.ensures.values

pub returns-clause-drawn : goal.returns-clause-drawn
returns-clause-drawn g c =
    let coeffs = c.deref.result.now in
    let count : length coeffs + 1 ≡ c.args.k = omega (arith, ap length c.deref.ensures.value, c.in_ok-coeffs.ensures.count) in
    let drawn =
    subst (λ values. AreDrawn g.F.Field.draws (g.R.Rng.stream c.args.rng.now) values (g.R.Rng.stream c.drawn.new.rng)) (sym c.deref.ensures.value) c.in_ok-coeffs.ensures.drawn in
    IfOk-weaker c.values_of_sharing.result _ _ (λ shares h. (coeffs, count, drawn, h)) c.values_of_sharing.ensures.values
