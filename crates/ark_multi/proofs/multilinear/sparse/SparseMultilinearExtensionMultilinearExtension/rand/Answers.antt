use Rattle.std.proofs.Common.{◌≤◌, ◌/◌, ◌^◌, arith}
use Rattle.std.proofs.Math.Pow.{pow_mono}
use Rattle.ark_multi.proofs.multilinear.sparse.SparseMultilinearExtensionMultilinearExtension.rand.Goals as goal

pub rand_with_config-requires-clause-room : goal.rand_with_config-requires-clause-room
rand_with_config-requires-clause-room g c =
    let n = c.args.num_vars in
    let half : n / 2 ≤ n = omega arith in
    let fewer : 2 ^ (n / 2) ≤ 2 ^ n = pow_mono half in
    omega arith
