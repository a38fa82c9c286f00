use Rattle.std.proofs.Common.{◌^◌, ◌≤◌, sym, subst}
use Rattle.ark_sum_check.proofs.Products.{half_few, half_whole, shifted}
use Rattle.ark_sum_check.proofs.prover.half.Goals as goal

pub returns : goal.returns
returns c =
    let n = c.args.num_vars in
    let power = shifted n c.requires.positive c.requires.few in
    record {
      power = power;
      whole = half_whole n _ c.requires.positive power;
      few = subst (λ h. h ≤ 2 ^ 62) (sym power) (half_few n c.requires.positive c.requires.few);
    }
