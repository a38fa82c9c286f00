use Rattle.std.proofs.Common.{◌≡◌, ◌+◌, ◌<◌, ◌≤◌, ◌^◌, arith}
use Rattle.std.proofs.Math.Pow.{pow_mono}
use Rattle.ark_math_transforms.specs.BitReversal.{reversed}
use Rattle.ark_math_transforms.proofs.Numbers.BitReversal.{reversed_below}
use Rattle.ark_fft.proofs.Carries.{carried_more, carried_last}
use Rattle.ark_fft.proofs.domain.radix2.bit_reversal.next_reversed.Goals as goal

pub carry-preserved : goal.carry-preserved
carry-preserved c =
    carried_more c.args.levels c.args._i c.carry.left c.carry.bit c.carry.invariant c.carry-test.true

pub overflow_add-result : goal.overflow_add-result
overflow_add-result c =
    let n = c.args.levels in
    let below : c.carry.left < c.carry.bit = omega (arith, c.carry-test.false) in
    let is : c.carry.left + c.carry.bit ≡ reversed n (c.args._i + 1) = carried_last n c.args._i c.carry.left c.carry.bit c.carry.invariant below in
    let fits : reversed n (c.args._i + 1) < 2 ^ n = reversed_below n (c.args._i + 1) c.requires.within in
    let levels : n ≤ 64 = omega (arith, c.requires.few) in
    omega (arith, is, fits, pow_mono levels)

pub returns : goal.returns
returns c =
    carried_last c.args.levels c.args._i c.carry.left c.carry.bit c.carry.invariant (omega (arith, c.carry-test.false))
