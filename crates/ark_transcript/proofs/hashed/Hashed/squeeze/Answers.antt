use Rattle.std.proofs.Common.{◌/◌, ◌%◌, length, slice_index, arith}
use Rattle.ark_math.proofs.Lists.Tabulated.{is_tabulated}
use Rattle.ark_transcript.specs.Challenges.{block}
use Rattle.ark_transcript.proofs.hashed.Hashed.squeeze.Goals as goal

pub returns : goal.returns
returns c =
    let done = c.bytes-test.false in
    let within = c.bytes.auto.i-end in
    is_tabulated 0 c.bytes.out (length c.args.out.now) (λ j. slice_index (block c.args.self.now (j / 32)) (j % 32)) c.bytes.auto.out
    (λ j l. c.bytes.invariant.filled j (omega (arith, l, done, within)))
