use Rattle.std.proofs.Common.{pos_of_ne-zero}
use Rattle.std.specs.Int.{w64, trailing_zeros}
use Rattle.std.proofs.lemmas.Nat.Bits.{bit_at-trailing_zeros}
use Rattle.ark_prime256.proofs.Halvings.{zeros_below, some_zeros}
use Rattle.ark_prime256.proofs.euclid.low_zeros.Goals as goal

pub returns-else-word-eq0-clause-some : goal.returns-else-word-eq0-clause-some
returns-else-word-eq0-clause-some c =
    let h = bit_at-trailing_zeros w64 c.args.word (pos_of_ne-zero c.if-word-eq0.false) c.ranges.word.fits in
    some_zeros c.args.word (trailing_zeros w64 c.args.word) c.requires h.1

pub returns-else-word-eq0-clause-zeros : goal.returns-else-word-eq0-clause-zeros
returns-else-word-eq0-clause-zeros c =
    let h = bit_at-trailing_zeros w64 c.args.word (pos_of_ne-zero c.if-word-eq0.false) c.ranges.word.fits in
    zeros_below c.args.word (trailing_zeros w64 c.args.word) h.2
