use Rattle.std.proofs.Common.{◌-◌, ◌^◌}
use Rattle.std.proofs.lemmas.Nat.{pow_pos}
use Rattle.ark_prime256.proofs.Halvings.{shift_fits, shift_is, powers_of_word}
use Rattle.ark_prime256.proofs.euclid.shifted.Goals as goal

pub overflow_add-result : goal.overflow_add-result
overflow_add-result c =
    let b = c.args.bits in
    record { fits = shift_fits c.args.low c.args.high (2 ^ b) (2 ^ (64 - b)) (pow_pos b) (powers_of_word b c.requires.few) c.ranges.low.fits }

pub returns : goal.returns
returns c =
    let b = c.args.bits in
    shift_is c.args.low c.args.high (2 ^ b) (2 ^ (64 - b)) (pow_pos b) (powers_of_word b c.requires.few)
