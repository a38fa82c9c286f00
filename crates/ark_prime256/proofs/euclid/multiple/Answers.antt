use Rattle.std.proofs.Common.{◌-◌, ◌^◌}
use Rattle.std.proofs.lemmas.Nat.{pow_pos}
use Rattle.ark_prime256.proofs.Halvings.{multiple_is, powers_of_word}
use Rattle.ark_prime256.proofs.euclid.multiple.Goals as goal

pub returns : goal.returns
returns c =
    let a = c.args.a in
    let z = c.args.zeros in
    multiple_is a.w0 a.w1 a.w2 a.w3 _ _ _ _ (2 ^ z) (2 ^ (64 - z)) (pow_pos (64 - z)) (powers_of_word z c.requires.few) c.requires.fits c.shifted.ensures c.shifted-2.ensures c.shifted-3.ensures c.shifted-4.ensures
