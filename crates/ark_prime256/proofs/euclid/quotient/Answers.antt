use Rattle.std.proofs.Common.{◌^◌}
use Rattle.ark_prime256.proofs.Halvings.{quotient_is}
use Rattle.ark_prime256.proofs.euclid.quotient.Goals as goal

pub returns : goal.returns
returns c =
    let a = c.args.a in
    quotient_is a.w0 a.w1 a.w2 a.w3 _ _ _ _ (2 ^ c.args.zeros) c.requires.zeros c.shifted.ensures c.shifted-2.ensures c.shifted-3.ensures c.shifted-4.ensures
