use Rattle.std.proofs.Common.{◌^◌}
use Rattle.ark_prime256.specs.Words.{integer}
use Rattle.ark_prime256.proofs.Halvings.{doubled_fits}
use Rattle.ark_prime256.proofs.euclid.Step.halved.Goals as goal

pub multiple-requires-clause-fits : goal.multiple-requires-clause-fits
multiple-requires-clause-fits c =
    doubled_fits (integer c.args.self.left) (integer c.quotient.result) (integer c.args.self.of_right) (2 ^ c.low_zeros-zeros.result) c.requires.some c.quotient.ensures c.requires.fits
