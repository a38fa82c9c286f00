use Rattle.std.proofs.Common.{subst, arith}
use Rattle.std.specs.Fmt.{HasWritten}
use Rattle.ark_base.proofs.Numerals.{decimal_is_text}
use Rattle.ark_base.proofs.prime_field.PrimeFieldDisplay.fmt.Goals as goal

pub returns-clause-writes : goal.returns-clause-writes
returns-clause-writes g c plain done =
    subst (λ text. HasWritten {W = g.row.W.Denot} g.W.Write.write_str_gives c.args.f.now text c.fmt.new.f)
    (decimal_is_text c.args.self.now.value (omega (arith, c.args.self.now.reduced, g.M.PrimeModulus.modulus.small)))
    (c.fmt.ensures.writes plain done)
