use Rattle.ark_bytes.proofs.ReadBack.{shows_back}
use Rattle.ark_poly.proofs.laws.bytes.polynomial_read_back.Goals as goal

pub returns-clause-same : goal.returns-clause-same
returns-clause-same g c =
    shows_back (g.P.Spelled.format c.args.mode) g.P.Polynomial.meaning (g.met.P.Polynomial.told c.args.mode) c.args.polynomial.now _ c.written_then_read.ensures.alike

pub returns-clause-variables : goal.returns-clause-variables
returns-clause-variables g c =
    shows_back (g.P.Spelled.format c.args.mode) g.P.Polynomial.variables (g.met.P.Polynomial.variables_told c.args.mode) c.args.polynomial.now _ c.written_then_read.ensures.alike
