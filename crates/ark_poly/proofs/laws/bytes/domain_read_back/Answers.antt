use Rattle.ark_bytes.proofs.ReadBack.{shows_back}
use Rattle.ark_poly.proofs.laws.bytes.domain_read_back.Goals as goal

pub returns-clause-same : goal.returns-clause-same
returns-clause-same g c =
    shows_back (g.D.Spelled.format c.args.mode) g.D.EvaluationDomain.domain (g.met.D.EvaluationDomain.told c.args.mode) c.args.domain.now _ c.written_then_read.ensures.alike
