use Rattle.std.proofs.lemmas.Result.{err_from_is_err_and}
use Rattle.ark_math_formats.specs.Format.{list}
use Rattle.ark_bytes.proofs.Reading.{refused_fields}
use Rattle.ark_fiat_shamir.specs.ProofBytes.{round_format}
use Rattle.ark_fiat_shamir.proofs.proof.bytes.SumCheckProofCanonicalDeserialize.deserialize_with_mode.Goals as goal

pub returns-in_err-rounds : goal.returns-in_err-rounds
returns-in_err-rounds g c =
    let p = err_from_is_err_and c.from_residual.result c.from_residual.ensures.1 in
    rw (p.1, p.2) (refused_fields (list (round_format (g.F.Spelled.format c.args.mode))) (λ p. p.rounds.items) (λ _. Unit {0}) (Unit {0}) _ _ _ c.in_err-rounds.ensures)
