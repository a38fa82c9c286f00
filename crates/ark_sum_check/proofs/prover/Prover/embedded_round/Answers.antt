use Rattle.std.proofs.Common.{◌-◌, max, sym, subst}
use Rattle.ark_sum_check.specs.Cube.{degree_of}
use Rattle.ark_sum_check.specs.Embedded.{embedded_sum}
use Rattle.ark_sum_check.specs.Provers.{sum_of, variables_of}
use Rattle.ark_sum_check.specs.Rounds.{IsTrueRound}
use Rattle.ark_sum_check.proofs.Embeddings.{true_round_kept}
use Rattle.ark_sum_check.proofs.prover.Prover.embedded_round.Goals as goal

pub returns-clause-truth : goal.returns-clause-truth
returns-clause-truth g c =
    let K = g.F.Field.field in
    let E = g.E.Field.field in
    let e = g.E.ExtensionOf.within in
    let p = c.args.self.now in
    let s = sum_of K p in
    let d = max 1 (degree_of s) in
    let m = variables_of p - 1 in
    subst (IsTrueRound E d m (embedded_sum e s)) (sym c.in_ok-embedded.ensures)
    (true_round_kept K E e g.met.E.ExtensionOf.embeds g.met.F.Field.field_laws g.met.E.Field.field_laws d m s c.args.values.now c.requires.truth)
