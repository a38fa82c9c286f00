use Rattle.std.proofs.Common.{◌≡◌, ◌*◌, ◌/◌, sym, ap, ◌∙◌, arith}
use Rattle.std.proofs.Math.Nat.{mod-add-div}
use Rattle.rs_code.proofs.Parts.{spaced_domain}
use Rattle.rs_code.proofs.part.spaced_part.Goals as goal

pub returns-then-n-m-eq0-clause-spaced : goal.returns-then-n-m-eq0-clause-spaced
returns-then-n-m-eq0-clause-spaced g c =
    let lawful = g.met.D.EvaluationDomain.lawful in
    let d = g.D.EvaluationDomain.domain c.args.domain in
    let e = g.D.EvaluationDomain.domain c.in-Some.part in
    let n = c.size-n.result in
    let m = c.size-m.result in
    let whole : n ≡ m * (n / m) = omega (arith, mod-add-div n m, c.if-n-m-eq0.true) in
    spaced_domain g.F.Field.field g.met.F.Field.field_laws g.F.FftField.adicity g.F.FftField.root d e (n / m) g.met.F.FftField.roots_law (lawful c.args.domain) (lawful c.in-Some.part)
    (sym c.size-n.ensures ∙ whole ∙ ap (λ x. x * (n / m)) c.size-m.ensures) (c.in-Some.ensures.subgroup ∙ sym c.requires.subgroup)
