use Rattle.std.proofs.Common.{sym, ◌∙◌}
use Rattle.std.proofs.lemmas.Result.{err_from_is_err_and}
use Rattle.ark_univariate.proofs.ValuesTransfer.{refused_in_list, refused_in_domain, misfit}
use Rattle.ark_univariate.proofs.evaluations.univariate.bytes.EvaluationsCanonicalDeserialize.deserialize_with_mode.Goals as goal

pub returns-in_err-evals : goal.returns-in_err-evals
returns-in_err-evals g c =
    let p = err_from_is_err_and c.from_residual.result c.from_residual.ensures.1 in
    let mode = c.args.mode in
    rw (p.1, p.2) (refused_in_list (g.F.Spelled.format mode) (g.D.Spelled.format mode) g.D.EvaluationDomain.domain (g.F.Spelled.format_law mode) _ _ _ c.in_err-evals.ensures)

pub returns-in_err-domain : goal.returns-in_err-domain
returns-in_err-domain g c =
    let p = err_from_is_err_and c.from_residual-in_err-domain.result c.from_residual-in_err-domain.ensures.1 in
    let mode = c.args.mode in
    rw (p.1, p.2)
    (refused_in_domain (g.F.Spelled.format mode) (g.D.Spelled.format mode) g.D.EvaluationDomain.domain (g.F.Spelled.format_law mode) g.D.CanonicalDeserialize.takes_memory _ _ _ _ _ c.in_ok-evals.ensures
    c.in_err-domain.ensures)

pub returns-else-len-size : goal.returns-else-len-size
returns-else-len-size g c =
    let mode = c.args.mode in
    misfit (g.F.Spelled.format mode) (g.D.Spelled.format mode) g.D.EvaluationDomain.domain (g.F.Spelled.format_law mode) g.F.Spelled.shown (g.F.Spelled.tells mode)
    (g.met.D.EvaluationDomain.told mode) _ _ _ _ _ (λ same. c.if-len-size.false (c.len.ensures ∙ c.in_ok-evals.evals.ok.0 ∙ same ∙ sym c.size.ensures)) c.in_ok-evals.ensures c.in_ok-domain.ensures
