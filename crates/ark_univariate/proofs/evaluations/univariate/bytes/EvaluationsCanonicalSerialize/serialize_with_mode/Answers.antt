use Rattle.std.proofs.Common.{length, sym, ap, ◌∙◌}
use Rattle.std.proofs.lemmas.Result.{err_from_is_err_and}
use Rattle.ark_univariate.proofs.ValuesTransfer.{stopped_in_list, written}
use Rattle.ark_univariate.proofs.evaluations.univariate.bytes.EvaluationsCanonicalSerialize.serialize_with_mode.Goals as goal

pub returns-in_err-write_list : goal.returns-in_err-write_list
returns-in_err-write_list g c =
    let p = err_from_is_err_and c.from_residual.result c.from_residual.ensures.1 in
    let mode = c.args.mode in
    rw (p.1, p.2)
    (stopped_in_list (g.F.Spelled.format mode) (g.D.Spelled.format mode) g.D.EvaluationDomain.domain _ _ c.args.self.now _ _
    (c.deref.ensures.value ∙ ap (λ v. v.evals) c.self.view_is) c.in_err-write_list.ensures)

pub returns : goal.returns
returns g c =
    let mode = c.args.mode in
    let domain = g.D.EvaluationDomain.domain in
    let evals = ap (λ v. v.evals) c.self.view_is in
    let here = ap (λ v. v.domain) c.self.view_is in
    written (g.F.Spelled.format mode) (g.D.Spelled.format mode) domain _ _ _ c.args.self.now _ _ c.serialize_with_mode.result (c.deref.ensures.value ∙ evals) here
    (sym (ap length evals) ∙ c.self.invariant ∙ ap (λ x. (domain x).size) here) c.in_ok-write_list.ensures c.serialize_with_mode.ensures
