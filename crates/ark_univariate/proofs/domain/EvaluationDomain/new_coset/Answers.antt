use Rattle.std.proofs.Common.{refl, subst, sym, ap, inl, inr, ⊎_elim}
use Rattle.std.specs.Option.{is_some}
use Rattle.std.proofs.lemmas.Option.{IfSome_then}
use Rattle.ark_univariate.proofs.domain.EvaluationDomain.new_coset.Goals as goal

pub returns-in_err-new-clause-none : goal.returns-in_err-new-clause-none
returns-in_err-new-clause-none g c = ((λ is. inr (c.in_err-new.ensures.none.0 refl)), (λ none. ap is_some c.from_residual.ensures))

pub returns-clause-chosen : goal.returns-clause-chosen
returns-clause-chosen g c =
    IfSome_then c.get_coset.result c.get_coset.ensures.coset
    (λ d same. subst (λ e. g.Self.EvaluationDomain.chooses c.args.num_coeffs e.kind e.size) (sym same) c.in_ok-new.ensures.chosen)

pub returns-clause-coset : goal.returns-clause-coset
returns-clause-coset g c = IfSome_then c.get_coset.result c.get_coset.ensures.coset (λ d same. ap (λ e. e.offset) same)

pub returns-clause-none : goal.returns-clause-none
returns-clause-none g c = (
  (λ is. inl (c.get_coset.ensures.none.0 is)),
  (λ h. ⊎_elim (λ o. c.get_coset.ensures.none.1 o) (λ none. absurd (none _ _ c.in_ok-new.ensures.chosen)) h),
)
