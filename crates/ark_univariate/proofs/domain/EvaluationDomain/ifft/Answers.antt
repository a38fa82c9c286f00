use Rattle.std.proofs.Common.{◌∙◌, ap, sym, map, take}
use Rattle.std.proofs.lemmas.List.{take-map, length-map}
use Rattle.ark_math_transforms.proofs.Domains.Domains.{inverse-take, only-take}
use Rattle.ark_univariate.proofs.domain.EvaluationDomain.ifft.Goals as goal

pub returns-clause-inverse : goal.returns-clause-inverse
returns-clause-inverse g c =
    let m = g.T.DomainCoeff.meaning in
    let d = g.Self.EvaluationDomain.domain c.args.self.now in
    inverse-take g.F.Field.field g.T.DomainCoeff.group d _ _ _ (ap (map m) (c.in_ok-coeffs.ensures ∙ ap (λ n. take n c.args.evals.now) c.size.ensures) ∙ sym (take-map m d.size c.args.evals.now)) c.in_ok-ifft_in_place.ensures.inverse

pub returns-clause-only : goal.returns-clause-only
returns-clause-only g c =
    let m = g.T.DomainCoeff.meaning in
    let d = g.Self.EvaluationDomain.domain c.args.self.now in
    only-take g.F.Field.field g.T.DomainCoeff.group d _ _ _ (ap (map m) (c.in_ok-coeffs.ensures ∙ ap (λ n. take n c.args.evals.now) c.size.ensures) ∙ sym (take-map m d.size c.args.evals.now)) c.in_ok-ifft_in_place.ensures.only

pub returns-clause-len : goal.returns-clause-len
returns-clause-len g c = sym (length-map c.ifft_in_place.new.evals.items g.T.DomainCoeff.meaning) ∙ (returns-clause-inverse g c).size
