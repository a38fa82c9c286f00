use Rattle.std.proofs.Common.{◌<◌, length, subst, sym, ap, ◌∙◌}
use Rattle.std.proofs.lemmas.List.{length-map}
use Rattle.ark_math_domains.specs.Points.{AreValues}
use Rattle.ark_math.specs.Univariate.{of_list}
use Rattle.ark_math_domains.proofs.Callers.Transforms.{transform-length, values_of_reduced}
use Rattle.ark_math_domains.proofs.Domains.LawfulDomains.{lawful_domain, order, some_size}
use Rattle.ark_univariate.proofs.polynomial.univariate.dense.DensePolynomial.evaluate_over_domain.Goals as goal

pub reduce_by_binomial-requires : goal.reduce_by_binomial-requires
reduce_by_binomial-requires g c =
    let D = lawful_domain g.met.F.Field.field_laws g.met.F.FftField.roots_law (g.met.D.EvaluationDomain.lawful c.args.domain) in
    subst (λ n. 0 < n) (sym c.size-n.ensures) (some_size D)

pub from_vec_and_domain-requires : goal.from_vec_and_domain-requires
from_vec_and_domain-requires g c =
    let d = g.D.EvaluationDomain.domain c.args.domain in
    sym (length-map c.fft_in_place.new.coeffs.items g.F.DomainCoeff.meaning)
    ∙ ap length c.in_ok-fft_in_place.ensures.transform
    ∙ transform-length g.F.Field.field g.F.DomainCoeff.group d _

pub returns-clause-values : goal.returns-clause-values
returns-clause-values g c =
    let K = g.F.Field.field in
    let V = g.F.DomainCoeff.group in
    let d = g.D.EvaluationDomain.domain c.args.domain in
    let D = lawful_domain g.met.F.Field.field_laws g.met.F.FftField.roots_law (g.met.D.EvaluationDomain.lawful c.args.domain) in
    let division = c.reduce_by_binomial.ensures.division in
    subst (AreValues K d (of_list K c.args.self)) (sym c.from_vec_and_domain.ensures.evals)
    (values_of_reduced K V g.met.F.FftField.itself_law g.met.F.Field.field_laws d (order D) (some_size D) c.args.self division.0
    c.reduce_by_binomial.new.coeffs.items c.fft_in_place.new.coeffs.items c.size-n.result c.coset_offset_pow_size.result
    c.size-n.ensures c.coset_offset_pow_size.ensures (ap (of_list K) (sym c.self.view_is) ∙ division.1)
    c.reduce_by_binomial.ensures.len c.in_ok-fft_in_place.ensures.transform)
