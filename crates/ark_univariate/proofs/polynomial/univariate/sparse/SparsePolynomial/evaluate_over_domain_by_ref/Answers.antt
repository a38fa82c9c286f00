use Rattle.std.proofs.Common.{◌<◌, length, subst, sym, ap, ◌∙◌}
use Rattle.std.proofs.lemmas.List.{length-map}
use Rattle.ark_math_domains.specs.Points.{AreValues}
use Rattle.ark_math.specs.Univariate.{of_list, of_pairs, IsQuotient}
use Rattle.ark_math_polynomials.proofs.Polynomials.Binomials.{binomial}
use Rattle.ark_math_polynomials.proofs.Polynomials.PairProducts.{pairs_bound}
use Rattle.ark_math_domains.proofs.Callers.Transforms.{transform-length, values_of_remainder}
use Rattle.ark_math_domains.proofs.Domains.LawfulDomains.{lawful_domain, order, some_size}
use Rattle.ark_univariate.proofs.polynomial.univariate.sparse.SparsePolynomial.evaluate_over_domain_by_ref.Goals as goal

pub reduced_terms-requires : goal.reduced_terms-requires
reduced_terms-requires g c =
    let D = lawful_domain g.met.F.Field.field_laws g.met.F.FftField.roots_law (g.met.D.EvaluationDomain.lawful c.args.domain) in
    subst (λ n. 0 < n) (sym c.size-n.ensures) (some_size D)

pub from_vec_and_domain-requires : goal.from_vec_and_domain-requires
from_vec_and_domain-requires g c =
    let d = g.D.EvaluationDomain.domain c.args.domain in
    sym (length-map c.fft_in_place.new.coeffs.items g.F.DomainCoeff.meaning)
    ∙ ap length c.in_ok-fft_in_place.ensures.transform
    ∙ transform-length g.F.Field.field g.F.DomainCoeff.group d _

pub returns-clause-values : goal.returns-clause-values
returns-clause-values g c =
    let K = g.F.Field.field in
    let N = g.met.F.Field.field_laws in
    let d = g.D.EvaluationDomain.domain c.args.domain in
    let D = lawful_domain N g.met.F.FftField.roots_law (g.met.D.EvaluationDomain.lawful c.args.domain) in
    let n = c.size-n.result in
    let terms = c.args.self.now in
    let rest = c.in_ok-evals.evals.items in
    let bound = pairs_bound K N terms in
    let h = c.in_ok-evals.ensures.remainder in
    let whole : IsQuotient K (of_pairs K terms) (binomial K n c.coset_offset_pow_size-constant.result) h.0 (of_list K rest) =
    subst (λ t. IsQuotient K (of_pairs K t) (binomial K n c.coset_offset_pow_size-constant.result) h.0 (of_list K rest)) (c.deref.ensures.value ∙ c.self.view_is) h.1 in
    subst (AreValues K d (of_pairs K terms)) (sym c.from_vec_and_domain.ensures.evals)
    (values_of_remainder K g.F.DomainCoeff.group g.met.F.FftField.itself_law N d (order D) (some_size D) (of_pairs K terms) h.0 bound.0 rest c.fft_in_place.new.coeffs.items n
    c.coset_offset_pow_size-constant.result bound.1 c.size-n.ensures c.coset_offset_pow_size-constant.ensures whole c.in_ok-evals.ensures.len c.in_ok-fft_in_place.ensures.transform)
