use Rattle.std.proofs.Common.{◌≡◌, ◌+◌, sym, ap₂, ◌∙◌, arith}
use Rattle.std.proofs.lemmas.List.{get_or_read}
use Rattle.ark_math.specs.Univariate.{added, monomial, of_list}
use Rattle.ark_math_polynomials.proofs.Polynomials.UnivariateLists.{of_list-past}
use Rattle.ark_math_polynomials.proofs.Polynomials.UnivariateLoops.{cut-all, cut-more}
use Rattle.ark_quotients.proofs.conversions.terms_of.Goals as goal

pub loop-i-preserved : goal.loop-i-preserved
loop-i-preserved g c =
    let K = g.F.Field.field in
    let coeffs = c.args.coeffs.now in
    let i = c.loop-i.i in
    let is : c.index-coeffs-i.result ≡ of_list K coeffs i = get_or_read coeffs i c.index-coeffs-i.result c.loop-i-test.true c.index-coeffs-i.is K.zero in
    record {
      sparse = c.in_ok-push_term.ensures.sparse;
      below = c.in_ok-push_term.ensures.below (i + 1) (omega arith);
      sum =
          c.in_ok-push_term.ensures.sum
          ∙ ap₂ (λ a x. added K a (monomial K i x)) c.loop-i.invariant.sum is
          ∙ sym (cut-more K g.met.F.Field.field_laws i (of_list K coeffs));
    }

pub returns-clause-same : goal.returns-clause-same
returns-clause-same g c =
    let K = g.F.Field.field in
    c.loop-i.invariant.sum ∙ cut-all K c.loop-i.i (of_list K c.args.coeffs.now) (λ k l. of_list-past K c.args.coeffs.now k (omega arith))
