use Rattle.std.proofs.Common.{◌≡◌, ℕ, [], ◌∷◌, ◌++◌, ap, ap₂, ◌∙◌}
use Rattle.ark_math.specs.Field.{power}
use Rattle.ark_math.specs.Univariate.{of_pairs}
use Rattle.ark_math_domains.specs.Points.{vanishing}
use Rattle.ark_math_polynomials.proofs.Polynomials.UnivariatePairs.{of_pairs-difference}
use Rattle.ark_math.proofs.Outcomes.Results.{IfOk_more}
use Rattle.ark_univariate.proofs.domain.EvaluationDomain.vanishing_polynomial.Goals as goal

pub returns-clause-polynomial : goal.returns-clause-polynomial
returns-clause-polynomial g c =
    let F = g.row.F.Denot in
    let K = g.F.Field.field in
    let N = g.met.F.Field.field_laws in
    let d = g.Self.EvaluationDomain.domain c.args.self.now in
    let first : ℕ × F = (0, c.neg.result) in
    let second : ℕ × F = (c.size.result, c.one.result) in
    let terms : c.push-2.new.self.items ≡ first ∷ second ∷ [] =
    c.in_ok-push-2.ensures.items
    ∙ ap (λ t. t ++ second ∷ []) (c.in_ok-push.ensures.items ∙ ap (λ t. t ++ first ∷ []) c.in_ok-terms.ensures.items) in
    let low : c.neg.result ≡ K.negated (power K d.offset d.size) = g.met.F.Field.neg_law _ _ c.neg.ensures ∙ ap K.negated c.coset_offset_pow_size.ensures in
    let high : c.one.result ≡ K.one = c.one.ensures ∙ g.met.F.Field.one_law in
    let is : of_pairs K c.push-2.new.self.items ≡ vanishing K d =
    ap (of_pairs K) terms
    ∙ ap₂ (λ x y. of_pairs K ((0, x) ∷ (c.size.result, y) ∷ [])) low high
    ∙ ap (λ n. of_pairs K ((0, K.negated (power K d.offset d.size)) ∷ (n, K.one) ∷ [])) c.size.ensures
    ∙ of_pairs-difference K N d.size K.one (power K d.offset d.size) in
    IfOk_more c.from_coefficients_vec.result (λ p e. e ∙ is) c.from_coefficients_vec.ensures.sum
