use Rattle.std.proofs.Common.{◌≡◌, ◌+◌, ◌-◌, length, sym, ap, refl, subst, ◌∙◌, arith}
use Rattle.ark_math.specs.Univariate.{of_list, IsBelow}
use Rattle.ark_math.proofs.Outcomes.Results.{IfOk_both}
use Rattle.ark_quotients.proofs.Backwards.{quotient_of_lengths, backwards-inside}
use Rattle.ark_math_polynomials.proofs.Polynomials.UnivariateLists.{of_list-below}
use Rattle.ark_univariate.proofs.polynomial.univariate.dense.DensePolynomial.quotient_by_series.Goals as goal

pub returns-clause-quotient : goal.returns-clause-quotient
returns-clause-quotient g c =
    let K = g.F.Field.field in
    let whole = length c.coeffs-whole.result.now in
    let parts = length c.coeffs-parts.result.now in
    let mine = ap length c.coeffs-whole.ensures.same in
    let others = ap length c.coeffs-parts.ensures.same in
    let inverse = of_list K c.in_ok-inverse.inverse in
    let some = c.requires.nonempty in
    let long = c.requires.long in
    IfOk_both c.reversed-3.result
    (λ q same below.
    quotient_of_lengths K g.met.F.Field.field_laws parts whole (whole - parts + 1) c.args.leading_inverted (of_list K c.args.self.now) (of_list K c.args.divisor.now)
    (of_list K c.in_ok-backwards.backwards) inverse (of_list K c.in_ok-reversed.field-0) (of_list K c.in_ok-series.series) (of_list K q)
    (omega (arith, some, others)) (omega (arith, long, mine, others)) refl
    (ap (λ t. K.times (of_list K c.args.divisor.now (t - 1)) c.args.leading_inverted) others ∙ c.requires.leading)
    (subst (λ t. IsBelow K t (of_list K c.args.divisor.now)) (sym others) (of_list-below K c.args.divisor.now))
    (subst (λ t. IsBelow K t (of_list K c.args.self.now)) (sym mine) (of_list-below K c.args.self.now))
    c.in_ok-backwards.ensures.same c.in_ok-backwards.ensures.below
    c.in_ok-inverse.ensures.inverse
    c.in_ok-reversed.ensures.same
    c.in_ok-series.ensures.product
    same
    below)
    c.reversed-3.ensures.same c.reversed-3.ensures.below

pub inverse_series-requires-clause-first : goal.inverse_series-requires-clause-first
inverse_series-requires-clause-first g c =
    let K = g.F.Field.field in
    let a = of_list K c.args.divisor.now in
    let parts = length c.coeffs-parts.result.now in
    let others = ap length c.coeffs-parts.ensures.same in
    let some = c.requires.nonempty in
    let last : parts - 1 - 0 ≡ parts - 1 = omega arith in
    ap (λ t. K.times t c.args.leading_inverted) (c.in_ok-backwards.ensures.same 0 (omega (arith, some, others)) ∙ backwards-inside K (parts - 1) a 0 (omega arith) ∙ ap a last)
    ∙ ap (λ t. K.times (a (t - 1)) c.args.leading_inverted) others
    ∙ c.requires.leading
