use Rattle.std.proofs.Common.{◌≡◌, ◌+◌, take, subst, sym, ap, ◌∙◌, arith}
use Rattle.std.proofs.lemmas.List.{take_all}
use Rattle.ark_math.specs.Field.{power}
use Rattle.ark_math.specs.Univariate.{of_pairs, nothing, IsValue}
use Rattle.ark_math_polynomials.proofs.Polynomials.UnivariateValues.{value-nothing}
use Rattle.ark_math_polynomials.proofs.Polynomials.UnivariatePairs.{value-of_pairs_take}
use Rattle.ark_coeffs.proofs.sparse.value_of_terms.Goals as goal

pub loop-i-init : goal.loop-i-init
loop-i-init g c =
    let K = g.F.Field.field in
    subst (IsValue K (nothing K) c.args.point) (sym (c.zero-value.ensures ∙ g.met.F.Field.zero_law)) (value-nothing K g.met.F.Field.field_laws c.args.point)

pub loop-i-preserved : goal.loop-i-preserved
loop-i-preserved g c =
    let K = g.F.Field.field in
    let terms = c.args.terms.now in
    let x = c.args.point in
    let term = c.index-terms-i.result in
    let added : c.add_assign.new.self ≡ K.plus c.loop-i.value (K.times (power K x term.0) term.1) =
    g.met.F.Field.add_assign_law _ _ _ c.add_assign.ensures.after
    ∙ ap (K.plus c.loop-i.value) (g.met.F.Field.mul_law _ _ _ c.mul.ensures ∙ ap (λ t. K.times t term.1) c.pow.ensures) in
    subst (IsValue K (of_pairs K (take (c.loop-i.i + 1) terms)) x) (sym added)
    (value-of_pairs_take K g.met.F.Field.field_laws terms c.loop-i.i term x c.loop-i.value c.loop-i-test.true c.index-terms-i.is c.loop-i.invariant)

pub returns : goal.returns
returns g c =
    let K = g.F.Field.field in
    let terms = c.args.terms.now in
    subst (λ t. IsValue K (of_pairs K t) c.args.point c.loop-i.value) (take_all c.loop-i.i terms (omega (arith, c.loop-i-test.false))) c.loop-i.invariant
