use Rattle.std.proofs.Common.{length, sym, subst, ap, ◌∙◌, arith}
use Rattle.std.proofs.lemmas.Bool.{true≢false}
use Rattle.ark_math.specs.Univariate.{IsSparse, of_pairs}
use Rattle.ark_math_polynomials.proofs.Polynomials.UnivariatePairs.{before_last, last_coefficient, without_last, past_last, sparse_nothing}
use Rattle.ark_quotients.proofs.division.Divisor.of_terms.Goals as goal

pub returns-clause-some : goal.returns-clause-some
returns-clause-some g c =
    let K = g.F.Field.field in
    let N = g.met.F.Field.field_laws in
    let x = c.in_ok-leading.leading.now in
    let rest = c.in_ok-leading.lower.now in
    let parts = c.in_ok-leading.ensures.cases.0 in
    let sparse = subst (IsSparse K) parts c.requires in
    let whole = ap (of_pairs K) parts in
    record {
      leading = ap (λ t. K.times (t x.0) c.in_ok-inverse.inverse) whole ∙ ap (λ t. K.times t c.in_ok-inverse.inverse) (last_coefficient K N rest x sparse) ∙ c.in_ok-inverse.ensures.some;
      rest = λ i l. ap (λ t. t i) whole ∙ past_last K N rest x i sparse (omega (arith, l));
      lower = λ i l. without_last K N rest x i l ∙ sym (ap (λ t. t i) whole);
      within = before_last K N rest x sparse;
    }

pub returns-clause-none : goal.returns-clause-none
returns-clause-none g c = (
  (λ e. absurd (true≢false e)),
  λ e.
      let none = ap length (sparse_nothing g.F.Field.field g.met.F.Field.field_laws c.args.terms.now c.requires e) in
      absurd (omega (arith, none, c.in_ok-leading.ensures.cases.1)),
)
