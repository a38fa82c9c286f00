use Rattle.std.proofs.Common.{◌<◌, arith}
use Rattle.std.proofs.lemmas.List.Elements.{All-map}
use Rattle.ark_math_variables.specs.Term.{IsOnePower}
use Rattle.ark_math.proofs.Outcomes.Results.{IfOk_more}
use Rattle.ark_multi.proofs.SortedTerms.{term_order, same_sum_All, cases_one_power}
use Rattle.ark_multi.proofs.multivariate.sparse.SparsePolynomialDenseMVPolynomial.rand.Goals as goal

pub loop-variable-preserved : goal.loop-variable-preserved
loop-variable-preserved g c =
    let below : c.loop-variable.variable < c.args.num_vars = omega arith in
    record {
      within = c.in_ok-push_powers.ensures.within c.args.num_vars below c.loop-variable.invariant.within;
      powers = c.in_ok-push_powers.ensures.powers;
    }

pub returns-clause-powers : goal.returns-clause-powers
returns-clause-powers g c =
    let o = term_order g.met.T.Ord.total g.met.T.Ord.matches_eq g.met.T.Term.equality_law in
    let d = c.args.d in
    IfOk_more c.from_coefficients_vec.result
    (λ p e. All-map (λ x. IsOnePower d x.1) (λ x. (x.0, g.T.Term.listed x.1)) p.terms.items
    (same_sum_All g.F.Field.field g.met.F.Field.field_laws o (IsOnePower d) (cases_one_power d) c.loop-variable.terms.items p.terms.items c.loop-variable.invariant.powers (record { rising = p.rising; not_zero = p.not_zero }) e))
    c.from_coefficients_vec.ensures.sum
