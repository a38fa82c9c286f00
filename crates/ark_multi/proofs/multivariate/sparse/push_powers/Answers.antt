use Rattle.std.proofs.Common.{◌≤◌, sym, subst, inr, arith}
use Rattle.std.specs.List.{All}
use Rattle.std.proofs.lemmas.List.Elements.{All-push}
use Rattle.ark_math_variables.specs.Term.{IsOnePower, IsWithin}
use Rattle.ark_multi.proofs.SortedTerms.{one_power-within}
use Rattle.ark_multi.proofs.multivariate.sparse.push_powers.Goals as goal

pub loop-power-preserved : goal.loop-power-preserved
loop-power-preserved g c =
    let listed = g.T.Term.listed in
    let old = c.loop-power.terms.items in
    let term = c.in_ok-term.term in
    let power = c.loop-power.power in
    let h = c.loop-power.invariant in
    let is = c.in_ok-term.ensures.term in
    let upto : power ≤ c.args.d = omega arith in
    record {
      within = λ n below before. subst (All (λ x. IsWithin n (listed x.1))) (sym c.in_ok-push.ensures.items) (All-push (λ x. IsWithin n (listed x.1)) old (c.rand.result, term) (h.within n below before) (one_power-within n c.args.variable power (listed term) is below));
      powers = subst (All (λ x. IsOnePower c.args.d (listed x.1))) (sym c.in_ok-push.ensures.items) (All-push (λ x. IsOnePower c.args.d (listed x.1)) old (c.rand.result, term) h.powers (inr (c.args.variable, power, is, upto)));
    }

pub returns-in_ok-push-clause-powers : goal.returns-in_ok-push-clause-powers
returns-in_ok-push-clause-powers g c =
    let listed = g.T.Term.listed in
    let power = c.loop-power.power in
    let upto : power ≤ c.args.d = omega arith in
    subst (All (λ x. IsOnePower c.args.d (listed x.1))) (sym c.in_ok-push.ensures.items)
    (All-push (λ x. IsOnePower c.args.d (listed x.1)) c.loop-power.terms.items (c.rand.result, c.in_ok-term.term) c.loop-power.invariant.powers (inr (c.args.variable, power, c.in_ok-term.ensures.term, upto)))
