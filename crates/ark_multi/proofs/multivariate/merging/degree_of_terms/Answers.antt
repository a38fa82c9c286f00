use Rattle.std.proofs.Common.{rules, sym, max, ◌≡◌, ◌<◌, ◌≤◌, inl, inr, ◌∙◌, subst, arith, ⊎_elim, take}
use Rattle.std.specs.List.{All, Any}
use Rattle.std.proofs.Math.Nat.{le-max_left, le-max_right, max-le}
use Rattle.std.proofs.lemmas.Bool.{cases_lt}
use Rattle.std.proofs.lemmas.List.{take_all}
use Rattle.ark_math_variables.specs.Term.{total_degree}
use Rattle.ark_multi.proofs.SortedTerms.{term_order, bounded_next, reached_next}
use Rattle.ark_multi.specs.TermLists.{strict_order, sorted_degree}
use Rattle.ark_multi.proofs.multivariate.merging.degree_of_terms.Goals as goal

pub loop-term-preserved : goal.loop-term-preserved
loop-term-preserved g c =
    let K = g.F.Field.field in
    let N = g.met.F.Field.field_laws in
    let o = term_order g.met.T.Ord.total g.met.T.Ord.matches_eq g.met.T.Term.equality_law in
    let term = c.term-item.result in
    let terms = c.args.terms.now in
    let i = c.loop-term.term-index in
    let h = c.loop-term.invariant in
    let d = c.loop-term.degree in
    let t = c.degree.result in
    let e = c.max-degree.result in
    let greater : e ≡ max d t = search rules in
    let left : d ≤ e = subst (λ k. d ≤ k) (sym greater) (le-max_left d t) in
    let right : t ≤ e = subst (λ k. t ≤ k) (sym greater) (le-max_right d t) in
    let total : t ≡ total_degree (g.T.Term.listed term.1) = c.degree.ensures in
    record {
      bounded = bounded_next K N o terms i d e term c.loop-term-test.true c.term-item.is h.bounded left (subst (λ k. k ≤ e) total right);
      reached = reached_next K N o terms i d e term c.loop-term-test.true c.term-item.is h.reached
          (⊎_elim
          (λ (l : d < t). inr (let upper : e ≤ t = subst (λ k. k ≤ t) (sym greater) (max-le (omega arith) (omega arith)) in let same : e ≡ t = omega arith in same ∙ total))
          (λ (l : t ≤ d). inl (let upper : e ≤ d = subst (λ k. k ≤ d) (sym greater) (max-le (omega arith) (omega arith)) in omega arith))
          (cases_lt d t));
    }

pub returns : goal.returns
returns g c =
    let terms = c.args.terms.now in
    let listed = g.T.Term.listed in
    let h = c.loop-term.invariant in
    let d = c.loop-term.degree in
    let all : take c.loop-term.term-index terms ≡ terms = take_all c.loop-term.term-index terms (omega (arith, c.loop-term-test.false)) in
    sorted_degree g.F.Field.field g.met.F.Field.field_laws listed (strict_order listed g.met.T.Ord.total g.met.T.Ord.matches_eq g.met.T.Term.equality_law) terms d c.requires.rising c.requires.not_zero
    (subst (All (λ c. total_degree (listed c.1) ≤ d)) all h.bounded)
    (λ l. subst (Any (λ c. total_degree (listed c.1) ≡ d)) all (h.reached l))
