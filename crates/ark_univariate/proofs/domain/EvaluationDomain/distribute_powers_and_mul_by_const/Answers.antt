use Rattle.std.proofs.Common.{◌<◌, ◌≤◌, ℕ, map, length, get_or, sym, ap, ◌∙◌, arith, refl, add-one}
use Rattle.ark_math.specs.Field.{power}
use Rattle.ark_math.specs.Module.{item}
use Rattle.ark_math.proofs.Lists.Lists.{read_at, written_more, written_rest}
use Rattle.ark_math.proofs.Algebra.Solve.{◌⊗◌}
use Rattle.ark_math.proofs.Algebra.Ring.{ring3}
use Rattle.ark_univariate.proofs.domain.EvaluationDomain.distribute_powers_and_mul_by_const.Goals as goal

pub loop-i-preserved : goal.loop-i-preserved
loop-i-preserved g c =
    let K = g.F.Field.field in
    let V = g.T.DomainCoeff.group in
    let m = g.T.DomainCoeff.meaning in
    let i = c.loop-i.i in
    let v = c.loop-i.invariant in
    let xs = c.loop-i.coeffs in
    let inside : i < length xs = omega arith in
    let here : i ≤ i = omega arith in
    let old = λ (k : ℕ). item V (map m c.args.coeffs.now) k in
    let scales = λ (k : ℕ). K.times c.args.c (power K c.args.g k) in
    let e = g.met.T.DomainCoeff.mul_assign_meaning _ _ _ c.mul_assign.ensures.after in
    record {
      next =
          g.met.F.Field.mul_assign_law _ _ _ c.mul_assign-in-loop-i.ensures.after
          ∙ ap (λ t. K.times t c.args.g) v.next
          ∙ ring3 K g.met.F.Field.field_laws (λ s p f. ((s ⊗ p) ⊗ f, s ⊗ (f ⊗ p))) refl c.args.c (power K c.args.g i) c.args.g
          ∙ ap scales (sym (add-one i));
      before = written_more m V.zero (λ k. V.scale (scales k) (old k)) xs i c.mul_assign.new.self inside v.before
          (e ∙ ap (λ t. V.scale t (m (get_or xs i c.index-coeffs-i.result))) v.next ∙ ap (V.scale (scales i)) (read_at m V.zero xs i c.index-coeffs-i.result inside ∙ v.rest i here));
      rest = written_rest m V.zero old xs i c.mul_assign.new.self v.rest;
    }
