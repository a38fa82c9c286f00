use Rattle.std.proofs.Common.{◌≡◌, map, ◌≤◌, ◌<◌, ℕ}
use Rattle.ark_math.specs.Field.{power}
use Rattle.ark_math.specs.Module.{item}
use Rattle.ark_univariate.proofs.domain.EvaluationDomain.distribute_powers_and_mul_by_const.Given as goal

abbrev pub invariant-loop-i : goal.invariant-loop-i
invariant-loop-i g l =
    let V = g.T.DomainCoeff.group in
    let m = g.T.DomainCoeff.meaning in
    let K = g.F.Field.field in
    record {
      next : l.factor ≡ K.times l.fn.c (power K l.fn.g l.i);
      before : (i : ℕ) → i < l.i → item V (map m l.coeffs) i ≡ V.scale (K.times l.fn.c (power K l.fn.g i)) (item V (map m l.initial.coeffs) i);
      rest : (i : ℕ) → l.i ≤ i → item V (map m l.coeffs) i ≡ item V (map m l.initial.coeffs) i;
    }
