use Rattle.std.proofs.Common.{◌≡◌, ◌*◌, ◌<◌, ◌≤◌, ℕ, true, map, get_or}
use Rattle.ark_math.specs.Module.{item}
use Rattle.ark_math.specs.Univariate.{of_list}
use Rattle.rs_code.specs.Locator.{filled}
use Rattle.rs_code.proofs.part.fill_spaced.Given as goal

abbrev pub invariant-loop-j : goal.invariant-loop-j
invariant-loop-j g l =
    let V = g.T.DomainCoeff.group in
    let m = g.T.DomainCoeff.meaning in
    let K = g.F.Field.field in
    record {
      before : (k : ℕ) → k < l.j → item V (map m l.values) k
          ≡ filled V (get_or l.marks (k * l.stride) true) (of_list K l.factors (k * l.stride)) (item V (map m l.word) (k * l.stride)) (item V (map m l.initial.values) k);
      rest : (k : ℕ) → l.j ≤ k → item V (map m l.values) k ≡ item V (map m l.initial.values) k;
    }
