use Rattle.std.proofs.Common.{◌≡◌, ◌≤◌, length, map}
use Rattle.ark_math.specs.Field.{power}
use Rattle.ark_math.specs.Module.{item}
use Rattle.rs_code.proofs.Locators.{value}
use Rattle.rs_code.proofs.part.fold.Given as goal

abbrev pub invariant-loop-i : goal.invariant-loop-i
invariant-loop-i g l =
    let K = g.F.Field.field in
    let V = g.T.DomainCoeff.group in
    let m = g.T.DomainCoeff.meaning in
    record {
      within : l.m ≤ l.i;
      values : (x : g.row.F.Denot) → power K x l.m ≡ K.one → value K V l.i (item V (map m l.coeffs)) x ≡ value K V (length l.initial.coeffs) (item V (map m l.initial.coeffs)) x;
    }
