use Rattle.rs_code.specs.Turns.{AreMadeBelow}
use Rattle.rs_code.proofs.turns.fill.Given as goal

abbrev pub invariant-loop-j : goal.invariant-loop-j
invariant-loop-j g l =
    let K = g.F.Field.field in
    record {
      first : AreMadeBelow K l.values l.fours l.erased 0 l.j l.first;
      second : AreMadeBelow K l.values l.fours l.erased 1 l.j l.second;
      third : AreMadeBelow K l.values l.fours l.erased 2 l.j l.third;
      fourth : AreMadeBelow K l.values l.fours l.erased 3 l.j l.fourth;
    }
