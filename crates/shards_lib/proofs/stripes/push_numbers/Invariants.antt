use Rattle.std.proofs.Common.{◌≡◌, ◌++◌, map, take}
use Rattle.shards_lib.proofs.stripes.push_numbers.Given as goal

abbrev pub invariant-loop-element : goal.invariant-loop-element
invariant-loop-element g l = l.numbers.items ≡ l.initial.numbers.items ++ map g.F.NumberField.number (take l.element-index l.elements)
