use Rattle.ark_sum_check.proofs.ValuesThrough.{IsRow}
use Rattle.ark_sum_check.proofs.through.value_in_place.Given as goal

abbrev pub invariant-loop-apart : goal.invariant-loop-apart
invariant-loop-apart g l = IsRow g.F.Field.field l.initial.partials l.x l.apart l.partials
