use Rattle.std.proofs.Common.{◌∙◌, ap, arith}
use Rattle.ark_math.specs.Field.{minus}
use Rattle.ark_sum_check.proofs.EntryTables.{part-even, part-odd}
use Rattle.ark_sum_check.proofs.entries.bound_part.Goals as goal

pub returns-then-index-eq0 : goal.returns-then-index-eq0
returns-then-index-eq0 g c =
    let K = g.F.Field.field in
    let F = g.met.F.Field in
    part-even K F.field_laws c.args.index c.args.value c.args.x c.sub.result (omega arith) (F.sub_law _ _ _ c.sub.ensures ∙ ap (minus K c.args.value) (F.mul_law _ _ _ c.mul-high.ensures))

pub returns-else-index-eq0 : goal.returns-else-index-eq0
returns-else-index-eq0 g c =
    let F = g.met.F.Field in
    part-odd g.F.Field.field F.field_laws c.args.index c.args.value c.args.x c.mul-high.result (omega arith) (F.mul_law _ _ _ c.mul-high.ensures)
