use Rattle.std.proofs.Common.{◌≡◌, refl, sym, ap, ◌∙◌, arith}
use Rattle.std.proofs.lemmas.List.{get_or_read}
use Rattle.ark_math.specs.Field.{natural}
use Rattle.ark_sum_check.proofs.ValuesThrough.{IsRow-begin, IsRow-more, IsRow-end}
use Rattle.ark_sum_check.proofs.through.value_in_place.Goals as goal

pub loop-apart-init : goal.loop-apart-init
loop-apart-init g c = IsRow-begin g.F.Field.field g.met.F.Field.field_laws c.args.partials.now c.args.x c.args.partials.now refl

pub loop-apart-preserved : goal.loop-apart-preserved
loop-apart-preserved g c =
    let K = g.F.Field.field in
    let F = g.met.F.Field in
    let n = c.loop-apart.apart in
    let at : c.from.result ≡ natural K n = F.from_law _ _ (omega arith) c.from.ensures in
    let inverse : K.times (natural K n) c.in-Some.inverse ≡ K.one = ap (λ s. K.times s c.in-Some.inverse) (sym at) ∙ c.in-Some.ensures.some in
    IsRow-more K F.field_laws c.args.partials.now c.args.x n c.loop-apart.partials c.along_lines.new.partials c.in-Some.inverse (omega arith) (omega arith) inverse c.loop-apart.invariant
    (omega arith) (λ i l. c.along_lines.ensures i (omega (arith, c.loop-apart.invariant.len)))

pub returns-clause-value : goal.returns-clause-value
returns-clause-value g c =
    let K = g.F.Field.field in
    IsRow-end K g.met.F.Field.field_laws c.args.partials.now c.args.x c.loop-apart.apart c.loop-apart.partials c.index-partials-0.result (omega arith) (omega arith)
    (get_or_read c.loop-apart.partials 0 c.index-partials-0.result (omega arith) c.index-partials-0.is K.zero) c.loop-apart.invariant
