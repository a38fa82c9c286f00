use Rattle.std.proofs.Common.{rules, ◌≡◌, ◌+◌, ◌*◌, ◌<◌, length, refl, arith}
use Rattle.std.proofs.lemmas.Nat.{mul-add-lt}
use Rattle.ark_math.proofs.Lists.Lists.{read_as}
use Rattle.ark_fft.proofs.Counts.{none_yet}
use Rattle.ark_fft_parts.proofs.Matrices.{filled_more, filled_column, other_columns}
use Rattle.ark_fft_parts.proofs.matrix.put_column.Goals as goal

pub offset_bounds-block-i : goal.offset_bounds-block-i
offset_bounds-block-i g c =
    let below = mul-add-lt c.loop-i.i c.args.count c.args.j (length c.args.items.now) c.loop-i-test.true c.requires.within in
    let inside : c.loop-i.i * c.args.count + c.args.j < length c.loop-i.block = omega arith in
    search rules

pub loop-i-init : goal.loop-i-init
loop-i-init g c = record { done = λ k l. none_yet k l; others = λ k n l ne. refl }

pub loop-i-preserved : goal.loop-i-preserved
loop-i-preserved g c =
    let V = g.T.DomainCoeff.group in
    let m = g.T.DomainCoeff.meaning in
    let i = c.loop-i.i in
    let items = c.args.items.now in
    let below = mul-add-lt i c.args.count c.args.j (length items) c.loop-i-test.true c.requires.within in
    let inside : i * c.args.count + c.args.j < length c.loop-i.block = omega arith in
    filled_more V m c.args.count c.args.j i items c.args.block.now c.loop-i.block c.index-items-i.result c.requires.within inside
    (read_as m V.zero items i c.index-items-i.result c.loop-i-test.true c.index-items-i.is) c.loop-i.invariant

pub returns-clause-column : goal.returns-clause-column
returns-clause-column g c =
    let all : length c.args.items.now ≡ c.loop-i.i = omega arith in
    filled_column g.T.DomainCoeff.group g.T.DomainCoeff.meaning c.args.count c.args.j c.loop-i.i c.args.items.now c.args.block.now c.loop-i.block all c.loop-i.invariant

pub returns-clause-others : goal.returns-clause-others
returns-clause-others g c =
    other_columns g.T.DomainCoeff.group g.T.DomainCoeff.meaning c.args.count c.args.j c.loop-i.i (length c.args.items.now) c.args.items.now c.args.block.now c.loop-i.block c.loop-i.invariant
