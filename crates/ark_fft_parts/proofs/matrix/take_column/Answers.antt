use Rattle.std.proofs.Common.{◌≡◌, ◌+◌, ◌*◌, ◌<◌, length, map, ap, ◌∙◌, arith}
use Rattle.std.proofs.lemmas.Nat.{mul-add-lt}
use Rattle.ark_math.specs.Module.{item, tabulate}
use Rattle.ark_math.proofs.Lists.Lists.{read_as}
use Rattle.ark_fft_parts.proofs.Matrices.{taken_more}
use Rattle.ark_fft_parts.proofs.matrix.take_column.Goals as goal

pub loop-i-init : goal.loop-i-init
loop-i-init g c = ap (map g.T.DomainCoeff.meaning) c.in_ok-taken.ensures.items

pub loop-i-preserved : goal.loop-i-preserved
loop-i-preserved g c =
    let V = g.T.DomainCoeff.group in
    let m = g.T.DomainCoeff.meaning in
    let i = c.loop-i.i in
    let block = c.args.block.now in
    let place = i * c.args.count + c.args.j in
    let below = mul-add-lt i c.args.count c.args.j c.args.rows c.loop-i-test.true c.requires.within in
    let inside : place < length block = omega (arith, below, c.requires.size) in
    ap (map m) c.in_ok-push.ensures.items
    ∙ taken_more V m (λ k. item V (map m block) (k * c.args.count + c.args.j)) c.loop-i.taken.items i c.index-block-i.result c.loop-i.invariant
    (read_as m V.zero block place c.index-block-i.result inside c.index-block-i.is)

pub returns : goal.returns
returns g c =
    let V = g.T.DomainCoeff.group in
    let m = g.T.DomainCoeff.meaning in
    let all : c.loop-i.i ≡ c.args.rows = omega arith in
    record { column = c.loop-i.invariant ∙ ap (λ n. tabulate n (λ k. item V (map m c.args.block.now) (k * c.args.count + c.args.j))) all }
