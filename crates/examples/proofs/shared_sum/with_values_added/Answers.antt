use Rattle.std.proofs.Common.{◌≡◌, ◌<◌, ◌++◌, ◌∷◌, [], length, get_or, sym, ap₂, ◌∙◌, arith}
use Rattle.std.proofs.lemmas.List.{get_or_default, take_more, take_all}
use Rattle.ark_sharing.specs.Sharing.{added_shares}
use Rattle.ark_sharing.proofs.Sums.{get_or-added_shares, length-added_shares}
use Rattle.examples.proofs.shared_sum.with_values_added.Goals as goal

pub loop-i-preserved : goal.loop-i-preserved
loop-i-preserved g c =
    let K = g.F.Field.field in
    let N = g.met.F.Field.field_laws in
    let left = c.args.left.now in
    let right = c.args.right.now in
    let all = added_shares K left right in
    let i = c.loop-i.i in
    let l : i < length left = c.loop-i-test.true in
    let m : i < length right = omega (arith, l, c.requires) in
    let first = c.index-left-i.result in
    let again = c.index-left-i-in-loop-i.result in
    let other = c.index-right-i.result in
    let p : g.row.F.Denot × g.row.F.Denot = ((get_or left i first).0, c.add.result) in
    let sum : c.add.result ≡ K.plus (get_or left i again).1 (get_or right i other).1 = g.met.F.Field.add_law _ _ _ c.add.ensures in
    let value : c.add.result ≡ K.plus (get_or left i p).1 (get_or right i p).1 = sum ∙ ap₂ (λ s t. K.plus s.1 t.1) (get_or_default left i again p l) (get_or_default right i other p m) in
    let new : p ≡ ((get_or left i p).0, K.plus (get_or left i p).1 (get_or right i p).1) = ap₂ (λ s t. (s.0, t)) (get_or_default left i first p l) value in
    let place : p ≡ get_or all i p = new ∙ sym (get_or-added_shares K N left right i p c.requires l) in
    c.in_ok-push.ensures.items ∙ ap₂ (λ s t. s ++ t ∷ []) c.loop-i.invariant place ∙ sym (take_more all i p (omega (arith, l, length-added_shares K N left right c.requires)))

pub returns : goal.returns
returns g c =
    let K = g.F.Field.field in
    let left = c.args.left.now in
    let right = c.args.right.now in
    let count = length-added_shares K g.met.F.Field.field_laws left right c.requires in
    c.loop-i.invariant ∙ take_all c.loop-i.i (added_shares K left right) (omega (arith, c.loop-i-test.false, count))
