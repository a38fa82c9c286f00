use Rattle.std.proofs.Common.{◌≡◌, length, map, take, sym, ap, ◌∙◌, arith}
use Rattle.std.proofs.Math.Seq.{take-length}
use Rattle.std.proofs.lemmas.Simd.{map-map}
use Rattle.ark_quotients.proofs.lanes.products_of_lanes.Goals as goal

pub returns : goal.returns
returns g c =
    let K = g.F.Field.field in
    let all : c.loop-i.i ≡ length c.args.lanes.now = omega arith in
    c.loop-i.invariant
    ∙ ap (λ i. map (λ v. K.times v.first v.second) (take i c.args.lanes.now)) all
    ∙ ap (map (λ v. K.times v.first v.second)) (take-length c.args.lanes.now)
    ∙ sym (map-map (λ t. K.times t.0 t.1) (λ v. (v.first, v.second)) c.args.lanes.now)
