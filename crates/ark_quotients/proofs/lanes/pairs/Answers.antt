use Rattle.std.proofs.Common.{◌≡◌, ℕ, ◌<◌, ◌∷◌, [], ◌++◌, length, map, ap, ap₂, sym, ◌∙◌, arith}
use Rattle.std.proofs.lemmas.List.{map-append, get_or_read}
use Rattle.ark_math.specs.Module.{tabulate}
use Rattle.ark_math.specs.Univariate.{of_list}
use Rattle.ark_math.proofs.Lists.Tabulated.{tabulate-push}
use Rattle.ark_quotients.proofs.lanes.pairs.Goals as goal

pub loop-i-init : goal.loop-i-init
loop-i-init g c = ap (map (λ v. (v.first, v.second))) c.in_ok-lanes.ensures.items

pub loop-i-preserved : goal.loop-i-preserved
loop-i-preserved g c =
    let K = g.F.Field.field in
    let F = g.row.F.Denot in
    let i = c.loop-i.i in
    let items = c.loop-i.lanes.items in
    let pair : ℕ → F × F = λ k. (of_list K c.args.first.now k, of_list K c.args.second.now k) in
    let both : F → F → F × F = λ x y. (x, y) in
    let in_first : i < length c.args.first.now = omega arith in
    let in_second : i < length c.args.second.now = omega arith in
    let first : c.index-first-i.result ≡ of_list K c.args.first.now i = get_or_read c.args.first.now i c.index-first-i.result in_first c.index-first-i.is K.zero in
    let second : c.index-second-i.result ≡ of_list K c.args.second.now i = get_or_read c.args.second.now i c.index-second-i.result in_second c.index-second-i.is K.zero in
    ap (map (λ v. both v.first v.second)) c.in_ok-push.ensures.items
    ∙ map-append (λ v. both v.first v.second) items (c.new.result ∷ [])
    ∙ ap₂ (λ xs x. xs ++ x ∷ []) c.loop-i.invariant (c.new.ensures ∙ ap₂ both first second)
    ∙ sym (tabulate-push i pair)

pub returns : goal.returns
returns g c =
    let K = g.F.Field.field in
    let F = g.row.F.Denot in
    let pair : ℕ → F × F = λ i. (of_list K c.args.first.now i, of_list K c.args.second.now i) in
    let all : c.loop-i.i ≡ c.args.len = omega arith in
    c.loop-i.invariant ∙ ap (λ n. tabulate n pair) all
