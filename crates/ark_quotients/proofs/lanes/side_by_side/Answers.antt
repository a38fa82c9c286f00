use Rattle.std.proofs.Common.{◌≡◌, ℕ, ◌<◌, ◌≤◌, ◌∷◌, [], ◌++◌, length, get_or, map, ap, ap₂, sym, ◌∙◌, arith, ⊎_elim}
use Rattle.std.proofs.lemmas.Bool.{cases_lt}
use Rattle.std.proofs.lemmas.List.{map-append, get_or_past, length-map}
use Rattle.ark_math.specs.Module.{tabulate}
use Rattle.ark_math.specs.Univariate.{of_list}
use Rattle.ark_math.proofs.Lists.Lists.{read_fitted}
use Rattle.ark_math.proofs.Lists.Tabulated.{tabulate-push, get_or-tabulate, length-tabulate, is_tabulated}
use Rattle.ark_math_polynomials.proofs.Polynomials.UnivariateLists.{of_list-past}
use Rattle.ark_quotients.proofs.lanes.side_by_side.Goals as goal

pub loop-i-init : goal.loop-i-init
loop-i-init g c = c.in_ok-lanes.ensures

pub loop-i-preserved : goal.loop-i-preserved
loop-i-preserved g c =
    let K = g.F.Field.field in
    let F = g.row.F.Denot in
    let items = c.loop-i.lanes.items in
    let pair : ℕ → F × F = λ i. (of_list K c.args.first.now i, of_list K c.args.second.now i) in
    let both : F → F → F × F = λ x y. (x, y) in
    ap (map (λ v. both v.first v.second)) c.in_ok-push.ensures.items
    ∙ map-append (λ v. both v.first v.second) items (c.new.result ∷ [])
    ∙ ap₂ (λ xs x. xs ++ x ∷ []) c.loop-i.invariant (c.new.ensures ∙ ap₂ both c.coefficient_at.ensures c.coefficient_at-in-loop-i.ensures)
    ∙ sym (tabulate-push c.loop-i.i pair)

pub returns : goal.returns
returns g c =
    let K = g.F.Field.field in
    let F = g.row.F.Denot in
    let first = c.args.first.now in
    let second = c.args.second.now in
    let i = c.loop-i.i in
    let both : F → F → F × F = λ x y. (x, y) in
    let none = both K.zero K.zero in
    let pair : ℕ → F × F = λ k. both (of_list K first k) (of_list K second k) in
    let as_pushed : (j : ℕ) → j < c.args.len → get_or (tabulate i pair) j none ≡ pair j =
    λ j l. ⊎_elim
    (λ (below : j < i). get_or-tabulate i pair j none below)
    (λ (past : i ≤ j).
    let past_first : length first ≤ j = omega arith in
    let past_second : length second ≤ j = omega arith in
    get_or_past (tabulate i pair) j none (let e = length-tabulate i pair in omega arith)
    ∙ sym (ap₂ both (of_list-past K first j past_first) (of_list-past K second j past_second)))
    (cases_lt j i) in
    let filled : length c.resize.new.self.items ≡ c.args.len = omega (arith, c.in_ok-resize.ensures.len) in
    is_tabulated none (map (λ v. both v.first v.second) c.resize.new.self.items) c.args.len pair
    (length-map c.resize.new.self.items (λ v. both v.first v.second) ∙ filled)
    (λ j l.
    ap (λ t. get_or (map (λ v. both v.first v.second) t) j none) c.in_ok-resize.ensures.items
    ∙ read_fitted (λ v. both v.first v.second) none c.loop-i.lanes.items c.args.len _ c.zero.result (ap (λ v. both v.first v.second) c.zero.ensures) j l
    ∙ ap (λ t. get_or t j none) c.loop-i.invariant
    ∙ as_pushed j l)
