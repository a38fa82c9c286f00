use Rattle.std.proofs.Common.{◌≡◌, ℕ, ◌+◌, ◌-◌, ◌/◌, ◌*◌, ◌%◌, ◌<◌, ◌≤◌, ◌∙◌, get_or, sym, ap, ap₂, arith}
use Rattle.ark_math_domains.specs.Points.{reindexed}
use Rattle.ark_univariate.proofs.Reindexed.{reindexed_first, reindexed_rest, reindexed_below}
use Rattle.ark_univariate.proofs.domain.EvaluationDomain.reindex_by_subdomain.Goals as goal

-- an index past the first ones goes to a place of the domain
the_rest : (n s i a b e : ℕ) → n % s ≡ 0 → i < n → s ≤ i → a ≡ n → b ≡ s → e ≡ s → i - e + (i - e) / (a / b - 1) + 1 < a
the_rest n s i a b e divides l outside f g h =
    let some : 0 < n = omega arith in
    let below : get_or (reindexed n s) i 0 < n = reindexed_below n s some divides i l in
    let is : i - e + (i - e) / (a / b - 1) + 1 ≡ get_or (reindexed n s) i 0 =
    ap₂ (λ u v. i - e + (i - e) / (u / v - 1) + 1) f g ∙ ap (λ t. i - t + (i - t) / (n / s - 1) + 1) h ∙ sym (reindexed_rest n s some divides i outside l) in
    omega arith

pub returns-then-i-size : goal.returns-then-i-size
returns-then-i-size g c =
    let n = (g.Self.EvaluationDomain.domain c.args.self.now).size in
    let s = (g.Self.EvaluationDomain.domain c.args.other).size in
    let some : 0 < n = omega (arith, c.requires.within) in
    let inside : c.args.i < s = omega (arith, c.if-i-size.true) in
    ap₂ (λ a b. c.args.i * (a / b)) c.size.ensures c.size-2.ensures ∙ sym (reindexed_first n s some c.requires.divides c.args.i inside)

pub returns-else-i-size : goal.returns-else-i-size
returns-else-i-size g c =
    let n = (g.Self.EvaluationDomain.domain c.args.self.now).size in
    let s = (g.Self.EvaluationDomain.domain c.args.other).size in
    let some : 0 < n = omega (arith, c.requires.within) in
    let outside : s ≤ c.args.i = omega (arith, c.if-i-size.false) in
    ap₂ (λ a b. c.args.i - c.size-else-i-size.result + (c.args.i - c.size-else-i-size.result) / (a / b - 1) + 1) c.size.ensures c.size-2.ensures
    ∙ ap (λ t. c.args.i - t + (c.args.i - t) / (n / s - 1) + 1) c.size-else-i-size.ensures
    ∙ sym (reindexed_rest n s some c.requires.divides c.args.i outside c.requires.within)

pub overflow_add-result-else-i-size : goal.overflow_add-result-else-i-size
overflow_add-result-else-i-size g c =
    let n = (g.Self.EvaluationDomain.domain c.args.self.now).size in
    let s = (g.Self.EvaluationDomain.domain c.args.other).size in
    let is = the_rest n s c.args.i c.size.result c.size-2.result c.size-else-i-size.result c.requires.divides c.requires.within (omega (arith, c.if-i-size.false)) c.size.ensures c.size-2.ensures c.size-else-i-size.ensures in
    omega arith

pub overflow_add-result : goal.overflow_add-result
overflow_add-result g c =
    let n = (g.Self.EvaluationDomain.domain c.args.self.now).size in
    let s = (g.Self.EvaluationDomain.domain c.args.other).size in
    let is = the_rest n s c.args.i c.size.result c.size-2.result c.size-else-i-size.result c.requires.divides c.requires.within (omega (arith, c.if-i-size.false)) c.size.ensures c.size-2.ensures c.size-else-i-size.ensures in
    omega arith
