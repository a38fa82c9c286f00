use Rattle.std.proofs.Common.{◌≡◌, rules, refl, arith, ℕ, ◌<◌, ◌==◌, ◌^◌, if◌then◌else◌, subst, sym, ap, ◌∙◌}
use Rattle.std.specs.List.Sorted.{IsNonDecreasingBy}
use Rattle.std.proofs.lemmas.List.Sorted.{IsNonDecreasingBy-from_sort_by_key, sum_by-IsPermutation}
use Rattle.ark_math_variables.specs.Term.{power_of, total_degree}
use Rattle.ark_math.proofs.Outcomes.Results.{IfOk_more}
use Rattle.ark_tables.proofs.powers.collected_powers.Goals as goal

pub gathered_powers-requires-clause-rising : goal.gathered_powers-requires-clause-rising
gathered_powers-requires-clause-rising c =
    subst (IsNonDecreasingBy (λ (p : ℕ × ℕ). p.0)) (sym c.deref-2.ensures.value)
    (IsNonDecreasingBy-from_sort_by_key (λ (p : ℕ × ℕ). p.0) _ c.sort_unstable_by_key.ensures.sorted (λ a r f' h. search rules))

pub gathered_powers-requires-clause-fits : goal.gathered_powers-requires-clause-fits
gathered_powers-requires-clause-fits c =
    let fits : total_degree c.args.powers.items < 2 ^ 64 = subst (λ ps. total_degree ps < 2 ^ 64) c.deref.ensures.value (c.if-not-total_fits.ensures.0 refl) in
    let same : total_degree c.deref-2.result.now ≡ total_degree c.args.powers.items =
    ap total_degree c.deref-2.ensures.value ∙ sum_by-IsPermutation (λ p. p.1) c.args.powers.items c.sort_unstable_by_key.new.self.items c.sort_unstable_by_key.ensures.permutation in
    omega (arith, fits, same)

pub returns-clause-powers : goal.returns-clause-powers
returns-clause-powers c =
    IfOk_more c.gathered_powers.result
    (λ t e v. e v
    ∙ ap (λ ps. power_of ps v) c.deref-2.ensures.value
    ∙ sum_by-IsPermutation (λ p. if p.0 == v then p.1 else 0) c.args.powers.items c.sort_unstable_by_key.new.self.items c.sort_unstable_by_key.ensures.permutation)
    c.gathered_powers.ensures.powers
