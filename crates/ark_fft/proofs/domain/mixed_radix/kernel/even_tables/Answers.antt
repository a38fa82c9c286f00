use Rattle.std.proofs.Common.{◌≡◌, ℕ, List, ◌*◌, ◌/◌, ◌%◌, ◌<◌, ◌^◌, length, get_or, take, ◌+◌, ap, subst, sym, ◌∙◌, arith}
use Rattle.std.proofs.Math.Nat.{mul-div_cancel_left}
use Rattle.std.proofs.Math.Pow.{pow_pos}
use Rattle.ark_math.specs.Field.{power}
use Rattle.ark_math.specs.Root.{odd_base}
use Rattle.ark_math_transforms.proofs.Domains.MixedSizes.{base_positive}
use Rattle.ark_math.proofs.Numbers.GreatestPowers.{few_factors}
use Rattle.ark_math.proofs.Outcomes.Results.{IfOk_more}
use Rattle.ark_fft.specs.Halves.{ArePowers, AreLevels}
use Rattle.ark_fft.proofs.Halving.{shifted}
use Rattle.ark_fft.proofs.Mixed.{IfOk_all, base_power, even_levels}
use Rattle.ark_fft.proofs.domain.mixed_radix.kernel.even_tables.Goals as goal

pub overflow_shr-coset : goal.overflow_shr-coset
overflow_shr-coset g c =
    let t = c.args.coset.now in
    let some = base_power (odd_base g.F.FftField.adicity.odd) t.odd_exponent (base_positive g.F.FftField.adicity g.met.F.FftField.roots_law.base) in
    few_factors 2 t.log_size_of_group (odd_base g.F.FftField.adicity.odd ^ t.odd_exponent) t.size (omega arith) some t.splits.product t.splits.fits

pub overflow_shl-log_len : goal.overflow_shl-log_len
overflow_shl-log_len g c =
    let t = c.args.coset.now in
    let some = base_power (odd_base g.F.FftField.adicity.odd) t.odd_exponent (base_positive g.F.FftField.adicity g.met.F.FftField.roots_law.base) in
    few_factors 2 t.log_size_of_group (odd_base g.F.FftField.adicity.odd ^ t.odd_exponent) t.size (omega arith) some t.splits.product t.splits.fits

pub returns-clause-len : goal.returns-clause-len
returns-clause-len g c =
    let t = c.args.coset.now in
    let some = base_power (odd_base g.F.FftField.adicity.odd) t.odd_exponent (base_positive g.F.FftField.adicity g.met.F.FftField.roots_law.base) in
    let few = few_factors 2 t.log_size_of_group (odd_base g.F.FftField.adicity.odd ^ t.odd_exponent) t.size (omega arith) some t.splits.product t.splits.fits in
    IfOk_more c.level_tables.result (λ v len some. len ∙ shifted t.log_size_of_group few) c.level_tables.ensures.len

pub returns-clause-levels : goal.returns-clause-levels
returns-clause-levels g c = λ order.
    let K = g.F.Field.field in
    let N = g.met.F.Field.field_laws in
    let t = c.args.coset.now in
    let twos = t.log_size_of_group in
    let part = odd_base g.F.FftField.adicity.odd ^ t.odd_exponent in
    let some = base_power (odd_base g.F.FftField.adicity.odd) t.odd_exponent (base_positive g.F.FftField.adicity g.met.F.FftField.roots_law.base) in
    let few = few_factors 2 twos part t.size (omega arith) some t.splits.product t.splits.fits in
    let size = shifted twos few in
    let is_part : t.size / 2 ^ twos ≡ part = ap (λ n. n / 2 ^ twos) t.splits.product ∙ mul-div_cancel_left part (pow_pos twos) in
    let root : c.pow.result ≡ power K c.args.root part = c.pow.ensures ∙ ap (power K c.args.root) is_part in
    let n = 1 * 2 ^ twos % 18446744073709551616 in
    let whole = λ (tables : List g.row.F.Denot) (len : length tables ≡ n) (first : ArePowers K c.pow.result (n / 2) (take (n / 2) tables)) (seconds : (k : ℕ) → k < n / 2 → get_or tables (n / 2 + k) K.zero ≡ get_or tables (2 * k) K.zero).
    even_levels K N c.args.root t.size twos part tables t.splits.product some order (len ∙ size)
    (subst (λ s. ArePowers K (power K c.args.root part) (s / 2) (take (s / 2) tables)) size (subst (λ x. ArePowers K x (n / 2) (take (n / 2) tables)) root first))
    (subst (λ s. (k : ℕ) → k < s / 2 → get_or tables (s / 2 + k) K.zero ≡ get_or tables (2 * k) K.zero) size seconds) in
    IfOk_all c.level_tables.result (λ v. whole v.items) c.level_tables.ensures.len c.level_tables.ensures.first c.level_tables.ensures.seconds

pub returns-then-log_len-eq0-clause-levels : goal.returns-then-log_len-eq0-clause-levels
returns-then-log_len-eq0-clause-levels g c = λ order.
    let K = g.F.Field.field in
    let root = power K c.args.root (odd_base g.F.FftField.adicity.odd ^ c.args.coset.now.odd_exponent) in
    subst (λ k. AreLevels K root k c.new.result.items) (sym c.if-log_len-eq0.true) tt

pub returns-then-log_len-eq0-clause-len : goal.returns-then-log_len-eq0-clause-len
returns-then-log_len-eq0-clause-len g c = λ some. absurd (omega arith)
