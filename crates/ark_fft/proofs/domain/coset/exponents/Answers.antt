use Rattle.std.proofs.Common.{sym, ◌∙◌}
use Rattle.ark_math_transforms.proofs.Domains.Exponents.{size_not_zero, few_twos, base_above_one, splits_with_base, splits_without_base}
use Rattle.ark_fft.proofs.domain.coset.exponents.Goals as goal

pub overflow_shr-size : goal.overflow_shr-size
overflow_shr-size g c =
    let s = g.F.FftField.adicity in
    let lawful = g.met.F.FftField.roots_law.base in
    few_twos s c.args.size lawful c.requires _ (c.k_adicity-twos.ensures.greatest (size_not_zero s c.args.size lawful c.requires))

pub k_adicity-requires : goal.k_adicity-requires
k_adicity-requires g c =
    let s = g.F.FftField.adicity in
    base_above_one s c.args.size g.met.F.FftField.roots_law.base c.requires _ _ (sym c.odd_base.ensures ∙ c.in-Some.is)

pub returns-in-Some : goal.returns-in-Some
returns-in-Some g c =
    let s = g.F.FftField.adicity in
    let lawful = g.met.F.FftField.roots_law.base in
    splits_with_base s c.args.size lawful c.requires _ _ _ _ (sym c.odd_base.ensures ∙ c.in-Some.is) (c.k_adicity-twos.ensures.greatest (size_not_zero s c.args.size lawful c.requires))
    c.k_adicity.ensures.greatest

pub returns-in-None : goal.returns-in-None
returns-in-None g c =
    let s = g.F.FftField.adicity in
    let lawful = g.met.F.FftField.roots_law.base in
    splits_without_base s c.args.size lawful c.requires _ (sym c.odd_base.ensures ∙ c.in-None.is) (c.k_adicity-twos.ensures.greatest (size_not_zero s c.args.size lawful c.requires))
