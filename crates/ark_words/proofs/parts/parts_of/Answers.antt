use Rattle.std.proofs.Common.{◌∙◌}
use Rattle.ark_math.specs.Domain.{IsDomain, radix2}
use Rattle.ark_math_transforms.proofs.Domains.Domains.{radix2_is_domain}
use Rattle.ark_fft.specs.Coset.{coset_domain}
use Rattle.ark_words.proofs.PartsInNumbers.{some_part}
use Rattle.ark_words.proofs.parts.parts_of.Goals as goal

pub returns-clause-lawful : goal.returns-clause-lawful
returns-clause-lawful g c =
    let F = g.F.FftField in
    let K = g.F.Field.field in
    let whole = c.in_ok-whole.whole in
    some_part c.new.result (λ p. p.whole) whole (λ w. IsDomain K F.adicity F.root (coset_domain radix2 w)) c.new.ensures.whole
    (radix2_is_domain K F.adicity F.root g.met.F.Field.equality_law whole.splits (c.in_ok-whole.ensures.odds ∙ c.subgroup.ensures.odds) whole.root_is whole.offset_not_zero)
