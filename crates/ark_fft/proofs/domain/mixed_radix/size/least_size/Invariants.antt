use Rattle.ark_math_transforms.proofs.Domains.MixedSizes.{IsLeastBelow}
use Rattle.ark_fft.proofs.domain.mixed_radix.size.least_size.Given as goal

abbrev pub invariant-loop-odds : goal.invariant-loop-odds
invariant-loop-odds g l = IsLeastBelow g.F.FftField.adicity l.num_coeffs l.odds l.least
