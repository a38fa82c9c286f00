use Rattle.ark_math_transforms.proofs.Domains.MixedSizes.{exponent_of_two}
use Rattle.ark_fft.proofs.domain.coset.Coset.log_size_of_group.Goals as goal

pub returns : goal.returns
returns g c =
    let t = c.args.self.now in
    exponent_of_two g.F.FftField.adicity t.size t.log_size_of_group t.odd_exponent g.met.F.FftField.roots_law.base t.splits.product
