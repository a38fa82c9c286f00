use Rattle.std.proofs.Common.{ℕ, arith, refl, length}
use Rattle.std.proofs.lemmas.Result.{on_ok_weaker}
use Rattle.ark_math.specs.Root.{Adicity}
use Rattle.ark_math.specs.Domain.{radix2}
use Rattle.ark_math.specs.Cost.{forward, inverse, GoesBy}
use Rattle.ark_math.proofs.Domains.Sizes.{log_of_power}
use Rattle.ark_fft.proofs.Cost.{grown}
use Rattle.examples.proofs.cost.over_sixteen_and_back.Goals as goal

-- two levels of eight butterflies for four items
there : (s : Adicity) → GoesBy s radix2 16 4 forward 16 0
there s = (2, log_of_power 4 2 refl, refl, refl)

-- all four levels for every list on the way back
back : (s : Adicity) (len : ℕ) → GoesBy s radix2 16 len inverse 32 0
back s len = (4, log_of_power 16 4 refl, refl, refl)

pub returns-clause-butterflies : goal.returns-clause-butterflies
returns-clause-butterflies g c =
    let s = g.F.FftField.adicity in
    let base = g.met.F.FftField.roots_law.base in
    let first = grown s base _ _ forward _ _ 16 4 _ _ c.requires.sixteen c.requires.four (there s) c.in_ok-fft_counted.ensures.cost in
    on_ok_weaker c.ifft_counted.result
    (λ h. let second = grown s base _ _ inverse _ _ 16 (length c.fft_counted.new.coeffs.items) _ _ c.requires.sixteen refl (back s (length c.fft_counted.new.coeffs.items)) h in omega (arith, first.butterflies, second.butterflies))
    c.ifft_counted.ensures.cost

pub returns-clause-products : goal.returns-clause-products
returns-clause-products g c =
    let s = g.F.FftField.adicity in
    let base = g.met.F.FftField.roots_law.base in
    let first = grown s base _ _ forward _ _ 16 4 _ _ c.requires.sixteen c.requires.four (there s) c.in_ok-fft_counted.ensures.cost in
    on_ok_weaker c.ifft_counted.result
    (λ h. let second = grown s base _ _ inverse _ _ 16 (length c.fft_counted.new.coeffs.items) _ _ c.requires.sixteen refl (back s (length c.fft_counted.new.coeffs.items)) h in omega (arith, first.products, second.products, c.requires.sixteen))
    c.ifft_counted.ensures.cost
