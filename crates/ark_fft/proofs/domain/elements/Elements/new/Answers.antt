use Rattle.std.proofs.Common.{◌≡◌, ◌-◌, ap, arith}
use Rattle.ark_math.specs.Field.{power}
use Rattle.ark_math.specs.Module.{tabulate}
use Rattle.ark_fft.specs.Elements.{left}
use Rattle.ark_fft.proofs.Yielded.{always_yields}
use Rattle.ark_fft.proofs.domain.elements.Elements.new.Goals as goal

pub returns : goal.returns
returns g c =
    let K = g.F.Field.field in
    let all_left : c.args.size - 0 ≡ c.args.size = omega arith in
    always_yields (left K) _ _ (ap (λ n. tabulate n (λ i. K.times c.args.offset (power K c.args.group_gen i))) all_left)
