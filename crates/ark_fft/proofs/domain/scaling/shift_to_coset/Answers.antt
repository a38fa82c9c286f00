use Rattle.std.proofs.Common.{◌≡◌, true, length, map, sym, ◌∙◌, refl, arith}
use Rattle.ark_math.specs.Domain.{radix2}
use Rattle.ark_math.specs.Module.{item}
use Rattle.ark_math_transforms.proofs.Transforms.Transforms.{unshifted}
use Rattle.ark_fft.proofs.Cost.{none_grown}
use Rattle.ark_fft.proofs.Counts.{itself, least}
use Rattle.ark_fft.proofs.domain.scaling.shift_to_coset.Goals as goal

pub returns-else-not-is_one-clause-items : goal.returns-else-not-is_one-clause-items
returns-else-not-is_one-clause-items g c =
    let xs = map g.T.Summand.meaning c.args.xs.now in
    let is : c.is_one.result ≡ true = grind arith in
    let one : c.args.offset ≡ g.F.Field.field.one = (g.met.F.Field.equality_law c.args.offset g.F.One.one).0 (sym c.is_one.ensures ∙ is) ∙ g.met.F.Field.one_law in
    unshifted g.met.F.Field.field_laws g.met.T.Summand.module_laws (record { kind = radix2; size = length c.args.xs.now; root = c.args.offset; offset = c.args.offset }) xs (item g.T.Summand.group xs) one (λ j l. refl)

pub returns-then-not-is_one-clause-counted : goal.returns-then-not-is_one-clause-counted
returns-then-not-is_one-clause-counted g c = record { scalings = length c.args.xs.now; few = itself _; grows = c.scale_by_powers.ensures.counted }

pub returns-else-not-is_one-clause-counted : goal.returns-else-not-is_one-clause-counted
returns-else-not-is_one-clause-counted g c = record { scalings = 0; few = least (length c.args.xs.now); grows = none_grown c.args.work.now }
