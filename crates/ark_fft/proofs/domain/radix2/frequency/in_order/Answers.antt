use Rattle.std.proofs.Common.{◌≡◌, ◌<◌, ◌^◌, arith, length, map, sym, ap, ◌∙◌}
use Rattle.ark_math.specs.Module.{item}
use Rattle.ark_math_transforms.proofs.Transforms.Places.{dft_at}
use Rattle.ark_fft.proofs.Halving.{few_levels, all_levels}
use Rattle.ark_fft.proofs.domain.radix2.frequency.in_order.Goals as goal

pub bit_reverse-requires-clause-few : goal.bit_reverse-requires-clause-few
bit_reverse-requires-clause-few g c =
    let b : 2 ^ c.args.levels < 2 ^ 64 = omega arith in
    few_levels c.args.levels b

pub returns-clause-sums : goal.returns-clause-sums
returns-clause-sums g c = λ w table i l.
    let m = g.T.Summand.meaning in
    let V = g.T.Summand.group in
    let b : i < 2 ^ c.args.levels = omega arith in
    let mid : length c.first_halves.new.xs ≡ 2 ^ c.args.levels = omega arith in
    let now : length c.bit_reverse.new.xs ≡ 2 ^ c.args.levels = omega arith in
    all_levels g.met.F.Field.field_laws g.met.T.Summand.module_laws m c.args.levels w c.args.xs.now c.first_halves.new.xs c.bit_reverse.new.xs mid now (c.first_halves.ensures.sums w table) c.bit_reverse.ensures i b
    ∙ ap (λ n. dft_at g.F.Field.field V n w (item V (map m c.args.xs.now)) i) (sym c.requires.size)
