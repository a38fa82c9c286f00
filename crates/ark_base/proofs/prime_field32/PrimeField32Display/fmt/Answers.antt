use Rattle.std.proofs.Common.{subst, ◌∙◌, ap, arith}
use Rattle.std.specs.Fmt.{HasWritten}
use Rattle.ark_base.specs.Numerals.{decimal_text}
use Rattle.ark_base.proofs.Numerals.{decimal_is_text}
use Rattle.ark_base.proofs.prime_field32.PrimeField32Display.fmt.Goals as goal

pub returns-clause-writes : goal.returns-clause-writes
returns-clause-writes g c plain done =
    let m = g.M.PrimeModulus32 in
    subst (λ text. HasWritten {W = g.row.W.Denot} g.W.Write.write_str_gives c.args.f.now text c.fmt.new.f)
    (decimal_is_text c.value.result (omega (arith, c.value.ensures.below, m.modulus.numbers.small)) ∙ ap decimal_text c.value.ensures.number)
    (c.fmt.ensures.writes plain done)
