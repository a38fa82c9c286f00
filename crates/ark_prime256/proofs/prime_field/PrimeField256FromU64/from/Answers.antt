use Rattle.std.proofs.Common.{◌%◌, ap, ◌∙◌}
use Rattle.ark_prime256.proofs.Element.{residue_is}
use Rattle.ark_prime256.proofs.prime_field.PrimeField256FromU64.from.Goals as goal

pub returns : goal.returns
returns g c =
    let m = g.M.PrimeModulus256 in
    residue_is m.modulus _ c.args.value (c.reduce.ensures ∙ ap (λ n. n % m.MODULUS) c.of_word.ensures)
