use Rattle.std.proofs.Common.{◌*◌, ◌%◌, ◌^◌, ap₂}
use Rattle.ark_base.proofs.Element32.{number_of_form}
use Rattle.ark_base.proofs.prime_field32.PrimeField32.reduce.Goals as goal

pub returns : goal.returns
returns g c =
    number_of_form {g = g.M.PrimeModulus32} g.M.PrimeModulus32.modulus _ c.args.value
    (ap₂ (λ m k. (c.args.value % m * 2 ^ 32) % k) c.MODULUS.ensures c.MODULUS-2.ensures)
