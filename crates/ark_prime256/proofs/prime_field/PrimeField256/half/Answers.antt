use Rattle.std.proofs.Common.{◌+◌, ◌*◌, arith}
use Rattle.std.specs.Int.{from_bool}
use Rattle.ark_prime256.specs.Words.{integer}
use Rattle.ark_prime256.specs.Modulus256Laws.{is_odd}
use Rattle.ark_prime256.proofs.Element.{read_modulus}
use Rattle.ark_prime256.proofs.Inverses.{half_is, even_word}
use Rattle.ark_prime256.proofs.prime_field.PrimeField256.half.Goals as goal

pub quotient-requires-clause-zeros : goal.quotient-requires-clause-zeros
quotient-requires-clause-zeros g c =
    let m = g.M.PrimeModulus256 in
    let even = c.sum-over.result.0 in
    even_word even.w0 (even.w1 + 18446744073709551616 * even.w2 + 340282366920938463463374607431768211456 * even.w3) (integer even) (from_bool c.sum-over.result.1) (integer c.MODULUS_WORDS.result) (integer c.of_word.result) m.MODULUS
    (omega arith) c.sum-over.ensures (read_modulus m m.modulus c.MODULUS_WORDS.result c.MODULUS_WORDS.ensures) c.of_word.ensures (is_odd m.modulus)

pub returns : goal.returns
returns g c =
    let m = g.M.PrimeModulus256 in
    half_is m.modulus c.reduce.result (integer c.quotient.result) (integer c.sum-over.result.0) (integer c.MODULUS_WORDS.result) (integer c.of_word.result) (from_bool c.sum-over.result.1)
    c.reduce.ensures c.quotient.ensures c.sum-over.ensures (read_modulus m m.modulus c.MODULUS_WORDS.result c.MODULUS_WORDS.ensures) c.of_word.ensures
