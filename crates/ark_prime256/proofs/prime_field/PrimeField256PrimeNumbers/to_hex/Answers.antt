use Rattle.std.proofs.Common.{◌≡◌, ◌∙◌, ap, string_bytes}
use Rattle.std.proofs.lemmas.Result.{IfOk-weaker}
use Rattle.ark_base.specs.Numerals.{hexadecimal_text}
use Rattle.ark_prime256.specs.Words.{integer}
use Rattle.ark_prime256.proofs.prime_field.PrimeField256PrimeNumbers.to_hex.Goals as goal

pub returns : goal.returns
returns g c =
    IfOk-weaker c.to_string.result (λ text. string_bytes text ≡ hexadecimal_text (integer c.into_bigint.result)) _
    (λ text e. e ∙ ap hexadecimal_text c.into_bigint.ensures.number) c.to_string.ensures.ok
