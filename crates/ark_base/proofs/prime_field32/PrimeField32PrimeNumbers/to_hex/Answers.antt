use Rattle.std.proofs.Common.{◌≡◌, ◌∙◌, ap, string_bytes}
use Rattle.std.proofs.lemmas.Result.{IfOk-weaker}
use Rattle.ark_base.specs.Numerals.{hexadecimal_text}
use Rattle.ark_base.proofs.prime_field32.PrimeField32PrimeNumbers.to_hex.Goals as goal

pub returns : goal.returns
returns g c = IfOk-weaker c.hexadecimal.result (λ text. string_bytes text ≡ hexadecimal_text c.value.result) _ (λ text e. e ∙ ap hexadecimal_text c.value.ensures.number) c.hexadecimal.ensures
