use Rattle.std.proofs.Common.{◌≡◌, string_bytes}
use Rattle.std.specs.Prelude.{IfSome}
use Rattle.std.proofs.lemmas.Result.{IfOk-weaker}
use Rattle.ark_base.proofs.prime_numbers.PrimeNumbers.to_decimal.Goals as goal

pub returns : goal.returns
returns g c =
    let shown = g.met.Self.PrimeNumbers.display_law c.args.self in
    IfOk-weaker c.to_string.result (λ text. IfSome (g.Self.Display.output c.args.self) (λ bytes. string_bytes text ≡ bytes)) _ (λ text written. rw shown at written)
    c.to_string.ensures.ok
