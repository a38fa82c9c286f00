use Rattle.std.proofs.Common.{◌≡◌, take}
use Rattle.std.specs.Str.Parse.{AllDigits, digits_value}
use Rattle.ark_math.specs.Field.{natural}
use Rattle.ark_base.proofs.prime_numbers.element_of_digits.Given as goal

abbrev pub invariant-digits : goal.invariant-digits
invariant-digits g l =
    AllDigits l.base (take l.byte-index l.digits) × (l.number ≡ natural g.F.Field.field (digits_value l.base (take l.byte-index l.digits)))
