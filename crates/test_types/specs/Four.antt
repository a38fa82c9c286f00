-- The field of four elements: pairs of bits, of which the high one counts a root of x * x + x + 1.
use Rattle.std.specs.Prelude.{ℕ, ◌==◌, ◌&&◌, Bool, true, false, not, cond, Some}
use Rattle.std.specs.Bool.{beq}
use Rattle.ark_math.specs.Field.{FieldOn}
use Rattle.ark_math.specs.Root.{Adicity}
use Rattle.test_types.specs.declared.four.Four.{Four}

-- the sum of two bits
abbrev pub bit_sum : Bool → Bool → Bool
bit_sum x y = not (beq x y)

abbrev pub bits : Bool → Bool → Four
bits high low = record { high = high; low = low }

abbrev pub four : FieldOn Four
four = record {
  zero = bits false false;
  one = bits false true;
  plus = λ x y. bits (bit_sum x.high y.high) (bit_sum x.low y.low);
  times = λ x y. bits (bit_sum (bit_sum (x.high && y.high) (x.high && y.low)) (x.low && y.high)) (bit_sum (x.high && y.high) (x.low && y.low));
  negated = λ x. x;
}

-- sizes 1 and 3 alone
abbrev pub thirds : Adicity
thirds = record { two = 0; odd = Some (3, 1) }

abbrev pub root_of_four : ℕ → Four
root_of_four n = cond (n == 3) (bits true false) four.one
