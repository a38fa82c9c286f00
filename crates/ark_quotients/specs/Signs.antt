-- What is added where terms are added or subtracted.
use Rattle.std.specs.Prelude.{ℕ}
use Rattle.ark_math.specs.Field.{FieldOn}
use Rattle.ark_quotients.specs.declared.conversions.Sign.{Sign}
use Rattle.ark_quotients.specs.declared.conversions.Sign.TheVariants.{Plus, Minus}

-- the value itself, or its negative
abbrev pub signed : {F : Type 0} → FieldOn F → Sign → F → F
signed K Plus x = x
signed K Minus x = K.negated x

-- each coefficient itself, or its negative
abbrev pub all_signed : {F : Type 0} → FieldOn F → Sign → (ℕ → F) → ℕ → F
all_signed K sign a i = signed K sign (a i)
