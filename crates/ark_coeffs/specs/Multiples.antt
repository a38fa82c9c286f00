-- What a multiple multiplies by.
use Rattle.ark_math.specs.Field.{FieldOn}
use Rattle.ark_coeffs.specs.declared.multiple.Multiple.{Multiple}
use Rattle.ark_coeffs.specs.declared.multiple.Multiple.TheVariants.{Same, Opposite, Times}

-- one, minus one, or the factor itself
abbrev pub factor_of : {F : Type 0} → FieldOn F → Multiple F → F
factor_of K Same = K.one
factor_of K Opposite = K.negated K.one
factor_of K (Times factor) = factor
