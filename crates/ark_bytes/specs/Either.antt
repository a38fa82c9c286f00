-- One of two, as mathematics has it.
use Rattle.std.specs.Prelude.{◌⊎◌}
use Rattle.std.proofs.Common.{inl, inr}
use Rattle.ark_bytes.specs.declared.one_of_two.Either.{Either}
use Rattle.ark_bytes.specs.declared.one_of_two.Either.TheVariants.{First, Second}

abbrev pub sum_of : {A B : Type 0} → Either A B → A ⊎ B
sum_of (First a) = inl a
sum_of (Second b) = inr b
