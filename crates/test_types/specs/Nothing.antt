-- The module of one value.
use Rattle.std.specs.Prelude.{refl}
use Rattle.ark_math.specs.Field.{FieldOn}
use Rattle.ark_math.specs.Module.{ModuleOn, IsModule}

abbrev pub nothing : {F : Type 0} → ModuleOn F (Unit {0})
nothing = record { zero = tt; plus = λ x y. tt; negated = λ x. tt; scale = λ a x. tt }

pub nothing_laws : {F : Type 0} {K : FieldOn F} → IsModule K (nothing {F = F})
nothing_laws = record {
  plus_assoc = λ x y z. refl;
  plus_comm = λ x y. refl;
  plus_zero = λ x. refl;
  plus_negated = λ x. refl;
  scale_plus = λ a x y. refl;
  plus_scale = λ a b x. refl;
  times_scale = λ a b x. refl;
  one_scale = λ x. refl;
}
