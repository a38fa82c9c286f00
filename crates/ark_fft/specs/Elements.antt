-- The elements that an iterator over a domain has left.
use Rattle.std.specs.Prelude.{List, ◌-◌}
use Rattle.ark_math.specs.Field.{FieldOn, power}
use Rattle.ark_math.specs.Module.{tabulate}
use Rattle.ark_fft.specs.declared.domain.elements.Elements.{Elements}

abbrev pub left : {F : Type 0} → FieldOn F → Elements F → List F
left K e = tabulate (e.size - e.index) (λ i. K.times e.current (power K e.group_gen i))
