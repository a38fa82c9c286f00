-- The plane over a field, as a module.
use Rattle.ark_math.specs.Field.{FieldOn}
use Rattle.ark_math.specs.Module.{ModuleOn, itself, paired}
use Rattle.examples.specs.declared.module.Point.{Point}

-- a point's coordinates
abbrev pub coordinates : {F : Type 0} → Point F → F × F
coordinates p = (p.x, p.y)

-- pairs of coordinates, added and scaled one by one
abbrev pub plane : {F : Type 0} → FieldOn F → ModuleOn F (F × F)
plane K = paired (itself K) (itself K)
