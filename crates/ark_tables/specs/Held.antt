-- The table that a map from indices to values holds.
use Rattle.std.specs.Prelude.{ℕ, nat_eq, unwrap_or}
use Rattle.std.specs.declared.hash.FoldHasher.{FoldHasher}
use Rattle.std.specs.declared.hash.BuildHasherDefault.{BuildHasherDefault}
use Rattle.std.specs.HashMap.{get, HashMap}
use Rattle.ark_math.specs.Field.{FieldOn}

-- the value at an index, zero where the map has none
abbrev pub held : {F : Type 0} → FieldOn F → HashMap ℕ F (BuildHasherDefault FoldHasher) → ℕ → F
held K m b = unwrap_or (get nat_eq m b) K.zero
