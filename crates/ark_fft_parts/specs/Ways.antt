-- Both ways of a part.
use Rattle.std.specs.Prelude.{◌≡◌, List}
use Rattle.ark_math.specs.Field.{FieldOn}
use Rattle.ark_math.specs.Module.{ModuleOn}
use Rattle.ark_math.specs.Domain.{Domain}
use Rattle.ark_math.specs.Transform.{transform, IsInverse}
use Rattle.ark_fft_parts.specs.declared.ways.Way.{Way}
use Rattle.ark_fft_parts.specs.declared.ways.Way.TheVariants.{Forward, Back}

-- the transform, or a list of the domain's size that has these values
abbrev pub IsMade : {F M : Type 0} → FieldOn F → ModuleOn F M → Way → Domain F → List M → List M → Type 0
IsMade K V Forward d before after = after ≡ transform K V d before
IsMade K V Back d before after = IsInverse K V d before after
