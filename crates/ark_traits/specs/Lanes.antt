-- Two elements side by side, as contracts see them.
use Rattle.ark_traits.specs.declared.lanes.Lanes.{Lanes}

-- the elements of both lanes
abbrev pub both_lanes : {F : Type 0} → Lanes F → F × F
both_lanes v = (v.first, v.second)
