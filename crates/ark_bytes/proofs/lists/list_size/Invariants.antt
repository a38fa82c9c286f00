-- The size of the length and of the items so far.
use Rattle.std.proofs.Common.{◌≡◌, ◌+◌, take, length}
use Rattle.ark_math_formats.specs.Format.{items}
use Rattle.ark_bytes.proofs.lists.list_size.Given as goal

abbrev pub invariant-loop-item : goal.invariant-loop-item
invariant-loop-item g l = l.size ≡ 8 + length (items (g.T.Spelled.format l.mode) (take l.item-index l.items))
