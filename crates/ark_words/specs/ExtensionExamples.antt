-- The extension of a table of four numbers over the field of 5 elements, computed from the definitions.
use Rattle.std.specs.Prelude.{[], ◌∷◌}
use Rattle.std.proofs.Common.{refl}
use Rattle.ark_numbers.specs.Fields.{field_5}
use Rattle.ark_words.specs.Numbers.{in_words}
use Rattle.ark_words.specs.Extensions.{IsExtended, IsExtendedByEntries, AreFixed}

-- 1 + x + 2y at x = 2 and y = 3
at_point : IsExtended (in_words 1 field_5) (1 ∷ 2 ∷ 3 ∷ 4 ∷ []) (2 ∷ 3 ∷ []) (4 ∷ [])
at_point = refl

-- 2 (1 - x) (1 - y) + 4xy there, of the entries (3, 1), (0, 2) and (3, 4)
by_entries : IsExtendedByEntries (in_words 1 field_5) (3 ∷ 0 ∷ 3 ∷ []) (1 ∷ 2 ∷ 4 ∷ []) (2 ∷ 3 ∷ []) (3 ∷ [])
by_entries = refl

-- 3 + 2y is left where x is bound to 2
first_bound : AreFixed (in_words 1 field_5) (1 ∷ 2 ∷ 3 ∷ 4 ∷ []) (2 ∷ []) (3 ∷ 0 ∷ [])
first_bound = refl
