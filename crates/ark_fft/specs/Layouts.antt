-- The layouts of a domain, over the format e of its field's elements: long is all fields, and short is size and offset.
use Rattle.std.specs.Prelude.{ℕ}
use Rattle.ark_math_formats.specs.Format.{Format, word, number, ◌⊗◌, stored}

-- size and its exponent of two; the size as an element and its inverse, the root and its inverse; the offset, its inverse,
-- and its power to the size
abbrev pub DomainFields : Type 0 → Type 0
DomainFields F = (ℕ × ℕ) × (((F × F) × (F × F)) × ((F × F) × F))

abbrev pub long_domain : {F D : Type 0} → Format F → (D → DomainFields F) → Format D
long_domain e fields = stored ((word ⊗ number 4) ⊗ (((e ⊗ e) ⊗ (e ⊗ e)) ⊗ ((e ⊗ e) ⊗ e))) fields

-- size and offset
abbrev pub short_domain : {F D : Type 0} → Format F → (D → ℕ × F) → Format D
short_domain e fields = stored (word ⊗ e) fields
