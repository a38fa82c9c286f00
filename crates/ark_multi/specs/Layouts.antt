-- The layouts of terms, of polynomials in several variables and of multilinear extensions, over the format e of their
-- field's elements.
use Rattle.std.specs.Prelude.{ℕ, List}
use Rattle.ark_math_variables.specs.Term.{IsTerm}
use Rattle.ark_math_formats.specs.Format.{Format, word, ◌⊗◌, list, lawful, stored}

-- the one list of pairs (variable, power) of a term
abbrev pub term : Format (List (ℕ × ℕ))
term = lawful (list (word ⊗ word)) (λ ps. ps) IsTerm

-- a number of variables, and pairs (coefficient, term). An unlawful term is a fault as soon as it is read
abbrev pub multivariate : {F T P : Type 0} → Format F → Format T → (P → ℕ × List (F × T)) → Format P
multivariate e t fields = stored (word ⊗ list (e ⊗ t)) fields

-- evaluations, and a number of variables
abbrev pub dense_extension : {F E : Type 0} → Format F → (E → List F × ℕ) → Format E
dense_extension e fields = stored (list e ⊗ word) fields

-- pairs (index, value), a number of variables, and an element zero
abbrev pub sparse_extension : {F E : Type 0} → Format F → (E → List (ℕ × F) × (ℕ × F)) → Format E
sparse_extension e fields = stored (list (word ⊗ e) ⊗ (word ⊗ e)) fields
