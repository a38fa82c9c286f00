-- Multilinear extensions as contracts see them: by their tables.
use Rattle.std.specs.Prelude.{ℕ, ◌^◌, List, map}
use Rattle.ark_math.specs.Field.{FieldOn}
use Rattle.ark_math.specs.Module.{tabulate}
use Rattle.ark_math_variables.specs.Multilinear.{Table}
use Rattle.ark_math.specs.Univariate.{of_list, of_pairs}
use Rattle.ark_multi.specs.declared.multilinear.dense.DenseMultilinearExtension.{DenseMultilinearExtension}
use Rattle.ark_multi.specs.declared.multilinear.sparse.SparseMultilinearExtension.{SparseMultilinearExtension}

-- the table that a dense extension holds
abbrev pub dense_table : {F : Type 0} → FieldOn F → DenseMultilinearExtension F → Table F
dense_table K p = record { variables = p.num_vars; value = of_list K p.evaluations.items }

-- the table of which a sparse extension holds the entries that aren't zero; what its type keeps of the field, in the
-- unnamed arguments, is no part of it
abbrev pub sparse_table : {F : Type 0} {a b c d e f g h i j k l m n o p q r s : _} → FieldOn F → SparseMultilinearExtension F a b c d e f g h i j k l m n o p q r s → Table F
sparse_table K s = record { variables = s.num_vars; value = of_pairs K s.evaluations.items }

-- the values of a table at all its corners, in order
abbrev pub values_of : {F : Type 0} → Table F → List F
values_of t = tabulate (2 ^ t.variables) t.value

-- the values of dense extensions, a list for each
abbrev pub dense_values : {F : Type 0} → FieldOn F → List (DenseMultilinearExtension F) → List (List F)
dense_values K ps = map (λ p. values_of (dense_table K p)) ps
