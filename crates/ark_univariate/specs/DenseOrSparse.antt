-- Polynomials of either form, dense or sparse, as contracts see them.
use Rattle.std.specs.Prelude.{ℕ}
use Rattle.std.specs.Cow.{cow_value}
use Rattle.ark_math.specs.Field.{FieldOn}
use Rattle.ark_math.specs.Univariate.{of_list, of_pairs}
use Rattle.ark_univariate.specs.declared.polynomial.univariate.dense_or_sparse.DenseOrSparsePolynomial.{DenseOrSparsePolynomial}
use Rattle.ark_univariate.specs.declared.polynomial.univariate.dense_or_sparse.DenseOrSparsePolynomial.TheVariants.{SPolynomial, DPolynomial}

-- the polynomial that it denotes
abbrev pub denoted : {F : Type 0} → FieldOn F → DenseOrSparsePolynomial F → ℕ → F
denoted K (SPolynomial p) = of_pairs K (cow_value p)
denoted K (DPolynomial p) = of_list K (cow_value p)

-- it is held in dense form
abbrev pub IsDense : {F : Type 0} → DenseOrSparsePolynomial F → Type 0
IsDense (SPolynomial p) = ⊥
IsDense (DPolynomial p) = Unit
