-- The layouts of polynomials in one variable: where reading stops, and what a spelling tells.
use Rattle.std.proofs.Common.{ℕ, List, map}
use Rattle.ark_math.specs.Field.{FieldOn}
use Rattle.ark_math.specs.Univariate.{IsTrimmed, IsSparse}
use Rattle.ark_math_formats.specs.Format.{Format, IsFormat, Tells, IsOneToOne, word, ◌⊗◌, list, AreAlike}
use Rattle.ark_univariate.specs.Layouts.{dense, sparse}
use Rattle.ark_math_formats.proofs.Formats.Ends.{number_is_format, pair_is_format, list_is_format, lawful_is_format}
use Rattle.ark_math_formats.proofs.Formats.OneToOne.{number_tells, pair_shows, pair_tells, list_shows, list_tells, lawful_shows, lawful_tells}
use Rattle.ark_math_formats.proofs.Formats.Modes.{list_alike, lawful_alike, pairs_alike}

module _ {F : Type 0} (K : FieldOn F) (e : Format F) (I : IsFormat e) where
  pub dense_is_format : IsFormat (dense K e)
  dense_is_format = lawful_is_format (list e) (λ (cs : List F). cs) (IsTrimmed K) (list_is_format e I)

  pub dense_shows : {V : Type 0} (view : F → V) → Tells view e → Tells (map view) (dense K e)
  dense_shows view one = lawful_shows (list e) (λ (cs : List F). cs) (IsTrimmed K) (map view) (map view) (list_shows e I view one) (λ x y same. same)

  pub dense_tells : IsOneToOne e → IsOneToOne (dense K e)
  dense_tells one = lawful_tells (list e) (λ (cs : List F). cs) (IsTrimmed K) (list_tells e I one) (λ x y same. same)

  pub sparse_is_format : IsFormat (sparse K e)
  sparse_is_format = lawful_is_format (list (word ⊗ e)) (λ (ps : List (ℕ × F)). ps) (IsSparse K)
      (list_is_format (word ⊗ e) (pair_is_format word e (number_is_format 8) I))

  pub sparse_shows : {V : Type 0} (view : F → V) → Tells view e → Tells (map {B = ℕ × V} (λ (p : ℕ × F). (p.0, view p.1))) (sparse K e)
  sparse_shows {V = V} view one =
      let shown : ℕ × F → ℕ × V = λ p. (p.0, view p.1) in
      lawful_shows (list (word ⊗ e)) (λ (ps : List (ℕ × F)). ps) (IsSparse K) (map shown) (map shown)
      (list_shows (word ⊗ e) (pair_is_format word e (number_is_format 8) I) shown
      (pair_shows word e (number_is_format 8) (λ (n : ℕ). n) view (number_tells 8) one))
      (λ x y same. same)

  pub sparse_tells : IsOneToOne e → IsOneToOne (sparse K e)
  sparse_tells one = lawful_tells (list (word ⊗ e)) (λ (ps : List (ℕ × F)). ps) (IsSparse K)
      (list_tells (word ⊗ e) (pair_is_format word e (number_is_format 8) I) (pair_tells word e (number_is_format 8) (number_tells 8) one))
      (λ x y same. same)

-- ---- both modes have one spelling, where the field's have

module _ {F : Type 0} (e other : Format F) (A : AreAlike e other) where
  pub dense_alike : (K : FieldOn F) → AreAlike (dense K e) (dense K other)
  dense_alike K = lawful_alike (λ cs. cs) (IsTrimmed K) (list e) (list other) (list_alike e other A)

  pub sparse_alike : (K : FieldOn F) → AreAlike (sparse K e) (sparse K other)
  sparse_alike K = lawful_alike (λ ps. ps) (IsSparse K) (list (word ⊗ e)) (list (word ⊗ other)) (pairs_alike e other A)
