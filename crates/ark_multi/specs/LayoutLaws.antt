-- Terms, polynomials in several variables and multilinear extensions in bytes: reading stops at one place alone, and a
-- spelling tells its value, or what views of its parts show.
use Rattle.std.proofs.Common.{ℕ, List, map}
use Rattle.ark_math_formats.specs.Format.{Format, IsFormat, Tells, IsOneToOne, word, ◌⊗◌, list, AreAlike}
use Rattle.ark_math_variables.specs.Term.{IsTerm}
use Rattle.ark_multi.specs.Layouts.{term, multivariate, dense_extension, sparse_extension}
use Rattle.ark_math_formats.proofs.Formats.Ends.{number_is_format, pair_is_format, list_is_format, lawful_is_format}
use Rattle.ark_math_formats.proofs.Formats.OneToOne.{number_tells, pair_shows, pair_tells, list_shows, list_tells, lawful_shows, lawful_tells}
use Rattle.ark_math_formats.proofs.Formats.Modes.{one_format, pair_alike, list_alike, lawful_alike, pairs_alike}

word_is_format : IsFormat word
word_is_format = number_is_format 8

-- ---- terms

pub pairs_tell : IsOneToOne (list (word ⊗ word))
pairs_tell = list_tells (word ⊗ word) (pair_is_format word word word_is_format word_is_format) (pair_tells word word word_is_format (number_tells 8) (number_tells 8))

pub term_is_format : IsFormat term
term_is_format = lawful_is_format (list (word ⊗ word)) (λ ps. ps) IsTerm (list_is_format (word ⊗ word) (pair_is_format word word word_is_format word_is_format))

pub term_tells : IsOneToOne term
term_tells = lawful_tells (list (word ⊗ word)) (λ ps. ps) IsTerm pairs_tell (λ x y e. e)

-- ---- multilinear extensions

module _ {F : Type 0} (e : Format F) (E : IsFormat e) where
  values_are_format : IsFormat (list e ⊗ word)
  values_are_format = pair_is_format (list e) word (list_is_format e E) word_is_format

  entries_are_format : IsFormat (list (word ⊗ e) ⊗ (word ⊗ e))
  entries_are_format =
      let pair = pair_is_format word e word_is_format E in
      pair_is_format (list (word ⊗ e)) (word ⊗ e) (list_is_format (word ⊗ e) pair) pair

  module _ {V : Type 0} (view : F → V) (one : Tells view e) where
    pub values_show : Tells {V = List V × ℕ} (λ p. (map view p.0, p.1)) (list e ⊗ word)
    values_show = pair_shows (list e) word (list_is_format e E) (map view) (λ n. n) (list_shows e E view one) (number_tells 8)

    entries_show : Tells {V = List (ℕ × V) × (ℕ × V)} (λ p. (map (λ q. (q.0, view q.1)) p.0, (p.1.0, view p.1.1))) (list (word ⊗ e) ⊗ (word ⊗ e))
    entries_show =
        let pair = pair_is_format word e word_is_format E in
        let pair_one = pair_shows word e word_is_format (λ n. n) view (number_tells 8) one in
        pair_shows (list (word ⊗ e)) (word ⊗ e) (list_is_format (word ⊗ e) pair) (map (λ q. (q.0, view q.1))) (λ q. (q.0, view q.1))
        (list_shows (word ⊗ e) pair (λ q. (q.0, view q.1)) pair_one) pair_one

  module _ (one : IsOneToOne e) where
    pub values_tell : IsOneToOne (list e ⊗ word)
    values_tell = pair_tells (list e) word (list_is_format e E) (list_tells e E one) (number_tells 8)

    pub entries_tell : IsOneToOne (list (word ⊗ e) ⊗ (word ⊗ e))
    entries_tell =
        let pair = pair_is_format word e word_is_format E in
        let pair_one = pair_tells word e word_is_format (number_tells 8) one in
        pair_tells (list (word ⊗ e)) (word ⊗ e) (list_is_format (word ⊗ e) pair) (list_tells (word ⊗ e) pair pair_one) pair_one

  module _ {X : Type 0} where
    pub dense_extension_is_format : (fields : X → List F × ℕ) → IsFormat (dense_extension e fields)
    dense_extension_is_format fields = lawful_is_format (list e ⊗ word) fields (λ _. Unit {0}) values_are_format

    pub sparse_extension_is_format : (fields : X → List (ℕ × F) × (ℕ × F)) → IsFormat (sparse_extension e fields)
    sparse_extension_is_format fields = lawful_is_format (list (word ⊗ e) ⊗ (word ⊗ e)) fields (λ _. Unit {0}) entries_are_format

    module _ {V : Type 0} (view : F → V) (one : Tells view e) where
      pub dense_extension_shows : (fields : X → List F × ℕ) → Tells {V = List V × ℕ} (λ p. (map view (fields p).0, (fields p).1)) (dense_extension e fields)
      dense_extension_shows fields =
          lawful_shows (list e ⊗ word) fields (λ _. Unit {0}) (λ p. (map view p.0, p.1)) (λ p. (map view (fields p).0, (fields p).1)) (values_show view one) (λ x y s. s)

      pub sparse_extension_shows : (fields : X → List (ℕ × F) × (ℕ × F))
          → Tells {V = List (ℕ × V) × (ℕ × V)} (λ p. (map (λ q. (q.0, view q.1)) (fields p).0, ((fields p).1.0, view (fields p).1.1))) (sparse_extension e fields)
      sparse_extension_shows fields =
          lawful_shows (list (word ⊗ e) ⊗ (word ⊗ e)) fields (λ _. Unit {0}) (λ p. (map (λ q. (q.0, view q.1)) p.0, (p.1.0, view p.1.1)))
          (λ p. (map (λ q. (q.0, view q.1)) (fields p).0, ((fields p).1.0, view (fields p).1.1))) (entries_show view one) (λ x y s. s)

-- ---- polynomials in several variables

module _ {F T : Type 0} (e : Format F) (t : Format T) (E : IsFormat e) (I : IsFormat t) where
  terms_are_format : IsFormat (word ⊗ list (e ⊗ t))
  terms_are_format = pair_is_format word (list (e ⊗ t)) word_is_format (list_is_format (e ⊗ t) (pair_is_format e t E I))

  pub multivariate_is_format : {X : Type 0} (fields : X → ℕ × List (F × T)) → IsFormat (multivariate e t fields)
  multivariate_is_format fields = lawful_is_format (word ⊗ list (e ⊗ t)) fields (λ _. Unit {0}) terms_are_format

  module _ {V W : Type 0} (view : F → V) (see : T → W) (one : Tells view e) (two : Tells see t) where
    pub terms_show : Tells {V = ℕ × List (V × W)} (λ p. (p.0, map (λ c. (view c.0, see c.1)) p.1)) (word ⊗ list (e ⊗ t))
    terms_show =
        pair_shows word (list (e ⊗ t)) word_is_format (λ n. n) (map (λ c. (view c.0, see c.1))) (number_tells 8)
        (list_shows (e ⊗ t) (pair_is_format e t E I) (λ c. (view c.0, see c.1)) (pair_shows e t E view see one two))

    pub multivariate_shows : {X : Type 0} (fields : X → ℕ × List (F × T)) → Tells {V = ℕ × List (V × W)} (λ p. ((fields p).0, map (λ c. (view c.0, see c.1)) (fields p).1)) (multivariate e t fields)
    multivariate_shows fields =
        lawful_shows (word ⊗ list (e ⊗ t)) fields (λ _. Unit {0}) (λ p. (p.0, map (λ c. (view c.0, see c.1)) p.1)) (λ p. ((fields p).0, map (λ c. (view c.0, see c.1)) (fields p).1)) terms_show (λ x y s. s)

-- ---- both modes have one spelling, where the field's have

module _ {F : Type 0} (e other : Format F) (A : AreAlike e other) where
  pub dense_extension_alike : {E : Type 0} (fields : E → List F × ℕ) → AreAlike (dense_extension e fields) (dense_extension other fields)
  dense_extension_alike fields =
      lawful_alike fields (λ _. Unit {0}) (list e ⊗ word) (list other ⊗ word) (pair_alike (list e) (list other) word word (list_alike e other A) (one_format word))

  pub sparse_extension_alike : {E : Type 0} (fields : E → List (ℕ × F) × (ℕ × F)) → AreAlike (sparse_extension e fields) (sparse_extension other fields)
  sparse_extension_alike fields =
      lawful_alike fields (λ _. Unit {0}) (list (word ⊗ e) ⊗ (word ⊗ e)) (list (word ⊗ other) ⊗ (word ⊗ other))
      (pair_alike (list (word ⊗ e)) (list (word ⊗ other)) (word ⊗ e) (word ⊗ other) (pairs_alike e other A) (pair_alike word word e other (one_format word) A))

  pub multivariate_alike : {T P : Type 0} (t also : Format T) → AreAlike t also → (fields : P → ℕ × List (F × T)) → AreAlike (multivariate e t fields) (multivariate other also fields)
  multivariate_alike t also B fields =
      lawful_alike fields (λ _. Unit {0}) (word ⊗ list (e ⊗ t)) (word ⊗ list (other ⊗ also))
      (pair_alike word word (list (e ⊗ t)) (list (other ⊗ also)) (one_format word) (list_alike (e ⊗ t) (other ⊗ also) (pair_alike e other t also A B)))
