-- Polynomials in several variables, by the coefficients of their terms. A term is its list of (variable, power).
use Rattle.std.specs.Prelude.{◌≡◌, ◌≢◌, ℕ, ◌<◌, ◌≤◌, Bool, ◌==◌, ◌&&◌, List, [], ◌∷◌, map, if◌then◌else◌}
use Rattle.std.specs.Cmp.Lexicographic.{pointwise}
use Rattle.ark_math.specs.Field.{FieldOn}
use Rattle.ark_math_variables.specs.Term.{total_degree, term_value}
use Rattle.ark_math.specs.Univariate.{nothing, added}

-- whether two lists of (variable, power) are the same
abbrev pub same_term : List (ℕ × ℕ) → List (ℕ × ℕ) → Bool
same_term = pointwise (λ p q. (p.0 == q.0) && (p.1 == q.1))

-- c times the term
abbrev pub single : {F : Type 0} → FieldOn F → List (ℕ × ℕ) → F → List (ℕ × ℕ) → F
single K t c u = if same_term t u then c else K.zero

-- what a list of (coefficient, term) denotes: their sum
abbrev pub of_terms : {F : Type 0} → FieldOn F → List (F × List (ℕ × ℕ)) → List (ℕ × ℕ) → F
of_terms K [] = nothing K
of_terms K (c ∷ cs) = added K (single K c.1 c.0) (of_terms K cs)

-- each coefficient with the list of its term, where a term is of any type that tells it
abbrev pub each_listed : {F T : Type 0} → (T → List (ℕ × ℕ)) → List (F × T) → List (F × List (ℕ × ℕ))
each_listed listed cs = map (λ c. (c.0, listed c.1)) cs

-- what a list of coefficients and such terms denotes
abbrev pub of_listed : {F T : Type 0} → FieldOn F → (T → List (ℕ × ℕ)) → List (F × T) → List (ℕ × ℕ) → F
of_listed K listed cs = of_terms K (each_listed listed cs)

-- the sum of a list's parts at x
abbrev pub sum_at : {F : Type 0} → FieldOn F → List (F × List (ℕ × ℕ)) → List F → F
sum_at K [] x = K.zero
sum_at K (c ∷ cs) x = K.plus (K.times c.0 (term_value K c.1 x)) (sum_at K cs x)

-- y is the polynomial's value at x: the sum, at x, of some list of terms that denotes it
abbrev pub IsValueAt : {F : Type 0} → FieldOn F → (List (ℕ × ℕ) → F) → List F → F → Type 0
IsValueAt {F} K a x y = (cs : List (F × List (ℕ × ℕ))) × (of_terms K cs ≡ a) × (y ≡ sum_at K cs x)

-- the greatest total degree of a term with a coefficient, 0 where there is none
pub record IsTotalDegree {F : Type 0} (K : FieldOn F) (a : List (ℕ × ℕ) → F) (d : ℕ) : Type 0 where
  pub within : (t : List (ℕ × ℕ)) → a t ≢ K.zero → total_degree t ≤ d
  pub reached : 0 < d → (t : List (ℕ × ℕ)) × (a t ≢ K.zero) × (total_degree t ≡ d)
