-- Lists of (coefficient, term) in strictly rising order, where a term is of any type that tells its list of (variable,
-- power): what the private steps of sums and of building say.
use Rattle.std.specs.Prelude.{◌≡◌, ◌≢◌, ℕ, ◌+◌, ◌<◌, List, length, All, AllPairs}
use Rattle.std.specs.declared.cmp.Ordering.{Ordering}
use Rattle.std.specs.declared.cmp.Ordering.TheVariants.{Less}
use Rattle.ark_math.specs.Field.{FieldOn}
use Rattle.ark_math.specs.Univariate.{added, scaled}
use Rattle.ark_math_variables.specs.Multivariate.{single, of_listed}
use Rattle.ark_math_variables.specs.Term.{IsWithin}

-- strictly rising terms with coefficients that aren't zero
pub record AreRising {F T : Type 0} (K : FieldOn F) (cmp : T → T → Ordering) (cs : List (F × T)) : Type 0 where
  pub rising : AllPairs (λ c d. cmp c.1 d.1 ≡ Less) cs
  pub not_zero : All (λ c. c.0 ≢ K.zero) cs

-- a number of variables and terms as a polynomial has them
pub record AreTerms {F T : Type 0} (K : FieldOn F) (cmp : T → T → Ordering) (listed : T → List (ℕ × ℕ)) (p : ℕ × List (F × T)) : Type 0 where
  pub ordered : AreRising K cmp p.1
  pub within : All (λ c. IsWithin p.0 (listed c.1)) p.1

-- of the sum of p and s times q, c is the coefficient of the least term t, and the rest is that of u and s times v
pub record IsLeastTerm {F T : Type 0} (K : FieldOn F) (cmp : T → T → Ordering) (listed : T → List (ℕ × ℕ)) (p : List (F × T)) (s : F) (q : List (F × T)) (c : F) (t : T) (u v : List (F × T)) : Type 0 where
  pub left : AreRising K cmp u
  pub right : AreRising K cmp v
  pub below_left : All (λ d. cmp t d.1 ≡ Less) u
  pub below_right : All (λ d. cmp t d.1 ≡ Less) v
  pub least : (r : T) → All (λ d. cmp r d.1 ≡ Less) p → All (λ d. cmp r d.1 ≡ Less) q → cmp r t ≡ Less
  pub sum : added K (of_listed K listed p) (scaled K s (of_listed K listed q)) ≡ added K (single K (listed t) c) (added K (of_listed K listed u) (scaled K s (of_listed K listed v)))
  pub fewer : length u + length v < length p + length q
