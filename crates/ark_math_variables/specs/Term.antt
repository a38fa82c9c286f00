-- Terms of several variables, by the powers of the variables in them.
use Rattle.std.specs.Prelude.{◌≡◌, ℕ, ◌^◌, ◌<◌, ◌≤◌, ◌==◌, ◌⊎◌, List, [], ◌∷◌, get_or, sum_by, All, AllPairs, if◌then◌else◌}
use Rattle.ark_math.specs.Field.{FieldOn, power}

-- the power of a variable in a list of (variable, power): those of one variable are added up
abbrev pub power_of : List (ℕ × ℕ) → ℕ → ℕ
power_of ps v = sum_by (λ p. if p.0 == v then p.1 else 0) ps

-- the sum of all powers
abbrev pub total_degree : List (ℕ × ℕ) → ℕ
total_degree ps = sum_by (λ p. p.1) ps

-- the one list of a term: variables strictly rising, no power zero, and a total that a word can tell
pub record IsTerm (ps : List (ℕ × ℕ)) : Type 0 where
  pub rising : AllPairs (λ p q. p.0 < q.0) ps
  pub some : All (λ p. 0 < p.1) ps
  pub fits : total_degree ps < 2 ^ 64

-- the constant term, or a power of one variable up to d
abbrev pub IsOnePower : ℕ → List (ℕ × ℕ) → Type 0
IsOnePower d ps = (ps ≡ []) ⊎ ((v : ℕ) × (e : ℕ) × (ps ≡ (v, e) ∷ []) × (e ≤ d))

-- all variables are below n
abbrev pub IsWithin : ℕ → List (ℕ × ℕ) → Type 0
IsWithin n ps = All (λ p. p.0 < n) ps

-- the product of the point's items to the powers of their variables
abbrev pub term_value : {F : Type 0} → FieldOn F → List (ℕ × ℕ) → List F → F
term_value K [] x = K.one
term_value K (p ∷ ps) x = K.times (power K (get_or x p.0 K.zero) p.1) (term_value K ps x)

-- v is the least variable whose powers differ, and it has the greater one in ps
pub record FirstGreater (ps qs : List (ℕ × ℕ)) (v : ℕ) : Type 0 where
  pub before : (u : ℕ) → u < v → power_of ps u ≡ power_of qs u
  pub greater : power_of qs v < power_of ps v

-- the graded order: the greater total is above, and of equal totals that with more of the least variable where two differ
abbrev pub IsAbove : List (ℕ × ℕ) → List (ℕ × ℕ) → Type 0
IsAbove ps qs = (total_degree qs < total_degree ps) ⊎ ((total_degree qs ≡ total_degree ps) × ((v : ℕ) × FirstGreater ps qs v))
