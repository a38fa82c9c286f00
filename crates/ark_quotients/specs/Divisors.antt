-- Coefficients in either form, and a divisor as divisions take it: its degree, the inverse of its leading coefficient, and
-- the others.
use Rattle.std.specs.Prelude.{◌≡◌, ℕ, ◌+◌, ◌<◌, ◌≤◌, length}
use Rattle.std.specs.List.{All}
use Rattle.ark_math.specs.Field.{FieldOn}
use Rattle.ark_math.specs.Univariate.{IsBelow, IsSparse, IsTrimmed, of_list, of_pairs}
use Rattle.ark_quotients.specs.declared.division.Coefficients.{Coefficients}
use Rattle.ark_quotients.specs.declared.division.Coefficients.TheVariants.{Listed, Terms}
use Rattle.ark_quotients.specs.declared.division.Divisor.{Divisor}

-- the polynomial that the coefficients denote
abbrev pub denoted : {F : Type 0} → FieldOn F → Coefficients F → ℕ → F
denoted K (Listed c) = of_list K c.now
denoted K (Terms p) = of_pairs K p.now

-- the coefficients are as a polynomial keeps them: the last of a list isn't zero; no term is zero, and exponents rise
abbrev pub IsKept : {F : Type 0} → FieldOn F → Coefficients F → Type 0
IsKept K (Listed c) = IsTrimmed K c.now
IsKept K (Terms p) = IsSparse K p.now

-- no coefficient stands at n or above
abbrev pub StandBelow : {F : Type 0} → ℕ → Coefficients F → Type 0
StandBelow n (Listed c) = length c.now ≤ n
StandBelow n (Terms p) = All (λ t. t.0 < n) p.now

-- the divisor stands for d
pub record Divides {F : Type 0} (K : FieldOn F) (v : Divisor F) (d : ℕ → F) : Type 0 where
  pub leading : K.times (d v.degree) v.inverse ≡ K.one
  pub rest : IsBelow K (v.degree + 1) d
  pub lower : (i : ℕ) → i < v.degree → denoted K v.lower i ≡ d i
  pub within : StandBelow v.degree v.lower
