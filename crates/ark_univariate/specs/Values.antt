-- Evaluations, as contracts see them.
use Rattle.std.specs.Prelude.{◌≡◌, List, length}
use Rattle.ark_math.specs.Domain.{Domain}

-- values at the elements of a domain, in their order, and the domain
pub record Values (F D : Type 0) : Type 0 where
  pub evals : List F
  pub domain : D

-- the list, and then the domain
abbrev pub list_and_domain : {F D : Type 0} → Values F D → List F × D
list_and_domain v = (v.evals, v.domain)

-- there are as many values as the domain has elements
abbrev pub AreAsMany : {F D : Type 0} → (D → Domain F) → Values F D → Type 0
AreAsMany domain v = length v.evals ≡ (domain v.domain).size
