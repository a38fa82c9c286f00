use Rattle.std.proofs.Common.{◌≡◌, ◌↔◌, inl, inr, Result, Ok, Err, IsOkUnless, ap}
use Rattle.ark_math.specs.Outcome.{IsOkUnlessEither}
use Rattle.ark_math.proofs.Outcomes.Results.{IfOk_more}
use Rattle.ark_poly.proofs.laws.univariate.quotient_of.Goals as goal

-- of two errors one never comes
first_error : {T E : Type 0} (r : Result T E) (a b : E) (P : Type 0) → IsOkUnlessEither r a b → ((r ≡ Err b) ↔ P) → (P → ⊥) → IsOkUnless r a
first_error (Ok x) a b P errors other never = tt
first_error (Err e) a b P (inl same) other never = same
first_error (Err e) a b P (inr same) other never = absurd (never (other.0 (ap Err same)))

pub returns-clause-division : goal.returns-clause-division
returns-clause-division g c = IfOk_more c.div.result (λ q h. (h.0, h.1.quotient c.requires)) c.div.ensures.division

pub returns-clause-memory : goal.returns-clause-memory
returns-clause-memory g c = first_error c.div.result _ _ _ c.div.ensures.errors c.div.ensures.zero_divisor (λ refused. c.requires refused.1)
