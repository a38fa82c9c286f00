use Rattle.std.proofs.Common.{◌≡◌, Decides, sym, subst}
use Rattle.ark_math.specs.Univariate.{nothing}
use Rattle.ark_math_polynomials.proofs.Polynomials.UnivariateLists.{trimmed_none_Decides}
use Rattle.ark_math_polynomials.proofs.Polynomials.UnivariatePairs.{sparse_none_Decides}
use Rattle.ark_quotients.specs.Divisors.{IsKept, denoted}
use Rattle.ark_quotients.proofs.division.Coefficients.is_zero.Goals as goal

pub returns-in-Listed : goal.returns-in-Listed
returns-in-Listed g c =
    let K = g.F.Field.field in
    let w = c.in-Listed in
    subst (λ v. Decides c.is_empty.result (denoted K v ≡ nothing K)) (sym w.is)
    (trimmed_none_Decides K w.coeffs.now c.is_empty.result (subst (IsKept K) w.is c.requires) c.is_empty.ensures)

pub returns-in-Terms : goal.returns-in-Terms
returns-in-Terms g c =
    let K = g.F.Field.field in
    let w = c.in-Terms in
    subst (λ v. Decides c.is_empty-in-Terms.result (denoted K v ≡ nothing K)) (sym w.is)
    (sparse_none_Decides K g.met.F.Field.field_laws w.terms.now c.is_empty-in-Terms.result (subst (IsKept K) w.is c.requires) c.is_empty-in-Terms.ensures)
