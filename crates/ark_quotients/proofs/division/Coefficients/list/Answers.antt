use Rattle.std.proofs.Common.{subst}
use Rattle.ark_math_polynomials.proofs.Polynomials.UnivariateLists.{trimmed_length}
use Rattle.ark_quotients.specs.Divisors.{IsKept}
use Rattle.ark_quotients.proofs.division.Coefficients.list.Goals as goal

pub extended-requires : goal.extended-requires
extended-requires g c =
    let K = g.F.Field.field in
    let w = c.in-Listed in
    trimmed_length K w.coeffs.now c.trimmed_len-len.result (subst (IsKept K) w.is c.requires) c.trimmed_len-len.ensures.rest
