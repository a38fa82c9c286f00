-- Where the coefficients of a divisor stand.
use Rattle.std.proofs.Common.{ℕ, arith}
use Rattle.ark_math.specs.Field.{FieldOn, IsField}
use Rattle.ark_math.specs.Univariate.{IsBelow}
use Rattle.ark_math_polynomials.proofs.Polynomials.UnivariateLists.{of_list-past}
use Rattle.ark_math_polynomials.proofs.Polynomials.UnivariatePairs.{of_pairs-absent}
use Rattle.ark_quotients.specs.Divisors.{denoted, StandBelow}
use Rattle.ark_quotients.specs.declared.division.Coefficients.{Coefficients}
use Rattle.ark_quotients.specs.declared.division.Coefficients.TheVariants.{Listed, Terms}

pub denoted-below : {F : Type 0} (K : FieldOn F) (N : IsField K) (n : ℕ) (e : Coefficients F) → StandBelow n e → IsBelow K n (denoted K e)
denoted-below K N n (Listed c) h i l = of_list-past K c.now i (omega (arith, h, l))
denoted-below K N n (Terms p) h i l = of_pairs-absent K N p.now i (λ k d b e. let m = h k d b in omega (arith, m, l, e))
