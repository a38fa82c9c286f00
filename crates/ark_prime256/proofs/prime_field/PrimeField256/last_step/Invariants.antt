use Rattle.std.proofs.Common.{◌+◌}
use Rattle.ark_prime256.specs.Words.{integer}
use Rattle.ark_prime256.specs.Element.{field_of}
use Rattle.ark_prime256.proofs.Inverses.{IsKept}
use Rattle.ark_prime256.proofs.prime_field.PrimeField256.last_step.Given as goal

abbrev pub invariant-steps : goal.invariant-steps
invariant-steps g l =
    let m = g.M.PrimeModulus256 in
    let K = field_of {M = g.row.M.Denot} {g = m} m.modulus in
    IsKept K l.fn.self m.MODULUS l.step

abbrev pub decreases-steps : goal.decreases-steps
decreases-steps g l = integer l.step.left + integer l.step.right
