use Rattle.std.proofs.Common.{◌≡◌, take}
use Rattle.ark_math.specs.Univariate.{added, of_list, of_pairs}
use Rattle.ark_quotients.specs.Signs.{all_signed}
use Rattle.ark_quotients.proofs.conversions.add_terms.Given as goal

abbrev pub invariant-loop-i : goal.invariant-loop-i
invariant-loop-i g l =
    let K = g.F.Field.field in
    of_list K l.coeffs ≡ added K (of_list K l.initial.coeffs) (all_signed K l.sign (of_pairs K (take l.i l.terms)))
