use Rattle.std.proofs.Common.{◌≤◌, length, ap, ◌∙◌, arith}
use Rattle.ark_math.specs.Univariate.{of_list}
use Rattle.ark_math_polynomials.proofs.Polynomials.UnivariateLists.{of_list-padded}
use Rattle.ark_coeffs.proofs.dense.grow.Goals as goal

pub returns-in_ok-resize-clause-same : goal.returns-in_ok-resize-clause-same
returns-in_ok-resize-clause-same g c =
    let K = g.F.Field.field in
    let coeffs = c.args.coeffs.now.items in
    let within : length coeffs ≤ c.args.len = omega (arith, c.len.ensures, c.if-len.true) in
    ap (of_list K) c.in_ok-resize.ensures.items
    ∙ of_list-padded K coeffs c.args.len _ c.zero.result within (c.zero.ensures ∙ g.met.F.Field.zero_law)
