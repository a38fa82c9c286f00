use Rattle.std.proofs.Common.{◌≡◌, ◌-◌, ◌<◌, length, sym, ◌∙◌, arith}
use Rattle.std.proofs.lemmas.List.{get_or_read}
use Rattle.ark_math.specs.Univariate.{of_list}
use Rattle.ark_math_polynomials.proofs.Polynomials.Univariate.{IsBelow-less}
use Rattle.ark_math_polynomials.proofs.Polynomials.UnivariateLists.{of_list-below}
use Rattle.ark_coeffs.proofs.dense.trimmed_len.Goals as goal

pub loop-i-init : goal.loop-i-init
loop-i-init g c = of_list-below g.F.Field.field c.args.coeffs.now

pub loop-i-preserved : goal.loop-i-preserved
loop-i-preserved g c =
    let K = g.F.Field.field in
    let coeffs = c.args.coeffs.now in
    let i = c.loop-i.i - 1 in
    let inside : i < length coeffs = omega arith in
    let is : c.index-coeffs-i.result ≡ of_list K coeffs i = get_or_read coeffs i c.index-coeffs-i.result inside c.index-coeffs-i.is K.zero in
    let zero : c.index-coeffs-i.result ≡ K.zero = (g.met.F.Field.equality_law _ _).0 (sym c.is_zero.ensures ∙ c.if-not-is_zero.false) ∙ g.met.F.Field.zero_law in
    IsBelow-less K i (of_list K coeffs) (sym is ∙ zero) (λ k h. c.loop-i.invariant k (omega arith))
