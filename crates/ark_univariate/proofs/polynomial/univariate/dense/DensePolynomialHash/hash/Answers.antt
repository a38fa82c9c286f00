use Rattle.std.proofs.Common.{sym, ap, ◌∙◌}
use Rattle.std.specs.List.{fold}
use Rattle.std.specs.Hash as fed
use Rattle.ark_math_polynomials.proofs.Polynomials.Trimmed.{trim_of-trimmed, zero_test}
use Rattle.ark_univariate.proofs.polynomial.univariate.dense.DensePolynomialHash.hash.Goals as goal

pub returns : goal.returns
returns g c =
    let K = g.F.Field.field in
    let F = g.met.F.Field in
    let eq = g.F.PartialEq.eq in
    let o = g.F.Zero.zero in
    let same = trim_of-trimmed K (λ x. eq x o) (zero_test K eq o F.equality_law F.zero_law) c.self.inside.coeffs.items c.self.invariant in
    rw (← c.self.view_is) (c.hash.ensures ∙ ap (λ t. fold g.H.Hasher.write c.args.state.now (fed.slice g.F.Hash.hash_input t)) (sym same))
