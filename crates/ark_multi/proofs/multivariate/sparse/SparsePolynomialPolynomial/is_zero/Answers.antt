use Rattle.std.proofs.Common.{◌≡◌, ◌==◌, length, ap, ◌∙◌, arith}
use Rattle.ark_multi.specs.TermLists.{strict_order, sorted_none_Decides}
use Rattle.ark_multi.proofs.multivariate.sparse.SparsePolynomialPolynomial.is_zero.Goals as goal

pub returns : goal.returns
returns g c =
    let self = c.args.self.now in
    let listed = g.T.Term.listed in
    let long : self.terms.len ≡ length self.terms.items = omega (arith, self.terms.ok.0) in
    sorted_none_Decides g.F.Field.field g.met.F.Field.field_laws listed (strict_order listed g.met.T.Ord.total g.met.T.Ord.matches_eq g.met.T.Term.equality_law) self.terms.items c.is_empty.result self.rising self.not_zero (c.is_empty.ensures ∙ ap (λ n. n == 0) long)
