use Rattle.std.proofs.Common.{◌∙◌, sym, subst}
use Rattle.ark_math.specs.Univariate.{of_list, IsQuotient}
use Rattle.ark_univariate.specs.DenseOrSparse.{denoted}
use Rattle.ark_poly.proofs.laws.univariate.quotient_and_remainder.Goals as goal

pub returns-clause-division : goal.returns-clause-division
returns-clause-division g c =
    let K = g.F.Field.field in
    let q = of_list K c.in-Some.pair.0 in
    let r = of_list K c.in-Some.pair.1 in
    let e = c.from-dividend.ensures.0 in
    let f = c.from-divisor.ensures.0 in
    let h = rw c.in-Some.is at c.in_ok-pair.ensures.division in
    subst (λ a. IsQuotient K a (of_list K c.args.divisor.now) q r) e
    (subst (λ d. IsQuotient K (denoted K c.from-dividend.result) d q r) f (h.quotient (λ z. c.requires (sym f ∙ z))))
