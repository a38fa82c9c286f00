use Rattle.std.proofs.Common.{◌≡◌, ◌∙◌, sym, ap, ap₂, subst}
use Rattle.ark_math.specs.Field.{power, minus}
use Rattle.ark_math.specs.Univariate.{IsValue}
use Rattle.ark_math_domains.specs.Points.{vanishing}
use Rattle.ark_math_domains.proofs.OverDomains.AtElements.{value-vanishing}
use Rattle.ark_math_domains.proofs.Domains.LawfulDomains.{lawful_domain, vanishing_zero}
use Rattle.ark_math.proofs.Outcomes.Tests.{decided}
use Rattle.ark_univariate.proofs.domain.EvaluationDomain.evaluate_vanishing_polynomial.Goals as goal

pub returns : goal.returns
returns g c =
    let K = g.F.Field.field in
    let N = g.met.F.Field.field_laws in
    let decide = λ (x y : g.row.F.Denot). decided _ (g.met.F.Field.equality_law x y) in
    let d = g.Self.EvaluationDomain.domain c.args.self.now in
    let D = lawful_domain g.met.F.Field.field_laws g.met.F.FftField.roots_law (g.met.Self.EvaluationDomain.lawful c.args.self.now) in
    let e : c.sub.result ≡ minus K (power K c.args.tau d.size) (power K d.offset d.size) =
    g.met.F.Field.sub_law _ _ _ c.sub.ensures ∙ ap₂ (minus K) (c.pow.ensures ∙ ap (power K c.args.tau) c.size.ensures) c.coset_offset_pow_size.ensures in
    record {
      value = subst (IsValue K (vanishing K d) c.args.tau) (sym e) (value-vanishing K N d c.args.tau);
      zero = vanishing_zero D decide c.args.tau c.sub.result e;
    }
