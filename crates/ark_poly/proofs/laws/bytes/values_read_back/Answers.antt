-- A list tells its items, since elements have spellings of their own, and a domain's spelling tells the domain.
use Rattle.std.proofs.Common.{◌≡◌, List, map, map-id, sym, ap, ◌∙◌}
use Rattle.ark_math_formats.specs.Format.{Tells}
use Rattle.ark_bytes.proofs.ReadBack.{shows_back}
use Rattle.ark_univariate.specs.Values.{Values, AreAsMany}
use Rattle.ark_univariate.specs.ValuesBytes.{values_tell}
use Rattle.ark_poly.proofs.laws.bytes.values_read_back.Goals as goal

pub returns-clause-evals : goal.returns-clause-evals
returns-clause-evals g c =
    let mode = c.args.mode in
    let e = g.F.Spelled.format mode in
    let d = g.D.Spelled.format mode in
    let domain = g.D.EvaluationDomain.domain in
    shows_back _ (λ v. v.evals)
    (λ x y has other same. sym (map-id x.evals)
    ∙ ap (λ p. p.0) (values_tell e d (AreAsMany domain) (g.F.Spelled.format_law mode) (g.D.Spelled.format_law mode) (λ v. v) domain (g.met.F.Field.elements_law mode).one_to_one (g.met.D.EvaluationDomain.told mode) x y has other same)
    ∙ map-id y.evals)
    c.args.values.now _ c.written_then_read.ensures.alike

pub returns-clause-domain : goal.returns-clause-domain
returns-clause-domain g c =
    let mode = c.args.mode in
    let e = g.F.Spelled.format mode in
    let d = g.D.Spelled.format mode in
    let domain = g.D.EvaluationDomain.domain in
    shows_back _ (λ v. domain v.domain)
    (λ x y has other same.
    ap (λ p. p.1) (values_tell e d (AreAsMany domain) (g.F.Spelled.format_law mode) (g.D.Spelled.format_law mode) (λ v. v) domain (g.met.F.Field.elements_law mode).one_to_one (g.met.D.EvaluationDomain.told mode) x y has other same))
    c.args.values.now _ c.written_then_read.ensures.alike
