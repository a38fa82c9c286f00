use Rattle.std.proofs.Common.{◌∙◌, ap, sym, map, take, length}
use Rattle.std.proofs.lemmas.List.{take-map, length-map}
use Rattle.ark_math.specs.Transform.{transform}
use Rattle.ark_math_transforms.proofs.Domains.Domains.{transform-take}
use Rattle.ark_math.proofs.Lists.Tabulated.{length-tabulate}
use Rattle.ark_univariate.proofs.domain.EvaluationDomain.fft.Goals as goal

pub returns-clause-transform : goal.returns-clause-transform
returns-clause-transform g c =
    let m = g.T.DomainCoeff.meaning in
    let K = g.F.Field.field in
    let V = g.T.DomainCoeff.group in
    let d = g.Self.EvaluationDomain.domain c.args.self.now in
    c.in_ok-fft_in_place.ensures.transform
    ∙ ap (λ l. transform K V d (map m l)) (c.in_ok-values.ensures ∙ ap (λ n. take n c.args.coeffs.now) c.size.ensures)
    ∙ ap (transform K V d) (sym (take-map m d.size c.args.coeffs.now))
    ∙ transform-take K V d (map m c.args.coeffs.now)

pub returns-clause-len : goal.returns-clause-len
returns-clause-len g c =
    let d = g.Self.EvaluationDomain.domain c.args.self.now in
    sym (length-map c.fft_in_place.new.coeffs.items g.T.DomainCoeff.meaning) ∙ ap length (returns-clause-transform g c) ∙ length-tabulate d.size _
