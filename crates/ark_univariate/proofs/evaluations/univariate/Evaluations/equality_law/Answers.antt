use Rattle.std.proofs.Common.{refl}
use Rattle.std.proofs.lemmas.Bool.{and_parts, and_from}
use Rattle.std.proofs.lemmas.Slice.Eq.{slice_eq-Decides}
use Rattle.ark_univariate.proofs.evaluations.univariate.Evaluations.equality_law.Goals as goal

pub returns : goal.returns
returns g c =
    let a = c.args.self.now in
    let b = c.args.other.now in
    let values = slice_eq-Decides g.met.F.Field.equality_law a.evals b.evals _ refl in
    let domains = g.met.D.EvaluationDomain.equality a.domain b.domain in
    (λ h. let p = and_parts _ _ h in (values.0 p.0, domains.0 p.1), λ p. and_from _ _ (values.1 p.0) (domains.1 p.1))
