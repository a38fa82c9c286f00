use Rattle.std.proofs.Common.{◌≡◌, sym, ◌∙◌}
use Rattle.ark_points.proofs.Digits.{value_at_place}
use Rattle.ark_points.proofs.lookup.value_at_place.Goals as goal

pub returns-then-is_one : goal.returns-then-is_one
returns-then-is_one g c = λ p A Z.
    let K = g.F.Field.field in
    let all = c.args.known.now.all in
    let one : c.args.rest ≡ K.one = (g.met.F.Field.equality_law c.args.rest g.F.One.one).0 (sym c.is_one.ensures ∙ c.if-is_one.true) ∙ g.met.F.Field.one_law in
    value_at_place K g.met.F.Field.field_laws (g.D.EvaluationDomain.domain all.domain) p all.evals c.args.point c.args.rest c.index.result.now c.args.place A c.requires.subgroup c.requires.below c.requires.product one c.index.ensures
