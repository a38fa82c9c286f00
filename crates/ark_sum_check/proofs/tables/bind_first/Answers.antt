use Rattle.std.proofs.Common.{◌≡◌, ◌*◌, [], ◌∷◌, length, take, ap, ◌∙◌, arith}
use Rattle.ark_math_variables.specs.Multilinear.{fixed}
use Rattle.ark_math.specs.Univariate.{of_list}
use Rattle.ark_math.proofs.Lists.Lists.{written_back}
use Rattle.ark_sum_check.proofs.BoundTables.{lower_half}
use Rattle.ark_sum_check.proofs.tables.bind_first.Goals as goal

pub returns-clause-values : goal.returns-clause-values
returns-clause-values g c =
    let K = g.F.Field.field in
    let t = c.as_mut_slice.result.now in
    let ys = c.bind_in_place.new.table in
    let h = c.args.half in
    let same : t ≡ c.args.table.now.items = c.as_mut_slice.ensures.value in
    let lengths : length t ≡ length c.args.table.now.items = ap length same in
    let kept : length ys ≡ length t = omega (arith, c.bind_in_place.auto.table) in
    let whole : length t ≡ 2 * h = omega (arith, c.requires.whole) in
    ap (of_list K) (c.truncate.ensures.items ∙ ap (take h) (written_back ys _ _ (omega (arith, c.as_mut_slice.ensures.len))))
    ∙ lower_half K g.met.F.Field.field_laws t c.args.x ys h whole kept (λ i l. c.bind_in_place.ensures i l)
    ∙ ap (λ u. fixed K (of_list K u) (c.args.x ∷ [])) same
