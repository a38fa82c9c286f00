use Rattle.std.proofs.Common.{◌≡◌, ◌*◌, ◌/◌, [], ◌∷◌, length, take, ap, ◌∙◌, arith}
use Rattle.ark_math_variables.specs.Multilinear.{fixed}
use Rattle.ark_math.specs.Univariate.{of_list}
use Rattle.ark_math.proofs.Lists.Lists.{written_back}
use Rattle.ark_tables.proofs.TableLists.{fixed-half}
use Rattle.ark_tables.proofs.tables.bind_first.Goals as goal

pub returns-clause-values : goal.returns-clause-values
returns-clause-values g c =
    let K = g.F.Field.field in
    let t = c.as_mut_slice.result.now in
    let ys = c.bind_in_place.new.table in
    let h = c.len.result / 2 in
    let same : t ≡ c.args.table.now.items = c.as_mut_slice.ensures.value in
    let lengths : length t ≡ length c.args.table.now.items = ap length same in
    let whole : length t ≡ c.len.result = omega (arith, c.as_mut_slice.ensures.len, c.len.ensures) in
    let kept : length ys ≡ length t = omega (arith, c.bind_in_place.auto.table) in
    let even : length t ≡ 2 * h = omega (arith, c.requires) in
    ap (of_list K) (c.truncate.ensures.items ∙ ap (take h) (written_back ys _ _ (omega (arith, c.as_mut_slice.ensures.len))))
    ∙ fixed-half K g.met.F.Field.field_laws t c.args.x ys h even kept (λ i l. c.bind_in_place.ensures i (omega arith))
    ∙ ap (λ u. fixed K (of_list K u) (c.args.x ∷ [])) same
