use Rattle.std.proofs.Common.{◌≡◌, ◌+◌, ◌/◌, ◌++◌, length, take, ap, ◌∙◌, arith}
use Rattle.std.proofs.lemmas.List.{length-append}
use Rattle.ark_math_variables.specs.Multilinear.{extension}
use Rattle.ark_math.specs.Univariate.{of_list}
use Rattle.ark_math.proofs.Lists.Lists.{written_back}
use Rattle.ark_tables.proofs.TableLists.{halves_bound}
use Rattle.ark_tables.proofs.tables.bind_last.Goals as goal

pub returns-clause-values : goal.returns-clause-values
returns-clause-values g c p e =
    let K = g.F.Field.field in
    let t = c.args.table.now.items in
    let h = c.len-half.result / 2 in
    let low = c.split_at_mut-low.result.0.now in
    let high = c.split_at_mut-low.result.1.now in
    let left = c.bind_halves.new.low in
    let halves = c.split_at_mut-low.ensures in
    let slice = c.as_mut_slice.ensures.value in
    let kept : length left ≡ h = omega (arith, c.bind_halves.auto.low, halves.front_len) in
    let whole : length (left ++ high) ≡ c.args.table.now.len = length-append left high ∙ omega (arith, kept, halves.back_len, c.as_mut_slice.ensures.len) in
    let items : c.truncate.new.self.items ≡ left =
    c.truncate.ensures.items ∙ ap (λ v. take h v) (written_back (left ++ high) _ c.args.table.now.len whole) ∙ written_back left high h kept in
    ap (λ v. extension K (of_list K v) p) items
    ∙ halves_bound K g.met.F.Field.field_laws t low high (of_list K left) p c.args.x h (omega (arith, e, c.len-half.ensures))
    (λ k l. halves.by_index.0 k K.zero l ∙ ap (λ v. of_list K v k) slice)
    (λ k. halves.by_index.1 k K.zero ∙ ap (λ v. of_list K v (h + k)) slice)
    c.bind_halves.ensures
