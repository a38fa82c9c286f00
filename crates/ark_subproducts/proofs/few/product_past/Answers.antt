use Rattle.std.proofs.Common.{◌≡◌, ◌+◌, ◌≤◌, length, sym, ap, subst, ◌∙◌, arith}
use Rattle.std.proofs.lemmas.List.{length-replicate}
use Rattle.ark_math.specs.Univariate.{IsBelow, of_list, product}
use Rattle.ark_math.proofs.Lists.Lists.{written_back}
use Rattle.ark_math_polynomials.proofs.Polynomials.UnivariateLists.{of_list-past, trimmed_length}
use Rattle.ark_math_polynomials.specs.Nodes.{nodes}
use Rattle.ark_subproducts.proofs.Nodes.{nodes-below}
use Rattle.ark_subproducts.proofs.PastProducts.{past_points}
use Rattle.ark_subproducts.proofs.few.product_past.Goals as goal

pub write_part-requires : goal.write_part-requires
write_part-requires g c =
    let K = g.F.Field.field in
    let points = c.args.points.now in
    let n = length points in
    let coeffs = c.coeffs.result.now in
    let short : length coeffs ≤ n + 1 =
    trimmed_length K coeffs (n + 1) c.coeffs.ensures.trimmed
    (subst (IsBelow K (n + 1)) (sym (ap (of_list K) c.coeffs.ensures.same ∙ c.requires.over_points)) (nodes-below K g.met.F.Field.field_laws points)) in
    omega (arith, short)

pub returns-clause-past : goal.returns-clause-past
returns-clause-past g c =
    let K = g.F.Field.field in
    let n = length c.args.points.now in
    let given = c.args.given.now in
    let room : length c.as_mut_slice.result.now ≡ n = ap length (c.as_mut_slice.ensures.value ∙ c.in_ok-past.ensures) ∙ length-replicate n K.zero in
    let last = c.write_part.new.items in
    let left : of_list K c.coeffs.result.now ≡ nodes K c.args.points.now = ap (of_list K) c.coeffs.ensures.same ∙ c.requires.over_points in
    ap (of_list K) (written_back last _ _ (omega (arith, c.write_part.ensures.len, c.as_mut_slice.ensures.len)))
    ∙ past_points K g.met.F.Field.field_laws c.args.points.now (of_list K given) last
    (λ i l. of_list-past K given i (omega (arith, l, c.requires.few)))
    (c.write_part.ensures.len ∙ room)
    (λ j l. c.write_part.ensures.part j (omega (arith, l, room)) ∙ ap (λ a. product K a (of_list K given) (n + j)) left)
