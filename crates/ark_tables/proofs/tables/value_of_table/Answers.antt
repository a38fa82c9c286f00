use Rattle.std.proofs.Common.{◌≡◌, suc, ◌+◌, ◌*◌, ◌/◌, ◌^◌, ◌++◌, [], ◌∷◌, drop, take, length, sym, ap, ◌∙◌, subst, arith}
use Rattle.std.proofs.lemmas.List.{get_or_read, get_or-take, get_or-drop, nil_from_length}
use Rattle.ark_math_variables.specs.Multilinear.{extension}
use Rattle.ark_math.specs.Univariate.{of_list, added, difference, scaled}
use Rattle.ark_math.proofs.Lists.Lists.{written_back}
use Rattle.ark_math_variables.proofs.Polynomials.Cube.{pow_twice}
use Rattle.ark_math_variables.proofs.Polynomials.Multilinear.{extension-nil}
use Rattle.ark_tables.proofs.TableLists.{halves_bound}
use Rattle.ark_tables.proofs.tables.value_of_table.Goals as goal

pub bind-init : goal.bind-init
bind-init g c =
    let K = g.F.Field.field in
    let t = c.args.table.now in
    let p = c.in-Some.others.now in
    let x = c.in-Some.last.now in
    let h = length t / 2 in
    let front = c.split_at.result.0.now in
    let high = c.split_at.result.1.now in
    let slice = c.as_mut_slice.result.now in
    let low = c.bind_halves.new.low in
    let halves = c.split_at.ensures in
    let point : c.args.point.now ≡ p ++ x ∷ [] = c.in-Some.ensures.cases.0 in
    let more : length c.args.point.now ≡ length p + 1 = sym c.in-Some.ensures.cases.1 in
    let next : length p + 1 ≡ suc (length p) = omega arith in
    let table : length t ≡ 2 * 2 ^ length p = c.requires ∙ ap (λ n. 2 ^ n) (more ∙ next) ∙ pow_twice (length p) in
    let is : h ≡ 2 ^ length p = omega (arith, table) in
    let copy : slice ≡ front = c.as_mut_slice.ensures.value ∙ c.in_ok-left.ensures.items in
    let kept : length low ≡ h = c.bind_halves.auto.low ∙ ap length copy ∙ halves.front_len in
    let back : take c.in_ok-left.left.len (low ++ drop (length low) c.in_ok-left.left.items) ≡ low =
    written_back low _ c.in_ok-left.left.len (omega (arith, c.bind_halves.auto.low, c.as_mut_slice.ensures.len)) in (
      ap (λ v. extension K (of_list K v) p) back
          ∙ halves_bound K g.met.F.Field.field_laws t front high (of_list K low) p x h is (λ k l. ap (λ v. of_list K v k) halves.front ∙ get_or-take h t k K.zero l) (λ k. ap (λ v. of_list K v k) halves.back ∙ get_or-drop h t k K.zero)
          (subst (λ v. of_list K low ≡ added K (of_list K v) (scaled K x (difference K (of_list K high) (of_list K v)))) copy c.bind_halves.ensures)
          ∙ ap (extension K (of_list K t)) (sym point),
      ap length back ∙ kept ∙ is,
    )

pub returns : goal.returns
returns g c =
    let K = g.F.Field.field in
    let left = c.bind.left.items in
    let none : c.bind.unbound.now ≡ [] = nil_from_length c.bind.unbound.now c.in_default-split_last.ensures.cases in
    let one : length left ≡ 1 = c.bind.invariant.1 ∙ ap (λ v. 2 ^ length v) none in
    get_or_read left 0 c.index.result.now (omega arith) c.index.ensures K.zero
    ∙ sym (extension-nil K g.met.F.Field.field_laws (of_list K left))
    ∙ ap (extension K (of_list K left)) (sym none)
    ∙ c.bind.invariant.0
