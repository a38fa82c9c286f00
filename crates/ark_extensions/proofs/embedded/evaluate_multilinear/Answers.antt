use Rattle.std.proofs.Common.{◌≡◌, suc, ◌*◌, ◌^◌, length, map, sym, ap, ◌∙◌, arith}
use Rattle.ark_math_variables.specs.Multilinear.{extension}
use Rattle.ark_math.specs.Univariate.{of_list}
use Rattle.ark_math.proofs.Outcomes.Results.{IfOk_more}
use Rattle.ark_math_variables.proofs.Polynomials.Cube.{pow_twice}
use Rattle.ark_math_variables.proofs.Polynomials.Multilinear.{extension-cons, fixed-one}
use Rattle.ark_extensions.proofs.embedded.evaluate_multilinear.Goals as goal

pub bind_first-requires : goal.bind_first-requires
bind_first-requires g c =
    let p = c.in-Some.others.now in
    let count : length c.args.point.now ≡ suc (length p) = ap length c.in-Some.ensures.cases.0 in
    let twice : length c.args.table.now ≡ 2 * 2 ^ length p = c.requires ∙ ap (λ n. 2 ^ n) count ∙ pow_twice (length p) in
    omega (arith, twice)

pub value_of_table-requires : goal.value_of_table-requires
value_of_table-requires g c =
    let p = c.in-Some.others.now in
    let count : length c.args.point.now ≡ suc (length p) = ap length c.in-Some.ensures.cases.0 in
    let twice : length c.args.table.now ≡ 2 * 2 ^ length p = c.requires ∙ ap (λ n. 2 ^ n) count ∙ pow_twice (length p) in
    omega (arith, twice, ap length c.deref.ensures.value, c.in_ok-left.ensures.len)

pub returns : goal.returns
returns g c =
    let K = g.E.Field.field in
    let L = g.met.E.Field.field_laws in
    let t = of_list K (map g.E.ExtensionOf.within c.args.table.now) in
    let p = c.in-Some.others.now in
    let x = c.in-Some.first.now in
    IfOk_more c.value_of_table.result
    (λ y is.
    is
    ∙ ap (λ v. extension K (of_list K v) p) c.deref.ensures.value
    ∙ ap (λ s. extension K s p) (c.in_ok-left.ensures.values ∙ fixed-one K L t x)
    ∙ sym (extension-cons K L t x p)
    ∙ ap (extension K t) (sym c.in-Some.ensures.cases.0))
    c.value_of_table.ensures
