use Rattle.std.proofs.Common.{◌≡◌, Bool, true, List, length, ◌==◌, sym, ap, ◌∙◌, arith}
use mathlib.Core.Path.{fun_ext}
use Rattle.std.proofs.lemmas.Bool.{eqb-true}
use Rattle.ark_math.specs.Field.{FieldOn}
use Rattle.ark_math.specs.Univariate.{of_list, nothing, product}
use Rattle.ark_math_polynomials.proofs.Polynomials.UnivariateLists.{of_list-past}
use Rattle.ark_math_polynomials.proofs.Polynomials.UnivariateProducts.{nothing-product, product-nothing}
use Rattle.ark_coeffs.proofs.dense.naive_product.Goals.{then-is_empty-via-then-is_empty, then-is_empty-via-else-is_empty+then-is_empty-2}
use Rattle.ark_coeffs.proofs.dense.naive_product.Goals as goal

empty_is_nothing : {F : Type 0} (K : FieldOn F) (c : List F) (b : Bool) → b ≡ (length c == 0) → b ≡ true → of_list K c ≡ nothing K
empty_is_nothing K c b e f =
    let none : length c ≡ 0 = eqb-true (length c) 0 (sym e ∙ f) in
    fun_ext (λ i. of_list-past K c i (omega arith))

pub returns-then-is_empty-clause-product : goal.returns-then-is_empty-clause-product
returns-then-is_empty-clause-product g c =
    let K = g.F.Field.field in
    let N = g.met.F.Field.field_laws in
    let left = c.args.left.now in
    let right = c.args.right.now in
    let none : product K (of_list K left) (of_list K right) ≡ nothing K =
    elim c.then-is_empty.branch [
      | then-is_empty-via-then-is_empty w ↦
          ap (λ t. product K t (of_list K right)) (empty_is_nothing K left _ c.is_empty.ensures w.if-is_empty.true) ∙ nothing-product K N (of_list K right)
      | then-is_empty-via-else-is_empty+then-is_empty-2 w ↦
          ap (product K (of_list K left)) (empty_is_nothing K right _ w.is_empty-else-is_empty.ensures w.if-is_empty-2.true) ∙ product-nothing K N (of_list K left)
    ] in
    ap (of_list K) c.new.ensures.items ∙ sym none
