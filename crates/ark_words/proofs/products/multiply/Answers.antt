use Rattle.std.proofs.Common.{◌≡◌, ◌↔◌, Err, ◌<◌, ◌≤◌, ◌/◌, ◌+◌, All, length, sym, ap, subst, ◌∙◌, rules}
use Rattle.ark_math.specs.Univariate.{of_list}
use Rattle.ark_words.specs.declared.error.WordsError.TheVariants.{Memory, NotReduced}
use Rattle.ark_words.specs.Numbers.{BothReduced}
use Rattle.ark_words.specs.Products.{FitProduct, AreMultiplied}
use Rattle.ark_numbers.proofs.Values.{number_field}
use Rattle.ark_words.proofs.WordLists.{numbers_below}
use Rattle.ark_words.proofs.Refusals.{numbers_told}
use Rattle.ark_words.proofs.WordPolynomials.{AreWritten, product_written, written_below}
use Rattle.ark_words.proofs.products.multiply.Goals as goal

pub returns-in_err-left-clause-not_reduced : goal.returns-in_err-left-clause-not_reduced
returns-in_err-left-clause-not_reduced g c =
    let left = c.args.left.now in
    let right = c.args.right.now in
    let product = c.args.product.now in
    let left_whole = rw c.WIDTH-width.ensures at c.if-left-width-ne0.false in
    let right_whole = rw c.WIDTH-width.ensures at c.if-right-width-ne0.false in
    let product_whole = rw c.WIDTH-width.ensures at c.if-product-width-ne0.false in
    let room = rw c.WIDTH-width.ensures at c.if-left-width.false in
    subst (λ f. (c.from_residual.result ≡ Err NotReduced) ↔ (FitProduct f left right product × (¬ BothReduced f left right))) (sym g.met.F.WordElement.spelled_law)
    (numbers_told _ _ c.from_residual.result c.in_err-left.field-0.0 Memory (λ e. search rules) (left_whole, right_whole, product_whole, room)
    c.from_residual.ensures.1 c.in_err-left.ensures.refusal)

pub returns-in_err-found-clause-not_reduced : goal.returns-in_err-found-clause-not_reduced
returns-in_err-found-clause-not_reduced g c =
    let F = g.F.PrimeNumbers in
    let P = All (λ x. x < F.modulus) in
    let read = c.in_ok-left.ensures in
    let reduced = subst (λ f. BothReduced f c.args.left.now c.args.right.now) (sym g.met.F.WordElement.spelled_law)
    (subst P read.left (numbers_below F.numbering c.in_ok-left.left.items), subst P read.right (numbers_below F.numbering c.in_ok-left.right.items)) in
    ((λ e. absurd (search rules)), (λ h. absurd (h.1 reduced)))

pub returns-clause-product : goal.returns-clause-product
returns-clause-product g c =
    let F = g.F.PrimeNumbers in
    let laws = g.met.F.PrimeNumbers in
    let S = number_field F.numbering F.prime laws.field_law laws.generator_law laws.root_law g.met.F.FftField.roots_law in
    let read = c.in_ok-left.ensures in
    let width = g.F.WordElement.WIDTH in
    let new = c.put_with_zeros.new.words in
    let room = rw c.WIDTH-width.ensures at c.if-left-width.false in
    let same = c.put_with_zeros.auto.words in
    let found = of_list g.F.Field.field c.in_ok-found.found in
    let written : AreWritten S width found new =
    λ i l. c.put_with_zeros.ensures i (subst (λ n. i < n / width) same l) ∙ ap (λ items. F.numbering.number (of_list g.F.Field.field items i)) c.coeffs.ensures.same in
    subst (λ f. AreMultiplied f c.args.left.now c.args.right.now new) (sym g.met.F.WordElement.spelled_law) (
      product_written S width c.args.left.now c.args.right.now new c.in_ok-left.left.items c.in_ok-left.right.items _ _ found read.left read.right
          c.from_coefficients_vec-left.ensures.coefficients c.from_coefficients_vec-right.ensures.coefficients c.in_ok-found.ensures.product
          (subst (λ n. length c.args.left.now / width + length c.args.right.now / width ≤ n / width + 1) (sym same) room) written,
      written_below S width found new written,
    )

pub returns-clause-taken : goal.returns-clause-taken
returns-clause-taken g c =
    let F = g.F.PrimeNumbers in
    let P = All (λ x. x < F.modulus) in
    let read = c.in_ok-left.ensures in
    let left_whole = rw c.WIDTH-width.ensures at c.if-left-width-ne0.false in
    let right_whole = rw c.WIDTH-width.ensures at c.if-right-width-ne0.false in
    let product_whole = rw c.WIDTH-width.ensures at c.if-product-width-ne0.false in
    let room = rw c.WIDTH-width.ensures at c.if-left-width.false in
    subst (λ f. FitProduct f c.args.left.now c.args.right.now c.args.product.now × BothReduced f c.args.left.now c.args.right.now) (sym g.met.F.WordElement.spelled_law) (
      (left_whole, right_whole, product_whole, room),
      (subst P read.left (numbers_below F.numbering c.in_ok-left.left.items), subst P read.right (numbers_below F.numbering c.in_ok-left.right.items)),
    )

pub returns-clause-not_reduced : goal.returns-clause-not_reduced
returns-clause-not_reduced g c =
    let F = g.F.PrimeNumbers in
    let P = All (λ x. x < F.modulus) in
    let read = c.in_ok-left.ensures in
    let reduced = subst (λ f. BothReduced f c.args.left.now c.args.right.now) (sym g.met.F.WordElement.spelled_law)
    (subst P read.left (numbers_below F.numbering c.in_ok-left.left.items), subst P read.right (numbers_below F.numbering c.in_ok-left.right.items)) in
    ((λ e. absurd (search rules)), (λ h. absurd (h.1 reduced)))
