use Rattle.std.proofs.Common.{◌∙◌, ap, inl, inr, refl, ⊎_elim}
use Rattle.std.specs.Prelude.{Err}
use Rattle.ark_math.specs.Univariate.{of_list}
use Rattle.polyrun_lib.specs.Commands.{product_of}
use Rattle.ark_numbers.proofs.Values.{number_field, shown_field, no_product}
use Rattle.polyrun_lib.proofs.Values.{found_is_no_error, outcome_line, outcome_error, gives_product}
use Rattle.polyrun_lib.proofs.program.product_line.Goals as goal

pub returns-in_err-left : goal.returns-in_err-left
returns-in_err-left g c xs ys left_spelled right_spelled =
    let F = g.F.PrimeNumbers in
    let laws = g.met.F.PrimeNumbers in
    let S = number_field F.numbering F.prime laws.field_law laws.generator_law laws.root_law g.met.F.FftField.roots_law in
    outcome_error (shown_field S) (product_of xs ys) _ _ c.from_residual.ensures.1 (inr (inr (xs, ys, inl refl), refl))

pub returns-in_err-right : goal.returns-in_err-right
returns-in_err-right g c xs ys left_spelled right_spelled =
    let F = g.F.PrimeNumbers in
    let laws = g.met.F.PrimeNumbers in
    let S = number_field F.numbering F.prime laws.field_law laws.generator_law laws.root_law g.met.F.FftField.roots_law in
    outcome_error (shown_field S) (product_of xs ys) _ _ c.from_residual-in_err-right.ensures.1 (inr (inr (xs, ys, inl refl), refl))

pub returns-in_err-product : goal.returns-in_err-product
returns-in_err-product g c xs ys left_spelled right_spelled =
    let F = g.F.PrimeNumbers in
    let laws = g.met.F.PrimeNumbers in
    let S = number_field F.numbering F.prime laws.field_law laws.generator_law laws.root_law g.met.F.FftField.roots_law in
    outcome_error (shown_field S) (product_of xs ys) _ _ c.from_residual-in_err-product.ensures.1
    (⊎_elim
    (λ memory. inr (inr (xs, ys, inl refl), memory))
    (λ none. inl (
      no_product S xs ys c.in_ok-left.left c.in_ok-right.right (c.in_ok-left.ensures xs left_spelled) (c.in_ok-right.ensures ys right_spelled)
          (c.in_err-product.ensures.none.0 (ap Err none)),
      none,
    ))
    c.in_err-product.ensures.errors)

pub returns : goal.returns
returns g c xs ys left_spelled right_spelled =
    let F = g.F.PrimeNumbers in
    let laws = g.met.F.PrimeNumbers in
    let S = number_field F.numbering F.prime laws.field_law laws.generator_law laws.root_law g.met.F.FftField.roots_law in
    outcome_line (shown_field S) (product_of xs ys) _ _
    (gives_product S xs ys c.in_ok-left.left c.in_ok-right.right c.coeffs.result.now (c.in_ok-left.ensures xs left_spelled) (c.in_ok-right.ensures ys right_spelled)
    (ap (of_list g.F.Field.field) c.coeffs.ensures.same ∙ c.in_ok-product.ensures.product) c.coeffs.ensures.trimmed
    (λ none. found_is_no_error (c.in_ok-product.ensures.none.1 none)))
    c.element_line.ensures.text c.element_line.ensures.memory
