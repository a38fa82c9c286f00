use Rattle.std.proofs.Common.{ap, ap₂, refl, sym, ◌∙◌, true≢false}
use Rattle.std.specs.Option.{is_some}
use Rattle.ark_extensions.specs.Quadratics.{norm}
use Rattle.ark_extensions.specs.QuadraticLaws.{norm_of_zero}
use Rattle.ark_extensions.specs.Elements.{coefficients, element, extension}
use Rattle.ark_extensions.specs.ElementLaws.{equal_elements, zero_from_norm, inverted_element}
use Rattle.ark_extensions.proofs.quadratic.field.QuadraticField.inverse.Goals as goal

pub returns-in_err-inverse-clause-none : goal.returns-in_err-inverse-clause-none
returns-in_err-inverse-clause-none g c =
    let K = g.F.Field.field in
    let w = g.M.QuadraticModulus.non_residue in
    let L = g.met.F.Field in
    let x = c.args.self.now in
    let E = extension {F = g.row.F.Denot} {M = g.row.M.Denot} K w in
    let zero = equal_elements g.F.PartialEq.eq L.equality_law x E.zero in (
      λ _. zero_from_norm K L.field_laws w g.met.M.QuadraticModulus.no_square x _ zero (sym c.norm.ensures ∙ c.in_err-inverse.ensures.none.0 refl),
      λ _. ap is_some c.from_residual.ensures,
    )

pub returns-clause-some : goal.returns-clause-some
returns-clause-some g c =
    let K = g.F.Field.field in
    let w = g.M.QuadraticModulus.non_residue in
    let L = g.met.F.Field in
    let x = c.args.self.now in
    let y = c.in_ok-inverse.inverse in
    let E = extension {F = g.row.F.Denot} {M = g.row.M.Denot} K w in
    let first = L.mul_law _ _ _ c.mul.ensures in
    let second = L.neg_law _ _ c.neg.ensures ∙ ap K.negated (L.mul_law _ _ _ c.mul-2.ensures) in
    ap (E.times x) (ap element (c.new.ensures ∙ ap₂ (λ a b. (a, b)) first second))
    ∙ inverted_element K L.field_laws w x y (ap (λ n. K.times n y) (sym c.norm.ensures) ∙ c.in_ok-inverse.ensures.some)

pub returns-clause-none : goal.returns-clause-none
returns-clause-none g c =
    let K = g.F.Field.field in
    let w = g.M.QuadraticModulus.non_residue in
    let zero = norm_of_zero K g.met.F.Field.field_laws w in (
      λ none. absurd (true≢false none),
      λ e. absurd (true≢false (c.in_ok-inverse.ensures.none.1 (c.norm.ensures ∙ ap (λ x. norm K w (coefficients x)) e ∙ zero))),
    )
