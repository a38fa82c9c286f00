use Rattle.std.proofs.Common.{◌≡◌, ◌<◌, ◌^◌, ◌↔◌, All, Err, length, refl, sym, ap, subst, ◌∙◌, rules}
use Rattle.ark_words.specs.declared.error.WordsError.TheVariants.{NotReduced}
use Rattle.ark_words.specs.Numbers.{BothReduced}
use Rattle.ark_words.specs.Extensions.{FitExtended, IsExtended}
use Rattle.ark_numbers.proofs.Values.{number_field, extension_carried}
use Rattle.ark_words.proofs.Refused.{refused_told}
use Rattle.ark_words.proofs.WordLists.{numbers_below, length_read}
use Rattle.ark_words.proofs.extensions.multilinear_evaluate.Goals as goal

pub returns-in_err-table-clause-not_reduced : goal.returns-in_err-table-clause-not_reduced
returns-in_err-table-clause-not_reduced g c =
    let table = c.args.table.now in
    let point = c.args.point.now in
    let whole = rw c.WIDTH-width.ensures at c.if-table-width-ne0.false in
    let point_whole = rw c.WIDTH-width.ensures at c.if-point-width-ne0.false in
    let one = rw c.WIDTH-width.ensures at c.if-value-width.false in
    let corners = rw c.WIDTH-width.ensures at c.if-not-are_corners.ensures in
    subst (λ f. (c.from_residual.result ≡ Err NotReduced) ↔ (FitExtended f table point c.args.value.now × (¬ BothReduced f table point))) (sym g.met.F.WordElement.spelled_law)
    (refused_told _ _ c.from_residual.result c.in_err-table.field-0.0 c.from_residual.ensures.1 (whole, point_whole, one, corners.0 refl) c.in_err-table.ensures.refusal)

pub value_of_table-requires : goal.value_of_table-requires
value_of_table-requires g c =
    let number = g.F.PrimeNumbers.numbering.number in
    let width = g.F.WordElement.WIDTH in
    let corners = rw c.WIDTH-width.ensures at c.if-not-are_corners.ensures in
    let read = c.in_ok-table.ensures in
    ap length c.deref.ensures.value
    ∙ length_read number width c.in_ok-table.table.items c.args.table.now read.left
    ∙ corners.0 refl
    ∙ ap (λ n. 2 ^ n) (sym (ap length c.deref-2.ensures.value ∙ length_read number width c.in_ok-table.point.items c.args.point.now read.right))

pub returns-in_default-clause-not_reduced : goal.returns-in_default-clause-not_reduced
returns-in_default-clause-not_reduced g c =
    let F = g.F.PrimeNumbers in
    let P = All (λ x. x < F.modulus) in
    let read = c.in_ok-table.ensures in
    let reduced = subst (λ f. BothReduced f c.args.table.now c.args.point.now) (sym g.met.F.WordElement.spelled_law)
    (subst P read.left (numbers_below F.numbering c.in_ok-table.table.items), subst P read.right (numbers_below F.numbering c.in_ok-table.point.items)) in
    ((λ e. absurd (search rules)), (λ h. absurd (h.1 reduced)))

pub returns-clause-value : goal.returns-clause-value
returns-clause-value g c =
    let F = g.F.PrimeNumbers in
    let laws = g.met.F.PrimeNumbers in
    let S = number_field F.numbering F.prime laws.field_law laws.generator_law laws.root_law g.met.F.FftField.roots_law in
    let read = c.in_ok-table.ensures in
    subst (λ f. IsExtended f c.args.table.now c.args.point.now c.write_words.new.words) (sym g.met.F.WordElement.spelled_law)
    (c.write_words.ensures
    ∙ extension_carried S _ _ c.in_ok-table.table.items c.in_ok-table.point.items c.in-Ok.found read.left read.right
    (rw (c.deref.ensures.value, c.deref-2.ensures.value) at c.in-Ok.ensures))

pub returns-clause-taken : goal.returns-clause-taken
returns-clause-taken g c =
    let F = g.F.PrimeNumbers in
    let P = All (λ x. x < F.modulus) in
    let read = c.in_ok-table.ensures in
    let whole = rw c.WIDTH-width.ensures at c.if-table-width-ne0.false in
    let point_whole = rw c.WIDTH-width.ensures at c.if-point-width-ne0.false in
    let one = rw c.WIDTH-width.ensures at c.if-value-width.false in
    let corners = rw c.WIDTH-width.ensures at c.if-not-are_corners.ensures in
    subst (λ f. FitExtended f c.args.table.now c.args.point.now c.args.value.now × BothReduced f c.args.table.now c.args.point.now) (sym g.met.F.WordElement.spelled_law) (
      (whole, point_whole, one, corners.0 refl),
      (subst P read.left (numbers_below F.numbering c.in_ok-table.table.items), subst P read.right (numbers_below F.numbering c.in_ok-table.point.items)),
    )

pub returns-clause-not_reduced : goal.returns-clause-not_reduced
returns-clause-not_reduced g c =
    let F = g.F.PrimeNumbers in
    let P = All (λ x. x < F.modulus) in
    let read = c.in_ok-table.ensures in
    let reduced = subst (λ f. BothReduced f c.args.table.now c.args.point.now) (sym g.met.F.WordElement.spelled_law)
    (subst P read.left (numbers_below F.numbering c.in_ok-table.table.items), subst P read.right (numbers_below F.numbering c.in_ok-table.point.items)) in
    ((λ e. absurd (search rules)), (λ h. absurd (h.1 reduced)))
