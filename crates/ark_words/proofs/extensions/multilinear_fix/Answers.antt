use Rattle.std.proofs.Common.{◌≡◌, ◌<◌, ◌/◌, ◌↔◌, All, Err, length, map, refl, sym, ap, subst, ◌∙◌, rules}
use Rattle.ark_math.specs.Module.{tabulate}
use Rattle.ark_math_variables.specs.Multilinear.{fixed}
use Rattle.ark_words.specs.declared.error.WordsError.TheVariants.{NotReduced}
use Rattle.ark_words.specs.Numbers.{in_words, numbers, BothReduced}
use Rattle.ark_words.specs.Extensions.{FitFixed, AreFixed, corner_values}
use Rattle.ark_numbers.specs.Fields.{operations}
use Rattle.ark_numbers.proofs.Values.{number_field, shown_field}
use Rattle.ark_words.proofs.Corners.{left_times, one_left, fixed_carried}
use Rattle.ark_words.proofs.Refused.{refused_told}
use Rattle.ark_words.proofs.WordLists.{numbers_below, length_read, whole_words}
use Rattle.ark_words.proofs.extensions.multilinear_fix.Goals as goal

pub returns-in_err-table-clause-not_reduced : goal.returns-in_err-table-clause-not_reduced
returns-in_err-table-clause-not_reduced g c =
    let table = c.args.table.now in
    let point = c.args.point.now in
    let whole = rw c.WIDTH-width.ensures at c.if-table-width-ne0.false in
    let point_whole = rw c.WIDTH-width.ensures at c.if-point-width-ne0.false in
    let left_whole = rw c.WIDTH-width.ensures at c.if-fixed-width-ne0.false in
    let left = rw c.WIDTH-width.ensures at c.if-not-are_left.ensures in
    subst (λ f. (c.from_residual.result ≡ Err NotReduced) ↔ (FitFixed f table point c.args.fixed.now × (¬ BothReduced f table point))) (sym g.met.F.WordElement.spelled_law)
    (refused_told _ _ c.from_residual.result c.in_err-table.field-0.0 c.from_residual.ensures.1 (whole, point_whole, left_whole, left.0 refl) c.in_err-table.ensures.refusal)

pub fixed_table-requires : goal.fixed_table-requires
fixed_table-requires g c =
    let number = g.F.PrimeNumbers.numbering.number in
    let width = g.F.WordElement.WIDTH in
    let left = rw c.WIDTH-width.ensures at c.if-not-are_left.ensures in
    let read = c.in_ok-table.ensures in (
      length c.args.fixed.now / width,
      left_times _ _ _ _ _ (left.0 refl)
          (ap length c.deref.ensures.value ∙ length_read number width c.in_ok-table.table.items c.args.table.now read.left)
          (ap length c.deref-2.ensures.value ∙ length_read number width c.in_ok-table.point.items c.args.point.now read.right),
    )

pub returns-in_default-clause-not_reduced : goal.returns-in_default-clause-not_reduced
returns-in_default-clause-not_reduced g c =
    let F = g.F.PrimeNumbers in
    let P = All (λ x. x < F.modulus) in
    let read = c.in_ok-table.ensures in
    let reduced = subst (λ f. BothReduced f c.args.table.now c.args.point.now) (sym g.met.F.WordElement.spelled_law)
    (subst P read.left (numbers_below F.numbering c.in_ok-table.table.items), subst P read.right (numbers_below F.numbering c.in_ok-table.point.items)) in
    ((λ e. absurd (search rules)), (λ h. absurd (h.1 reduced)))

pub put-requires : goal.put-requires
put-requires g c =
    let number = g.F.PrimeNumbers.numbering.number in
    let width = g.F.WordElement.WIDTH in
    let left_whole = rw c.WIDTH-width.ensures at c.if-fixed-width-ne0.false in
    let left = rw c.WIDTH-width.ensures at c.if-not-are_left.ensures in
    let read = c.in_ok-table.ensures in
    whole_words width (length c.deref-3.result.now) c.args.fixed.now left_whole
    (ap length c.deref-3.ensures.value
    ∙ one_left (length c.in-Ok.left.items) (length c.args.fixed.now / width) (length c.deref-2.result.now) (length c.deref.result.now) c.in-Ok.ensures.len
    (left_times _ _ _ _ _ (left.0 refl)
    (ap length c.deref.ensures.value ∙ length_read number width c.in_ok-table.table.items c.args.table.now read.left)
    (ap length c.deref-2.ensures.value ∙ length_read number width c.in_ok-table.point.items c.args.point.now read.right)))

pub returns-clause-table : goal.returns-clause-table
returns-clause-table g c =
    let F = g.F.PrimeNumbers in
    let laws = g.met.F.PrimeNumbers in
    let S = number_field F.numbering F.prime laws.field_law laws.generator_law laws.root_law g.met.F.FftField.roots_law in
    let f = in_words g.F.WordElement.WIDTH (shown_field S) in
    let read = c.in_ok-table.ensures in
    let written = c.put.ensures ∙ ap (map F.numbering.number) c.deref-3.ensures.value in
    subst (λ f. AreFixed f c.args.table.now c.args.point.now c.put.new.words) (sym g.met.F.WordElement.spelled_law)
    (written
    ∙ fixed_carried S _ _ c.in_ok-table.table.items c.in_ok-table.point.items c.in-Ok.left.items read.left read.right
    (rw (c.deref.ensures.value, c.deref-2.ensures.value) at c.in-Ok.ensures.values)
    ∙ ap (λ n. tabulate n (fixed (operations f.known) (corner_values f c.args.table.now) (numbers f.width c.args.point.now)))
    (length_read F.numbering.number g.F.WordElement.WIDTH c.in-Ok.left.items c.put.new.words (sym written)))

pub returns-clause-taken : goal.returns-clause-taken
returns-clause-taken g c =
    let F = g.F.PrimeNumbers in
    let P = All (λ x. x < F.modulus) in
    let read = c.in_ok-table.ensures in
    let whole = rw c.WIDTH-width.ensures at c.if-table-width-ne0.false in
    let point_whole = rw c.WIDTH-width.ensures at c.if-point-width-ne0.false in
    let left_whole = rw c.WIDTH-width.ensures at c.if-fixed-width-ne0.false in
    let left = rw c.WIDTH-width.ensures at c.if-not-are_left.ensures in
    subst (λ f. FitFixed f c.args.table.now c.args.point.now c.args.fixed.now × BothReduced f c.args.table.now c.args.point.now) (sym g.met.F.WordElement.spelled_law) (
      (whole, point_whole, left_whole, left.0 refl),
      (subst P read.left (numbers_below F.numbering c.in_ok-table.table.items), subst P read.right (numbers_below F.numbering c.in_ok-table.point.items)),
    )

pub returns-clause-not_reduced : goal.returns-clause-not_reduced
returns-clause-not_reduced g c =
    let F = g.F.PrimeNumbers in
    let P = All (λ x. x < F.modulus) in
    let read = c.in_ok-table.ensures in
    let reduced = subst (λ f. BothReduced f c.args.table.now c.args.point.now) (sym g.met.F.WordElement.spelled_law)
    (subst P read.left (numbers_below F.numbering c.in_ok-table.table.items), subst P read.right (numbers_below F.numbering c.in_ok-table.point.items)) in
    ((λ e. absurd (search rules)), (λ h. absurd (h.1 reduced)))
