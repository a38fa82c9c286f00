use Rattle.std.proofs.Common.{◌≡◌, ◌<◌, ◌↔◌, All, Err, length, refl, sym, ap, subst, ◌∙◌, rules}
use Rattle.ark_words.specs.declared.error.WordsError.TheVariants.{NotReduced}
use Rattle.ark_words.specs.Numbers.{BothReduced}
use Rattle.ark_words.specs.Extensions.{FitSparse, IsExtendedByEntries}
use Rattle.ark_numbers.proofs.Values.{number_field}
use Rattle.ark_words.proofs.Entries.{entries_carried}
use Rattle.ark_words.proofs.Refused.{refused_told}
use Rattle.ark_words.proofs.WordLists.{numbers_below, length_read}
use Rattle.ark_words.proofs.extensions.multilinear_evaluate_sparse.Goals as goal

pub returns-in_err-values-clause-not_reduced : goal.returns-in_err-values-clause-not_reduced
returns-in_err-values-clause-not_reduced g c =
    let indices = c.args.indices.now in
    let values = c.args.values.now in
    let point = c.args.point.now in
    let whole = rw c.WIDTH-width.ensures at c.if-values-width-ne0.false in
    let point_whole = rw c.WIDTH-width.ensures at c.if-point-width-ne0.false in
    let one = rw c.WIDTH-width.ensures at c.if-value-width.false in
    let many = rw c.WIDTH-width.ensures at c.if-indices-values.false in
    let inside = rw c.WIDTH-width.ensures at c.if-not-are_indices.ensures in
    subst (λ f. (c.from_residual.result ≡ Err NotReduced) ↔ (FitSparse f indices values point c.args.value.now × (¬ BothReduced f values point))) (sym g.met.F.WordElement.spelled_law)
    (refused_told _ _ c.from_residual.result c.in_err-values.field-0.0 c.from_residual.ensures.1 (let i = inside.0 refl in (whole, point_whole, one, many, i.0, i.1)) c.in_err-values.ensures.refusal)

pub value_of_entries-requires-clause-many : goal.value_of_entries-requires-clause-many
value_of_entries-requires-clause-many g c =
    let many = rw c.WIDTH-width.ensures at c.if-indices-values.false in
    ap length c.deref.ensures.value
    ∙ length_read g.F.PrimeNumbers.numbering.number g.F.WordElement.WIDTH c.in_ok-values.values.items c.args.values.now c.in_ok-values.ensures.left
    ∙ sym many

pub value_of_entries-requires-clause-few : goal.value_of_entries-requires-clause-few
value_of_entries-requires-clause-few g c =
    let inside = rw c.WIDTH-width.ensures at c.if-not-are_indices.ensures in
    let many = ap length c.deref-2.ensures.value
    ∙ length_read g.F.PrimeNumbers.numbering.number g.F.WordElement.WIDTH c.in_ok-values.point.items c.args.point.now c.in_ok-values.ensures.right in
    subst (λ n. n < 64) (sym many) (inside.0 refl).0

pub returns-in_default-clause-not_reduced : goal.returns-in_default-clause-not_reduced
returns-in_default-clause-not_reduced g c =
    let F = g.F.PrimeNumbers in
    let P = All (λ x. x < F.modulus) in
    let read = c.in_ok-values.ensures in
    let reduced = subst (λ f. BothReduced f c.args.values.now c.args.point.now) (sym g.met.F.WordElement.spelled_law)
    (subst P read.left (numbers_below F.numbering c.in_ok-values.values.items), subst P read.right (numbers_below F.numbering c.in_ok-values.point.items)) in
    ((λ e. absurd (search rules)), (λ h. absurd (h.1 reduced)))

pub returns-clause-value : goal.returns-clause-value
returns-clause-value g c =
    let F = g.F.PrimeNumbers in
    let laws = g.met.F.PrimeNumbers in
    let S = number_field F.numbering F.prime laws.field_law laws.generator_law laws.root_law g.met.F.FftField.roots_law in
    let read = c.in_ok-values.ensures in
    subst (λ f. IsExtendedByEntries f c.args.indices.now c.args.values.now c.args.point.now c.write_words.new.words) (sym g.met.F.WordElement.spelled_law)
    (c.write_words.ensures
    ∙ entries_carried S c.args.indices.now _ _ c.in_ok-values.values.items c.in_ok-values.point.items c.in-Ok.found read.left read.right
    (rw (c.deref.ensures.value, c.deref-2.ensures.value) at c.in-Ok.ensures))

pub returns-clause-taken : goal.returns-clause-taken
returns-clause-taken g c =
    let F = g.F.PrimeNumbers in
    let P = All (λ x. x < F.modulus) in
    let read = c.in_ok-values.ensures in
    let whole = rw c.WIDTH-width.ensures at c.if-values-width-ne0.false in
    let point_whole = rw c.WIDTH-width.ensures at c.if-point-width-ne0.false in
    let one = rw c.WIDTH-width.ensures at c.if-value-width.false in
    let many = rw c.WIDTH-width.ensures at c.if-indices-values.false in
    let inside = rw c.WIDTH-width.ensures at c.if-not-are_indices.ensures in
    subst (λ f. FitSparse f c.args.indices.now c.args.values.now c.args.point.now c.args.value.now × BothReduced f c.args.values.now c.args.point.now) (sym g.met.F.WordElement.spelled_law) (
      (let i = inside.0 refl in (whole, point_whole, one, many, i.0, i.1)),
      (subst P read.left (numbers_below F.numbering c.in_ok-values.values.items), subst P read.right (numbers_below F.numbering c.in_ok-values.point.items)),
    )

pub returns-clause-not_reduced : goal.returns-clause-not_reduced
returns-clause-not_reduced g c =
    let F = g.F.PrimeNumbers in
    let P = All (λ x. x < F.modulus) in
    let read = c.in_ok-values.ensures in
    let reduced = subst (λ f. BothReduced f c.args.values.now c.args.point.now) (sym g.met.F.WordElement.spelled_law)
    (subst P read.left (numbers_below F.numbering c.in_ok-values.values.items), subst P read.right (numbers_below F.numbering c.in_ok-values.point.items)) in
    ((λ e. absurd (search rules)), (λ h. absurd (h.1 reduced)))
