use Rattle.std.proofs.Common.{◌≡◌, ◌*◌, ◌/◌, ◌^◌, length, map, ap, ap₂, sym, subst, subst₂, ◌∙◌}
use Rattle.ark_math.specs.Words.{number_of_words}
use Rattle.ark_math.specs.Module.{itself}
use Rattle.ark_numbers.specs.Fields.{operations}
use Rattle.ark_numbers.specs.Answers.{AreInterpolated}
use Rattle.ark_numbers.proofs.Values.{number_field, shown_field}
use Rattle.ark_fft_parts.specs.Parts.{column}
use Rattle.ark_words.specs.Numbers.{numbers, HaveReduced}
use Rattle.ark_words.specs.Parts.{FitColumns, HaveParts, of_column, AreColumnsTransformedBack}
use Rattle.ark_words.proofs.Multiples.{scaled}
use Rattle.ark_words.proofs.PartsInNumbers.{in_multiples, column_back}
use Rattle.ark_words.proofs.WordLists.{length_read, whole_words}
use Rattle.ark_words.proofs.parts.ifft_columns.Goals as goal

pub columns_back-requires : goal.columns_back-requires
columns_back-requires g c =
    let F = g.F.PrimeNumbers in
    let laws = g.met.F.PrimeNumbers in
    let S = number_field F.numbering F.prime laws.field_law laws.generator_law laws.root_law g.met.F.FftField.roots_law in
    let u = g.F.WordElement.unit in
    let width = g.F.WordElement.WIDTH in
    let words = c.args.words.now in
    let parts = c.in_ok-parts.parts in
    let judged = c.in_ok-parts.ensures in
    let taken = subst (λ f. FitColumns f c.args.log_rows c.args.log_columns c.args.words.now c.args.offset.now × HaveReduced f words c.args.offset.now × HaveParts f c.args.log_rows c.args.log_columns c.args.offset.now) g.met.F.WordElement.spelled_law judged.taken in
    let many : length c.in_ok-parts.items.items ≡ length words / width = length_read (scaled S u) width c.in_ok-parts.items.items words judged.numbers in
    record {
      size = ap length c.deref.ensures.value ∙ many ∙ in_multiples (length words / width) (2 ^ c.args.log_rows) taken.0.2
          ∙ ap₂ (λ r n. r * (n / 2 ^ c.args.log_rows)) (sym judged.rows) (ap (λ w. length words / w) (sym c.WIDTH.ensures));
    }

pub put_scaled-requires : goal.put_scaled-requires
put_scaled-requires g c =
    let F = g.F.PrimeNumbers in
    let laws = g.met.F.PrimeNumbers in
    let S = number_field F.numbering F.prime laws.field_law laws.generator_law laws.root_law g.met.F.FftField.roots_law in
    let u = g.F.WordElement.unit in
    let width = g.F.WordElement.WIDTH in
    let words = c.args.words.now in
    let parts = c.in_ok-parts.parts in
    let judged = c.in_ok-parts.ensures in
    let taken = subst (λ f. FitColumns f c.args.log_rows c.args.log_columns c.args.words.now c.args.offset.now × HaveReduced f words c.args.offset.now × HaveParts f c.args.log_rows c.args.log_columns c.args.offset.now) g.met.F.WordElement.spelled_law judged.taken in
    let many : length c.in_ok-parts.items.items ≡ length words / width = length_read (scaled S u) width c.in_ok-parts.items.items words judged.numbers in
    whole_words width (length c.deref-2.result.now) words taken.0.0.0
    (ap length c.deref-2.ensures.value ∙ c.in-Ok.ensures.size ∙ ap length c.deref.ensures.value ∙ many)

pub returns-clause-coefficients : goal.returns-clause-coefficients
returns-clause-coefficients g c =
    let F = g.F.PrimeNumbers in
    let laws = g.met.F.PrimeNumbers in
    let S = number_field F.numbering F.prime laws.field_law laws.generator_law laws.root_law g.met.F.FftField.roots_law in
    let u = g.F.WordElement.unit in
    let width = g.F.WordElement.WIDTH in
    let words = c.args.words.now in
    let parts = c.in_ok-parts.parts in
    let judged = c.in_ok-parts.ensures in
    let taken = subst (λ f. FitColumns f c.args.log_rows c.args.log_columns c.args.words.now c.args.offset.now × HaveReduced f words c.args.offset.now × HaveParts f c.args.log_rows c.args.log_columns c.args.offset.now) g.met.F.WordElement.spelled_law judged.taken in
    let many : length c.in_ok-parts.items.items ≡ length words / width = length_read (scaled S u) width c.in_ok-parts.items.items words judged.numbers in
    let h = number_of_words c.args.offset.now in
    let size : parts.whole.size ≡ 2 ^ c.args.log_rows * 2 ^ c.args.log_columns = parts.size_is ∙ ap₂ (λ r k. r * k) judged.rows judged.columns in
    let written : numbers width c.put_scaled.new.words ≡ map (scaled S u) c.in-Ok.made.items = c.put_scaled.ensures ∙ ap (map (scaled S u)) c.deref-2.ensures.value in
    let count = length words / width / 2 ^ c.args.log_rows in
    let made = rw (judged.rows, judged.columns, c.deref.ensures.value, c.WIDTH.ensures) at c.in-Ok.ensures.columns in
    subst (λ f. AreColumnsTransformedBack f c.args.log_rows c.args.log_columns words c.args.offset.now c.put_scaled.new.words) (sym g.met.F.WordElement.spelled_law)
    (λ j l.
    subst₂ (λ m ys. AreInterpolated (shown_field S) (of_column (shown_field S) c.args.log_rows c.args.log_columns h) (column (itself (operations (shown_field S))) (2 ^ c.args.log_rows) count (numbers width words) j)
    (column (itself (operations (shown_field S))) (2 ^ c.args.log_rows) (m / width / 2 ^ c.args.log_rows) ys j)) (sym c.put_scaled.auto.words) (sym written)
    (column_back S c.args.log_rows c.args.log_columns h parts.whole.size parts.whole.group_gen parts.whole.offset taken.0.1 taken.2.0 size judged.lawful judged.offset u g.F.DomainCoeff.group g.F.DomainCoeff.meaning g.met.F.FftField.itself_law count c.in_ok-parts.items.items c.in-Ok.made.items (numbers width words) judged.numbers j (made j l)))
