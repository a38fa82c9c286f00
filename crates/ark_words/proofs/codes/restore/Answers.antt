use Rattle.std.proofs.Common.{◌≡◌, ◌≢◌, ◌/◌, ◌%◌, ◌<◌, ◌≤◌, All, length, map, Err, IfErr, ap, sym, subst, ◌∙◌, refl, arith}
use Rattle.std.proofs.lemmas.Bool.{eqb-false, eqb-true}
use Rattle.std.proofs.lemmas.List.{length-map}
use Rattle.ark_numbers.proofs.Values.{number_field, shown_field}
use Rattle.ark_words.specs.Faults.{IsWordFault}
use Rattle.ark_words.specs.Numbers.{numbers, AreReduced, in_words}
use Rattle.ark_words.specs.Codes.{FitWords, HasCode, HasCodeword, HaveCodewords, IsRestored, AreRestored, left_count, word_at}
use Rattle.ark_words.proofs.Faults.{for_error, with_lengths}
use Rattle.ark_words.proofs.WordLists.{length-numbers, whole_words, numbers_below}
use Rattle.ark_words.proofs.codes.restore.Goals as goal
use Rattle.ark_words.proofs.codes.restore.Goals.{then-words-width-ne0-via-then-words-width-ne0, then-words-width-ne0-via-else-words-width-ne0+then-is_empty, then-words-width-ne0-via-else-words-width-ne0+else-is_empty+then-k-eq0, then-words-width-ne0-via-else-words-width-ne0+else-is_empty+else-k-eq0+then-k-erased, then-words-width-ne0-via-else-words-width-ne0+else-is_empty+else-k-eq0+else-k-erased+then-words-width-ne0-2}

pub returns-then-words-width-ne0-clause-fault : goal.returns-then-words-width-ne0-clause-fault
returns-then-words-width-ne0-clause-fault g c = λ taken.
    let words = c.args.words.now in
    let erased = c.args.erased.now in
    let fits = subst (λ f. FitWords f words erased c.args.k) g.met.F.WordElement.spelled_law taken in
    let whole = fits.0 in
    let some = fits.1 in
    let rows = fits.2 in
    let least = fits.3 in
    let most = fits.4 in
    elim c.then-words-width-ne0.branch [
      | then-words-width-ne0-via-then-words-width-ne0 w ↦
          let ne = rw c.WIDTH-width.ensures at w.if-words-width-ne0.true in absurd (ne whole)
      | then-words-width-ne0-via-else-words-width-ne0+then-is_empty w ↦
          let none : length words ≡ 0 = eqb-true (length words) 0 (sym w.is_empty.ensures ∙ w.if-is_empty.true) in absurd (omega (arith, none, some))
      | then-words-width-ne0-via-else-words-width-ne0+else-is_empty+then-k-eq0 w ↦
          absurd (omega (arith, w.if-k-eq0.true, least))
      | then-words-width-ne0-via-else-words-width-ne0+else-is_empty+else-k-eq0+then-k-erased w ↦
          absurd (omega (arith, w.if-k-erased.true, most))
      | then-words-width-ne0-via-else-words-width-ne0+else-is_empty+else-k-eq0+else-k-erased+then-words-width-ne0-2 w ↦
          let ne = rw c.WIDTH-width.ensures at w.if-words-width-ne0-2.true in absurd (ne rows)
    ]

pub returns-in_err-decoder-clause-fault : goal.returns-in_err-decoder-clause-fault
returns-in_err-decoder-clause-fault g c =
    let words = c.args.words.now in
    let erased = c.args.erased.now in
    let k = c.args.k in
    let whole = rw c.WIDTH-width.ensures at c.if-words-width-ne0.false in
    let rows = rw c.WIDTH-width.ensures at c.if-words-width-ne0-2.false in
    let some : length words ≢ 0 = eqb-false (length words) 0 (sym c.is_empty.ensures ∙ c.if-is_empty.false) in
    subst (λ f. IfErr c.from_residual.result (IsWordFault (FitWords f words erased k) (AreReduced f words) (HasCode f (length erased)) (k ≤ left_count erased) (HaveCodewords f words erased k)))
    (sym g.met.F.WordElement.spelled_law)
    (for_error _ c.from_residual.result c.in_err-decoder.field-0.0 c.from_residual.ensures.1
    (with_lengths _ _ _ _ _ c.in_err-decoder.field-0.0 (whole, omega arith, rows, omega arith, omega arith) c.in_err-decoder.ensures.fault))

pub restore_each-requires-clause-whole : goal.restore_each-requires-clause-whole
restore_each-requires-clause-whole g c =
    let F = g.F.PrimeNumbers in
    let width = g.F.WordElement.WIDTH in
    let words = c.args.words.now in
    let rows = rw c.WIDTH-width.ensures at c.if-words-width-ne0-2.false in
    let count = ap length c.deref.ensures.value ∙ sym (length-map _ F.numbering.number) ∙ ap length c.in_ok-decoder.ensures.numbers ∙ length-numbers width words in
    ap (λ n. n % length c.args.erased.now) count ∙ rows

pub put-requires : goal.put-requires
put-requires g c =
    let F = g.F.PrimeNumbers in
    let width = g.F.WordElement.WIDTH in
    let words = c.args.words.now in
    let whole = rw c.WIDTH-width.ensures at c.if-words-width-ne0.false in
    let count = ap length c.deref.ensures.value ∙ sym (length-map _ F.numbering.number) ∙ ap length c.in_ok-decoder.ensures.numbers ∙ length-numbers width words in
    whole_words width (length c.deref-in-Ok.result.now) words whole (ap length c.deref-in-Ok.ensures.value ∙ c.in-Ok.ensures.len ∙ count)

pub returns-in-Ok-clause-restored : goal.returns-in-Ok-clause-restored
returns-in-Ok-clause-restored g c =
    let F = g.F.PrimeNumbers in
    let laws = g.met.F.PrimeNumbers in
    let S = number_field F.numbering F.prime laws.field_law laws.generator_law laws.root_law g.met.F.FftField.roots_law in
    let f = shown_field S in
    let width = g.F.WordElement.WIDTH in
    let old = c.args.words.now in
    let erased = c.args.erased.now in
    let n = length erased in
    let read = ap (map F.numbering.number) c.deref.ensures.value ∙ c.in_ok-decoder.ensures.numbers in
    let written = c.put.ensures ∙ ap (map F.numbering.number) c.deref-in-Ok.ensures.value in
    let count = ap length c.deref.ensures.value ∙ sym (length-map _ F.numbering.number) ∙ ap length c.in_ok-decoder.ensures.numbers ∙ length-numbers width old in
    subst (λ s. AreRestored s old erased c.args.k c.put.new.words) (sym g.met.F.WordElement.spelled_law)
    (λ j l.
    subst (λ r. IsRestored f erased c.args.k (word_at n (numbers width old) j) (word_at n r j)) (sym written)
    (subst (λ w. IsRestored f erased c.args.k (word_at n w j) (word_at n (map F.numbering.number c.in-Ok.restored.items) j)) read
    (subst (λ k. IsRestored f erased k (word_at n (map F.numbering.number c.deref.result.now) j) (word_at n (map F.numbering.number c.in-Ok.restored.items) j)) c.in_ok-decoder.ensures.items
    (c.in-Ok.ensures.each j (subst (λ m. j < m / n) (sym count) l)))))

pub returns-in-Ok-clause-taken : goal.returns-in-Ok-clause-taken
returns-in-Ok-clause-taken g c =
    let F = g.F.PrimeNumbers in
    let words = c.args.words.now in
    let erased = c.args.erased.now in
    let k = c.args.k in
    let whole = rw c.WIDTH-width.ensures at c.if-words-width-ne0.false in
    let rows = rw c.WIDTH-width.ensures at c.if-words-width-ne0-2.false in
    let some : length words ≢ 0 = eqb-false (length words) 0 (sym c.is_empty.ensures ∙ c.if-is_empty.false) in
    let all = subst (All (λ x. x < F.modulus)) c.in_ok-decoder.ensures.numbers (numbers_below F.numbering c.in_ok-decoder.items.items) in
    let taken = c.in_ok-decoder.ensures.taken in
    subst (λ f. FitWords f words erased k × AreReduced f words × HasCode f (length erased) × (k ≤ left_count erased)) (sym g.met.F.WordElement.spelled_law)
    ((whole, omega arith, rows, omega arith, omega arith), all, taken.0, taken.1)

pub returns-in-Err-NoCodeword-clause-fault : goal.returns-in-Err-NoCodeword-clause-fault
returns-in-Err-NoCodeword-clause-fault g c =
    let F = g.F.PrimeNumbers in
    let laws = g.met.F.PrimeNumbers in
    let S = number_field F.numbering F.prime laws.field_law laws.generator_law laws.root_law g.met.F.FftField.roots_law in
    let f = shown_field S in
    let width = g.F.WordElement.WIDTH in
    let words = c.args.words.now in
    let erased = c.args.erased.now in
    let n = length erased in
    let k = c.args.k in
    let whole = rw c.WIDTH-width.ensures at c.if-words-width-ne0.false in
    let rows = rw c.WIDTH-width.ensures at c.if-words-width-ne0-2.false in
    let some : length words ≢ 0 = eqb-false (length words) 0 (sym c.is_empty.ensures ∙ c.if-is_empty.false) in
    let all = subst (All (λ x. x < F.modulus)) c.in_ok-decoder.ensures.numbers (numbers_below F.numbering c.in_ok-decoder.items.items) in
    let taken = c.in_ok-decoder.ensures.taken in
    let read = ap (map F.numbering.number) c.deref.ensures.value ∙ c.in_ok-decoder.ensures.numbers in
    let count = ap length c.deref.ensures.value ∙ sym (length-map _ F.numbering.number) ∙ ap length c.in_ok-decoder.ensures.numbers ∙ length-numbers width words in
    let none = λ (have : HaveCodewords (in_words width f) words erased k).
    c.restore_each.ensures.none (c.in-Err-NoCodeword.is ∙ ap Err c.in-Err-NoCodeword.field-0-is)
    (λ j l.
    subst (λ m. HasCodeword f erased m (word_at n (map F.numbering.number c.deref.result.now) j)) (sym c.in_ok-decoder.ensures.items)
    (subst (λ w. HasCodeword f erased k (word_at n w j)) (sym read) (have j (subst (λ m. j < m / n) count l)))) in
    subst (λ s. FitWords s words erased k × AreReduced s words × HasCode s (length erased) × (k ≤ left_count erased) × (¬ HaveCodewords s words erased k)) (sym g.met.F.WordElement.spelled_law)
    ((whole, omega arith, rows, omega arith, omega arith), all, taken.0, taken.1, none)

pub returns : goal.returns
returns g c =
    let F = g.F.PrimeNumbers in
    let words = c.args.words.now in
    let erased = c.args.erased.now in
    let k = c.args.k in
    let whole = rw c.WIDTH-width.ensures at c.if-words-width-ne0.false in
    let rows = rw c.WIDTH-width.ensures at c.if-words-width-ne0-2.false in
    let some : length words ≢ 0 = eqb-false (length words) 0 (sym c.is_empty.ensures ∙ c.if-is_empty.false) in
    let all = subst (All (λ x. x < F.modulus)) c.in_ok-decoder.ensures.numbers (numbers_below F.numbering c.in_ok-decoder.items.items) in
    let taken = c.in_ok-decoder.ensures.taken in
    record {
      restored = tt;
      kept = refl;
      taken = tt;
      fault = subst (λ f. FitWords f words erased k × AreReduced f words × HasCode f (length erased) × (k ≤ left_count erased)) (sym g.met.F.WordElement.spelled_law)
          ((whole, omega arith, rows, omega arith, omega arith), all, taken.0, taken.1);
    }
