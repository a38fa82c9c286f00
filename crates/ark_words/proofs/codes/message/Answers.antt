use Rattle.std.proofs.Common.{◌≡◌, ◌*◌, ◌/◌, ◌%◌, ◌<◌, ◌≤◌, All, length, map, Err, IfErr, ap, ap₂, sym, subst, ◌∙◌, refl, arith}
use Rattle.std.proofs.lemmas.List.{length-map}
use Rattle.std.proofs.lemmas.Nat.{div-add-mod'}
use Rattle.ark_numbers.proofs.Values.{number_field, shown_field}
use Rattle.ark_words.specs.Faults.{IsWordFault}
use Rattle.ark_words.specs.Numbers.{numbers, AreReduced, in_words}
use Rattle.ark_words.specs.Codes.{FitMessages, HasCode, HasCodeword, HaveCodewords, IsFound, AreFound, message_size, left_count, word_at}
use Rattle.ark_words.proofs.Faults.{for_error, with_lengths}
use Rattle.ark_words.proofs.WordLists.{length-numbers, whole_words, numbers_below}
use Rattle.ark_words.proofs.codes.message.Goals as goal

pub prepared-requires-clause-least : goal.prepared-requires-clause-least
prepared-requires-clause-least g c = subst (λ k. 0 < k) (sym c.in-Some.ensures.size) c.in-Some.ensures.fit.5

pub prepared-requires-clause-most : goal.prepared-requires-clause-most
prepared-requires-clause-most g c = subst (λ k. k ≤ length c.args.erased.now) (sym c.in-Some.ensures.size) c.in-Some.ensures.fit.6

pub message_each-requires-clause-some : goal.message_each-requires-clause-some
message_each-requires-clause-some g c =
    let least = c.in-Some.ensures.fit.5 in
    let most = c.in-Some.ensures.fit.6 in
    omega (arith, least, most)

pub returns-in_err-decoder-clause-fault : goal.returns-in_err-decoder-clause-fault
returns-in_err-decoder-clause-fault g c =
    let words = c.args.words.now in
    let erased = c.args.erased.now in
    let fit = c.in-Some.ensures.fit in
    subst (λ k. IfErr c.from_residual.result (IsWordFault (FitMessages g.F.WordElement.spelled words erased c.args.messages.now) (AreReduced g.F.WordElement.spelled words) (HasCode g.F.WordElement.spelled (length erased)) (k ≤ left_count erased) (HaveCodewords g.F.WordElement.spelled words erased k)))
    c.in-Some.ensures.size
    (subst (λ f. IfErr c.from_residual.result (IsWordFault (FitMessages g.F.WordElement.spelled words erased c.args.messages.now) (AreReduced f words) (HasCode f (length erased)) (c.in-Some.k ≤ left_count erased) (HaveCodewords f words erased c.in-Some.k)))
    (sym g.met.F.WordElement.spelled_law)
    (for_error _ c.from_residual.result c.in_err-decoder.field-0.0 c.from_residual.ensures.1
    (with_lengths _ _ _ _ _ c.in_err-decoder.field-0.0 fit c.in_err-decoder.ensures.fault)))

pub put-requires : goal.put-requires
put-requires g c =
    let F = g.F.PrimeNumbers in
    let width = g.F.WordElement.WIDTH in
    let words = c.args.words.now in
    let erased = c.args.erased.now in
    let old = c.args.messages.now in
    let k = c.in-Some.k in
    let law = g.met.F.WordElement.spelled_law in
    let fits = subst (λ s. FitMessages s words erased old) law c.in-Some.ensures.fit in
    let size = subst (λ s. k ≡ message_size s words erased old) law c.in-Some.ensures.size in
    let many = length words / width / length erased in
    let room = length old / width in
    let parts = div-add-mod' room many in
    let even = fits.4 in
    let whole : many * (room / many) ≡ room = omega (arith, even, parts) in
    let count = ap length c.deref.ensures.value ∙ sym (length-map _ F.numbering.number) ∙ ap length c.in_ok-decoder.ensures.numbers ∙ length-numbers width words in
    whole_words width (length c.deref-in-Ok.result.now) old fits.3
    (ap length c.deref-in-Ok.ensures.value ∙ c.in-Ok.ensures.len ∙ ap₂ (λ m t. m / length erased * t) count (c.in_ok-decoder.ensures.items ∙ size) ∙ whole)

pub returns-in-Ok-clause-found : goal.returns-in-Ok-clause-found
returns-in-Ok-clause-found g c =
    let F = g.F.PrimeNumbers in
    let laws = g.met.F.PrimeNumbers in
    let S = number_field F.numbering F.prime laws.field_law laws.generator_law laws.root_law g.met.F.FftField.roots_law in
    let f = shown_field S in
    let width = g.F.WordElement.WIDTH in
    let words = c.args.words.now in
    let erased = c.args.erased.now in
    let n = length erased in
    let read = ap (map F.numbering.number) c.deref.ensures.value ∙ c.in_ok-decoder.ensures.numbers in
    let written = c.put.ensures ∙ ap (map F.numbering.number) c.deref-in-Ok.ensures.value in
    let count = ap length c.deref.ensures.value ∙ sym (length-map _ F.numbering.number) ∙ ap length c.in_ok-decoder.ensures.numbers ∙ length-numbers width words in
    let new = c.put.new.words in
    subst (λ k. AreFound g.F.WordElement.spelled words erased k new) (c.in_ok-decoder.ensures.items ∙ c.in-Some.ensures.size)
    (subst (λ s. AreFound s words erased c.in_ok-decoder.decoder.code.k new) (sym g.met.F.WordElement.spelled_law)
    (λ j l.
    let k = c.in_ok-decoder.decoder.code.k in
    subst (λ r. IsFound f erased k (word_at n (numbers width words) j) (word_at k r j)) (sym written)
    (subst (λ w. IsFound f erased k (word_at n w j) (word_at k (map F.numbering.number c.in-Ok.found.items) j)) read
    (c.in-Ok.ensures.each j (subst (λ m. j < m / n) (sym count) l)))))

pub returns-in-Ok-clause-taken : goal.returns-in-Ok-clause-taken
returns-in-Ok-clause-taken g c =
    let F = g.F.PrimeNumbers in
    let words = c.args.words.now in
    let erased = c.args.erased.now in
    let all = subst (All (λ x. x < F.modulus)) c.in_ok-decoder.ensures.numbers (numbers_below F.numbering c.in_ok-decoder.items.items) in
    let taken = c.in_ok-decoder.ensures.taken in
    let there = subst (λ f. AreReduced f words × HasCode f (length erased)) (sym g.met.F.WordElement.spelled_law) (all, taken.0) in
    (c.in-Some.ensures.fit, there.0, there.1, subst (λ k. k ≤ left_count erased) c.in-Some.ensures.size taken.1)

pub returns-in-Err-NoCodeword-clause-fault : goal.returns-in-Err-NoCodeword-clause-fault
returns-in-Err-NoCodeword-clause-fault g c =
    let F = g.F.PrimeNumbers in
    let laws = g.met.F.PrimeNumbers in
    let S = number_field F.numbering F.prime laws.field_law laws.generator_law laws.root_law g.met.F.FftField.roots_law in
    let f = shown_field S in
    let width = g.F.WordElement.WIDTH in
    let words = c.args.words.now in
    let erased = c.args.erased.now in
    let n = length erased in
    let k = c.in-Some.k in
    let all = subst (All (λ x. x < F.modulus)) c.in_ok-decoder.ensures.numbers (numbers_below F.numbering c.in_ok-decoder.items.items) in
    let taken = c.in_ok-decoder.ensures.taken in
    let read = ap (map F.numbering.number) c.deref.ensures.value ∙ c.in_ok-decoder.ensures.numbers in
    let count = ap length c.deref.ensures.value ∙ sym (length-map _ F.numbering.number) ∙ ap length c.in_ok-decoder.ensures.numbers ∙ length-numbers width words in
    let none = λ (have : HaveCodewords (in_words width f) words erased k).
    c.message_each.ensures.none (c.in-Err-NoCodeword.is ∙ ap Err c.in-Err-NoCodeword.field-0-is)
    (λ j l.
    subst (λ m. HasCodeword f erased m (word_at n (map F.numbering.number c.deref.result.now) j)) (sym c.in_ok-decoder.ensures.items)
    (subst (λ w. HasCodeword f erased k (word_at n w j)) (sym read) (have j (subst (λ m. j < m / n) count l)))) in
    let told = subst (λ s. AreReduced s words × HasCode s (length erased) × (k ≤ left_count erased) × (¬ HaveCodewords s words erased k)) (sym g.met.F.WordElement.spelled_law) (all, taken.0, taken.1, none) in
    subst (λ m. FitMessages g.F.WordElement.spelled words erased c.args.messages.now × AreReduced g.F.WordElement.spelled words × HasCode g.F.WordElement.spelled (length erased) × (m ≤ left_count erased) × (¬ HaveCodewords g.F.WordElement.spelled words erased m))
    c.in-Some.ensures.size (c.in-Some.ensures.fit, told.0, told.1, told.2, told.3)

pub returns : goal.returns
returns g c =
    let F = g.F.PrimeNumbers in
    let words = c.args.words.now in
    let erased = c.args.erased.now in
    let all = subst (All (λ x. x < F.modulus)) c.in_ok-decoder.ensures.numbers (numbers_below F.numbering c.in_ok-decoder.items.items) in
    let taken = c.in_ok-decoder.ensures.taken in
    let there = subst (λ f. AreReduced f words × HasCode f (length erased)) (sym g.met.F.WordElement.spelled_law) (all, taken.0) in
    record {
      found = tt;
      kept = refl;
      taken = tt;
      fault = (c.in-Some.ensures.fit, there.0, there.1, subst (λ k. k ≤ left_count erased) c.in-Some.ensures.size taken.1);
    }
