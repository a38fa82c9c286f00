use Rattle.std.proofs.Common.{◌≡◌, ◌+◌, ◌*◌, ◌/◌, ◌++◌, Err, length, map, slice_range, ap, sym, subst, ◌∙◌, arith}
use Rattle.std.proofs.lemmas.List.{length-append, length-map, map-append}
use Rattle.std.proofs.lemmas.Nat.{div-add-mod'}
use Rattle.ark_numbers.proofs.Values.{number_field, shown_field}
use Rattle.ark_words.specs.Codes.{HasCodeword, IsRestored, word_at}
use Rattle.ark_words.proofs.Codewords.{part_under, more_words, restored_numbers, no_codeword_numbers, decoded_length}
use Rattle.rs_code.specs.declared.error.RsError.TheVariants.{NoCodeword}
use Rattle.ark_words.proofs.Faults.{same_error}
use Rattle.ark_words.proofs.codes.restore_each.Goals as goal

pub loop-j-preserved : goal.loop-j-preserved
loop-j-preserved g c =
    let F = g.F.PrimeNumbers in
    let laws = g.met.F.PrimeNumbers in
    let S = number_field F.numbering F.prime laws.field_law laws.generator_law laws.root_law g.met.F.FftField.roots_law in
    let number = F.numbering.number in
    let V = g.F.DomainCoeff.group in
    let meaning = g.F.DomainCoeff.meaning in
    let own = g.met.F.FftField.itself_law in
    let d = c.args.decoder.now in
    let erased = c.args.erased.now in
    let n = length erased in
    let items = c.args.items.now in
    let j = c.loop-j.j in
    let before = c.loop-j.restored.items in
    let codeword = c.in_ok-codeword.codeword.items in
    let has = c.in_ok-codeword.ensures in
    let f = shown_field S in
    let found = restored_numbers S V meaning own d erased c.requires.decoder (slice_range items (j * n) ((j + 1) * n)) codeword has.codeword has.agrees has.only in
    let here = subst (λ w. IsRestored f erased d.code.k w (map number codeword)) (part_under number items (j * n) ((j + 1) * n)) found in
    let wide = decoded_length S V meaning own d erased c.requires.decoder codeword has.codeword in
    let after : c.extend_from_slice.new.self.items ≡ before ++ codeword = c.in_ok-extend_from_slice.ensures.items ∙ ap (λ t. before ++ t) c.deref.ensures.value in
    let long : length before ≡ j * n = c.loop-j.invariant.0 in (
      ap length after ∙ length-append before codeword ∙ omega (arith, long, wide),
      λ i l. subst (λ xs. IsRestored f erased d.code.k (word_at n (map number items) i) (word_at n xs i)) (sym (ap (map number) after ∙ map-append number before codeword))
          (more_words (λ w r. IsRestored f erased d.code.k w r) n n j (map number items) (map number before) (map number codeword)
          (length-map before number ∙ long) (length-map codeword number ∙ wide) here c.loop-j.invariant.1 i l),
    )

pub returns-clause-len : goal.returns-clause-len
returns-clause-len g c =
    let n = length c.args.erased.now in
    let all = length c.args.items.now in
    let parts = div-add-mod' all n in
    let end : c.loop-j.j ≡ all / n = omega arith in
    let whole : all ≡ all / n * n = omega (arith, c.requires.whole) in
    c.loop-j.invariant.0 ∙ ap (λ t. t * n) end ∙ sym whole

pub returns-in_err-codeword-clause-none : goal.returns-in_err-codeword-clause-none
returns-in_err-codeword-clause-none g c = λ e all.
    let F = g.F.PrimeNumbers in
    let laws = g.met.F.PrimeNumbers in
    let S = number_field F.numbering F.prime laws.field_law laws.generator_law laws.root_law g.met.F.FftField.roots_law in
    let d = c.args.decoder.now in
    let erased = c.args.erased.now in
    let n = length erased in
    let items = c.args.items.now in
    let j = c.loop-j.j in
    let same = same_error c.from_residual-in_err-codeword.result c.in_err-codeword.field-0.0 NoCodeword c.from_residual-in_err-codeword.ensures.1 e in
    let none = c.restore.ensures.refused.no_codeword (c.in_err-codeword.was ∙ ap Err same) in
    no_codeword_numbers S g.F.DomainCoeff.group g.F.DomainCoeff.meaning g.met.F.FftField.itself_law d erased c.requires.decoder (slice_range items (j * n) ((j + 1) * n)) none
    (subst (HasCodeword (shown_field S) erased d.code.k) (sym (part_under F.numbering.number items (j * n) ((j + 1) * n))) (all j c.loop-j-test.true))
