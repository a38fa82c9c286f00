use Rattle.std.proofs.Common.{◌≡◌, ◌+◌, ◌*◌, ◌/◌, ◌++◌, Err, length, map, slice_range, ap, sym, subst, ◌∙◌, arith}
use Rattle.std.proofs.lemmas.List.{length-append, length-map, map-append}
use Rattle.std.proofs.lemmas.Nat.{div-add-mod'}
use Rattle.ark_numbers.proofs.Values.{number_field, shown_field}
use Rattle.ark_words.specs.Codes.{HasCodeword, IsFound, word_at}
use Rattle.ark_words.proofs.Codewords.{part_under, more_words, found_numbers, no_codeword_numbers}
use Rattle.rs_code.specs.declared.error.RsError.TheVariants.{NoCodeword}
use Rattle.ark_words.proofs.Faults.{same_error}
use Rattle.ark_words.proofs.codes.message_each.Goals as goal

pub loop-j-preserved : goal.loop-j-preserved
loop-j-preserved g c =
    let F = g.F.PrimeNumbers in
    let laws = g.met.F.PrimeNumbers in
    let S = number_field F.numbering F.prime laws.field_law laws.generator_law laws.root_law g.met.F.FftField.roots_law in
    let number = F.numbering.number in
    let V = g.F.DomainCoeff.group in
    let meaning = g.F.DomainCoeff.meaning in
    let own = g.met.F.FftField.itself_law in
    let d = c.args.decoder.now in
    let erased = c.args.erased.now in
    let n = length erased in
    let items = c.args.items.now in
    let j = c.loop-j.j in
    let before = c.loop-j.found.items in
    let message = c.in_ok-message.message.items in
    let has = c.in_ok-message.ensures in
    let f = shown_field S in
    let found = found_numbers S V meaning own d erased c.requires.decoder (slice_range items (j * n) ((j + 1) * n)) message has.len has.agrees has.only in
    let here = subst (λ w. IsFound f erased d.code.k w (map number message)) (part_under number items (j * n) ((j + 1) * n)) found in
    let after : c.extend_from_slice.new.self.items ≡ before ++ message = c.in_ok-extend_from_slice.ensures.items ∙ ap (λ t. before ++ t) c.deref.ensures.value in
    let long : length before ≡ j * d.code.k = c.loop-j.invariant.0 in (
      ap length after ∙ length-append before message ∙ omega (arith, long, has.len),
      λ i l. subst (λ xs. IsFound f erased d.code.k (word_at n (map number items) i) (word_at d.code.k xs i)) (sym (ap (map number) after ∙ map-append number before message))
          (more_words (λ w r. IsFound f erased d.code.k w r) n d.code.k j (map number items) (map number before) (map number message)
          (length-map before number ∙ long) (length-map message number ∙ has.len) here c.loop-j.invariant.1 i l),
    )

pub returns-clause-len : goal.returns-clause-len
returns-clause-len g c =
    let end : c.loop-j.j ≡ length c.args.items.now / length c.args.erased.now = omega arith in
    c.loop-j.invariant.0 ∙ ap (λ t. t * c.args.decoder.now.code.k) end

pub returns-in_err-message-clause-none : goal.returns-in_err-message-clause-none
returns-in_err-message-clause-none g c = λ e all.
    let F = g.F.PrimeNumbers in
    let laws = g.met.F.PrimeNumbers in
    let S = number_field F.numbering F.prime laws.field_law laws.generator_law laws.root_law g.met.F.FftField.roots_law in
    let d = c.args.decoder.now in
    let erased = c.args.erased.now in
    let n = length erased in
    let items = c.args.items.now in
    let j = c.loop-j.j in
    let same = same_error c.from_residual.result c.in_err-message.field-0.0 NoCodeword c.from_residual.ensures.1 e in
    let none = c.message.ensures.refused.no_codeword (c.in_err-message.was ∙ ap Err same) in
    no_codeword_numbers S g.F.DomainCoeff.group g.F.DomainCoeff.meaning g.met.F.FftField.itself_law d erased c.requires.decoder (slice_range items (j * n) ((j + 1) * n)) none
    (subst (HasCodeword (shown_field S) erased d.code.k) (sym (part_under F.numbering.number items (j * n) ((j + 1) * n))) (all j c.loop-j-test.true))
