-- What was read has the spelling there, and what is read of its other spelling is spelled alike in both modes.
use Rattle.std.proofs.Common.{[], ◌++◌, Some, Ok, Err, refl, ap, sym, append-nil, ◌∙◌}
use Rattle.std.proofs.lemmas.Result.{err_from_is_err_and}
use Rattle.ark_bytes.proofs.ReadBack.{reads_back, reads_unless}
use Rattle.ark_bytes.proofs.laws.recompressed_and_back.Goals as goal

pub returns-clause-same : goal.returns-clause-same
returns-clause-same g c =
    let from = g.T.Spelled.format c.args.from in
    let to = g.T.Spelled.format c.args.to in
    let M = g.T.CanonicalDeserialize.takes_memory in
    let first = c.in_ok-value.ensures in
    let held = c.as_slice-turned.ensures.value ∙ c.in_ok-there.ensures.spelled ∙ sym (append-nil (to.spelling c.in_ok-value.value)) in
    let alike = g.met.T.CanonicalSerialize.both_modes c.args.to c.args.from _ _
    (reads_back to (g.T.Spelled.format_law c.args.to) M _ _ c.in_ok-value.value [] (Ok c.in_ok-again.again) c.in_ok-there.ensures.has (ap (λ l. Some l) held) c.in_ok-again.ensures) in
    let spells = c.in_ok-back.ensures.spelled ∙ alike.same in
    record {
      value = c.in_ok-value.value;
      has = first.has;
      spells = spells;
      other_spells = c.in_ok-there.ensures.spelled;
      rest = c.deserialize_with_mode.new.reader.now;
      begins = first.takes.consumes ∙ ap (λ l. l ++ c.deserialize_with_mode.new.reader.now) (sym spells);
    }

pub returns-in_err-value-clause-memory : goal.returns-in_err-value-clause-memory
returns-in_err-value-clause-memory g c value rest has begins =
    let p = err_from_is_err_and c.from_residual.result c.from_residual.ensures.1 in
    let unless = reads_unless (g.T.Spelled.format c.args.from) (g.T.Spelled.format_law c.args.from) g.T.CanonicalDeserialize.takes_memory _ _ value rest (Err c.in_err-value.field-0.0) has
    (ap (λ l. Some l) begins) refl c.in_err-value.ensures in
    rw (p.1, p.2) unless

pub returns-in_err-again-clause-memory : goal.returns-in_err-again-clause-memory
returns-in_err-again-clause-memory g c value rest has begins =
    let to = g.T.Spelled.format c.args.to in
    let p = err_from_is_err_and c.from_residual-in_err-again.result c.from_residual-in_err-again.ensures.1 in
    let held = c.as_slice-turned.ensures.value ∙ c.in_ok-there.ensures.spelled ∙ sym (append-nil (to.spelling c.in_ok-value.value)) in
    let unless = reads_unless to (g.T.Spelled.format_law c.args.to) g.T.CanonicalDeserialize.takes_memory _ _ c.in_ok-value.value [] (Err c.in_err-again.field-0.0) c.in_ok-there.ensures.has
    (ap (λ l. Some l) held) refl c.in_err-again.ensures in
    rw (p.1, p.2) unless
