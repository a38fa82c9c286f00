-- The source has just the spelling.
use Rattle.std.proofs.Common.{[], Some, refl, ap, sym, append-nil, ◌∙◌}
use Rattle.ark_bytes.proofs.ReadBack.{reads_back, reads_unless, shows_back}
use Rattle.ark_bytes.proofs.laws.written_then_read.Goals as goal

pub returns-clause-alike : goal.returns-clause-alike
returns-clause-alike g c =
    let format = g.T.Spelled.format c.args.mode in
    let held = c.as_slice-source.ensures.value ∙ c.in_ok-bytes.ensures.spelled ∙ sym (append-nil (format.spelling c.args.value.now)) in
    reads_back format (g.T.Spelled.format_law c.args.mode) g.T.CanonicalDeserialize.takes_memory _ _ c.args.value.now [] _ c.in_ok-bytes.ensures.has
    (ap (λ l. Some l) held) c.deserialize_with_mode.ensures

pub returns-clause-same : goal.returns-clause-same
returns-clause-same g c =
    shows_back (g.T.Spelled.format c.args.mode) g.T.Spelled.shown (g.T.Spelled.tells c.args.mode) c.args.value.now _ (returns-clause-alike g c)

pub returns-clause-memory : goal.returns-clause-memory
returns-clause-memory g c =
    let format = g.T.Spelled.format c.args.mode in
    let held = c.as_slice-source.ensures.value ∙ c.in_ok-bytes.ensures.spelled ∙ sym (append-nil (format.spelling c.args.value.now)) in
    reads_unless format (g.T.Spelled.format_law c.args.mode) g.T.CanonicalDeserialize.takes_memory _ _ c.args.value.now [] _ c.in_ok-bytes.ensures.has
    (ap (λ l. Some l) held) refl c.deserialize_with_mode.ensures
