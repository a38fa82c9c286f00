use Rattle.shards_format.proofs.header.Header.from_bytes.Goals as goal

pub returns-in-Err-clause-none : goal.returns-in-Err-clause-none
returns-in-Err-clause-none c = λ h is. c.in-Err.ensures.none h.k h.n h.number h.label_len is
