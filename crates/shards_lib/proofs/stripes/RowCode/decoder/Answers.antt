use Rattle.std.proofs.Common.{List, Bool, length, arith, sym, ◌∙◌, ap, subst}
use Rattle.rs_code.specs.Codeword.{mark_count}
use Rattle.shards_lib.specs.Places.{AreKept}
use Rattle.shards_lib.proofs.OnlyMemory.{only_memory}
use Rattle.shards_lib.proofs.stripes.RowCode.decoder.Goals as goal

pub refused-requires : goal.refused-requires
refused-requires g c =
    let marks = c.deref.ensures.value in
    let len = ap length marks ∙ c.in_ok-erased.ensures.len ∙ c.n.ensures in
    let kept = ap mark_count marks in
    let few = c.in_ok-erased.ensures.count in
    let size = c.n.ensures in
    let places = c.requires.places in
    only_memory c.in-Err.error
    (λ e. c.decoder.ensures.wrong_length.0 (c.in-Err.is ∙ e) len)
    (λ e. let many = (c.decoder.ensures.too_many_erased.0 (c.in-Err.is ∙ e)).1 in omega (arith, many, kept, few, size, places))
    (λ e. c.decoder.ensures.no_codeword (c.in-Err.is ∙ e))

pub returns-in-Ok-clause-kept : goal.returns-in-Ok-clause-kept
returns-in-Ok-clause-kept g c =
    let size = c.args.self.now.code.domain.size in
    subst (λ (marks : List Bool). AreKept size marks c.args.places.now) (sym (c.in-Ok.ensures.erased ∙ c.deref.ensures.value))
    (record { apart = c.requires.apart; unmarked = c.in_ok-erased.ensures.unmarked; count = c.in_ok-erased.ensures.count ∙ c.n.ensures })
