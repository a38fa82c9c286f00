use Rattle.std.proofs.Common.{◌≡◌, ℕ, List, [], ◌<◌, length, drop, arith, get_or, sym, ◌∙◌, subst, subst₂}
use Rattle.std.proofs.lemmas.List.{take_at}
use Rattle.shards_format.specs.Files.{AreDigests, IsPiece}
use Rattle.shards_streams.specs.declared.writer.PieceWriter.{PieceWriter}
use Rattle.shards_streams.specs.declared.laws.ListSink.{ListSink}
use Rattle.shards_streams.specs.Writers.{piece_sink}
use Rattle.shards_streams.proofs.Rejoined.{all_taken, took_all}
use Rattle.shards_streams.proofs.laws.pieces_of.Goals as goal

pub returns-in-Ok-clause-pieces : goal.returns-in-Ok-clause-pieces
returns-in-Ok-clause-pieces g c =
    let code = g.C.StripeCode in
    let k = code.k_of c.args.code.now in
    let n = code.n_of c.args.code.now in
    let label = c.args.label.now in
    let digests = c.in-Ok.trailer.digests.items in
    let split = c.in-Ok.ensures.pieces in
    let same : split.bytes ≡ c.args.bytes.now = all_taken c.args.bytes.now split.bytes c.split_into.new.source.now split.takes.consumes split.end in
    let count : length c.in_ok-writers.writers.items ≡ n = c.in_ok-writers.ensures.len ∙ c.n.ensures.n in
    λ i w h.
    let took = split.each i w h in
    let none : (piece_sink (get_or c.as_mut_slice.result.now i w)).bytes.items ≡ [] =
    subst (λ ws. (piece_sink (get_or ws i w)).bytes.items ≡ []) (sym c.as_mut_slice.ensures.value)
    (c.in_ok-writers.ensures.empty i w (subst (λ m. i < m) (sym count) h)) in
    let new = c.split_into.new.writers in
    let long : length new ≡ c.in_ok-writers.writers.len = omega (arith, c.split_into.auto.writers, c.as_mut_slice.ensures.len) in
    let whole = take_at new (drop (length new) c.in_ok-writers.writers.items) c.in_ok-writers.writers.len long in
    let now : (piece_sink (get_or new i w)).bytes.items ≡ took.piece =
    took_all code.number k n label split.bytes digests i _ _ none took in
    let is : IsPiece code.number k n label c.args.bytes.now digests i (piece_sink (get_or new i w)).bytes.items =
    subst₂ (λ (x y : List ℕ). IsPiece code.number k n label x digests i y) same (sym now) took.is in
    subst (λ (ws : List (PieceWriter ListSink)). IsPiece code.number k n label c.args.bytes.now digests i (piece_sink (get_or ws i w)).bytes.items)
    (sym whole) is

pub returns-in-Ok-clause-digests : goal.returns-in-Ok-clause-digests
returns-in-Ok-clause-digests g c =
    let code = g.C.StripeCode in
    let split = c.in-Ok.ensures.pieces in
    subst (λ (x : List ℕ). AreDigests code.number (code.k_of c.args.code.now) (code.n_of c.args.code.now) c.args.label.now x c.in-Ok.trailer.digests.items)
    (all_taken c.args.bytes.now split.bytes c.split_into.new.source.now split.takes.consumes split.end) split.digests_are
