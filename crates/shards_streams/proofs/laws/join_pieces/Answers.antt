use Rattle.std.proofs.Common.{◌≡◌, ℕ, ◌+◌, List, ◌<◌, rules, Some, length, get_or, sym, ap, ◌∙◌, subst, arith, refl, ◌++◌, Bor, Err, inl, inr}
use Rattle.shards_format.specs.Pieces.{body_size}
use Rattle.shards_streams.specs.declared.reader.PieceReader.{PieceReader}
use Rattle.shards_streams.specs.declared.writer.PieceWriter.{PieceWriter}
use Rattle.shards_streams.specs.declared.laws.ListSink.{ListSink}
use Rattle.shards_streams.specs.Writers.{piece_sink}
use Rattle.shards_streams.specs.Readers.{piece_source}
use Rattle.shards_streams.specs.Laws.{HasPassed}
use Rattle.shards_streams.proofs.PartsRead.{some_item}
use Rattle.shards_streams.proofs.Rejoined.{all_listed, bodies_left}
use Rattle.shards_streams.proofs.laws.join_pieces.Goals as goal

pub returns-in-Ok-clause-same : goal.returns-in-Ok-clause-same
returns-in-Ok-clause-same g c = λ bytes small size pieces.
    let code = g.C.StripeCode in
    let k = code.k_of c.args.code.now in
    let n = code.n_of c.args.code.now in
    let label = c.args.label.now in
    let writers = c.args.writers.now in
    let places = c.args.pieces.now.places.now in
    let each = subst (λ (rs : List (PieceReader (Bor (List ℕ)))). (a : ℕ) (w : PieceWriter ListSink) (d : PieceReader (Bor (List ℕ))) → a < length places
    → HasPassed (piece_sink (get_or writers (get_or places a 0) w)).bytes.items (24 + length label) (get_or rs a d) (piece_source (get_or rs a d)).now) (sym c.as_mut_slice.ensures.value) c.in_ok-readers.ensures.each in
    c.in-Ok.ensures.known bytes small size
    (bodies_left code.number k n label bytes c.args.pieces.now.trailer.now.digests.items places writers c.as_mut_slice.result.now (24 + length label) refl c.requires.count c.requires.enough c.requires.below pieces each)
    ∙ ap (λ (xs : List ℕ). xs ++ bytes) c.new-sink.ensures

pub returns-clause-memory : goal.returns-clause-memory
returns-clause-memory g c = λ bytes small size pieces.
    let code = g.C.StripeCode in
    let k = code.k_of c.args.code.now in
    let n = code.n_of c.args.code.now in
    let label = c.args.label.now in
    let digests = c.args.pieces.now.trailer.now.digests.items in
    let writers = c.args.writers.now in
    let places = c.args.pieces.now.places.now in
    let old = c.as_mut_slice.result.now in
    let each = subst (λ (rs : List (PieceReader (Bor (List ℕ)))). (a : ℕ) (w : PieceWriter ListSink) (d : PieceReader (Bor (List ℕ))) → a < length places
    → HasPassed (piece_sink (get_or writers (get_or places a 0) w)).bytes.items (24 + length label) (get_or rs a d) (piece_source (get_or rs a d)).now) (sym c.as_mut_slice.ensures.value) c.in_ok-readers.ensures.each in
    let have = bodies_left code.number k n label bytes digests places writers old (24 + length label) refl c.requires.count c.requires.enough c.requires.below pieces each in
    let count : length old ≡ k = search rules in
    elim c.in-Err.ensures.errors [
      | inl memory ↦ c.in_memory.ensures.memory memory
      | inr (inl write) ↦ c.in_memory.ensures.sink 0 write
      | inr (inr (inl read)) ↦
          let d = some_item old (omega (arith, read.1)) in
          absurd (omega (arith, c.join_into.ensures.read bytes read.0 d (subst (λ m. read.0 < m) count read.1) (c.in-Err.is ∙ ap Err read.2) small size have))
      | inr (inr (inr damaged)) ↦
          let d = some_item old (omega (arith, damaged.1)) in
          let l : damaged.0 < k = subst (λ m. damaged.0 < m) count damaged.1 in
          let own = all_listed code.number k n label bytes digests places writers old (24 + length label) refl c.requires.count c.requires.enough c.requires.below pieces each damaged.0 d l in
          absurd (c.join_into.ensures.whole damaged.0 d own.head own.body own.rest l own.read (ap Some own.is) (own.len ∙ ap (body_size k (get_or places damaged.0 0)) size) own.listed (c.in-Err.is ∙ ap Err damaged.2))
    ]
