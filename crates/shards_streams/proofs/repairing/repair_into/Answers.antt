use Rattle.std.proofs.Common.{◌≡◌, ◌⊎◌, ℕ, ◌<◌, List, ◌++◌, arith, rules, length, get_or, sym, subst, ap, ◌∙◌, Err}
use Rattle.std.specs.Io.KnownBytes.{Appends}
use Rattle.shards_format.specs.Trailers.{trailer_bytes}
use Rattle.shards_format.specs.Files.{AreDigests}
use Rattle.shards_streams.specs.declared.writer.PieceWriter.{PieceWriter}
use Rattle.shards_streams.specs.Writers.{piece_sink}
use Rattle.shards_streams.specs.Streams.{TookPiece}
use Rattle.shards_streams.specs.Repairing.{HaveFilePieces, TellsNoDamage, TookCollision, TookListed}
use Rattle.shards_streams.proofs.Results.{if_err, ok_map}
use Rattle.shards_streams.proofs.PartsRead.{some_item}
use Rattle.shards_streams.proofs.Listed.{gave_own}
use Rattle.shards_streams.proofs.Repaired.{made_listed, made_unlisted, piece_listed, piece_or_collision, read_listed}
use Rattle.shards_streams.proofs.repairing.repair_into.Goals as goal

pub returns-in_err-check_digests-clause-whole : goal.returns-in_err-check_digests-clause-whole
returns-in_err-check_digests-clause-whole g c =
    let code = g.C.StripeCode in
    let k = code.k_of c.args.code.now in
    let n = code.n_of c.args.code.now in
    let places = c.args.lost.now.chosen.places.now in
    let label = c.args.lost.now.label.now in
    let lost = c.args.lost.now.places.now in
    let digests = c.args.lost.now.chosen.trailer.now.digests.items in
    let len = c.args.lost.now.chosen.trailer.now.len in
    let old = c.args.readers.now in
    let now = c.remake_bodies.new.readers in
    let e = c.in_err-check_digests.field-0.0 in
    let is : c.from_residual-in_err-check_digests.result ≡ Err e = search rules in
    let failed = c.in_err-check_digests.ensures.errors in
    let a = failed.0 in
    let l : a < k = subst (λ m. a < m) (c.in_ok-remake_bodies.ensures.kept ∙ c.requires.readers) failed.1 in
    let d = some_item now (omega (arith, failed.1)) in
    let whole : HaveFilePieces g.R.Source code.number k n places label digests len old → TellsNoDamage e = λ file.
    let listed = read_listed g.R.Source g.W.Sink code.number k n places label digests lost len old now c.in_ok-remake_bodies.ensures.some c.requires.readers c.args.writers.now c.put_heads.new.writers c.remake_bodies.new.writers
    c.in_ok-remake_bodies.ensures.remade file a d l (c.requires.below a (subst (λ m. a < m) (sym c.requires.places) l)) in
    absurd (c.check_digests.ensures.differs a d listed.0 (c.in_err-check_digests.was ∙ ap Err failed.2) listed.1 listed.2) in
    if_err c.from_residual-in_err-check_digests.result e _ is whole

pub returns-in_err-check_made-clause-whole : goal.returns-in_err-check_made-clause-whole
returns-in_err-check_made-clause-whole g c =
    let code = g.C.StripeCode in
    let k = code.k_of c.args.code.now in
    let n = code.n_of c.args.code.now in
    let places = c.args.lost.now.chosen.places.now in
    let label = c.args.lost.now.label.now in
    let lost = c.args.lost.now.places.now in
    let digests = c.args.lost.now.chosen.trailer.now.digests.items in
    let len = c.args.lost.now.chosen.trailer.now.len in
    let old = c.args.readers.now in
    let mid = c.remake_bodies.new.writers in
    let e = c.in_err-check_made.field-0.0 in
    let is : c.from_residual-in_err-check_made.result ≡ Err e = search rules in
    let failed = c.in_err-check_made.ensures.differs in
    let b = failed.0 in
    let all : length mid ≡ length c.args.writers.now = c.in_ok-remake_bodies.ensures.len ∙ c.put_heads.ensures.len in
    let within : b < length c.args.writers.now = subst (λ m. b < m) all failed.1 in
    let l : b < length lost = subst (λ m. b < m) c.requires.writers within in
    let d = some_item mid (omega (arith, failed.1)) in
    let whole : HaveFilePieces g.R.Source code.number k n places label digests len old → TellsNoDamage e = λ file.
    let listed = made_listed g.R.Source g.W.Sink code.number k n places label digests lost len old c.remake_bodies.new.readers c.in_ok-remake_bodies.ensures.some c.requires.readers c.args.writers.now c.put_heads.new.writers mid
    c.in_ok-remake_bodies.ensures.remade file b d l (c.requires.lost b l) (c.in_ok-put_heads.ensures.took b d l) (c.requires.new b d within) in
    absurd (failed.2 d listed.0 listed.1 listed.2) in
    if_err c.from_residual-in_err-check_made.result e _ is whole

pub returns-clause-repaired : goal.returns-clause-repaired
returns-clause-repaired g c =
    let code = g.C.StripeCode in
    let k = code.k_of c.args.code.now in
    let n = code.n_of c.args.code.now in
    let label = c.args.lost.now.label.now in
    let lost = c.args.lost.now.places.now in
    let digests = c.args.lost.now.chosen.trailer.now.digests.items in
    let len = c.args.lost.now.chosen.trailer.now.len in
    let old = c.args.writers.now in
    let mid = c.remake_bodies.new.writers in
    let done = c.check_made.new.writers in
    let new = c.put_trailers.new.writers in
    let held : PieceWriter g.row.W.Denot → _ = λ w. g.W.Sink.contents (piece_sink w) in
    let to_old : length old ≡ length lost = c.requires.writers in
    let to_mid : length mid ≡ length lost = c.in_ok-remake_bodies.ensures.len ∙ c.put_heads.ensures.len ∙ to_old in
    let to_done : length done ≡ length lost = c.check_made.ensures.len ∙ to_mid in
    let Before : Type 0 = (b : ℕ) (d : PieceWriter g.row.W.Denot) → b < length done → Appends (held (get_or done b d)) (held (get_or new b d)) (trailer_bytes digests len) in
    let After : Type 0 = (b : ℕ) (d : PieceWriter g.row.W.Denot) → b < length lost → TookListed k n label digests len (get_or lost b 0) (held (get_or old b d)) (held (get_or new b d)) in
    let each : Before → After = λ last b d l.
    let at_mid : b < length mid = subst (λ m. b < m) (sym to_mid) l in
    piece_listed g.W.Sink k n label digests len (get_or lost b 0) b d old c.put_heads.new.writers mid (c.in_ok-put_heads.ensures.took b d l) (c.in_ok-remake_bodies.ensures.remade.made b l)
    (c.requires.new b d (subst (λ m. b < m) (sym to_old) l)) (λ text hashed. c.in_ok-check_made.ensures.listed b d text at_mid hashed) done new (c.in_ok-check_made.ensures.kept b d at_mid)
    (last b d (subst (λ m. b < m) (sym to_done) l)) in
    ok_map c.put_trailers.result Before After each c.put_trailers.ensures.took

pub returns-clause-pieces : goal.returns-clause-pieces
returns-clause-pieces g c =
    let code = g.C.StripeCode in
    let k = code.k_of c.args.code.now in
    let n = code.n_of c.args.code.now in
    let label = c.args.lost.now.label.now in
    let lost = c.args.lost.now.places.now in
    let digests = c.args.lost.now.chosen.trailer.now.digests.items in
    let len = c.args.lost.now.chosen.trailer.now.len in
    let old = c.args.writers.now in
    let new = c.put_trailers.new.writers in
    let held : PieceWriter g.row.W.Denot → _ = λ w. g.W.Sink.contents (piece_sink w) in
    let Listed : Type 0 = (b : ℕ) (d : PieceWriter g.row.W.Denot) → b < length lost → TookListed k n label digests len (get_or lost b 0) (held (get_or old b d)) (held (get_or new b d)) in
    let Pieces : Type 0 = (other bytes : List ℕ) → AreDigests code.number k n other bytes digests → length bytes ≡ len → (b : ℕ) (d : PieceWriter g.row.W.Denot) → b < length lost
    → TookPiece code.number k n other bytes digests (get_or lost b 0) (held (get_or old b d)) (held (get_or new b d))
    ⊎ TookCollision code.number k n label other bytes digests (get_or lost b 0) (held (get_or old b d)) (held (get_or new b d)) in
    let pieces : Listed → Pieces = λ listed other bytes D size b d l.
    piece_or_collision code.number k n label other bytes digests len (get_or lost b 0) (held (get_or old b d)) (held (get_or new b d)) (listed b d l) D size (c.requires.lost b l) in
    ok_map c.put_trailers.result Listed Pieces pieces (returns-clause-repaired g c)

pub returns-in_err-remake_bodies-clause-read : goal.returns-in_err-remake_bodies-clause-read
returns-in_err-remake_bodies-clause-read g c = λ a d l same file. c.remake_bodies.ensures.read file.bytes a d l (search rules) file.small file.len_is file.bodies

pub returns-in_err-check_digests-clause-damaged : goal.returns-in_err-check_digests-clause-damaged
returns-in_err-check_digests-clause-damaged g c = λ a d head body rest l held is size listed same.
    let k = g.C.StripeCode.k_of c.args.code.now in
    let place = get_or c.args.lost.now.chosen.places.now a 0 in
    c.check_digests.ensures.differs a d (head ++ body) (search rules)
    (gave_own g.R.Source k place c.args.lost.now.chosen.trailer.now.len a c.args.readers.now c.remake_bodies.new.readers d (c.in_ok-remake_bodies.ensures.remade.given a l) body rest is size head held) listed

pub returns-in_err-check_made-clause-listed : goal.returns-in_err-check_made-clause-listed
returns-in_err-check_made-clause-listed g c = λ a d head body rest l held is size same.
    let k = g.C.StripeCode.k_of c.args.code.now in
    let place = get_or c.args.lost.now.chosen.places.now a 0 in
    let within : a < length c.remake_bodies.new.readers = subst (λ m. a < m) (sym (c.in_ok-remake_bodies.ensures.kept ∙ c.requires.readers)) l in
    c.in_ok-check_digests.ensures.listed a d (head ++ body) within
    (gave_own g.R.Source k place c.args.lost.now.chosen.trailer.now.len a c.args.readers.now c.remake_bodies.new.readers d (c.in_ok-remake_bodies.ensures.remade.given a l) body rest is size head held)

pub returns-in_err-check_made-clause-forged : goal.returns-in_err-check_made-clause-forged
returns-in_err-check_made-clause-forged g c = λ bytes small size have same.
    let code = g.C.StripeCode in
    let k = code.k_of c.args.code.now in
    let n = code.n_of c.args.code.now in
    let places = c.args.lost.now.chosen.places.now in
    let label = c.args.lost.now.label.now in
    let lost = c.args.lost.now.places.now in
    let digests = c.args.lost.now.chosen.trailer.now.digests.items in
    let len = c.args.lost.now.chosen.trailer.now.len in
    let mid = c.remake_bodies.new.writers in
    let failed = c.in_err-check_made.ensures.differs in
    let b = failed.0 in
    let all : length mid ≡ length c.args.writers.now = c.in_ok-remake_bodies.ensures.len ∙ c.put_heads.ensures.len in
    let within : b < length c.args.writers.now = subst (λ m. b < m) all failed.1 in
    let l : b < length lost = subst (λ m. b < m) c.requires.writers within in
    let d = some_item mid (omega (arith, failed.1)) in (
      b,
      l,
      made_unlisted g.R.Source g.W.Sink code.number k n places label digests lost len c.args.readers.now c.remake_bodies.new.readers c.in_ok-remake_bodies.ensures.some c.requires.readers
          c.args.writers.now c.put_heads.new.writers mid c.in_ok-remake_bodies.ensures.remade bytes small size have b d l (c.in_ok-put_heads.ensures.took b d l) (c.requires.new b d within) (failed.2 d),
    )
