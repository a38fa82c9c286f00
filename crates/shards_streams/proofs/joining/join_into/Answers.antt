use Rattle.std.proofs.Common.{◌≡◌, ℕ, ◌<◌, ◌⊎◌, List, ◌++◌, length, get_or, ◌∙◌}
use Rattle.std.specs.Io.KnownBytes.{Appends}
use Rattle.sha2.specs.Sha256.{sha256}
use Rattle.ark_bytes.specs.Transfer.{AppendsBeginning}
use Rattle.ark_bytes.proofs.Transfer.{AppendsBeginning-all}
use Rattle.shards_format.specs.Pieces.{chunk}
use Rattle.shards_format.specs.Files.{AreDigests}
use Rattle.shards_streams.specs.declared.reader.PieceReader.{PieceReader}
use Rattle.shards_streams.specs.Readers.{HasRead}
use Rattle.shards_streams.specs.Joining.{GaveCollision, HasJoined, HaveBodies, HaveHeads}
use Rattle.shards_streams.proofs.Results.{err_any, ok_any, ok_map}
use Rattle.shards_streams.proofs.Listed.{all_compared, file_or_collision, gave_own, restored_file}
use Rattle.shards_streams.proofs.joining.join_into.Goals as goal

pub returns-clause-joined : goal.returns-clause-joined
returns-clause-joined g c =
    let code = g.C.StripeCode in
    let k = code.k_of c.args.code.now in
    let n = code.n_of c.args.code.now in
    let places = c.args.chosen.now.places.now in
    let digests = c.args.chosen.now.trailer.now.digests.items in
    let len = c.args.chosen.now.trailer.now.len in
    let s = g.W.Sink.contents c.args.sink.now in
    let t = g.W.Sink.contents c.join_bodies.new.sink in
    let Listed : Type 0 = (a : ℕ) (d : PieceReader g.row.R.Denot) (text : List ℕ) → a < length c.join_bodies.new.readers → HasRead (get_or c.join_bodies.new.readers a d) text → chunk 32 (get_or places a 0) digests ≡ sha256 text in
    let kept : length c.join_bodies.new.readers ≡ k = c.in_ok-join_bodies.ensures.kept ∙ c.requires.readers in
    let Joined : Type 0 = HasJoined g.R.Source code.number k n places digests len c.args.readers.now s t in
    let joined : Listed → Joined = λ listed. all_compared g.R.Source code.number k n places digests len c.args.readers.now c.join_bodies.new.readers (g.W.Sink.contents c.args.sink.now) (g.W.Sink.contents c.join_bodies.new.sink) c.in_ok-join_bodies.ensures.restored c.requires.readers listed kept in
    ok_map c.check_digests.result Listed Joined joined c.check_digests.ensures.listed

pub returns-clause-file : goal.returns-clause-file
returns-clause-file g c =
    let code = g.C.StripeCode in
    let k = code.k_of c.args.code.now in
    let n = code.n_of c.args.code.now in
    let places = c.args.chosen.now.places.now in
    let digests = c.args.chosen.now.trailer.now.digests.items in
    let len = c.args.chosen.now.trailer.now.len in
    let s = g.W.Sink.contents c.args.sink.now in
    let t = g.W.Sink.contents c.join_bodies.new.sink in
    let Listed : Type 0 = (a : ℕ) (d : PieceReader g.row.R.Denot) (text : List ℕ) → a < length c.join_bodies.new.readers → HasRead (get_or c.join_bodies.new.readers a d) text → chunk 32 (get_or places a 0) digests ≡ sha256 text in
    let kept : length c.join_bodies.new.readers ≡ k = c.in_ok-join_bodies.ensures.kept ∙ c.requires.readers in
    let File : Type 0 = (label bytes : List ℕ) → ((i : ℕ) → get_or bytes i 0 < 256) → AreDigests code.number k n label bytes digests → length label < 65536 → length bytes ≡ len
    → (heads : HaveHeads k n places c.args.readers.now) → Appends s t bytes ⊎ GaveCollision g.R.Source code.number k n label bytes places c.args.readers.now c.check_digests.new.readers heads in
    let file : Listed → File = λ listed. file_or_collision g.R.Source code.number k n places digests len c.args.readers.now c.join_bodies.new.readers (g.W.Sink.contents c.args.sink.now) (g.W.Sink.contents c.join_bodies.new.sink)
    c.in_ok-join_bodies.ensures.restored c.in_ok-join_bodies.ensures.some c.requires.readers c.requires.below c.requires.places listed kept c.check_digests.new.readers c.check_digests.ensures.kept in
    ok_map c.check_digests.result Listed File file c.check_digests.ensures.listed

pub returns-clause-beginning : goal.returns-clause-beginning
returns-clause-beginning g c =
    let code = g.C.StripeCode in
    let k = code.k_of c.args.code.now in
    let n = code.n_of c.args.code.now in
    let places = c.args.chosen.now.places.now in
    let digests = c.args.chosen.now.trailer.now.digests.items in
    let len = c.args.chosen.now.trailer.now.len in
    let s = g.W.Sink.contents c.args.sink.now in
    let t = g.W.Sink.contents c.join_bodies.new.sink in
    let Listed : Type 0 = (a : ℕ) (d : PieceReader g.row.R.Denot) (text : List ℕ) → a < length c.join_bodies.new.readers → HasRead (get_or c.join_bodies.new.readers a d) text → chunk 32 (get_or places a 0) digests ≡ sha256 text in
    let kept : length c.join_bodies.new.readers ≡ k = c.in_ok-join_bodies.ensures.kept ∙ c.requires.readers in
    let Begun : Type 0 = (bytes : List ℕ) → ((i : ℕ) → get_or bytes i 0 < 256) → length bytes ≡ len → HaveBodies g.R.Source code.number k n bytes places c.args.readers.now → AppendsBeginning s t bytes in
    let begun : Begun = λ bytes small size have. AppendsBeginning-all s t bytes (restored_file g.R.Source code.number k n places digests len c.args.readers.now c.join_bodies.new.readers s t c.in_ok-join_bodies.ensures.restored c.in_ok-join_bodies.ensures.some c.requires.readers bytes small size have) in
    err_any c.check_digests.result Begun begun

pub returns-clause-whole : goal.returns-clause-whole
returns-clause-whole g c = λ a d head body rest l held is size listed same.
    let k = g.C.StripeCode.k_of c.args.code.now in
    let place = get_or c.args.chosen.now.places.now a 0 in
    c.check_digests.ensures.differs a d (head ++ body) same
    (gave_own g.R.Source k place c.args.chosen.now.trailer.now.len a c.args.readers.now c.join_bodies.new.readers d (c.in_ok-join_bodies.ensures.restored.each a l) body rest is size head held) listed

pub returns-clause-known : goal.returns-clause-known
returns-clause-known g c =
    let code = g.C.StripeCode in
    let k = code.k_of c.args.code.now in
    let n = code.n_of c.args.code.now in
    let places = c.args.chosen.now.places.now in
    let digests = c.args.chosen.now.trailer.now.digests.items in
    let len = c.args.chosen.now.trailer.now.len in
    let s = g.W.Sink.contents c.args.sink.now in
    let t = g.W.Sink.contents c.join_bodies.new.sink in
    let Known : Type 0 = (bytes : List ℕ) → ((i : ℕ) → get_or bytes i 0 < 256) → length bytes ≡ len → HaveBodies g.R.Source code.number k n bytes places c.args.readers.now → Appends s t bytes in
    let known : Known = λ bytes small size have. restored_file g.R.Source code.number k n places digests len c.args.readers.now c.join_bodies.new.readers s t c.in_ok-join_bodies.ensures.restored c.in_ok-join_bodies.ensures.some c.requires.readers bytes small size have in
    ok_any c.check_digests.result Known known
