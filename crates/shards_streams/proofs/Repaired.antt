-- Pieces made anew, and their digests.
use Rattle.std.proofs.Common.{◌≡◌, ◌≢◌, ◌⊎◌, ℕ, ◌<◌, List, [], ◌++◌, length, get_or, ap, ap₂, sym, ◌∙◌, subst, refl, inl, inr, Option}
use Rattle.std.specs.Io.KnownBytes.{Appends}
use Rattle.std.proofs.KnownBytes.{Appends-trans}
use Rattle.sha2.specs.Sha256.{sha256}
use Rattle.ark_bytes.specs.declared.source.Source.{Ghosts}
use Rattle.ark_bytes.specs.declared.sink.Sink.{Ghosts as SinkGhosts}
use Rattle.shards_format.specs.Stripes.{Numbering}
use Rattle.shards_format.specs.Headers.{head_bytes}
use Rattle.shards_format.specs.Trailers.{trailer_bytes}
use Rattle.shards_format.specs.Pieces.{IsBody, body_size, chunk}
use Rattle.shards_format.specs.Files.{AreDigests, IsListed}
use Rattle.shards_format.proofs.OneBody.{same_body}
use Rattle.shards_format.proofs.TrailerLists.{same_text}
use Rattle.shards_streams.specs.declared.reader.PieceReader.{PieceReader}
use Rattle.shards_streams.specs.declared.writer.PieceWriter.{PieceWriter}
use Rattle.shards_streams.specs.Readers.{HasRead}
use Rattle.shards_streams.specs.Writers.{piece_sink, HasHashed, Took}
use Rattle.shards_streams.specs.Streams.{TookPiece}
use Rattle.shards_streams.specs.Joining.{HaveBodies}
use Rattle.shards_streams.specs.Repairing.{HasRemade, HaveFilePieces, TookCollision, TookListed, TookSized}
use Rattle.shards_streams.proofs.Listed.{gave_file}
use Rattle.shards_streams.proofs.PartsRead.{some_item}
use Rattle.shards_streams.proofs.Writers.{took_both}

-- a piece with its digest of a file's is the file's piece, or collides with it
pub piece_or_collision : (number : Numbering) (k n : ℕ) (label other bytes digests : List ℕ) (len place : ℕ) (s t : Option (List ℕ)) → TookListed k n label digests len place s t
    → AreDigests number k n other bytes digests → length bytes ≡ len → place < n → TookPiece number k n other bytes digests place s t ⊎ TookCollision number k n label other bytes digests place s t
piece_or_collision number k n label other bytes digests len place s t took D size below =
    let own = D.each place below in
    elim (same_text (head_bytes k n place label ++ took.body) (head_bytes k n place other ++ own.body) (sym took.listed ∙ own.digest_is)) [
      | inl same ↦ inl (record {
        piece = (head_bytes k n place other ++ own.body) ++ trailer_bytes digests (length bytes);
        is = record { listed = own; is = refl };
        appends = subst (Appends s t) (ap₂ (λ (x : List ℕ) m. x ++ trailer_bytes digests m) same (sym size)) took.appends;
      })
      | inr collide ↦ inr (record {
        took = record {
          body = took.body;
          len_is = took.len_is ∙ ap (body_size k place) (sym size);
          listed = took.listed;
          appends = subst (λ m. Appends s t ((head_bytes k n place label ++ took.body) ++ trailer_bytes digests m)) (sym size) took.appends;
        };
        collides = record { body = own.body; body_is = own.body_is; collide = collide };
      })
    ]

-- the body of a file's piece has the digest that is listed
body_listed : (number : Numbering) (k n : ℕ) (label bytes digests : List ℕ) (place : ℕ) (body : List ℕ) → 0 < k → place < n → AreDigests number k n label bytes digests
    → IsBody number k n bytes place body → chunk 32 place digests ≡ sha256 (head_bytes k n place label ++ body)
body_listed number k n label bytes digests place body some below D is =
    let own = D.each place below in
    own.digest_is ∙ ap (λ (xs : List ℕ). sha256 (head_bytes k n place label ++ xs)) (same_body number k n bytes place own.body body some own.body_is is)

module _ {W : Type 0} (sink : SinkGhosts W) (k n : ℕ) (label digests : List ℕ) (len place b : ℕ) (d : PieceWriter W) (old headed mid : List (PieceWriter W))
    (head : Took sink (get_or old b d) (get_or headed b d) (head_bytes k n place label)) (made : TookSized sink k place len b headed mid) (fresh : HasHashed (get_or old b d) []) where
  both : Took sink (get_or old b d) (get_or mid b d) (head_bytes k n place label ++ made.body)
  both = took_both sink (get_or old b d) (get_or headed b d) (get_or mid b d) (head_bytes k n place label) made.body head (made.took d)

  made_hashed : HasHashed (get_or mid b d) (head_bytes k n place label ++ made.body)
  made_hashed = both.hashed [] fresh

  -- a writer took the whole piece
  pub piece_listed : ((text : List ℕ) → HasHashed (get_or mid b d) text → chunk 32 place digests ≡ sha256 text) → (done new : List (PieceWriter W)) → piece_sink (get_or done b d) ≡ piece_sink (get_or mid b d)
      → Appends (sink.contents (piece_sink (get_or done b d))) (sink.contents (piece_sink (get_or new b d))) (trailer_bytes digests len)
      → TookListed k n label digests len place (sink.contents (piece_sink (get_or old b d))) (sink.contents (piece_sink (get_or new b d)))
  piece_listed listed done new kept last = record {
    body = made.body;
    len_is = made.len_is;
    listed = listed (head_bytes k n place label ++ made.body) made_hashed;
    appends = Appends-trans (sink.contents (piece_sink (get_or old b d))) (sink.contents (piece_sink (get_or done b d))) (sink.contents (piece_sink (get_or new b d)))
        (head_bytes k n place label ++ made.body) (trailer_bytes digests len)
        (subst (λ (w : W). Appends (sink.contents (piece_sink (get_or old b d))) (sink.contents w) (head_bytes k n place label ++ made.body)) (sym kept) both.appends) last;
  }

-- ---- the pieces of a file

module _ {R W : Type 0} (source : Ghosts R) (sink : SinkGhosts W) (number : Numbering) (k n : ℕ) (places label digests lost : List ℕ) (len : ℕ) (old now : List (PieceReader R)) (some : 0 < k) (count : length old ≡ k)
    (before headed mid : List (PieceWriter W)) (remade : HasRemade source sink number k n places lost len old now headed mid) (file : HaveFilePieces source number k n places label digests len old) where
  -- readers with the bodies of the file's pieces gave them
  gave_file_body : (a : ℕ) (l : a < k) → IsBody number k n file.bytes (get_or places a 0) (remade.given a l).body
  gave_file_body a l =
      let d = some_item old (subst (λ m. 0 < m) (sym count) some) in
      gave_file source number k n (get_or places a 0) len a old now d (remade.given a l) file.bytes file.len_is (file.bodies a d l)

  -- what was read of a piece has its digest
  pub read_listed : (a : ℕ) (d : PieceReader R) → a < k → get_or places a 0 < n → (text : List ℕ) × HasRead (get_or now a d) text × (chunk 32 (get_or places a 0) digests ≡ sha256 text)
  read_listed a d l below =
      let place = get_or places a 0 in
      let gave = remade.given a l in
      (head_bytes k n place label ++ gave.body, (gave.gave d).hashed (head_bytes k n place label) (file.heads a d l), body_listed number k n label file.bytes digests place gave.body some below file.digests_are (gave_file_body a l))

  -- and so has what was made
  pub made_listed : (b : ℕ) (d : PieceWriter W) → b < length lost → get_or lost b 0 < n → Took sink (get_or before b d) (get_or headed b d) (head_bytes k n (get_or lost b 0) label)
      → HasHashed (get_or before b d) [] → (text : List ℕ) × HasHashed (get_or mid b d) text × (chunk 32 (get_or lost b 0) digests ≡ sha256 text)
  made_listed b d l below head fresh =
      let place = get_or lost b 0 in
      let made = remade.made b l in (
        head_bytes k n place label ++ made.body,
        made_hashed sink k n label digests len place b d before headed mid head made fresh,
        body_listed number k n label file.bytes digests place made.body some below file.digests_are (remade.file file.bytes file.small file.len_is gave_file_body b l),
      )

-- ---- what was made with another digest

-- of a file whose bodies were read, the piece that was made is not the one that is listed
pub made_unlisted : {R W : Type 0} (source : Ghosts R) (sink : SinkGhosts W) (number : Numbering) (k n : ℕ) (places label digests lost : List ℕ) (len : ℕ) (old now : List (PieceReader R)) → 0 < k → length old ≡ k
    → (before headed mid : List (PieceWriter W)) → (remade : HasRemade source sink number k n places lost len old now headed mid) → (bytes : List ℕ) → ((i : ℕ) → get_or bytes i 0 < 256) → length bytes ≡ len
    → HaveBodies source number k n bytes places old → (b : ℕ) (d : PieceWriter W) → b < length lost → Took sink (get_or before b d) (get_or headed b d) (head_bytes k n (get_or lost b 0) label)
    → HasHashed (get_or before b d) [] → ((text : List ℕ) → HasHashed (get_or mid b d) text → chunk 32 (get_or lost b 0) digests ≢ sha256 text)
    → IsListed number k n label bytes digests (get_or lost b 0) → ⊥
made_unlisted source sink number k n places label digests lost len old now some count before headed mid remade bytes small size have b d l head fresh differs own =
    let place = get_or lost b 0 in
    let made = remade.made b l in
    let r = some_item old (subst (λ m. 0 < m) (sym count) some) in
    let is : IsBody number k n bytes place made.body =
    remade.file bytes small size (λ a m. gave_file source number k n (get_or places a 0) len a old now r (remade.given a m) bytes size (have a r m)) b l in
    differs (head_bytes k n place label ++ made.body) (made_hashed sink k n label digests len place b d before headed mid head made fresh)
    (own.digest_is ∙ ap (λ (xs : List ℕ). sha256 (head_bytes k n place label ++ xs)) (same_body number k n bytes place own.body made.body some own.body_is is))
