-- Whole pieces and beginnings of them, from what writers took.
use Rattle.std.proofs.Common.{◌≡◌, ℕ, ◌*◌, ◌<◌, List, [], ◌++◌, length, get_or, refl, sym, subst, ap, append-nil, Option, inl, inr}
use Rattle.std.specs.Io.KnownBytes.{Appends, Consumes}
use Rattle.std.proofs.KnownBytes.{Appends-trans, Consumes-nil}
use Rattle.sha2.specs.Sha256.{sha256}
use Rattle.ark_bytes.specs.declared.sink.Sink.{Ghosts}
use Rattle.ark_bytes.specs.Transfer.{AppendsBeginning}
use Rattle.ark_bytes.specs.Reading.{SourceState}
use Rattle.ark_bytes.proofs.Transfer.{AppendsBeginning-after, AppendsBeginning-all}
use Rattle.shards_format.specs.Stripes.{Numbering}
use Rattle.shards_format.specs.Headers.{head_bytes}
use Rattle.shards_format.specs.Trailers.{trailer_bytes}
use Rattle.shards_format.specs.Pieces.{IsBody, chunk}
use Rattle.shards_format.specs.Files.{AreDigests, IsListed}
use Rattle.shards_streams.specs.declared.writer.PieceWriter.{PieceWriter}
use Rattle.shards_streams.specs.Writers.{piece_sink, HasHashed, Took, TookSome}
use Rattle.shards_streams.specs.Streams.{TookBeginning}
use Rattle.shards_streams.specs.Splitting.{TookBodies, TookBodiesSome, HasSplit, HasBegun}
use Rattle.shards_streams.proofs.PartsRead.{some_item}
use Rattle.shards_streams.proofs.Writers.{took_both, some_after}
use Rattle.shards_streams.proofs.Bodies.{no_body}

module _ {W : Type 0} (sink : Ghosts W) (number : Numbering) (k n : ℕ) (label : List ℕ) (some : 0 < k) where
  abbrev pub held : PieceWriter W → Option (List ℕ)
  held w = sink.contents (piece_sink w)

  abbrev pub head_at : ℕ → List ℕ
  head_at i = head_bytes k n i label

  -- what was taken is a beginning of a piece that has no end yet
  begun : (i : ℕ) (read body : List ℕ) (a b : PieceWriter W) → IsBody number k n read i body → AppendsBeginning (held a) (held b) (head_at i ++ body)
      → TookBeginning number k n label read i (held a) (held b)
  begun i read body a b is begins = record {
    body = body;
    end = [];
    body_is = is;
    end_is = inl refl;
    begins = subst (AppendsBeginning (held a) (held b)) (sym (append-nil (head_at i ++ body))) begins;
  }

  module _ (old headed : List (PieceWriter W)) where
    pub heads_stopped : (s : Option (List ℕ)) → ((i : ℕ) (d : PieceWriter W) → i < n → TookSome sink (get_or old i d) (get_or headed i d) (head_at i)) → HasBegun sink number k n label s s old headed
    heads_stopped s took = record {
      read = [];
      more = [];
      consumes = Consumes-nil s;
      each = λ i d h. begun i [] [] (get_or old i d) (get_or headed i d) (no_body number k n i some)
          (subst (AppendsBeginning (held (get_or old i d)) (held (get_or headed i d))) (sym (append-nil (head_at i))) (took i d h));
    }

    module _ (first : (i : ℕ) (d : PieceWriter W) → i < n → Took sink (get_or old i d) (get_or headed i d) (head_at i)) where
      pub bodies_stopped : (s t : Option (List ℕ)) (new : List (PieceWriter W)) → TookBodiesSome sink number k n s t headed new → HasBegun sink number k n label s t old new
      bodies_stopped s t new took = record {
        read = took.read;
        more = took.more;
        consumes = took.consumes;
        each = λ i d h.
            let body = took.each i d h in
            begun i took.read body.body (get_or old i d) (get_or new i d) body.is (some_after sink (get_or old i d) (get_or headed i d) (get_or new i d) (head_at i) body.body (first i d h) body.took);
      }

      module _ (fresh : (i : ℕ) (d : PieceWriter W) → i < n → HasHashed (get_or old i d) []) (len : ℕ) (s t : SourceState) (mid : List (PieceWriter W)) (took : TookBodies sink number k n len s t headed mid) where
        -- the bodies are written, and nothing more
        pub bodies_taken : (new : List (PieceWriter W)) → ((i : ℕ) (d : PieceWriter W) → i < n → piece_sink (get_or new i d) ≡ piece_sink (get_or mid i d)) → HasBegun sink number k n label s.remaining t.remaining old new
        bodies_taken new kept = record {
          read = took.bytes;
          more = [];
          consumes = subst (λ (x : List ℕ). Consumes s.remaining t.remaining x) (sym (append-nil took.bytes)) took.takes.consumes;
          each = λ i d h.
              let body = took.each i d h in
              let both = took_both sink (get_or old i d) (get_or headed i d) (get_or mid i d) (head_at i) body.body (first i d h) body.took in
              begun i took.bytes body.body (get_or old i d) (get_or new i d) body.is
              (AppendsBeginning-all (held (get_or old i d)) (held (get_or new i d)) (head_at i ++ body.body) (subst (λ (w : W). Appends (held (get_or old i d)) (sink.contents w) (head_at i ++ body.body)) (sym (kept i d h)) both.appends));
        }

        module _ (digests : List ℕ) (count : length digests ≡ 32 * n) (digest_of : (i : ℕ) (d : PieceWriter W) (text : List ℕ) → i < n → HasHashed (get_or mid i d) text → chunk 32 i digests ≡ sha256 text) where
          listed_at : (i : ℕ) (d : PieceWriter W) → i < n → IsListed number k n label took.bytes digests i
          listed_at i d h =
              let body = took.each i d h in
              let both = took_both sink (get_or old i d) (get_or headed i d) (get_or mid i d) (head_at i) body.body (first i d h) body.took in
              record { body = body.body; body_is = body.is; digest_is = digest_of i d (head_at i ++ body.body) h (both.hashed [] (fresh i d h)) }

          all_listed : 0 < length mid → AreDigests number k n label took.bytes digests
          all_listed more = record { count = count; each = λ i h. listed_at i (some_item mid more) h }

          module _ (done new : List (PieceWriter W)) (kept : (i : ℕ) (d : PieceWriter W) → i < n → piece_sink (get_or done i d) ≡ piece_sink (get_or mid i d)) (more : 0 < length mid) where
            before : (i : ℕ) (d : PieceWriter W) (h : i < n) → Appends (held (get_or old i d)) (held (get_or done i d)) (head_at i ++ (took.each i d h).body)
            before i d h =
                let body = took.each i d h in
                let both = took_both sink (get_or old i d) (get_or headed i d) (get_or mid i d) (head_at i) body.body (first i d h) body.took in
                subst (λ (w : W). Appends (held (get_or old i d)) (sink.contents w) (head_at i ++ body.body)) (sym (kept i d h)) both.appends

            pub ends_stopped : ((i : ℕ) (d : PieceWriter W) → i < n → AppendsBeginning (held (get_or done i d)) (held (get_or new i d)) (trailer_bytes digests len)) → HasBegun sink number k n label s.remaining t.remaining old new
            ends_stopped last = record {
              read = took.bytes;
              more = [];
              consumes = subst (λ (x : List ℕ). Consumes s.remaining t.remaining x) (sym (append-nil took.bytes)) took.takes.consumes;
              each = λ i d h.
                  let body = took.each i d h in
                  record {
                    body = body.body;
                    end = trailer_bytes digests len;
                    body_is = body.is;
                    end_is = inr (digests, all_listed more, ap (trailer_bytes digests) (sym took.len_is));
                    begins = AppendsBeginning-after (held (get_or old i d)) (held (get_or done i d)) (held (get_or new i d)) (head_at i ++ body.body) (trailer_bytes digests len) (before i d h) (last i d h);
                  };
            }

            pub all_written : ((i : ℕ) (d : PieceWriter W) → i < n → Appends (held (get_or done i d)) (held (get_or new i d)) (trailer_bytes digests len)) → HasSplit sink number k n label digests len s t old new
            unfolding listed_at
            all_written last = record {
              bytes = took.bytes;
              len_is = took.len_is;
              few = took.few;
              takes = took.takes;
              end = took.end;
              digests_are = all_listed more;
              each = λ i d h.
                  let body = took.each i d h in
                  record {
                    piece = (head_at i ++ body.body) ++ trailer_bytes digests len;
                    is = record { listed = listed_at i d h; is = ap (λ m. (head_at i ++ body.body) ++ trailer_bytes digests m) (sym took.len_is) };
                    appends = Appends-trans (held (get_or old i d)) (held (get_or done i d)) (held (get_or new i d)) (head_at i ++ body.body) (trailer_bytes digests len) (before i d h) (last i d h);
                  };
            }
