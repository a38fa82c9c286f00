-- All pieces of a file, one after another, each at its place.
use Rattle.std.proofs.Common.{◌≡◌, ℕ, ◌<◌, ◌≤◌, List, length, get_or, flat_map, arith, sym, subst, ◌∙◌, ap}
use Rattle.shards_format.specs.Stripes.{Numbering}
use Rattle.shards_format.specs.Files.{AreDigests, IsPiece}
use Rattle.shards_streams.specs.declared.writer.PieceWriter.{PieceWriter}
use Rattle.shards_streams.specs.declared.laws.ListSink.{ListSink}
use Rattle.shards_streams.specs.Laws.{HavePieces}
use Rattle.shards_streams.proofs.PartsRead.{some_item}
use Rattle.shards_buffers.specs.Sizes.{piece_at, piece_size, piece_start}
use Rattle.shards_buffers.specs.Runs.{AreAllPieces, contents_of}
use Rattle.shards_buffers.proofs.Concats.{found}
use Rattle.shards_buffers.proofs.Rejoined.{take_whole}
use Rattle.shards_buffers.proofs.Sized.{piece_len}
use Rattle.shards_buffers.proofs.Starts.{starts}

module _ (number : Numbering) (k n : ℕ) (label bytes digests : List ℕ) (writers : List (PieceWriter ListSink)) (some : 0 < k) (fits : k ≤ n)
    (count : length writers ≡ n) (listed : AreDigests number k n label bytes digests) (have : HavePieces number k n label bytes digests writers) where
  first : PieceWriter ListSink
  first = some_item writers (omega (arith, some, fits, count))

  piece_of : (i : ℕ) → i < length writers → IsPiece number k n label bytes digests i (contents_of (get_or writers i first))
  piece_of i h = have i first (subst (λ m. i < m) count h)

  sizes : (i : ℕ) → i < length writers → length (contents_of (get_or writers i first)) ≡ piece_size k n i (length label) (length bytes)
  sizes i h = piece_len number k n label bytes digests i (contents_of (get_or writers i first)) (piece_of i h) listed.count

  -- as many bytes in all as before a piece behind the last
  pub total : length (flat_map contents_of writers) ≡ piece_start k n (length label) (length bytes) n
  total =
      ap (λ (ws : List (PieceWriter ListSink)). length (flat_map contents_of ws)) (sym (take_whole writers n (sym count)))
      ∙ starts k n (length label) (length bytes) some contents_of writers first sizes n (omega (arith, count))

  pub all_pieces : (run : List ℕ) → run ≡ flat_map contents_of writers → AreAllPieces number k n label bytes run
  all_pieces run is = record {
    digests = digests;
    digests_are = listed;
    each = λ i h.
        let inside : i < length writers = subst (λ m. i < m) (sym count) h in
        let here = found contents_of writers i first inside (piece_start k n (length label) (length bytes) i) (piece_size k n i (length label) (length bytes))
        (sym (starts k n (length label) (length bytes) some contents_of writers first sizes i (omega (arith, inside)))) (sym (sizes i inside)) in
        subst (λ (xs : List ℕ). IsPiece number k n label bytes digests i xs) (sym (ap (piece_at k n (length label) (length bytes) i) is ∙ here)) (piece_of i inside);
  }
