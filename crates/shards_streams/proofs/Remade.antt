-- The bodies of lost pieces, a block at a time.
use Rattle.std.proofs.Common.{◌≡◌, ℕ, ◌+◌, ◌-◌, ◌*◌, ◌<◌, min, List, [], ◌++◌, length, get_or, sym, ◌∙◌, ap, ap₂, subst, length-append, append-nil}
use Rattle.ark_bytes.specs.declared.source.Source.{Ghosts}
use Rattle.ark_bytes.specs.declared.sink.Sink.{Ghosts as SinkGhosts}
use Rattle.shards_format.specs.Stripes.{Numbering, numbers_at, stripe, stripes}
use Rattle.shards_format.specs.Parts.{IsPart}
use Rattle.shards_format.specs.Pieces.{IsBody, block_size, blocks, body_size, chunk, mark_size}
use Rattle.shards_format.specs.Files.{HaveParts}
use Rattle.shards_format.proofs.FileLists.{no_parts, parts_more, whole_body}
use Rattle.shards_format.proofs.JoinLists.{small_chunk}
use Rattle.shards_streams.specs.declared.reader.PieceReader.{PieceReader}
use Rattle.shards_streams.specs.declared.writer.PieceWriter.{PieceWriter}
use Rattle.shards_streams.specs.Writers.{Took}
use Rattle.shards_streams.specs.Joining.{GavePart}
use Rattle.shards_streams.specs.Repairing.{HasRemade, TookSized}
use Rattle.shards_streams.proofs.Writers.{took_nothing, took_both}
use Rattle.shards_streams.proofs.Joined.{Begins, ReadBlocks, all_blocks, before_of, counts, full_size, more_size, no_size, nothing_read, numbers_read, read_more}

module _ {R W : Type 0} (source : Ghosts R) (sink : SinkGhosts W) (number : Numbering) (k n : ℕ) (places lost : List ℕ) where
  -- the parts of the first b blocks were read, and those of the lost pieces were written
  pub record RemadeBlocks (len b : ℕ) (old now : List (PieceReader R)) (before after : List (PieceWriter W)) : Type 0 where
    pub read : ReadBlocks source number k n places len b old now
    pub made : (c : ℕ) → c < length lost → TookSized sink k (get_or lost c 0) (min (b * block_size k) len) c before after
    pub file : (file : List ℕ) → ((i : ℕ) → get_or file i 0 < 256) → length file ≡ len → ((a : ℕ) (l : a < k) → Begins number k n file (get_or places a 0) (read.each a l).taken)
        → (c : ℕ) (l : c < length lost) → HaveParts number k n file (get_or lost c 0) b (made c l).body

  pub nothing_made : (len : ℕ) (readers : List (PieceReader R)) (writers : List (PieceWriter W)) → 0 < k → length readers ≡ k → RemadeBlocks len 0 readers readers writers writers
  nothing_made len readers writers some count = record {
    read = nothing_read source number k n places len readers some count;
    made = λ c l. record { body = []; len_is = no_size k (get_or lost c 0) len some; took = λ d. took_nothing sink (get_or writers c d) };
    file = λ file small size begins c l. no_parts number k n file (get_or lost c 0) some;
  }

  pub all_remade : (len : ℕ) (old now : List (PieceReader R)) (before after : List (PieceWriter W)) → 0 < k → RemadeBlocks len (blocks k len) old now before after
      → HasRemade source sink number k n places lost len old now before after
  all_remade len old now before after some blocks_made =
      let all = all_blocks k len some in
      record {
        given = λ a l. let gave = blocks_made.read.each a l in record { body = gave.taken; len_is = gave.len_is ∙ ap (body_size k (get_or places a 0)) all; gave = gave.gave };
        made = λ c l. let made = blocks_made.made c l in record { body = made.body; len_is = made.len_is ∙ ap (body_size k (get_or lost c 0)) all; took = made.took };
        file = λ file small size bodies c l.
            whole_body number k n file (get_or lost c 0) some (blocks_made.made c l).body
            (subst (λ m. HaveParts number k n file (get_or lost c 0) (blocks k m) (blocks_made.made c l).body) (sym size)
            (blocks_made.file file small size (λ a r. ([], subst (IsBody number k n file (get_or places a 0)) (sym (append-nil (blocks_made.read.each a r).taken)) (bodies a r))) c l));
      }

  module _ (len b : ℕ) (old now : List (PieceReader R)) (before mid : List (PieceWriter W)) (some : 0 < k) (so_far : RemadeBlocks len b old now before mid) (below : b < blocks k len) (want count : ℕ)
      (want_is : want ≡ min (block_size k) (len - b * block_size k)) (count_is : count ≡ stripes k want) (numbers : List ℕ) (new : List (PieceReader R)) (kept : length new ≡ k)
      (given : (a : ℕ) (d : PieceReader R) → a < k → GavePart source k (get_or places a 0) count numbers a (get_or now a d) (get_or new a d)) (parts : List (List ℕ))
      (sizes : (c : ℕ) → c < length lost → length (get_or parts c []) ≡ mark_size k (get_or lost c 0) + 2 * count)
      (remakes : (block : List ℕ) → ((i : ℕ) → get_or block i 0 < 256) → count ≡ stripes k (length block)
      → ((a s : ℕ) → a < k → s < count → get_or numbers (a * count + s) 0 ≡ number k n (stripe count block s) (get_or places a 0))
      → (c : ℕ) → c < length lost → IsPart k (get_or lost c 0) (numbers_at number k n block (get_or lost c 0)) (get_or parts c [])) (after : List (PieceWriter W))
      (took : (c : ℕ) (d : PieceWriter W) → c < length lost → Took sink (get_or mid c d) (get_or after c d) (get_or parts c [])) where
    abbrev made_more : (c : ℕ) → c < length lost → TookSized sink k (get_or lost c 0) (min ((b + 1) * block_size k) len) c before after
    made_more c l =
        let made = so_far.made c l in
        let place = get_or lost c 0 in
        record {
          body = made.body ++ get_or parts c [];
          len_is = length-append made.body (get_or parts c []) ∙ ap₂ (λ x y. x + y) (made.len_is ∙ full_size k place b len some below) (sizes c l) ∙ more_size k place b len want count some below want_is count_is;
          took = λ d. took_both sink (get_or before c d) (get_or mid c d) (get_or after c d) made.body (get_or parts c []) (made.took d) (took c d l);
        }

    -- one block more
    pub block_remade : RemadeBlocks len (b + 1) old new before after
    block_remade = record {
      read = read_more source number k n places len b old now some so_far.read below want count want_is count_is numbers new kept given;
      made = made_more;
      file = λ file small size begins c l.
          parts_more number k n file (get_or lost c 0) some b (so_far.made c l).body (get_or parts c []) (subst (λ m. b < blocks k m) (sym size) below)
          (so_far.file file small size (before_of source number k n places len b old now some so_far.read below want count want_is count_is numbers new kept given file begins) c l)
          (remakes (chunk (block_size k) b file) (small_chunk (block_size k) b file small) (counts source number k n places len b old now some so_far.read below want count want_is count_is file size)
          (numbers_read source number k n places len b old now some so_far.read below want count want_is count_is numbers new kept given file size begins) c l);
    }
