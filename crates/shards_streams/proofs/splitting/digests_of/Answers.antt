use Rattle.std.proofs.Common.{◌≡◌, ℕ, List, ◌<◌, ◌+◌, ◌++◌, arith, length, get_or, subst, sym, ap, ◌∙◌, below_more, length-append}
use Rattle.std.proofs.lemmas.List.{length-set, get_or_default}
use Rattle.sha2.specs.Sha256.{sha256}
use Rattle.shards_format.specs.Pieces.{chunk}
use Rattle.shards_format.proofs.FileLists.{chunk_before, chunk_next}
use Rattle.shards_streams.specs.declared.writer.PieceWriter.{PieceWriter}
use Rattle.shards_streams.specs.Writers.{piece_sink, HasHashed}
use Rattle.shards_streams.proofs.EachItem.{rest_after, item_kept}
use Rattle.shards_streams.proofs.splitting.digests_of.Goals as goal

pub loop-i-preserved : goal.loop-i-preserved
loop-i-preserved g c =
    let Writer : Type 0 = PieceWriter g.row.W.Denot in
    let P : ℕ → Writer → Writer → Type 0 = λ j a b. ℕ in
    let writers = c.loop-i.writers in
    let old = c.args.writers.now in
    let i = c.loop-i.i in
    let new = c.digest-digest.new.self in
    let digest = c.digest-digest.result in
    let digests = c.loop-i.digests.items in
    let inside : i < length writers = omega (arith, c.loop-i-test.true, c.loop-i.auto.writers) in
    let long : length digest ≡ 32 = c.digest-digest.ensures.len in
    let all : c.extend_from_slice.new.self.items ≡ digests ++ digest = c.in_ok-extend_from_slice.ensures.items in
    record {
      len = length-set writers i new ∙ c.loop-i.invariant.len;
      kept = λ j d h. item_kept piece_sink writers i c.index-writers-i.result new inside c.digest-digest.ensures.kept j d ∙ c.loop-i.invariant.kept j d h;
      rest = rest_after P old writers i c.index-writers-i.result new inside (λ j d h. 0) c.loop-i.invariant.rest 0;
      count = ap length all ∙ length-append digests digest ∙ omega (arith, c.loop-i.invariant.count, long);
      each = subst (λ (xs : List ℕ). (j : ℕ) (d : Writer) (text : List ℕ) → j < i + 1 → HasHashed (get_or old j d) text → chunk 32 j xs ≡ sha256 text) (sym all)
          (λ j d text h. below_more (λ j. HasHashed (get_or old j d) text → chunk 32 j (digests ++ digest) ≡ sha256 text) i
          (λ j l held. chunk_before 32 j i digests digest c.loop-i.invariant.count l ∙ c.loop-i.invariant.each j d text l held)
          (λ held. chunk_next 32 i digests digest c.loop-i.invariant.count (omega (arith, long))
          ∙ c.digest-digest.ensures.digest text (subst (λ (w : Writer). HasHashed w text) (sym (get_or_default writers i c.index-writers-i.result d inside ∙ c.loop-i.invariant.rest i d (omega arith))) held)) j h);
    }
