use Rattle.std.proofs.Common.{◌≡◌, ℕ, ◌<◌, ◌≤◌, ◌*◌, arith, length, List, sym, subst, ap, refl, inl, inr}
use Rattle.std.specs.Io.KnownBytes.{Consumes}
use Rattle.ark_bytes.specs.Reading.{source_state, Takes}
use Rattle.shards_format.specs.Pieces.{block_size}
use Rattle.shards_streams.specs.declared.writer.PieceWriter.{PieceWriter}
use Rattle.shards_streams.specs.Splitting.{TookBlockSome, TookParts}
use Rattle.shards_streams.proofs.Results.{err_any}
use Rattle.shards_streams.proofs.splitting.put_next_block.Goals as goal
use Rattle.shards_streams.proofs.splitting.put_next_block.Goals.{then-count-gt0+in_ok-put_block, else-count-gt0}

pub returns-in_err-bytes-clause-some : goal.returns-in_err-bytes-clause-some
returns-in_err-bytes-clause-some g c =
    let code = g.C.StripeCode in
    let k = code.k_of c.args.code.now in
    let n = code.n_of c.args.code.now in
    let some : TookBlockSome g.W.Sink code.number k n (g.R.Source.remaining c.args.source.now) (g.R.Source.remaining c.take_block.new.source) c.args.writers.now c.args.writers.now =
    record { block = c.in_err-bytes.ensures.some.taken; consumes = c.in_err-bytes.ensures.some.consumes; parts = inl refl } in
    err_any _ _ some

pub returns-in_err-put_block-clause-some : goal.returns-in_err-put_block-clause-some
returns-in_err-put_block-clause-some g c =
    let code = g.C.StripeCode in
    let k = code.k_of c.args.code.now in
    let n = code.n_of c.args.code.now in
    let block = c.as_slice-block.result.now in
    let same = c.as_slice-block.ensures.value in
    let size : 2 * c.k.result * 1024 ≡ block_size k = ap block_size c.k.ensures.k in
    let few : length block ≤ block_size k = omega (arith, ap length same, size, c.in_ok-bytes.ensures.few) in
    let some : 0 < length block = omega (arith, c.if-count-gt0.true) in
    let all : TookBlockSome g.W.Sink code.number k n (g.R.Source.remaining c.args.source.now) (g.R.Source.remaining c.take_block.new.source) c.args.writers.now c.put_block.new.writers = record {
      block = block;
      consumes = subst (λ (xs : List ℕ). Consumes (g.R.Source.remaining c.args.source.now) (g.R.Source.remaining c.take_block.new.source) xs) (sym same) c.in_ok-bytes.ensures.takes.consumes;
      parts = elim c.in_err-put_block.ensures.some [
        | inl kept ↦ inl kept
        | inr parts ↦ inr (some, few, parts)
      ];
    } in
    err_any _ _ all

pub returns-clause-took : goal.returns-clause-took
returns-clause-took g c =
    let code = g.C.StripeCode in
    let k = code.k_of c.args.code.now in
    let n = code.n_of c.args.code.now in
    let block = c.as_slice-block.result.now in
    let same = c.as_slice-block.ensures.value in
    let size : 2 * c.k.result * 1024 ≡ block_size k = ap block_size c.k.ensures.k in
    record {
      block = block;
      len_is = refl;
      takes = subst (λ (xs : List ℕ). Takes (source_state g.R.Source.remaining g.R.Source.failures c.args.source.now) (source_state g.R.Source.remaining g.R.Source.failures c.take_block.new.source) xs) (sym same) c.in_ok-bytes.ensures.takes;
      end = λ short. c.in_ok-bytes.ensures.end (omega (arith, size, short, ap length same));
      parts = elim c.if-count-gt0.branch [
        | then-count-gt0+in_ok-put_block w ↦ λ _. subst (λ (ws : List (PieceWriter g.row.W.Denot)). TookParts g.W.Sink code.number k n block c.args.writers.now ws) (sym w.writers-is) w.in_ok-put_block.ensures.took
        | else-count-gt0 w ↦ λ some. absurd (omega (arith, some, w.if-count-gt0.false))
      ];
      none = elim c.if-count-gt0.branch [
        | then-count-gt0+in_ok-put_block w ↦ λ none. absurd (omega (arith, none, w.if-count-gt0.true))
        | else-count-gt0 w ↦ λ _. w.writers-is
      ];
    }
