use Rattle.std.proofs.Common.{◌≡◌, ℕ, ◌<◌, ◌≤◌, ◌*◌, true, false, nat_eq, arith, sym, subst, ap, ◌∙◌, refl}
use Rattle.std.proofs.lemmas.Bool.Decides.{nat_tests}
use Rattle.ark_bytes.specs.Reading.{source_state, SourceState}
use Rattle.shards_format.specs.Pieces.{block_size}
use Rattle.shards_streams.proofs.Results.{err_any}
use Rattle.shards_streams.proofs.Bodies.{TookSoFar, nothing_read, none_so_far, block_more, block_stopped, begun_so_far}
use Rattle.shards_streams.proofs.splitting.put_bodies.Goals as goal

-- how a test of sizes came out
is_full : (count size : ℕ) → nat_eq count size ≡ true → count ≡ size
is_full count size e = grind (arith, nat_tests)

is_short : (count size : ℕ) → count ≤ size → nat_eq count size ≡ false → count < size
is_short count size few e = grind (arith, nat_tests)

pub returns-in_err-extender-clause-some : goal.returns-in_err-extender-clause-some
returns-in_err-extender-clause-some g c =
    let code = g.C.StripeCode in
    let some : 0 < code.k_of c.args.code.now = subst (λ m. 0 < m) c.k.ensures.k c.k.ensures.positive in
    err_any _ _ (nothing_read g.W.Sink code.number (code.k_of c.args.code.now) (code.n_of c.args.code.now) some (g.R.Source.remaining c.args.source.now) c.args.writers.now)

pub loop-more-init : goal.loop-more-init
loop-more-init g c =
    let code = g.C.StripeCode in
    let some : 0 < code.k_of c.args.code.now = subst (λ m. 0 < m) c.k.ensures.k c.k.ensures.positive in
    record { len = refl; took = none_so_far g.W.Sink code.number (code.k_of c.args.code.now) (code.n_of c.args.code.now) some (source_state g.R.Source.remaining g.R.Source.failures c.args.source.now) c.args.writers.now }

pub returns-in_err-count-clause-some : goal.returns-in_err-count-clause-some
returns-in_err-count-clause-some g c =
    let code = g.C.StripeCode in
    let state : g.row.R.Denot → SourceState = λ r. source_state g.R.Source.remaining g.R.Source.failures r in
    let k = code.k_of c.args.code.now in
    let n = code.n_of c.args.code.now in
    let some : 0 < k = subst (λ m. 0 < m) c.k.ensures.k c.k.ensures.positive in
    let took = subst (λ m. TookSoFar g.W.Sink code.number k n c.loop-more.len m (state c.args.source.now) (state c.loop-more.source) c.args.writers.now c.loop-more.writers) c.loop-more-test.true c.loop-more.invariant.took in
    err_any _ _ (block_stopped g.W.Sink code.number k n some c.loop-more.len (state c.args.source.now) (state c.loop-more.source) c.args.writers.now c.loop-more.writers took (g.R.Source.remaining c.put_next_block.new.source) c.put_next_block.new.writers c.in_err-count.ensures.some)

pub loop-more-preserved : goal.loop-more-preserved
loop-more-preserved g c =
    let code = g.C.StripeCode in
    let state : g.row.R.Denot → SourceState = λ r. source_state g.R.Source.remaining g.R.Source.failures r in
    let k = code.k_of c.args.code.now in
    let n = code.n_of c.args.code.now in
    let some : 0 < k = subst (λ m. 0 < m) c.k.ensures.k c.k.ensures.positive in
    let took = subst (λ m. TookSoFar g.W.Sink code.number k n c.loop-more.len m (state c.args.source.now) (state c.loop-more.source) c.args.writers.now c.loop-more.writers) c.loop-more-test.true c.loop-more.invariant.took in
    let count = c.in_ok-count.count in
    let size : 2 * c.k.result * 1024 ≡ block_size k = ap block_size c.k.ensures.k in
    record {
      len = c.put_next_block.ensures.len ∙ c.loop-more.invariant.len;
      took = block_more g.W.Sink code.number k n some c.loop-more.len (state c.args.source.now) (state c.loop-more.source) c.args.writers.now c.loop-more.writers took count (nat_eq count (2 * c.k.result * 1024)) (state c.put_next_block.new.source) c.put_next_block.new.writers
          c.in_ok-count.ensures.few (λ e. is_full count (2 * c.k.result * 1024) e ∙ size) (λ e. subst (λ m. count < m) size (is_short count (2 * c.k.result * 1024) (subst (λ m. count ≤ m) (sym size) c.in_ok-count.ensures.few) e)) c.in_ok-count.ensures.took;
    }

pub returns-clause-some : goal.returns-clause-some
returns-clause-some g c =
    let code = g.C.StripeCode in
    let state : g.row.R.Denot → SourceState = λ r. source_state g.R.Source.remaining g.R.Source.failures r in
    begun_so_far g.W.Sink code.number (code.k_of c.args.code.now) (code.n_of c.args.code.now) c.loop-more.len c.loop-more.more (state c.args.source.now) (state c.loop-more.source) c.args.writers.now c.loop-more.writers c.loop-more.invariant.took
