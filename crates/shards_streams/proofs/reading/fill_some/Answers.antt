use Rattle.std.proofs.Common.{◌≡◌, ◌-◌, arith, length, ◌∙◌}
use Rattle.shards_streams.proofs.Taken.{middle_len, written_len, takes_more}
use Rattle.shards_streams.proofs.reading.fill_some.Goals as goal

pub loop-count-preserved : goal.loop-count-preserved
loop-count-preserved g c =
    let i = c.loop-count.count in
    let xs = c.loop-count.bytes in
    let ys = c.take.new.buffer in
    let size : length ys ≡ length xs - i = c.take.auto.buffer ∙ middle_len i xs in
    let all = written_len i xs ys c.loop-count.invariant.few size in
    record {
      len = all ∙ c.loop-count.invariant.len;
      few = omega (arith, all, size, c.in-Ok.ensures.bound, c.loop-count.invariant.few);
      takes = takes_more _ _ _ i c.in-Ok.more xs ys c.loop-count.invariant.few c.in-Ok.ensures.bound c.loop-count.invariant.takes c.in-Ok.ensures.bytes.0 c.in-Ok.ensures.counted;
    }
