use Rattle.std.proofs.Common.{◌≡◌, ◌≢◌, ℕ, ◌+◌, arith, below_more, ◌∙◌}
use Rattle.shards_format.specs.Stripes.{item}
use Rattle.shards_format.proofs.Marks.{shown_mark, shown_itself}
use Rattle.shards_format.proofs.parts.put_numbers.Goals as goal
use Rattle.shards_format.proofs.parts.put_numbers.Goals.{then-numbers-s-eq65536, else-numbers-s-eq65536}

pub loop-s-preserved : goal.loop-s-preserved
loop-s-preserved c =
    let other : (i : ℕ) → i ≢ 2 + c.loop-s.s → item c.put_item.new.bytes i ≡ item c.loop-s.part i = c.put_item.ensures.others in
    record {
      low = other 0 (omega arith) ∙ c.loop-s.invariant.low;
      high = other 1 (omega arith) ∙ c.loop-s.invariant.high;
      numbers_are = below_more _ _
          (λ i h. other (2 + i) (omega arith) ∙ c.loop-s.invariant.numbers_are i h)
          (c.put_item.ensures.here ∙ elim c.if-numbers-s-eq65536.branch [
            | then-numbers-s-eq65536 w ↦ w.number-is ∙ shown_mark c.args.mark _ w.if-numbers-s-eq65536.true
            | else-numbers-s-eq65536 w ↦ w.number-is ∙ shown_itself c.args.mark _ w.if-numbers-s-eq65536.false
          ]);
    }
