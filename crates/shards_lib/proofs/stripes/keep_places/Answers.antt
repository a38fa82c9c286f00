use Rattle.std.proofs.Common.{◌<◌, length, get_or, arith, sym, ◌∙◌, true≢false}
use Rattle.shards_lib.proofs.Marks.{marks-less, kept_more, all_marked, still_marked, unmarked_more}
use Rattle.shards_lib.proofs.stripes.keep_places.Goals as goal

pub loop-a-init : goal.loop-a-init
loop-a-init c = record {
  count = let all = all_marked c.args.erased.now c.requires.marked in omega (arith, all);
  kept = λ i e. absurd (true≢false (sym (c.requires.marked i) ∙ e));
  unmarked = λ b l. absurd (omega (arith, l));
}

pub loop-a-preserved : goal.loop-a-preserved
loop-a-preserved c =
    let a = c.loop-a.a in
    let places = c.args.places.now in
    let marks = c.loop-a.erased in
    let p = get_or places a 0 in
    let inside : p < length marks = omega (arith, c.requires.below a c.loop-a-test.true, c.loop-a.auto.erased) in
    let marked = still_marked marks places a c.loop-a.invariant.kept (λ b l. c.requires.apart b a l c.loop-a-test.true) in
    let less = marks-less marks p inside marked in
    record {
      count = omega (arith, less, c.loop-a.invariant.count);
      kept = kept_more marks places a c.loop-a.invariant.kept;
      unmarked = unmarked_more marks places a inside c.loop-a.invariant.unmarked;
    }
