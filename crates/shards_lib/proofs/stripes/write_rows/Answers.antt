use Rattle.std.proofs.Common.{◌≡◌, ℕ, ◌*◌, ◌+◌, ◌-◌, ◌<◌, ◌≤◌, take, drop, get_or, length, arith, sym, ◌∙◌, ap, ap₂, subst}
use Rattle.ark_math.specs.Field.{natural}
use Rattle.ark_math.specs.Module.{itself, sum_below}
use Rattle.ark_math.proofs.Algebra.Sums.{sum_below-same}
use Rattle.shards_lib.specs.Products.{weighted_row, weighted_sum}
use Rattle.shards_lib.proofs.Windows.{row_read, row_written}
use Rattle.shards_lib.proofs.stripes.write_rows.Goals as goal

pub loop-b-preserved : goal.loop-b-preserved
loop-b-preserved g c =
    let K = g.F.Field.field in
    let number = g.F.NumberField.number in
    let b = c.loop-b.b in
    let given = c.args.given.now in
    let k = length given.places.now in
    let stripes = given.stripes in
    let numbers = given.numbers.now in
    let weights = c.args.weights.now in
    let xs = c.loop-b.wanted in
    let ys = c.write_sums.new.sums in
    let less = c.loop-b-test.true in
    let slice = take (b * k + k - b * k) (drop (b * k) weights) in
    let R = row_read b c.args.count k weights less c.requires.weights in
    let len : length xs ≡ c.args.count * stripes = c.loop-b.auto.wanted ∙ c.requires.wanted in
    let S = row_read b c.args.count stripes xs less len in
    let sum = λ (b s : ℕ). number (weighted_row K weights numbers stripes k b s) in
    let whole : stripes ≡ b * stripes + stripes - b * stripes = omega arith in
    row_written sum b c.args.count stripes xs ys less len (c.write_sums.auto.sums ∙ S.0 ∙ whole) c.loop-b.invariant
    (λ t l.
    c.write_sums.ensures t (subst (λ m. t < m) (sym S.0) l)
    ∙ ap number
    (ap₂ (λ m j. weighted_sum K slice numbers m t j) S.0 R.0
    ∙ sum_below-same (itself K) k (λ c. K.times (natural K (get_or slice c 0)) (natural K (get_or numbers (c * stripes + t) 0))) (λ c. K.times (natural K (get_or weights (b * k + c) 0)) (natural K (get_or numbers (c * stripes + t) 0)))
    (λ c m. ap (λ w. K.times (natural K w) (natural K (get_or numbers (c * stripes + t) 0))) (R.1 c m))))
