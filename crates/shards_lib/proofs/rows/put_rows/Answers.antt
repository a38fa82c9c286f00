use Rattle.std.proofs.Common.{◌≡◌, ℕ, ◌+◌, ◌-◌, ◌*◌, ◌<◌, length, get_or, map, arith, sym, ◌∙◌, ap, subst}
use Rattle.ark_math.proofs.Lists.Lists.{read_as}
use Rattle.ark_rows.specs.Row.{lanes}
use Rattle.shards_lib.specs.Rows.{entry}
use Rattle.shards_lib.proofs.Windows.{part_len, part_written, part_kept}
use Rattle.shards_lib.proofs.rows.put_rows.Goals as goal

pub loop-b-preserved : goal.loop-b-preserved
loop-b-preserved g c =
    let K = g.F.Field.field in
    let number = g.F.NumberField.number in
    let b = c.loop-b.b in
    let rows = c.args.rows.now in
    let places = c.args.places.now in
    let xs = c.loop-b.numbers in
    let ys = c.put_row.new.numbers in
    let less = c.loop-b-test.true in
    let fits = c.args.group.within in
    let f : ℕ → ℕ → ℕ = λ b t. number (entry K rows (get_or places b 0) t) in
    let len : length xs ≡ length places * c.args.group.all = c.loop-b.auto.numbers ∙ c.requires.numbers in
    let long = part_len f b (length places) c.args.group.all c.args.group.first c.args.group.count c.args.numbers.now xs ys less fits len in
    let begin = b * c.args.group.all + c.args.group.first in
    let same : c.args.group.count ≡ begin + c.args.group.count - begin = omega arith in
    let size : length ys ≡ begin + c.args.group.count - begin = c.put_row.auto.numbers ∙ long ∙ same in
    let here : lanes K c.index-rows-places.result ≡ get_or (map (lanes K) rows) (get_or places b 0) (λ j. K.zero) = read_as (lanes K) (λ j. K.zero) rows (get_or places b 0) c.index-rows-places.result (c.requires.below b less) c.index-rows-places.is in
    record {
      written = part_written f b (length places) c.args.group.all c.args.group.first c.args.group.count c.args.numbers.now xs ys less fits len size c.loop-b.invariant.written
          (λ t l. c.put_row.ensures t (subst (λ m. t < m) (sym long) l) ∙ ap (λ r. number (r t)) here);
      kept = part_kept f b (length places) c.args.group.all c.args.group.first c.args.group.count c.args.numbers.now xs ys less fits len size c.loop-b.invariant.kept;
    }
