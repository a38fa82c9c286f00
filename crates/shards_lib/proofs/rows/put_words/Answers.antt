use Rattle.std.proofs.Common.{◌+◌, ◌*◌, ◌<◌, length, get_or, arith, rules, sym, ◌∙◌, ap, subst}
use Rattle.ark_math.specs.Field.{natural}
use Rattle.shards_lib.proofs.Values.{places_written}
use Rattle.shards_lib.proofs.Windows.{part_read, row_end}
use Rattle.shards_lib.proofs.rows.put_words.Goals as goal

pub loop-a-preserved : goal.loop-a-preserved
loop-a-preserved g c =
    let K = g.F.Field.field in
    let a = c.loop-a.a in
    let places = c.args.given.now.places.now in
    let numbers = c.args.given.now.numbers.now in
    let less = c.loop-a-test.true in
    let read = part_read a (length places) c.args.group.all c.args.group.first c.args.group.count numbers less c.args.group.within (c.args.given.now.len ∙ ap (λ m. length places * m) (sym c.requires.stripes)) in
    places_written K (λ a t. natural K (get_or numbers (a * c.args.group.all + (c.args.group.first + t)) 0)) places c.loop-a.rows a c.args.group.count c.row_of_numbers.result
    (omega (arith, c.requires.below a less, c.loop-a.auto.rows)) (λ b l. c.args.given.now.apart b a l less) c.loop-a.invariant
    (λ t l. c.row_of_numbers.ensures t (subst (λ m. t < m) (sym read.0) l) ∙ ap (natural K) (read.1 t l))

pub slice_bounds-row_of_numbers-end : goal.slice_bounds-row_of_numbers-end
slice_bounds-row_of_numbers-end g c =
    let places = c.args.given.now.places.now in
    let end = row_end c.loop-a.a (length places) c.args.group.all c.loop-a-test.true in
    let len = c.args.given.now.len ∙ ap (λ m. length places * m) (sym c.requires.stripes) in
    let within = c.args.group.within in
    search (rules, end, len, within)

pub offset_bounds-rows-given : goal.offset_bounds-rows-given
offset_bounds-rows-given g c =
    let below = c.requires.below c.loop-a.a c.loop-a-test.true in
    let same = c.loop-a.auto.rows in
    search (rules, below, same)
