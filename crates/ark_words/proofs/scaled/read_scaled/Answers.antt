use Rattle.std.proofs.Common.{◌<◌, arith, refl, IsNone}
use Rattle.ark_words.specs.Numbers.{number_at}
use Rattle.ark_words.proofs.WordLists.{each_number, read_more}
use Rattle.ark_words.proofs.scaled.read_scaled.Goals as goal

pub returns-in_default : goal.returns-in_default
returns-in_default g c all =
    let within = rw c.WIDTH-width.ensures at c.loop-i-test.true in
    let below = each_number (λ x. x < g.F.PrimeNumbers.modulus) g.F.WordElement.WIDTH c.args.words.now all c.loop-i.i within in
    let above = rw c.WIDTH-width.ensures at c.from_scaled.ensures.none in
    let none : IsNone c.from_scaled.result = rw c.in_default.is refl in
    let not_below = above.0 none in
    omega arith

pub loop-i-preserved : goal.loop-i-preserved
loop-i-preserved g c =
    let value = rw (c.in-Some.is, c.WIDTH-width.ensures) at c.from_scaled.ensures.some in
    read_more (λ x. g.F.PrimeNumbers.numbering.number (g.F.Field.field.times g.F.WordElement.unit x)) (number_at g.F.WordElement.WIDTH c.args.words.now) c.loop-i.i c.loop-i.items.items c.push.new.self.items c.in-Some.item
    c.in_ok-push.ensures.items c.loop-i.invariant value
