use Rattle.std.proofs.Common.{◌<◌, IsNone, arith, refl, rules}
use Rattle.ark_words.proofs.WordLists.{all_numbers, each_number}
use Rattle.ark_words.proofs.lists.are_reduced.Goals as goal

pub returns-then-is_none : goal.returns-then-is_none
returns-then-is_none g c = (
  (λ e. absurd (search rules)),
  (λ all.
      let within = rw c.WIDTH-width.ensures at c.loop-i-test.true in
      let below = each_number (λ x. x < g.F.PrimeNumbers.modulus) g.F.WordElement.WIDTH c.args.words.now all c.loop-i.i within in
      let above = rw c.WIDTH-width.ensures at c.from_words.ensures.none in
      let none : IsNone c.from_words.result = search rules in
      let not_below = above.0 none in
      absurd (omega arith)),
)

pub returns : goal.returns
returns g c = (
  (λ e. all_numbers (λ x. x < g.F.PrimeNumbers.modulus) g.F.WordElement.WIDTH c.args.words.now
      (λ i l. let end = rw c.WIDTH-width.ensures at c.loop-i-test.false in c.loop-i.invariant i (omega arith))),
  (λ all. refl),
)
