use Rattle.std.proofs.Common.{◌≡◌, sym, ◌∙◌, refl, arith, below_more, true≢false}
use Rattle.ark_words.specs.Numbers.{number_at}
use Rattle.ark_words.proofs.WordLists.{all_numbers, each_number}
use Rattle.ark_words.proofs.division.are_zeros.Goals as goal

pub returns-then-not-is_zero : goal.returns-then-not-is_zero
returns-then-not-is_zero g c = (
  (λ e. absurd (true≢false (sym e))),
  (λ all.
      let within = rw c.WIDTH-width.ensures at c.loop-i-test.true in
      let here = each_number (λ x. x ≡ 0) g.F.WordElement.WIDTH c.args.words.now all c.loop-i.i within in
      let zero = rw c.WIDTH-width.ensures at c.is_zero.ensures in
      absurd (true≢false (sym (zero.1 here) ∙ c.if-not-is_zero.true))),
)

pub loop-i-preserved : goal.loop-i-preserved
loop-i-preserved g c =
    let zero = rw c.WIDTH-width.ensures at c.is_zero.ensures in
    below_more (λ k. number_at g.F.WordElement.WIDTH c.args.words.now k ≡ 0) c.loop-i.i c.loop-i.invariant (zero.0 c.if-not-is_zero.false)

pub returns : goal.returns
returns g c = (
  (λ e. all_numbers (λ x. x ≡ 0) g.F.WordElement.WIDTH c.args.words.now
      (λ i l. let end = rw c.WIDTH-width.ensures at c.loop-i-test.false in c.loop-i.invariant i (omega arith))),
  (λ all. refl),
)
