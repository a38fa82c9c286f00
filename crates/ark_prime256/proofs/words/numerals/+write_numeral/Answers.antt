use Rattle.std.proofs.Common.{◌<◌, ◌≤◌, subst, sym, rules, tests, refl}
use Rattle.std.specs.Fmt.{IsPlainFormatter}
use Rattle.std.proofs.Output.{has_written_append, has_written_of_eq}
use Rattle.ark_prime256.specs.Words.{integer}
use Rattle.ark_prime256.proofs.Numerals.{numeral_by_front, numeral_alone}
use Rattle.ark_prime256.proofs.words.numerals.+write_numeral.Goals.{then-is_below+in_ok-write_numeral, else-is_below}
use Rattle.ark_prime256.proofs.words.numerals.+write_numeral.Goals as goal

pub returns : goal.returns
returns g t c plain done =
    let took = g.W.Write.write_str_gives in
    let q = integer c.divided-last.result.0 in
    let parts = c.divided-last.ensures in
    let digit = rw c.in_radix.ensures at c.write.ensures.writes in
    elim c.if-is_below.branch [
      | then-is_below+in_ok-write_numeral w ↦
          let front = w.write_numeral.ensures plain (search (rules, tests)) in
          let last = digit (subst (IsPlainFormatter {W = g.row.W.Denot}) (sym w.f-is) front.plain) done in
          has_written_of_eq took _ _ _ _ (numeral_by_front c.args.base (integer c.args.number) q c.divided-last.result.1 c.requires.low c.requires.high parts.whole parts.below (subst (λ z. z < q) c.of_word.ensures (w.if-is_below.ensures.below refl)))
          (has_written_append took _ _ _ _ _ front (rw w.f-is at last))
      | else-is_below w ↦
          let last = digit (subst (IsPlainFormatter {W = g.row.W.Denot}) (sym w.f-is) plain) done in
          has_written_of_eq took _ _ _ _ (numeral_alone c.args.base (integer c.args.number) q c.divided-last.result.1 c.requires.low c.requires.high parts.whole parts.below (subst (λ z. q ≤ z) c.of_word.ensures (w.if-is_below.ensures.above refl)))
          (rw w.f-is at last)
    ]
