use Rattle.std.proofs.Common.{◌++◌, ap, ap₂, lit<, sym, ◌∙◌, arith, map, string_bytes}
use Rattle.std.proofs.lemmas.Grind.{common_steps}
use Rattle.ark_base.specs.Numerals.{decimal_text}
use Rattle.polyrun_lib.specs.Words.{joined}
use Rattle.polyrun_lib.proofs.Writing.{number_at, below_all, written-later, written-start, IsList-joined}
use Rattle.polyrun_lib.proofs.lines.line.Goals as goal
use Rattle.polyrun_lib.proofs.lines.line.Goals.{then-i-gt0+in_ok-push, else-i-gt0}

pub loop-i-preserved : goal.loop-i-preserved
loop-i-preserved g c =
    let number = g.F.PrimeNumbers.numbering.number in
    let xs = c.args.elements.now in
    let i = c.loop-i.i in
    let x = c.index-elements-i.result in
    let at_i = number_at number xs i x (omega arith) c.index-elements-i.is in
    let below = below_all number xs i (omega arith) in
    let shown = rw (g.met.F.PrimeNumbers.display_law x) at c.in_ok-write.ensures.bytes in
    elim c.if-i-gt0.branch [
      | then-i-gt0+in_ok-push w ↦ written-later (map number xs) i _ _ below (omega arith)
          (ap string_bytes w.text-is ∙ w.in_ok-push.ensures.bytes ∙ ap₂ (λ text byte. text ++ byte) c.loop-i.invariant (w.in_ok-push.ensures.ascii (lit< tt)))
          (shown ∙ ap (λ n. string_bytes c.if-i-gt0.text ++ decimal_text n) (sym at_i))
      | else-i-gt0 w ↦ written-start (map number xs) i _ _ below (omega arith) (ap string_bytes w.text-is ∙ c.loop-i.invariant)
          (shown ∙ ap (λ n. string_bytes c.if-i-gt0.text ++ decimal_text n) (sym at_i))
    ]

pub returns-clause-spelled : goal.returns-clause-spelled
returns-clause-spelled g c =
    let numbers = map g.F.PrimeNumbers.numbering.number c.args.elements.now in
    (joined (map decimal_text numbers), grind (arith, common_steps), IsList-joined numbers)
