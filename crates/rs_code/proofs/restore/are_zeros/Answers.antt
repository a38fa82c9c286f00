use Rattle.std.proofs.Common.{◌≡◌, sym, ◌∙◌, below_more, true≢false}
use Rattle.ark_math.proofs.Lists.Lists.{read_as}
use Rattle.rs_code.proofs.restore.are_zeros.Goals as goal

pub loop-item-preserved : goal.loop-item-preserved
loop-item-preserved g c =
    let V = g.T.Summand.group in
    let m = g.T.Summand.meaning in
    let here : m c.item-item.result ≡ V.zero =
    (g.met.T.Summand.equality_meaning _ _).0 (sym c.is_zero.ensures ∙ c.if-not-is_zero.false) ∙ g.met.T.Summand.zero_meaning in
    below_more _ _ c.loop-item.invariant (sym (read_as m V.zero c.args.items.now c.loop-item.item-index c.item-item.result c.loop-item-test.true c.item-item.is) ∙ here)

pub returns-then-not-is_zero : goal.returns-then-not-is_zero
returns-then-not-is_zero g c =
    let V = g.T.Summand.group in
    let m = g.T.Summand.meaning in (
      (λ h. absurd (true≢false (sym h))),
      (λ all.
          let here = read_as m V.zero c.args.items.now c.loop-item.item-index c.item-item.result c.loop-item-test.true c.item-item.is ∙ all c.loop-item.item-index in
          let e = (g.met.T.Summand.equality_meaning _ _).1 (here ∙ sym g.met.T.Summand.zero_meaning) in
          absurd (true≢false (sym e ∙ sym c.is_zero.ensures ∙ c.if-not-is_zero.true))),
    )
