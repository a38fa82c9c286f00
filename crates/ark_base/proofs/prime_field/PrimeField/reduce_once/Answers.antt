use Rattle.std.proofs.Common.{◌-◌, ◌<◌, ◌≤◌, ◌∙◌, ap, sym, arith, mod-eq_of_lt}
use Rattle.std.proofs.Math.Nat.{mod-eq-sub-mod}
use Rattle.ark_base.proofs.prime_field.PrimeField.reduce_once.Goals as goal
use Rattle.ark_base.proofs.prime_field.PrimeField.reduce_once.Goals.{then-is_below, else-is_below}

pub returns : goal.returns
returns g c =
    let p = g.M.PrimeModulus.MODULUS in
    let small = c.requires in
    elim c.if-is_below.branch [
      | then-is_below w ↦ w.result-is ∙ sym (mod-eq_of_lt (c.is_below.ensures.below w.if-is_below.true))
      | else-is_below w ↦
          let above : p ≤ c.args.value = c.is_below.ensures.above w.if-is_below.false in
          let below : c.args.value - p < p = omega (arith, small) in
          w.result-is ∙ ap (λ t. c.args.value - t) w.MODULUS.ensures ∙ sym (mod-eq-sub-mod above ∙ mod-eq_of_lt below)
    ]
