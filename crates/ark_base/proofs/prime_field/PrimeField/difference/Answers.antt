use Rattle.std.proofs.Common.{◌+◌, ◌-◌, ◌∙◌, ap}
use Rattle.ark_base.proofs.Reductions.{less_wraps, more_stays}
use Rattle.ark_base.proofs.prime_field.PrimeField.difference.Goals as goal
use Rattle.ark_base.proofs.prime_field.PrimeField.difference.Goals.{then-left-right, else-left-right}

pub returns : goal.returns
returns g c =
    let p = g.M.PrimeModulus.MODULUS in
    let l = c.args.left in
    let r = c.args.right in
    elim c.if-left-right.branch [
      | then-left-right w ↦
          w.result-is ∙ ap (λ m. l + (m - r)) w.MODULUS.ensures ∙ less_wraps p l r c.requires.right w.if-left-right.true
      | else-left-right w ↦ w.result-is ∙ more_stays p l r c.requires.left c.requires.right w.if-left-right.false
    ]
