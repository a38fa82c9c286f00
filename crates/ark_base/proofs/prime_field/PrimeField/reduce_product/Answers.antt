use Rattle.std.proofs.Common.{◌+◌, ◌-◌, ◌/◌, ◌%◌, ◌∙◌, ap, ap₂, le_of_lt}
use Rattle.ark_base.proofs.Reductions.{by_predecessor}
use Rattle.ark_base.proofs.prime_field.PrimeField.reduce_product.Goals as goal
use Rattle.ark_base.proofs.prime_field.PrimeField.reduce_product.Goals.{then-is_fermat, else-is_fermat+then-MODULUS, else-is_fermat+else-MODULUS}

pub returns : goal.returns
returns g c =
    let p = g.M.PrimeModulus.MODULUS in
    let v = c.args.value in
    elim c.if-is_fermat.branch [
      | then-is_fermat w ↦
          ap (λ t. t.0) w.result-is ∙ w.reduce_once.ensures
          ∙ ap₂ (λ m n. (v % (m - 1) + (n - v / (m - 1))) % p) w.MODULUS-less.ensures w.MODULUS.ensures
          ∙ by_predecessor p v (le_of_lt g.M.PrimeModulus.modulus.prime.above_one) c.requires.product
      | else-is_fermat+then-MODULUS w ↦ ap (λ t. t.0) w.result-is ∙ ap (λ m. v % m) w.MODULUS-then-MODULUS.ensures
      | else-is_fermat+else-MODULUS w ↦ ap (λ t. t.0) w.result-is ∙ ap (λ m. v % m) w.MODULUS-else-MODULUS.ensures
    ]
