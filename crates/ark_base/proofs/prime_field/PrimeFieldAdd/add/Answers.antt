use Rattle.std.proofs.Common.{◌+◌, ◌-◌, ◌%◌, ◌∙◌, ap}
use Rattle.ark_base.specs.Element.{same_from_value}
use Rattle.ark_base.proofs.Reductions.{taken_twice}
use Rattle.ark_base.proofs.prime_field.PrimeFieldAdd.add.Goals as goal

pub returns-then-MODULUS : goal.returns-then-MODULUS
returns-then-MODULUS g c = same_from_value _ _ c.reduce_once.ensures

pub returns-else-MODULUS : goal.returns-else-MODULUS
returns-else-MODULUS g c =
    let p = g.M.PrimeModulus.MODULUS in
    let a = c.args.self.value in
    let b = c.args.rhs in
    same_from_value _ _ (c.difference.ensures ∙ ap (λ m. (a + (p - (m - b.value))) % p) c.MODULUS-else-MODULUS.ensures ∙ ap (λ y. (a + y) % p) (taken_twice p b.value b.reduced))
