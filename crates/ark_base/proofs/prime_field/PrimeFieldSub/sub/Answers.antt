use Rattle.std.proofs.Common.{ap, ◌∙◌, ◌-◌, ◌+◌, ◌%◌, sym}
use Rattle.std.proofs.Math.Nat.{add-mod-mod}
use Rattle.ark_base.specs.Element.{same_from_value}
use Rattle.ark_base.proofs.prime_field.PrimeFieldSub.sub.Goals as goal

pub returns-then-MODULUS : goal.returns-then-MODULUS
returns-then-MODULUS g c =
    let p = g.M.PrimeModulus.MODULUS in
    let a = c.args.self.value in
    let b = c.args.rhs.value in
    same_from_value _ _ (c.reduce_once.ensures ∙ ap (λ m. (a + (m - b)) % p) c.MODULUS-then-MODULUS.ensures ∙ sym (add-mod-mod a (p - b) p))

pub returns-else-MODULUS : goal.returns-else-MODULUS
returns-else-MODULUS g c =
    let p = g.M.PrimeModulus.MODULUS in
    same_from_value _ _ (c.difference.ensures ∙ sym (add-mod-mod c.args.self.value (p - c.args.rhs.value) p))
