use Rattle.std.proofs.Common.{◌/◌, ap, pos_of_ne-zero, refl}
use Rattle.ark_base.specs.Euclid.{euclid_starts, euclid_steps, euclid_ends}
use Rattle.ark_base.specs.Element.{same_from_value}
use Rattle.ark_base.proofs.Element.{next_factor}
use Rattle.ark_base.proofs.prime_field.PrimeFieldField.inverse.Goals as goal

pub divide-init : goal.divide-init
divide-init g c =
    let a = c.args.self.now in
    rw (c.MODULUS-last.ensures, ap (λ x. x.value) c.zero-last_factor.ensures, ap (λ x. x.value) c.one-factor.ensures)
    (euclid_starts _ a.value g.M.PrimeModulus.modulus.prime.above_one a.reduced)

pub divide-preserved : goal.divide-preserved
divide-preserved g c =
    rw (next_factor g.M.PrimeModulus.modulus.prime (c.divide.last / c.divide.rest) c.reduce_once.result c.divide.last_factor c.divide.factor c.mul.result c.sub-next_factor.result c.reduce_once.ensures c.mul.ensures c.sub-next_factor.ensures)
    (euclid_steps _ c.args.self.now.value _ _ _ _ (pos_of_ne-zero c.divide-test.true) c.divide.invariant)

pub returns-then-self-eq0-clause-none : goal.returns-then-self-eq0-clause-none
returns-then-self-eq0-clause-none g c = (λ none. same_from_value _ _ c.if-self-eq0.true, λ zero. refl)

pub returns-clause-some : goal.returns-clause-some
returns-clause-some g c =
    let a = c.args.self.now in
    same_from_value _ _ (euclid_ends _ a.value _ c.divide.last_factor.value _ _ g.M.PrimeModulus.modulus.prime (pos_of_ne-zero c.if-self-eq0.false) a.reduced c.divide-test.false c.divide.invariant)
