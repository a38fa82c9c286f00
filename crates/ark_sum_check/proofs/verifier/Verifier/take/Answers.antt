use Rattle.std.proofs.Common.{refl}
use Rattle.ark_sum_check.proofs.ValuesThrough.{one_value_through}
use Rattle.ark_sum_check.proofs.verifier.Verifier.take.Goals as goal

pub returns-clause-accepted : goal.returns-clause-accepted
returns-clause-accepted g c = λ fits. record { adds_up = c.adds_up.ensures.0 c.if-not-adds_up.false; value = c.in_ok-self.ensures.value }

pub returns-clause-only : goal.returns-clause-only
returns-clause-only g c = λ next r.
    let K = g.F.Field.field in
    let values = c.args.values.now in
    let x = c.args.challenge in
    let y = c.in_ok-self.field-0 in (
      refl,
      one_value_through K g.met.F.Field.field_laws values x next y c.in_ok-self.ensures.different r.value c.in_ok-self.ensures.value,
    )
