use Rattle.std.proofs.Common.{refl, ap, ◌∙◌}
use Rattle.ark_fft.proofs.Cost.{grows_twice}
use Rattle.ark_fft.proofs.domain.radix2.frequency.butterfly.Goals as goal

pub sub-difference-requires : goal.sub-difference-requires
sub-difference-requires g c = g.met.T.Summand.can_sub_meaning _ _

pub add_assign-requires : goal.add_assign-requires
add_assign-requires g c = g.met.T.Summand.can_add_assign_meaning _ _

pub returns-clause-sum : goal.returns-clause-sum
returns-clause-sum g c = g.met.T.Summand.add_assign_meaning _ _ _ c.add_assign.ensures.after

pub returns-clause-difference : goal.returns-clause-difference
returns-clause-difference g c = c.scale.ensures.product ∙ ap (g.T.Summand.group.scale c.args.twiddle) (g.met.T.Summand.sub_meaning _ _ _ c.sub-difference.ensures)

pub returns-clause-counted : goal.returns-clause-counted
returns-clause-counted g c = grows_twice c.scale.ensures.counted c.butterfly.ensures refl refl refl
