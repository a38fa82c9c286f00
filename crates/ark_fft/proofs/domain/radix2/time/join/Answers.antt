use Rattle.std.proofs.Common.{refl, ap, ◌∙◌}
use Rattle.ark_fft.proofs.Cost.{grows_twice}
use Rattle.ark_fft.proofs.domain.radix2.time.join.Goals as goal

pub add-requires : goal.add-requires
add-requires g c = g.met.T.Summand.can_add_meaning _ _

pub sub-requires : goal.sub-requires
sub-requires g c = g.met.T.Summand.can_sub_meaning _ _

pub returns-clause-sum : goal.returns-clause-sum
returns-clause-sum g c =
    g.met.T.Summand.add_meaning _ _ _ c.add.ensures ∙ ap (g.T.Summand.group.plus (g.T.Summand.meaning c.args.lo.now)) c.scale.ensures.product

pub returns-clause-difference : goal.returns-clause-difference
returns-clause-difference g c =
    let V = g.T.Summand.group in
    g.met.T.Summand.sub_meaning _ _ _ c.sub.ensures ∙ ap (λ x. V.plus (g.T.Summand.meaning c.args.lo.now) (V.negated x)) c.scale.ensures.product

pub returns-clause-counted : goal.returns-clause-counted
returns-clause-counted g c = grows_twice c.scale.ensures.counted c.butterfly.ensures refl refl refl
