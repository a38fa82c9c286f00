use Rattle.ark_traits.proofs.Inversions.{AreProducts, AreInverted}
use Rattle.ark_traits.proofs.inversion.batch_inversion.Given as goal

abbrev pub invariant-loop-i : goal.invariant-loop-i
invariant-loop-i g l = AreProducts g.F.Field.field (λ x. g.F.PartialEq.eq x g.F.Zero.zero) l.items l.products.items l.i l.next l.after

abbrev pub invariant-loop-i-2 : goal.invariant-loop-i-2
invariant-loop-i-2 g l = AreInverted g.F.Field.field (λ x. g.F.PartialEq.eq x g.F.Zero.zero) l.fn.items l.items l.i l.next_inverse l.after_inverse
