use Rattle.std.proofs.Common.{subst, sym, ◌∙◌}
use Rattle.ark_bit_reversed.specs.Blocks.{AreRoots, element_of}
use Rattle.ark_bit_reversed.proofs.table.BlockRoots.element.Goals as goal

pub returns : goal.returns
returns g c =
    let K = g.F.Field.field in
    let x = element_of K c.args.self.now in
    c.element.ensures x (subst (AreRoots K x) (sym (c.deref.ensures.value ∙ c.self.view_is)) (subst (λ t. AreRoots K (element_of K t) t) c.self.view_is c.self.invariant.roots))
