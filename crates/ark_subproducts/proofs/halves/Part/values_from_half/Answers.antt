use Rattle.ark_subproducts.proofs.TableProducts.{begun_from_half}
use Rattle.ark_subproducts.proofs.halves.Part.values_from_half.Goals as goal

pub extended-requires-clause-begun : goal.extended-requires-clause-begun
extended-requires-clause-begun g c =
    let part = c.args.self.now in
    begun_from_half g.F.Field.field part.blocks.now c.args.coeffs.now c.args.known part.count c.requires.many c.requires.part.power c.requires.few c.requires.known
