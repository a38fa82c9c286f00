use Rattle.std.proofs.Common.{length, sym, subst}
use Rattle.ark_subproducts.specs.Tree.{IsMonic}
use Rattle.ark_subproducts.proofs.Nodes.{nodes_monic}
use Rattle.ark_subproducts.proofs.tree.SubproductTree+F.product.Goals as goal

pub returns-clause-monic : goal.returns-clause-monic
returns-clause-monic g c points tree = subst (IsMonic g.F.Field.field (length points)) (sym (c.whole.ensures points tree)) (nodes_monic g.F.Field.field g.met.F.Field.field_laws points)
