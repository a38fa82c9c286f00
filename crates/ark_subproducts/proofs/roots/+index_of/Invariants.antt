use Rattle.ark_subproducts.proofs.roots.+index_of.Given as goal

abbrev pub decreases-index_of : goal.decreases-index_of
decreases-index_of g l = l.count
