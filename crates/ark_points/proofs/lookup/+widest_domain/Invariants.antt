use Rattle.ark_points.proofs.lookup.+widest_domain.Given as goal

abbrev pub decreases-widest_domain : goal.decreases-widest_domain
decreases-widest_domain g l = l.doublings
