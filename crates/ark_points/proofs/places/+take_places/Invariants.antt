use Rattle.ark_points.proofs.places.+take_places.Given as goal

abbrev pub decreases-take_places : goal.decreases-take_places
decreases-take_places g l = l.size
