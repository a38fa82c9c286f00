use Rattle.std.proofs.Common.{List, ℕ, subst}
use Rattle.shards_format.specs.Places.{AreMissing}
use Rattle.shards_format.proofs.PlaceLists.{different_all, different_given}
use Rattle.shards_format.proofs.extenders.different_places.Goals as goal

pub returns-clause-given : goal.returns-clause-given
returns-clause-given c =
    let missing = c.in_ok-missing.missing.items in
    let places = c.in_ok-places.places.items in
    let twice : AreMissing c.args.n missing places = subst (λ (m : List ℕ). AreMissing c.args.n m places) c.deref.ensures.value c.in_ok-places.ensures in
    different_given c.args.n c.args.numbers.now missing places c.in_ok-missing.ensures twice

pub returns-clause-all : goal.returns-clause-all
returns-clause-all c =
    let missing = c.in_ok-missing.missing.items in
    let places = c.in_ok-places.places.items in
    let twice : AreMissing c.args.n missing places = subst (λ (m : List ℕ). AreMissing c.args.n m places) c.deref.ensures.value c.in_ok-places.ensures in
    different_all c.args.n c.args.numbers.now missing places c.in_ok-missing.ensures twice
