use Rattle.std.proofs.Common.{◌∙◌, sym}
use Rattle.shards_format.proofs.TrailerLists.{one_set}
use Rattle.shards_format.proofs.trailer.Trailer.is_of_set.Goals as goal

pub returns-clause-same : goal.returns-clause-same
returns-clause-same c = λ yes.
    one_set c.args.self.now.digests.items c.args.other.now.digests.items c.args.self.now.len c.args.other.now.len c.args.self.now.few c.args.other.now.few
    (sym c.name.ensures ∙ c.are_same.ensures.0 yes ∙ c.name-2.ensures)
