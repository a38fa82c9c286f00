use Rattle.std.proofs.Common.{◌<◌, arith}
use Rattle.ark_words.proofs.EqualPoints.{some_of}
use Rattle.ark_words.proofs.WordLists.{each_number}
use Rattle.ark_words.proofs.interpolations.item_at.Goals as goal

pub unwrap-requires : goal.unwrap-requires
unwrap-requires g c =
    let below = each_number (λ x. x < g.F.PrimeNumbers.modulus) g.F.WordElement.WIDTH c.args.words.now c.requires.reduced c.args.i c.requires.inside in
    let above = rw c.WIDTH-width.ensures at c.from_words.ensures.none in
    some_of c.from_words.result (λ none. let not_below = above.0 none in omega arith)
