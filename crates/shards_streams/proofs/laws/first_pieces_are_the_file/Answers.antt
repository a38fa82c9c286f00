use Rattle.std.proofs.Common.{ℕ, ◌*◌, ◌+◌, ◌<◌, length, get_or, arith}
use Rattle.shards_format.specs.Stripes.{stripe, stripes}
use Rattle.shards_format.specs.Pieces.{block_size, chunk}
use Rattle.shards_format.proofs.BlockLists.{item_small}
use Rattle.shards_format.proofs.JoinLists.{small_chunk}
use Rattle.shards_streams.proofs.FirstPieces.{part_of_run}
use Rattle.shards_streams.proofs.laws.first_pieces_are_the_file.Goals as goal

pub returns : goal.returns
returns g c =
    let code = g.C.StripeCode in
    let k = code.k_of c.args.code.now in
    let n = code.n_of c.args.code.now in
    let i = c.args.i in
    let b = c.args.b in
    let block = chunk (block_size k) b c.args.bytes.now in
    let small : (j : ℕ) → get_or block j 0 < 256 = small_chunk (block_size k) b c.args.bytes.now (λ j. omega (arith, c.type_inv.bytes j)) in
    let count = stripes k (length block) in
    part_of_run code.number k n i block (chunk _ b c.args.body.now) small
    (λ s. g.met.C.StripeCode.systematic k n (stripe count block s) i c.k.ensures.has c.requires.data (item_small block (i * count + s) small))
    ((c.requires.body.parts b c.requires.block).plain c.requires.data)
