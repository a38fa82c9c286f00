use Rattle.std.proofs.Common.{◌++◌, rules, arith, append_assoc, ap, ap₂, ◌∙◌}
use Rattle.shards_format.specs.Headers.{header_bytes}
use Rattle.shards_buffers.specs.Sizes.{piece_size}
use Rattle.shards_buffers.proofs.LastBytes.{both_parts}
use Rattle.shards_buffers.proofs.Sized.{sized_front}
use Rattle.shards_buffers.proofs.opening.first_piece.Goals as goal

pub returns-in_err-header-clause-none : goal.returns-in_err-header-clause-none
returns-in_err-header-clause-none g c = λ none i label_len piece rest z same.
    let header = header_bytes (g.C.StripeCode.k_of c.args.code.now) (g.C.StripeCode.n_of c.args.code.now) i label_len in
    c.in_err-header.ensures.none (search rules) i label_len (z.behind ++ rest) z.below z.short (same ∙ ap (λ xs. xs ++ rest) z.is ∙ append_assoc header z.behind rest)

pub returns-clause-piece : goal.returns-clause-piece
returns-clause-piece g c =
    let k = g.C.StripeCode.k_of c.args.code.now in
    let n = g.C.StripeCode.n_of c.args.code.now in
    let header = c.in_ok-header.header in
    let begins = c.in_ok-header.ensures.header in
    let piece = c.split_at.result.0.now in
    let behind = c.split_at.result.1.now in
    let size = c.in_ok-size.ensures.size ∙ ap₂ (λ x y. piece_size x y header.number header.label_len c.args.len) c.k.ensures.k c.n.ensures.n in
    sized_front k n c.args.len header.number header.label_len c.args.pieces.now begins.0 piece behind c.in_ok-header.ensures.below header.short
    (omega (arith, c.split_at.ensures.front_len, size, c.if-pieces-size.false)) begins.1 (both_parts _ c.args.pieces.now piece behind c.split_at.ensures.front c.split_at.ensures.back)
