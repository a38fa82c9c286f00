use Rattle.std.proofs.Common.{rules, ◌≡◌, ◌⊎◌, ℕ, ◌<◌, List, length, Err, sym, subst, arith, inl, inr, refl}
use Rattle.shards_format.specs.Files.{AreDigests}
use Rattle.shards_streams.proofs.Results.{if_err, if_err_map}
use Rattle.shards_buffers.specs.declared.error.BufferError.TheVariants.{Memory, NotPieces}
use Rattle.shards_buffers.specs.Runs.{HasTrailer}
use Rattle.shards_buffers.proofs.Rejoined.{enough_end, one_trailer}
use Rattle.shards_buffers.proofs.joining.join.Goals as goal

pub returns-in_err-trailer-clause-refused : goal.returns-in_err-trailer-clause-refused
returns-in_err-trailer-clause-refused g c =
    let code = g.C.StripeCode in
    let k = code.k_of c.args.code.now in
    let n = code.n_of c.args.code.now in
    let run = c.args.pieces.now in
    let some : 0 < k = omega (arith, c.k.ensures.positive, c.k.ensures.k) in
    if_err_map c.from_residual.result (λ e. (e ≡ Memory) ⊎ ((e ≡ NotPieces) × ((digests : List ℕ) (len : ℕ) → ¬ HasTrailer c.n.result digests len run))) _
    (λ e errors label file p. elim errors [
      | inl memory ↦ inl memory
      | inr none ↦ absurd (none.1 p.digests (length file) (subst (λ m. HasTrailer m p.digests (length file) run) (sym c.n.ensures.n) (enough_end code.number k n label file run p some)))
    ]) (search rules)

pub returns-then-trailer-bytes-clause-refused : goal.returns-then-trailer-bytes-clause-refused
returns-then-trailer-bytes-clause-refused g c = λ label file p.
    let code = g.C.StripeCode in
    let k = code.k_of c.args.code.now in
    let n = code.n_of c.args.code.now in
    let run = c.args.pieces.now in
    let some : 0 < k = omega (arith, c.k.ensures.positive, c.k.ensures.k) in
    let trailer = c.in_ok-trailer.trailer in
    let mine : HasTrailer n trailer.digests.items trailer.len run = subst (λ m. HasTrailer m trailer.digests.items trailer.len run) c.n.ensures.n c.in_ok-trailer.ensures.trailer in
    let same = one_trailer n run trailer.digests.items p.digests trailer.len (length file) mine (enough_end code.number k n label file run p some) in
    inr (refl, λ size. omega (arith, same.1, size, c.if-trailer-bytes.true))

pub returns-in_err-joined-clause-refused : goal.returns-in_err-joined-clause-refused
returns-in_err-joined-clause-refused g c =
    let code = g.C.StripeCode in
    let k = code.k_of c.args.code.now in
    let n = code.n_of c.args.code.now in
    let run = c.args.pieces.now in
    let some : 0 < k = omega (arith, c.k.ensures.positive, c.k.ensures.k) in
    let trailer = c.in_ok-trailer.trailer in
    let mine : HasTrailer n trailer.digests.items trailer.len run = subst (λ m. HasTrailer m trailer.digests.items trailer.len run) c.n.ensures.n c.in_ok-trailer.ensures.trailer in
    let error = c.in_err-joined.field-0.0 in
    let is : c.from_residual-in_err-joined.result ≡ Err error = search rules in
    if_err c.from_residual-in_err-joined.result error _ is (λ label file p.
    let same = one_trailer n run trailer.digests.items p.digests trailer.len (length file) mine (enough_end code.number k n label file run p some) in
    inl (c.in_err-joined.ensures.refused label file p (sym same.0) (sym same.1)))

pub returns-clause-same : goal.returns-clause-same
returns-clause-same g c = λ label file p.
    let code = g.C.StripeCode in
    let k = code.k_of c.args.code.now in
    let n = code.n_of c.args.code.now in
    let run = c.args.pieces.now in
    let some : 0 < k = omega (arith, c.k.ensures.positive, c.k.ensures.k) in
    let trailer = c.in_ok-trailer.trailer in
    let mine : HasTrailer n trailer.digests.items trailer.len run = subst (λ m. HasTrailer m trailer.digests.items trailer.len run) c.n.ensures.n c.in_ok-trailer.ensures.trailer in
    let same = one_trailer n run trailer.digests.items p.digests trailer.len (length file) mine (enough_end code.number k n label file run p some) in
    let is = c.in_ok-joined.ensures.same label file p (sym same.1) in
    search rules

pub returns-clause-trusted : goal.returns-clause-trusted
returns-clause-trusted g c = λ label file q.
    let code = g.C.StripeCode in
    let k = code.k_of c.args.code.now in
    let n = code.n_of c.args.code.now in
    let run = c.args.pieces.now in
    let trailer = c.in_ok-trailer.trailer in
    let mine : HasTrailer n trailer.digests.items trailer.len run = subst (λ m. HasTrailer m trailer.digests.items trailer.len run) c.n.ensures.n c.in_ok-trailer.ensures.trailer in
    let same = one_trailer n run trailer.digests.items q.digests trailer.len (length file) mine q.trailer in
    let listed : AreDigests code.number k n label file trailer.digests.items = subst (λ (ds : List ℕ). AreDigests code.number k n label file ds) (sym same.0) q.digests_are in
    let is = c.in_ok-joined.ensures.trusted label file q.file listed (sym same.1) in
    search rules
