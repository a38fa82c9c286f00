use Rattle.std.proofs.Common.{◌≡◌, ℕ, ◌<◌, ◌*◌, inr, arith, length, get_or, List, [], map, sym, subst, ap, ◌∙◌, Vec, Global}
use Rattle.std.specs.Io.KnownBytes.{Appends}
use Rattle.sha2.specs.Sha256.{sha256}
use Rattle.ark_bytes.specs.Transfer.{AppendsBeginning}
use Rattle.ark_bytes.specs.Reading.{source_state, SourceState}
use Rattle.shards_format.specs.Headers.{head_bytes}
use Rattle.shards_format.specs.Trailers.{trailer_bytes}
use Rattle.shards_format.specs.Pieces.{chunk}
use Rattle.shards_streams.specs.declared.writer.PieceWriter.{PieceWriter}
use Rattle.shards_streams.specs.Writers.{piece_sink, HasHashed, Took, TookSome}
use Rattle.shards_streams.proofs.Results.{err_any}
use Rattle.shards_streams.proofs.Pieces.{heads_stopped, bodies_stopped, bodies_taken, ends_stopped, all_written}
use Rattle.shards_streams.proofs.splitting.split_into.Goals as goal

pub returns-in_err-put_each-clause-beginnings : goal.returns-in_err-put_each-clause-beginnings
returns-in_err-put_each-clause-beginnings g c =
    let code = g.C.StripeCode in
    let state : g.row.R.Denot → SourceState = λ r. source_state g.R.Source.remaining g.R.Source.failures r in
    let k = code.k_of c.args.code.now in
    let n = code.n_of c.args.code.now in
    let label = c.args.label.now in
    let view : Vec ℕ Global → List ℕ = λ head. head.items in
    let len : length c.deref.result.now ≡ n = ap length c.deref.ensures.value ∙ c.in_ok-heads.ensures.len in
    let took : (i : ℕ) (d : PieceWriter g.row.W.Denot) → i < n → TookSome g.W.Sink (get_or c.args.writers.now i d) (get_or c.put_each.new.writers i d) (head_bytes k n i label) = λ i d h.
    subst (λ (xs : List ℕ). TookSome g.W.Sink (get_or c.args.writers.now i d) (get_or c.put_each.new.writers i d) xs) (ap (λ (xs : List (Vec ℕ Global)). get_or (map view xs) i []) c.deref.ensures.value ∙ c.in_ok-heads.ensures.heads i h)
    (c.in_err-put_each.ensures.some i d (subst (λ m. i < m) (sym len) h)) in
    err_any _ _ (inr (heads_stopped g.W.Sink code.number k n label c.in_ok-heads.ensures.some c.args.writers.now c.put_each.new.writers (g.R.Source.remaining c.args.source.now) took))

pub returns-in_err-len-clause-beginnings : goal.returns-in_err-len-clause-beginnings
returns-in_err-len-clause-beginnings g c =
    let code = g.C.StripeCode in
    let state : g.row.R.Denot → SourceState = λ r. source_state g.R.Source.remaining g.R.Source.failures r in
    let k = code.k_of c.args.code.now in
    let n = code.n_of c.args.code.now in
    let label = c.args.label.now in
    let view : Vec ℕ Global → List ℕ = λ head. head.items in
    let len : length c.deref.result.now ≡ n = ap length c.deref.ensures.value ∙ c.in_ok-heads.ensures.len in
    let first : (i : ℕ) (d : PieceWriter g.row.W.Denot) → i < n → Took g.W.Sink (get_or c.args.writers.now i d) (get_or c.put_each.new.writers i d) (head_bytes k n i label) = λ i d h.
    subst (λ (xs : List ℕ). Took g.W.Sink (get_or c.args.writers.now i d) (get_or c.put_each.new.writers i d) xs) (ap (λ (xs : List (Vec ℕ Global)). get_or (map view xs) i []) c.deref.ensures.value ∙ c.in_ok-heads.ensures.heads i h)
    (c.in_ok-put_each.ensures.took i d (subst (λ m. i < m) (sym len) h)) in
    err_any _ _ (inr (bodies_stopped g.W.Sink code.number k n label c.in_ok-heads.ensures.some c.args.writers.now c.put_each.new.writers first (g.R.Source.remaining c.args.source.now) (g.R.Source.remaining c.put_bodies.new.source) c.put_bodies.new.writers c.in_err-len.ensures.some))

pub returns-in_err-digests_of-clause-beginnings : goal.returns-in_err-digests_of-clause-beginnings
returns-in_err-digests_of-clause-beginnings g c =
    let code = g.C.StripeCode in
    let state : g.row.R.Denot → SourceState = λ r. source_state g.R.Source.remaining g.R.Source.failures r in
    let k = code.k_of c.args.code.now in
    let n = code.n_of c.args.code.now in
    let label = c.args.label.now in
    let view : Vec ℕ Global → List ℕ = λ head. head.items in
    let len : length c.deref.result.now ≡ n = ap length c.deref.ensures.value ∙ c.in_ok-heads.ensures.len in
    let first : (i : ℕ) (d : PieceWriter g.row.W.Denot) → i < n → Took g.W.Sink (get_or c.args.writers.now i d) (get_or c.put_each.new.writers i d) (head_bytes k n i label) = λ i d h.
    subst (λ (xs : List ℕ). Took g.W.Sink (get_or c.args.writers.now i d) (get_or c.put_each.new.writers i d) xs) (ap (λ (xs : List (Vec ℕ Global)). get_or (map view xs) i []) c.deref.ensures.value ∙ c.in_ok-heads.ensures.heads i h)
    (c.in_ok-put_each.ensures.took i d (subst (λ m. i < m) (sym len) h)) in
    let fresh : (i : ℕ) (d : PieceWriter g.row.W.Denot) → i < n → HasHashed (get_or c.args.writers.now i d) [] = λ i d h. c.requires.new i d (subst (λ m. i < m) (sym c.requires.writers) h) in
    let all : length c.put_bodies.new.writers ≡ n = c.put_bodies.ensures.len ∙ c.put_each.ensures.len ∙ c.requires.writers in
    let kept : (i : ℕ) (d : PieceWriter g.row.W.Denot) → i < n → piece_sink (get_or c.digests_of.new.writers i d) ≡ piece_sink (get_or c.put_bodies.new.writers i d) = λ i d h.
    c.digests_of.ensures.kept i d (subst (λ m. i < m) (sym all) h) in
    err_any _ _ (inr (bodies_taken g.W.Sink code.number k n label c.in_ok-heads.ensures.some c.args.writers.now c.put_each.new.writers first fresh c.in_ok-len.len (state c.args.source.now) (state c.put_bodies.new.source) c.put_bodies.new.writers c.in_ok-len.ensures.took c.digests_of.new.writers kept))

pub returns-in_err-end-clause-beginnings : goal.returns-in_err-end-clause-beginnings
returns-in_err-end-clause-beginnings g c =
    let code = g.C.StripeCode in
    let state : g.row.R.Denot → SourceState = λ r. source_state g.R.Source.remaining g.R.Source.failures r in
    let k = code.k_of c.args.code.now in
    let n = code.n_of c.args.code.now in
    let label = c.args.label.now in
    let view : Vec ℕ Global → List ℕ = λ head. head.items in
    let len : length c.deref.result.now ≡ n = ap length c.deref.ensures.value ∙ c.in_ok-heads.ensures.len in
    let first : (i : ℕ) (d : PieceWriter g.row.W.Denot) → i < n → Took g.W.Sink (get_or c.args.writers.now i d) (get_or c.put_each.new.writers i d) (head_bytes k n i label) = λ i d h.
    subst (λ (xs : List ℕ). Took g.W.Sink (get_or c.args.writers.now i d) (get_or c.put_each.new.writers i d) xs) (ap (λ (xs : List (Vec ℕ Global)). get_or (map view xs) i []) c.deref.ensures.value ∙ c.in_ok-heads.ensures.heads i h)
    (c.in_ok-put_each.ensures.took i d (subst (λ m. i < m) (sym len) h)) in
    let fresh : (i : ℕ) (d : PieceWriter g.row.W.Denot) → i < n → HasHashed (get_or c.args.writers.now i d) [] = λ i d h. c.requires.new i d (subst (λ m. i < m) (sym c.requires.writers) h) in
    let all : length c.put_bodies.new.writers ≡ n = c.put_bodies.ensures.len ∙ c.put_each.ensures.len ∙ c.requires.writers in
    let kept : (i : ℕ) (d : PieceWriter g.row.W.Denot) → i < n → piece_sink (get_or c.digests_of.new.writers i d) ≡ piece_sink (get_or c.put_bodies.new.writers i d) = λ i d h.
    c.digests_of.ensures.kept i d (subst (λ m. i < m) (sym all) h) in
    err_any _ _ (inr (bodies_taken g.W.Sink code.number k n label c.in_ok-heads.ensures.some c.args.writers.now c.put_each.new.writers first fresh c.in_ok-len.len (state c.args.source.now) (state c.put_bodies.new.source) c.put_bodies.new.writers c.in_ok-len.ensures.took c.digests_of.new.writers kept))

pub returns-in_err-put_behind_each-clause-beginnings : goal.returns-in_err-put_behind_each-clause-beginnings
returns-in_err-put_behind_each-clause-beginnings g c =
    let code = g.C.StripeCode in
    let state : g.row.R.Denot → SourceState = λ r. source_state g.R.Source.remaining g.R.Source.failures r in
    let k = code.k_of c.args.code.now in
    let n = code.n_of c.args.code.now in
    let label = c.args.label.now in
    let view : Vec ℕ Global → List ℕ = λ head. head.items in
    let len : length c.deref.result.now ≡ n = ap length c.deref.ensures.value ∙ c.in_ok-heads.ensures.len in
    let first : (i : ℕ) (d : PieceWriter g.row.W.Denot) → i < n → Took g.W.Sink (get_or c.args.writers.now i d) (get_or c.put_each.new.writers i d) (head_bytes k n i label) = λ i d h.
    subst (λ (xs : List ℕ). Took g.W.Sink (get_or c.args.writers.now i d) (get_or c.put_each.new.writers i d) xs) (ap (λ (xs : List (Vec ℕ Global)). get_or (map view xs) i []) c.deref.ensures.value ∙ c.in_ok-heads.ensures.heads i h)
    (c.in_ok-put_each.ensures.took i d (subst (λ m. i < m) (sym len) h)) in
    let fresh : (i : ℕ) (d : PieceWriter g.row.W.Denot) → i < n → HasHashed (get_or c.args.writers.now i d) [] = λ i d h. c.requires.new i d (subst (λ m. i < m) (sym c.requires.writers) h) in
    let all : length c.put_bodies.new.writers ≡ n = c.put_bodies.ensures.len ∙ c.put_each.ensures.len ∙ c.requires.writers in
    let kept : (i : ℕ) (d : PieceWriter g.row.W.Denot) → i < n → piece_sink (get_or c.digests_of.new.writers i d) ≡ piece_sink (get_or c.put_bodies.new.writers i d) = λ i d h.
    c.digests_of.ensures.kept i d (subst (λ m. i < m) (sym all) h) in
    let more : 0 < length c.put_bodies.new.writers = omega (arith, all, c.in_ok-heads.ensures.some, c.in_ok-heads.ensures.fits) in
    let listed : (i : ℕ) (d : PieceWriter g.row.W.Denot) (text : List ℕ) → i < n → HasHashed (get_or c.put_bodies.new.writers i d) text → chunk 32 i c.in_ok-digests_of.field-0.items ≡ sha256 text = λ i d text h held.
    c.in_ok-digests_of.ensures.digests i d text (subst (λ m. i < m) (sym all) h) held in
    let count : length c.in_ok-digests_of.field-0.items ≡ 32 * n = c.in_ok-digests_of.ensures.count ∙ ap (λ m. 32 * m) all in
    let end : c.deref-2.result.now ≡ trailer_bytes c.in_ok-digests_of.field-0.items c.in_ok-len.len = c.deref-2.ensures.value ∙ c.in_ok-end.ensures in
    let done : length c.digests_of.new.writers ≡ n = c.digests_of.ensures.len ∙ all in
    let last : (i : ℕ) (d : PieceWriter g.row.W.Denot) → i < n → AppendsBeginning (g.W.Sink.contents (piece_sink (get_or c.digests_of.new.writers i d))) (g.W.Sink.contents (piece_sink (get_or c.put_behind_each.new.writers i d))) (trailer_bytes c.in_ok-digests_of.field-0.items c.in_ok-len.len) = λ i d h.
    subst (λ (xs : List ℕ). AppendsBeginning (g.W.Sink.contents (piece_sink (get_or c.digests_of.new.writers i d))) (g.W.Sink.contents (piece_sink (get_or c.put_behind_each.new.writers i d))) xs) end
    (c.in_err-put_behind_each.ensures.some i d (subst (λ m. i < m) (sym done) h)) in
    err_any _ _ (inr (ends_stopped g.W.Sink code.number k n label c.in_ok-heads.ensures.some c.args.writers.now c.put_each.new.writers first fresh c.in_ok-len.len (state c.args.source.now) (state c.put_bodies.new.source) c.put_bodies.new.writers c.in_ok-len.ensures.took c.in_ok-digests_of.field-0.items count listed c.digests_of.new.writers c.put_behind_each.new.writers kept more last))

pub returns-clause-pieces : goal.returns-clause-pieces
returns-clause-pieces g c =
    let code = g.C.StripeCode in
    let state : g.row.R.Denot → SourceState = λ r. source_state g.R.Source.remaining g.R.Source.failures r in
    let k = code.k_of c.args.code.now in
    let n = code.n_of c.args.code.now in
    let label = c.args.label.now in
    let view : Vec ℕ Global → List ℕ = λ head. head.items in
    let len : length c.deref.result.now ≡ n = ap length c.deref.ensures.value ∙ c.in_ok-heads.ensures.len in
    let first : (i : ℕ) (d : PieceWriter g.row.W.Denot) → i < n → Took g.W.Sink (get_or c.args.writers.now i d) (get_or c.put_each.new.writers i d) (head_bytes k n i label) = λ i d h.
    subst (λ (xs : List ℕ). Took g.W.Sink (get_or c.args.writers.now i d) (get_or c.put_each.new.writers i d) xs) (ap (λ (xs : List (Vec ℕ Global)). get_or (map view xs) i []) c.deref.ensures.value ∙ c.in_ok-heads.ensures.heads i h)
    (c.in_ok-put_each.ensures.took i d (subst (λ m. i < m) (sym len) h)) in
    let fresh : (i : ℕ) (d : PieceWriter g.row.W.Denot) → i < n → HasHashed (get_or c.args.writers.now i d) [] = λ i d h. c.requires.new i d (subst (λ m. i < m) (sym c.requires.writers) h) in
    let all : length c.put_bodies.new.writers ≡ n = c.put_bodies.ensures.len ∙ c.put_each.ensures.len ∙ c.requires.writers in
    let kept : (i : ℕ) (d : PieceWriter g.row.W.Denot) → i < n → piece_sink (get_or c.digests_of.new.writers i d) ≡ piece_sink (get_or c.put_bodies.new.writers i d) = λ i d h.
    c.digests_of.ensures.kept i d (subst (λ m. i < m) (sym all) h) in
    let more : 0 < length c.put_bodies.new.writers = omega (arith, all, c.in_ok-heads.ensures.some, c.in_ok-heads.ensures.fits) in
    let listed : (i : ℕ) (d : PieceWriter g.row.W.Denot) (text : List ℕ) → i < n → HasHashed (get_or c.put_bodies.new.writers i d) text → chunk 32 i c.in_ok-digests_of.field-0.items ≡ sha256 text = λ i d text h held.
    c.in_ok-digests_of.ensures.digests i d text (subst (λ m. i < m) (sym all) h) held in
    let count : length c.in_ok-digests_of.field-0.items ≡ 32 * n = c.in_ok-digests_of.ensures.count ∙ ap (λ m. 32 * m) all in
    let end : c.deref-2.result.now ≡ trailer_bytes c.in_ok-digests_of.field-0.items c.in_ok-len.len = c.deref-2.ensures.value ∙ c.in_ok-end.ensures in
    let done : length c.digests_of.new.writers ≡ n = c.digests_of.ensures.len ∙ all in
    let last : (i : ℕ) (d : PieceWriter g.row.W.Denot) → i < n → Appends (g.W.Sink.contents (piece_sink (get_or c.digests_of.new.writers i d))) (g.W.Sink.contents (piece_sink (get_or c.put_behind_each.new.writers i d))) (trailer_bytes c.in_ok-digests_of.field-0.items c.in_ok-len.len) = λ i d h.
    subst (λ (xs : List ℕ). Appends (g.W.Sink.contents (piece_sink (get_or c.digests_of.new.writers i d))) (g.W.Sink.contents (piece_sink (get_or c.put_behind_each.new.writers i d))) xs) end
    (c.in_ok-put_behind_each.ensures.took i d (subst (λ m. i < m) (sym done) h)) in
    all_written g.W.Sink code.number k n label c.in_ok-heads.ensures.some c.args.writers.now c.put_each.new.writers first fresh c.in_ok-len.len (state c.args.source.now) (state c.put_bodies.new.source) c.put_bodies.new.writers c.in_ok-len.ensures.took c.in_ok-digests_of.field-0.items count listed c.digests_of.new.writers c.put_behind_each.new.writers kept more last
