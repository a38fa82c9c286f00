use Rattle.std.proofs.Common.{rules, ◌≡◌, ◌⊎◌, ℕ, ◌<◌, List, ◌++◌, length, get_or, Result, Some, Err, sym, ap, ◌∙◌, subst, subst₂, arith, inl, inr, refl, []}
use Rattle.sha2.specs.Sha256.{sha256}
use Rattle.shards_format.specs.Pieces.{body_size, chunk}
use Rattle.shards_format.specs.Files.{AreApart, CollidesWithPiece}
use Rattle.shards_streams.specs.Joining.{HaveHeads}
use Rattle.shards_streams.proofs.PartsRead.{some_item}
use Rattle.shards_streams.proofs.Results.{if_err_map}
use Rattle.shards_buffers.specs.declared.error.BufferError.{BufferError}
use Rattle.shards_buffers.specs.declared.error.BufferError.TheVariants.{Memory, NotPieces}
use Rattle.shards_buffers.specs.Runs.{AreSized}
use Rattle.shards_buffers.specs.Opened.{HaveOpened}
use Rattle.shards_buffers.proofs.Opened.{Reader, below, collided, damaged, has_head, has_text}
use Rattle.shards_buffers.proofs.Rejoined.{first_sized, have_bodies, have_digests}
use Rattle.shards_buffers.proofs.joining.joined.Goals as goal

error_is : {T : Type 0} {x y : BufferError} → ◌≡◌ {A = Result T BufferError} (Err x) (Err y) → x ≡ y
error_is same = search rules

pub returns-in_err-places-clause-refused : goal.returns-in_err-places-clause-refused
returns-in_err-places-clause-refused g c =
    let code = g.C.StripeCode in
    let k = code.k_of c.args.code.now in
    let n = code.n_of c.args.code.now in
    let len = c.args.trailer.now.len in
    let run = c.args.pieces.now in
    if_err_map c.from_residual.result (λ e. (e ≡ Memory) ⊎ ((e ≡ NotPieces) × (¬ AreSized k n len run))) _
    (λ e errors label file p same size. elim errors [
      | inl memory ↦ memory
      | inr none ↦ absurd (none.1 (subst (λ l. AreSized k n l run) size (first_sized code.number k n label file run p)))
    ]) (search rules)

pub invariant_of-chosen : goal.invariant_of-chosen
invariant_of-chosen g c =
    let k = g.C.StripeCode.k_of c.args.code.now in
    let n = g.C.StripeCode.n_of c.args.code.now in
    let o = c.in_ok-places.ensures.opened in
    let places = c.in_ok-places.places.items in
    record {
      apart = subst (λ (xs : List ℕ). AreApart xs) (sym c.deref.ensures.value) c.in_ok-places.ensures.apart;
      small = λ a h.
          let low : a < k = omega (arith, h, ap length c.deref.ensures.value, o.1.as_many) in
          omega (arith, ap (λ (xs : List ℕ). get_or xs a 0) c.deref.ensures.value, below k n c.args.trailer.now.len k c.args.pieces.now o.0 places c.in_ok-places.readers.items o.1 a low, c.open_pieces.ensures.few);
    }

pub join_into-requires-clause-below : goal.join_into-requires-clause-below
join_into-requires-clause-below g c = λ a h.
    let k = g.C.StripeCode.k_of c.args.code.now in
    let n = g.C.StripeCode.n_of c.args.code.now in
    let o = c.in_ok-places.ensures.opened in
    let low : a < k = omega (arith, h, ap length c.deref.ensures.value, o.1.as_many) in
    omega (arith, ap (λ (xs : List ℕ). get_or xs a 0) c.deref.ensures.value, below k n c.args.trailer.now.len k c.args.pieces.now o.0 c.in_ok-places.places.items c.in_ok-places.readers.items o.1 a low)

pub returns-in-Ok-clause-same : goal.returns-in-Ok-clause-same
returns-in-Ok-clause-same g c = λ label file p size.
    let code = g.C.StripeCode in
    let k = code.k_of c.args.code.now in
    let n = code.n_of c.args.code.now in
    let run = c.args.pieces.now in
    let o = c.in_ok-places.ensures.opened in
    let places = c.deref.result.now in
    let readers = c.as_mut_slice.result.now in
    let mine : HaveOpened k n c.args.trailer.now.len k run o.0 places readers =
    subst₂ (λ (ps : List ℕ) (rs : List Reader). HaveOpened k n c.args.trailer.now.len k run o.0 ps rs) (sym c.deref.ensures.value) (sym c.as_mut_slice.ensures.value) o.1 in
    let opened = subst (λ l. HaveOpened k n l k run o.0 places readers) (sym size) mine in
    c.in-Ok.ensures.known file p.file.small size (have_bodies code.number k n label file run p c.open_pieces.ensures.few o.0 places readers opened) ∙ ap (λ (xs : List ℕ). xs ++ file) c.new-sink.ensures

pub returns-in-Ok-clause-trusted : goal.returns-in-Ok-clause-trusted
returns-in-Ok-clause-trusted g c = λ label file is listed size.
    let code = g.C.StripeCode in
    let k = code.k_of c.args.code.now in
    let n = code.n_of c.args.code.now in
    let run = c.args.pieces.now in
    let o = c.in_ok-places.ensures.opened in
    let places = c.deref.result.now in
    let readers = c.as_mut_slice.result.now in
    let mine : HaveOpened k n c.args.trailer.now.len k run o.0 places readers =
    subst₂ (λ (ps : List ℕ) (rs : List Reader). HaveOpened k n c.args.trailer.now.len k run o.0 ps rs) (sym c.deref.ensures.value) (sym c.as_mut_slice.ensures.value) o.1 in
    let opened : HaveOpened k n (length file) k run o.0 places readers = subst (λ l. HaveOpened k n l k run o.0 places readers) (sym size) mine in
    let apart : AreApart places = subst (λ (xs : List ℕ). AreApart xs) (sym c.deref.ensures.value) c.in_ok-places.ensures.apart in
    let heads : HaveHeads k n places readers = λ a d h.
    let head = has_head k n (length file) (get_or places a 0) (get_or opened.pieces a []) (get_or readers a d) (opened.each a d h) in
    (head.label, head.short, head.read) in
    elim (c.in-Ok.ensures.file label file is.small listed is.short size heads) [
      | inl appends ↦ inl (appends ∙ ap (λ (xs : List ℕ). xs ++ file) c.new-sink.ensures)
      | inr collision ↦
          let a = collision.a in
          let d = collision.d in
          let place = get_or places a 0 in
          let head = has_head k n (length file) place (get_or opened.pieces a []) (get_or readers a d) (opened.each a d collision.inside) in
          let text = head.text collision.body _ collision.takes.consumes collision.len_is in
          inr (collided code.number k n label file run o.0 places readers opened apart a collision.inside
          (subst (λ (xs : List ℕ). CollidesWithPiece code.number k n label file place xs) (sym text) collision.collides))
    ]

pub returns-clause-refused : goal.returns-clause-refused
returns-clause-refused g c = λ label file p same size.
    let code = g.C.StripeCode in
    let k = code.k_of c.args.code.now in
    let n = code.n_of c.args.code.now in
    let run = c.args.pieces.now in
    let o = c.in_ok-places.ensures.opened in
    let places = c.deref.result.now in
    let readers = c.as_mut_slice.result.now in
    let mine : HaveOpened k n c.args.trailer.now.len k run o.0 places readers =
    subst₂ (λ (ps : List ℕ) (rs : List Reader). HaveOpened k n c.args.trailer.now.len k run o.0 ps rs) (sym c.deref.ensures.value) (sym c.as_mut_slice.ensures.value) o.1 in
    let opened : HaveOpened k n (length file) k run o.0 places readers = subst (λ l. HaveOpened k n l k run o.0 places readers) (sym size) mine in
    let few = c.open_pieces.ensures.few in
    elim c.in-Err.ensures.errors [
      | inl memory ↦ c.in_buffers.ensures.memory memory
      | inr (inl write) ↦ c.in_buffers.ensures.sink 0 write
      | inr (inr (inl read)) ↦
          let d = some_item readers (omega (arith, read.1)) in
          let l : read.0 < k = omega (arith, read.1, opened.all) in
          absurd (omega (
            arith,
            c.join_into.ensures.read file read.0 d l (c.in-Err.is ∙ ap Err read.2) p.file.small size
                (have_bodies code.number k n label file run p few o.0 places readers opened),
          ))
      | inr (inr (inr lost)) ↦
          let a = lost.0 in
          let d = some_item readers (omega (arith, lost.1)) in
          let l : a < k = omega (arith, lost.1, opened.all) in
          let place = get_or places a 0 in
          let text = has_text k n (length file) place (get_or opened.pieces a []) (get_or readers a d) (opened.each a d l) in
          let digest = have_digests code.number k n label file run p few o.0 places readers opened a d l in
          absurd (c.join_into.ensures.whole a d text.head text.body text.rest l text.read (ap Some text.is) (text.len_is ∙ ap (body_size k place) size)
          (ap (chunk 32 place) (sym same) ∙ digest ∙ ap sha256 text.text) (c.in-Err.is ∙ ap Err lost.2))
    ]

pub returns-clause-damaged : goal.returns-clause-damaged
returns-clause-damaged g c = λ is.
    let code = g.C.StripeCode in
    let k = code.k_of c.args.code.now in
    let n = code.n_of c.args.code.now in
    let len = c.args.trailer.now.len in
    let digests = c.args.trailer.now.digests.items in
    let run = c.args.pieces.now in
    let o = c.in_ok-places.ensures.opened in
    let places = c.deref.result.now in
    let readers = c.as_mut_slice.result.now in
    let opened : HaveOpened k n len k run o.0 places readers =
    subst₂ (λ (ps : List ℕ) (rs : List Reader). HaveOpened k n len k run o.0 ps rs) (sym c.deref.ensures.value) (sym c.as_mut_slice.ensures.value) o.1 in
    let apart : AreApart places = subst (λ (xs : List ℕ). AreApart xs) (sym c.deref.ensures.value) c.in_ok-places.ensures.apart in
    let told = c.in_buffers.ensures.damaged (error_is is) in
    elim c.in-Err.ensures.errors [
      | inl memory ↦ absurd (cc (sym memory ∙ told.1))
      | inr (inl write) ↦ absurd (cc (sym write ∙ told.1))
      | inr (inr (inl read)) ↦ absurd (cc (sym read.2 ∙ told.1))
      | inr (inr (inr lost)) ↦
          let a = lost.0 in
          let d = some_item readers (omega (arith, lost.1)) in
          let l : a < k = omega (arith, lost.1, opened.all) in
          let text = has_text k n len (get_or places a 0) (get_or opened.pieces a []) (get_or readers a d) (opened.each a d l) in
          damaged k n len k run o.0 places readers opened refl apart digests a l (λ same. c.join_into.ensures.whole a d text.head text.body text.rest l text.read (ap Some text.is) text.len_is
          (same ∙ ap sha256 text.text) (c.in-Err.is ∙ ap Err lost.2))
    ]
