-- What the number of an outcome tells of a call over pieces.
use Rattle.std.proofs.Common.{◌≡◌, ◌≢◌, ◌↔◌, ◌⊎◌, ◌==◌, ℕ, List, length, Result, Ok, Err, OnOk, OnErr, IfErr, if◌then◌else◌, refl, sym, ap, subst, ◌∙◌, rules, inl, inr}
use Rattle.shards_buffers.specs.declared.error.BufferError.{BufferError}
use Rattle.shards_buffers.specs.declared.error.BufferError.TheVariants.{Memory, Length, NotPieces, Damaged}
use Rattle.ark_c.specs.Pieces.{piece_status_of}

-- a call's result
abbrev pub PieceOutcome : Type 0
PieceOutcome = Result (Unit {0}) BufferError

-- what a number stands for
abbrev answer_of : ℕ → PieceOutcome
answer_of n =
    if n == 0 then Ok tt
    else if n == 1 then Err Memory
    else if n == 3 then Err Length
    else if n == 10 then Err NotPieces
    else Err Damaged

back : (r : PieceOutcome) → answer_of (piece_status_of r) ≡ r
back (Ok done) = refl
back (Err Memory) = refl
back (Err Length) = refl
back (Err NotPieces) = refl
back (Err Damaged) = refl

pub not_memory : NotPieces ≢ Memory
not_memory e = search rules

not_length : NotPieces ≢ Length
not_length e = search rules

pub error_is : {T : Type 0} {x y : BufferError} → ◌≡◌ {A = Result T BufferError} (Err x) (Err y) → x ≡ y
error_is same = search rules

-- a code that all lists of a length have adds no condition to it
pub same_condition : {S A B : Type 0} → (B → A) → (S ↔ (¬ (A × B))) → (S ↔ (¬ B))
same_condition all h = ((λ s b. h.0 s (all b, b)), (λ no. h.1 (λ both. no both.1)))

-- an error tells whether there are pieces of a file
abbrev pub Taken : (List ℕ → List ℕ → Type 0) → Type 0 → ℕ → BufferError → Type 0
Taken P Code len x = (label bytes : List ℕ) → Code → P label bytes → (x ≡ Memory) ⊎ ((x ≡ Length) × (length bytes ≢ len))

module _ {status : ℕ} where
  one_outcome : (r q : PieceOutcome) → status ≡ piece_status_of r → status ≡ piece_status_of q → r ≡ q
  one_outcome r q e z = sym (back r) ∙ ap answer_of (sym e ∙ z) ∙ back q

  pub on_done : {D : Type 0} (r : PieceOutcome) → status ≡ piece_status_of r → OnOk r D → status ≡ 0 → D
  on_done {D} r e h z = subst (λ o. OnOk o D) (one_outcome r (Ok tt) e z) h

  -- what holds but where a length is wrong
  pub but_length : {D : Type 0} (r : PieceOutcome) → status ≡ piece_status_of r → (r ≢ Err Length → D) → status ≢ 3 → D
  but_length r e h other = h (λ is. other (e ∙ ap piece_status_of is))

  pub on_error : {D : Type 0} (r : PieceOutcome) → status ≡ piece_status_of r → OnErr r D → status ≢ 0 → D
  on_error (Ok done) e h other = absurd (other e)
  on_error (Err x) e h other = h

  pub exactly : {C : Type 0} (x : BufferError) (r : PieceOutcome) → status ≡ piece_status_of r → (r ≡ Err x) ↔ C → (status ≡ piece_status_of (Err x)) ↔ C
  exactly x r e h = ((λ z. h.0 (one_outcome r (Err x) e z)), (λ c. e ∙ ap piece_status_of (h.1 c)))

  pub only : {C : Type 0} (x : BufferError) (r : PieceOutcome) → status ≡ piece_status_of r → (r ≡ Err x → C) → status ≡ piece_status_of (Err x) → C
  only x r e h z = h (one_outcome r (Err x) e z)

  -- each number is one of these
  pub any_number : (r : PieceOutcome) → status ≡ piece_status_of r → (status ≡ 0) ⊎ ((status ≡ 1) ⊎ ((status ≡ 3) ⊎ ((status ≡ 10) ⊎ (status ≡ 11))))
  any_number (Ok done) e = inl e
  any_number (Err Memory) e = inr (inl e)
  any_number (Err Length) e = inr (inr (inl e))
  any_number (Err NotPieces) e = inr (inr (inr (inl e)))
  any_number (Err Damaged) e = inr (inr (inr (inr e)))

  pub undamaged_number : (r : PieceOutcome) → status ≡ piece_status_of r → r ≢ Err Damaged → (status ≡ 0) ⊎ ((status ≡ 1) ⊎ ((status ≡ 3) ⊎ (status ≡ 10)))
  undamaged_number (Ok done) e h = inl e
  undamaged_number (Err Memory) e h = inr (inl e)
  undamaged_number (Err Length) e h = inr (inr (inl e))
  undamaged_number (Err NotPieces) e h = inr (inr (inr e))
  undamaged_number (Err Damaged) e h = absurd (h refl)

  pub plain_number : (r : PieceOutcome) → status ≡ piece_status_of r → IfErr r (λ x. (x ≡ Memory) ⊎ (x ≡ Length)) → (status ≡ 0) ⊎ ((status ≡ 1) ⊎ (status ≡ 3))
  plain_number (Ok done) e h = inl e
  plain_number (Err x) e h = elim h [
    | inl memory ↦ inr (inl (e ∙ ap (λ y. piece_status_of (Err y)) memory))
    | inr len ↦ inr (inr (e ∙ ap (λ y. piece_status_of (Err y)) len))
  ]

  module _ (P : List ℕ → List ℕ → Type 0) (Code : Type 0) (len : ℕ) where
    -- pieces of a file are taken
    pub taken_number : (r : PieceOutcome) → status ≡ piece_status_of r → IfErr r (Taken P Code len) → (label bytes : List ℕ) → Code → length bytes ≡ len → P label bytes → (status ≡ 0) ⊎ (status ≡ 1)
    taken_number (Ok done) e h label bytes code size p = inl e
    taken_number (Err x) e h label bytes code size p = elim (h label bytes code p) [
      | inl memory ↦ inr (e ∙ ap (λ y. piece_status_of (Err y)) memory)
      | inr len ↦ absurd (len.1 size)
    ]

    -- and never are no pieces
    pub no_pieces : (r : PieceOutcome) → status ≡ piece_status_of r → IfErr r (Taken P Code len) → (r ≢ Err Length → Code) → status ≡ 10 → (label bytes : List ℕ) → ¬ P label bytes
    no_pieces r e h code z label bytes p =
        let is : r ≡ Err NotPieces = one_outcome r (Err NotPieces) e z in
        let own : Taken P Code len NotPieces = subst (λ o. IfErr o (Taken P Code len)) is h in
        let other : r ≢ Err Length = λ l. not_length (error_is (sym is ∙ l)) in
        elim (own label bytes (code other) p) [
          | inl memory ↦ not_memory memory
          | inr len ↦ not_length len.0
        ]
