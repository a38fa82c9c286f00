-- Rounds that a verifier takes one after the other, with the challenges as they are drawn.
use Rattle.std.proofs.Common.{◌≡◌, ℕ, suc, ◌+◌, ◌<◌, ◌≤◌, List, [], ◌∷◌, ◌++◌, length, get_or, take, refl, sym, ◌∙◌, ap, ap₂, subst, arith, append_assoc, length-append, take_all, Vec, Global}
use Rattle.std.proofs.lemmas.List.{append-nil}
use Rattle.ark_math.specs.Field.{FieldOn}
use Rattle.ark_sum_check.specs.Rounds.{AddsUp, AreAccepted, AreChallenged, IsDetermined, IsRefusedAt, IsRound, Round, challenges, rounds_at}
use Rattle.ark_sum_check.proofs.Vectors.{first, rest}

-- after these rounds c is claimed of those that are left
pub record IsReached {F : Type 0} (K : FieldOn F) (d : ℕ) (claim : F) (done : List (Round F)) (c : F) : Type 0 where
  pub whole : (more : List (Round F)) (last : F) → AreAccepted K d c more last → AreAccepted K d claim (done ++ more) last
  pub only : (more : List (Round F)) (last : F) → AreAccepted K d claim (done ++ more) last → AreAccepted K d c more last
  pub refused : (more : List (Round F)) (j : ℕ) → IsRefusedAt K d c more j → IsRefusedAt K d claim (done ++ more) (length done + j)

module _ {F : Type 0} (K : FieldOn F) (d : ℕ) (claim : F) where
  pub IsReached-none : IsReached K d claim [] claim
  IsReached-none = record {
    whole = λ more last h. h;
    only = λ more last h. h;
    refused = λ more j h. let s : j ≡ 0 + j = omega arith in subst (IsRefusedAt K d claim more) s h;
  }

  pub IsReached-more : (done : List (Round F)) (r : Round F) (c next : F) → IsReached K d claim done c → IsRound K d c r next → ((y : F) → IsRound K d c r y → y ≡ next) → IsReached K d claim (done ++ r ∷ []) next
  IsReached-more done r c next h f one =
      record {
        whole = λ more last g. subst (λ us. AreAccepted K d claim us last) (sym (append_assoc done (r ∷ []) more)) (h.whole (r ∷ more) last (next, f, g));
        only = λ more last g.
            let a = h.only (r ∷ more) last (subst (λ us. AreAccepted K d claim us last) (append_assoc done (r ∷ []) more) g) in
            subst (λ y. AreAccepted K d y more last) (one a.0 a.1) a.2;
        refused = λ more j g.
            let s : length done + suc j ≡ length (done ++ r ∷ []) + j = omega (arith, length-append done (r ∷ [])) in
            subst (IsRefusedAt K d claim ((done ++ r ∷ []) ++ more)) s
            (subst (λ us. IsRefusedAt K d claim us (length done + suc j)) (sym (append_assoc done (r ∷ []) more)) (h.refused (r ∷ more) (suc j) (next, f, g)));
      }

  pub IsReached-accepted : (done : List (Round F)) (c : F) → IsReached K d claim done c → AreAccepted K d claim done c
  IsReached-accepted done c h = subst (λ us. AreAccepted K d claim us c) (append-nil done) (h.whole [] c refl)

  pub IsReached-last : (done : List (Round F)) (c last : F) → IsReached K d claim done c → AreAccepted K d claim done last → c ≡ last
  IsReached-last done c last h g = h.only [] last (subst (λ us. AreAccepted K d claim us last) (sym (append-nil done)) g)

  -- a round that doesn't add up is refused, and whatever comes after it nothing is accepted
  pub IsReached-refused : (done : List (Round F)) (r : Round F) (c : F) (i : ℕ) → length done ≡ i → IsReached K d claim done c → (AddsUp K d c r.values → ⊥) → IsRefusedAt K d claim (done ++ r ∷ []) i
  IsReached-refused done r c i e h wrong =
      let s : length done + 0 ≡ i = omega (arith, e) in
      subst (IsRefusedAt K d claim (done ++ r ∷ [])) s (h.refused (r ∷ []) 0 wrong)

  pub IsReached-never : (done : List (Round F)) (r : Round F) (c last : F) (more : List (Round F)) → IsReached K d claim done c → (AddsUp K d c r.values → ⊥) → AreAccepted K d claim ((done ++ r ∷ []) ++ more) last → ⊥
  IsReached-never done r c last more h wrong g =
      wrong (h.only (r ∷ more) last (subst (λ us. AreAccepted K d claim us last) (append_assoc done (r ∷ []) more) g)).1.adds_up

-- ---- what was sent, with the challenges

module _ {F : Type 0} where
  pub rounds_at-none : (vs : List (Vec F Global)) → rounds_at vs [] ≡ []
  rounds_at-none [] = refl
  rounds_at-none (v ∷ vs) = refl

  -- one challenge more, for values that were sent
  pub rounds_at-drawn : (vs : List (Vec F Global)) (xs : List F) (v : Vec F Global) (x : F) → length xs < length vs → v ≡ get_or vs (length xs) v → rounds_at vs (xs ++ x ∷ []) ≡ rounds_at vs xs ++ record { values = v.items; challenge = x } ∷ []
  rounds_at-drawn [] xs v x l e = absurd (omega (arith, l))
  rounds_at-drawn (u ∷ vs) [] v x l e = ap₂ (λ (w : Vec F Global) us. record { values = w.items; challenge = x } ∷ us) (sym e) (rounds_at-none vs)
  rounds_at-drawn (u ∷ vs) (y ∷ xs) v x l e = ap (λ us. record { values = u.items; challenge = y } ∷ us) (rounds_at-drawn vs xs v x (omega arith) e)

  -- one round more
  pub rounds_at-push : (vs : List (Vec F Global)) (xs : List F) (v : Vec F Global) (x : F) → length vs ≡ length xs → rounds_at (vs ++ v ∷ []) (xs ++ x ∷ []) ≡ rounds_at vs xs ++ record { values = v.items; challenge = x } ∷ []
  rounds_at-push [] [] v x e = refl
  rounds_at-push [] (y ∷ xs) v x e = absurd (omega (arith, e))
  rounds_at-push (u ∷ vs) [] v x e = absurd (omega (arith, e))
  rounds_at-push (u ∷ vs) (y ∷ xs) v x e = ap (λ us. record { values = u.items; challenge = y } ∷ us) (rounds_at-push vs xs v x (omega arith))

  pub length-rounds_at : (vs : List (Vec F Global)) (xs : List F) → length xs ≤ length vs → length (rounds_at vs xs) ≡ length xs
  length-rounds_at [] [] l = refl
  length-rounds_at [] (x ∷ xs) l = absurd (omega (arith, l))
  length-rounds_at (v ∷ vs) [] l = refl
  length-rounds_at (v ∷ vs) (x ∷ xs) l = ap suc (length-rounds_at vs xs (omega arith))

  pub challenges-rounds_at : (vs : List (Vec F Global)) (xs : List F) → length xs ≤ length vs → challenges (rounds_at vs xs) ≡ xs
  challenges-rounds_at [] [] l = refl
  challenges-rounds_at [] (x ∷ xs) l = absurd (omega (arith, l))
  challenges-rounds_at (v ∷ vs) [] l = refl
  challenges-rounds_at (v ∷ vs) (x ∷ xs) l = ap (λ ys. x ∷ ys) (challenges-rounds_at vs xs (omega arith))

  -- challenges that begin with others
  pub rounds_at-front : (vs : List (Vec F Global)) (ys xs : List F) → length ys ≤ length vs → take (length ys) xs ≡ ys → (more : List (Round F)) × (rounds_at vs xs ≡ rounds_at vs ys ++ more)
  rounds_at-front vs [] xs l e = (rounds_at vs xs, ap (λ us. us ++ rounds_at vs xs) (sym (rounds_at-none vs)))
  rounds_at-front [] (y ∷ ys) xs l e = absurd (omega (arith, l))
  rounds_at-front (v ∷ vs) (y ∷ ys) [] l e = let n : 0 ≡ suc (length ys) = ap length e in absurd (omega (arith, n))
  rounds_at-front (v ∷ vs) (y ∷ ys) (x ∷ xs) l e =
      let h = rounds_at-front vs ys xs (omega arith) (ap rest e) in
      (h.0, ap₂ (λ z us. record { values = v.items; challenge = z } ∷ us) (ap (first x) e) h.1)

  -- where challenges are determined, those that are drawn for the same values begin alike
  pub one_drawn : {C : Type 0} (gives : C → List F → F → C → Type 0) → IsDetermined gives → (vs : List (Vec F Global)) (ys xs : List F) (a b e : C) → length ys ≤ length xs → length xs ≤ length vs → AreChallenged gives a (rounds_at vs ys) b → AreChallenged gives a (rounds_at vs xs) e → take (length ys) xs ≡ ys
  one_drawn gives one vs [] xs a b e l m h k = refl
  one_drawn gives one vs (y ∷ ys) [] a b e l m h k = absurd (omega (arith, l))
  one_drawn gives one [] (y ∷ ys) (x ∷ xs) a b e l m h k = absurd (omega (arith, m))
  one_drawn gives one (v ∷ vs) (y ∷ ys) (x ∷ xs) a b e l m h k =
      let same = one a v.items x y k.0 h.0 k.1 h.1 in
      ap₂ (λ z zs. z ∷ zs) same.0 (one_drawn gives one vs ys xs h.0 b e (omega arith) (omega arith) h.2 (subst (λ c. AreChallenged gives c (rounds_at vs xs) e) same.1 k.2))

-- ---- where challenges are determined

module _ {F C : Type 0} (K : FieldOn F) (d : ℕ) (claim : F) (gives : C → List F → F → C → Type 0) (one : IsDetermined gives) (vs : List (Vec F Global)) (a : C) (xs : List F) (end : C) (value : F) (count : length xs ≡ length vs) (drawn : AreChallenged gives a (rounds_at vs xs) end) (accepted : AreAccepted K d claim (rounds_at vs xs) value) where
  -- all rounds are taken
  pub all_taken : (ys : List F) (b : C) (c : F) → length ys ≡ length vs → AreChallenged gives a (rounds_at vs ys) b → IsReached K d claim (rounds_at vs ys) c → (ys ≡ xs) × (c ≡ value)
  all_taken ys b c n h r =
      let all : length ys ≡ length xs = n ∙ sym count in
      let same : ys ≡ xs = sym (one_drawn gives one vs ys xs a b end (omega (arith, all)) (omega (arith, count)) h drawn) ∙ ap (λ k. take k xs) all ∙ take_all (length xs) xs (omega arith) in (
        same,
        IsReached-last K d claim (rounds_at vs ys) c value r (subst (λ zs. AreAccepted K d claim (rounds_at vs zs) value) (sym same) accepted),
      )

  -- none is refused
  pub none_refused : (ys : List F) (v : Vec F Global) (x : F) (b : C) (c : F) → length ys < length vs → v ≡ get_or vs (length ys) v → AreChallenged gives a (rounds_at vs (ys ++ x ∷ [])) b → IsReached K d claim (rounds_at vs ys) c → (AddsUp K d c v.items → ⊥) → ⊥
  none_refused ys v x b c l e h r wrong =
      let zs = ys ++ x ∷ [] in
      let n : length zs ≡ length ys + 1 = length-append ys (x ∷ []) in
      let front = rounds_at-front vs zs xs (omega arith) (one_drawn gives one vs zs xs a b end (omega (arith, count)) (omega (arith, count)) h drawn) in
      IsReached-never K d claim (rounds_at vs ys) (record { values = v.items; challenge = x }) c value front.0 r wrong
      (subst (λ us. AreAccepted K d claim us value) (front.1 ∙ ap (λ us. us ++ front.0) (rounds_at-drawn vs ys v x l e)) accepted)
