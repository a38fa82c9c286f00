-- How many vectors have an item that is bad after the items before it, where at most d items are bad after each.
use Rattle.std.proofs.Common.{◌≡◌, ◌≢◌, ◌⊎◌, inl, inr, ℕ, zero, suc, ◌+◌, ◌-◌, ◌*◌, ◌^◌, List, [], ◌∷◌, ◌++◌, refl, sym, ◌∙◌, ap, ap₂, subst, arith, ⊎_elim, add-mul, mul_assoc, mul_comm, pow-suc, suc-mul}
use Rattle.std.proofs.Math.Nat.{pow-zero}
use Rattle.ark_sum_check.specs.Rounds.{AtMost}
use Rattle.ark_sum_check.proofs.AtMost.{AtMost-by, AtMost-either, AtMost-image, AtMost-none, AtMost-one, AtMost-weaker}

-- m items, each of which is so
abbrev pub IsOver : {A : Type 0} → (A → Type 0) → ℕ → List A → Type 0
IsOver C zero [] = Unit {0}
IsOver C zero (x ∷ xs) = ⊥
IsOver C (suc m) [] = ⊥
IsOver C (suc m) (x ∷ xs) = C x × IsOver C m xs

-- an item is bad after those before it
abbrev pub HasBad : {A : Type 0} → (List A → A → Type 0) → List A → Type 0
HasBad bad [] = ⊥
HasBad bad (x ∷ xs) = bad [] x ⊎ HasBad (λ before. bad (x ∷ before)) xs

pub HasBad-at : {A : Type 0} (bad : List A → A → Type 0) (before : List A) (x : A) (after : List A) → bad before x → HasBad bad (before ++ x ∷ after)
HasBad-at bad [] x after h = inl h
HasBad-at bad (y ∷ before) x after h = inr (HasBad-at (λ b. bad (y ∷ b)) before x after h)

-- the first item, or o where there is none, and the others
abbrev pub first : {A : Type 0} → A → List A → A
first o [] = o
first o (x ∷ xs) = x

abbrev pub rest : {A : Type 0} → List A → List A
rest [] = []
rest (x ∷ xs) = xs

module _ {A : Type 0} (o : A) (C : A → Type 0) where
  first_over : (m : ℕ) (v : List A) → IsOver C (suc m) v → C (first o v)
  first_over m [] h = absurd h
  first_over m (x ∷ xs) h = h.0

  rest_over : (m : ℕ) (v : List A) → IsOver C (suc m) v → IsOver C m (rest v)
  rest_over m [] h = absurd h
  rest_over m (x ∷ xs) h = h.1

  one_over : (m : ℕ) (v w : List A) → IsOver C (suc m) v → IsOver C (suc m) w → first o v ≡ first o w → rest v ≡ rest w → v ≡ w
  one_over m [] w h g e f = absurd h
  one_over m (x ∷ xs) [] h g e f = absurd g
  one_over m (x ∷ xs) (y ∷ ys) h g e f = ap₂ (λ z zs. z ∷ zs) e f

  none_over : (v : List A) → IsOver C 0 v → v ≡ []
  none_over [] h = refl
  none_over (x ∷ xs) h = absurd h

  -- those with one first item are as few as what is left of them
  of_first : (m b : ℕ) (y : A) (P Q : List A → Type 0) → ((v : List A) → P v → IsOver C (suc m) v × (first o v ≡ y → Q (rest v))) → AtMost b Q → AtMost b (λ v. P v × (first o v ≡ y))
  of_first m b y P Q h few =
      AtMost-image rest b (λ v. P v × (first o v ≡ y)) Q
      (λ v w p q e. one_over m v w (h v p.0).0 (h w q.0).0 (p.1 ∙ sym q.1) e)
      (λ v p. (h v p.0).1 p.1) few

  module _ (decide : (x y : A) → (x ≡ y) ⊎ (x ≢ y)) (s : ℕ) (choices : AtMost s C) where
    -- all vectors
    all_vectors : (m : ℕ) → AtMost (s ^ m) (IsOver C m)
    all_vectors zero =
        subst (λ n. AtMost n (IsOver C 0)) (sym (pow-zero s)) (AtMost-one (IsOver C 0) (λ v w h g. none_over v h ∙ sym (none_over w g)))
    all_vectors (suc m) =
        subst (λ n. AtMost n (IsOver C (suc m))) (mul_comm s (s ^ m) ∙ sym (pow-suc s m))
        (AtMost-by (first o) decide s (s ^ m) (IsOver C (suc m)) C (first_over m) choices
        (λ y. of_first m (s ^ m) y (IsOver C (suc m)) (IsOver C m) (λ v h. (h, λ e. rest_over m v h)) (all_vectors m)))

    split : (m : ℕ) (bad : List A → A → Type 0) (v : List A) → IsOver C (suc m) v → HasBad bad v → bad [] (first o v) ⊎ HasBad (λ b. bad (first o v ∷ b)) (rest v)
    split m bad [] h b = absurd h
    split m bad (x ∷ xs) h b = b

    one_more : (d m : ℕ) → s * (m * d * s ^ (m - 1)) ≡ m * d * s ^ m
    one_more d zero = omega arith
    one_more d (suc k) =
        let e : suc k - 1 ≡ k = omega arith in
        let c = suc k * d in
        mul_comm s (c * s ^ (suc k - 1)) ∙ mul_assoc c (s ^ (suc k - 1)) s ∙ ap (λ n. c * (s ^ n * s)) e ∙ ap (λ n. c * n) (sym (pow-suc s k))

    total : (d m : ℕ) → d * s ^ m + s * (m * d * s ^ (m - 1)) ≡ suc m * d * s ^ (suc m - 1)
    total d m =
        let e : suc m - 1 ≡ m = omega arith in
        let f : d + m * d ≡ suc m * d = omega (arith, suc-mul m d) in
        ap (λ n. d * s ^ m + n) (one_more d m) ∙ sym (add-mul d (m * d) (s ^ m)) ∙ ap₂ (λ n k. n * s ^ k) f (sym e)

    pub few_bad : (d m : ℕ) (bad : List A → A → Type 0) → ((before : List A) → AtMost d (bad before)) → AtMost (m * d * s ^ (m - 1)) (λ v. IsOver C m v × HasBad bad v)
    few_bad d zero bad few =
        AtMost-none (0 * d * s ^ (0 - 1)) (λ v. IsOver C 0 v × HasBad bad v) (λ v h. subst (HasBad bad) (none_over v h.0) h.1)
    few_bad d (suc m) bad few =
        let n = m * d * s ^ (m - 1) in
        let P = λ (v : List A). IsOver C (suc m) v × bad [] (first o v) in
        let Q = λ (v : List A). IsOver C (suc m) v × HasBad (λ b. bad (first o v ∷ b)) (rest v) in
        let left : AtMost (d * s ^ m) P =
        AtMost-by (first o) decide d (s ^ m) P (bad []) (λ v h. h.1) (few [])
        (λ y. of_first m (s ^ m) y P (IsOver C m) (λ v h. (h.0, λ e. rest_over m v h.0)) (all_vectors m)) in
        let right : AtMost (s * n) Q =
        AtMost-by (first o) decide s n Q C (λ v h. first_over m v h.0) choices
        (λ y. of_first m n y Q (λ v. IsOver C m v × HasBad (λ b. bad (y ∷ b)) v)
        (λ v h. (h.0, λ e. (rest_over m v h.0, subst (λ x. HasBad (λ b. bad (x ∷ b)) (rest v)) e h.1)))
        (few_bad d m (λ b. bad (y ∷ b)) (λ b. few (y ∷ b)))) in
        subst (λ k. AtMost k (λ v. IsOver C (suc m) v × HasBad bad v)) (total d m)
        (AtMost-weaker (d * s ^ m + s * n) (λ v. P v ⊎ Q v) (λ v. IsOver C (suc m) v × HasBad bad v)
        (λ v h. ⊎_elim (λ (b : bad [] (first o v)). inl (h.0, b)) (λ (b : HasBad (λ b. bad (first o v ∷ b)) (rest v)). inr (h.0, b)) (split m bad v h.0 h.1))
        (AtMost-either (d * s ^ m) (s * n) P Q left right))
