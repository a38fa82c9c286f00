-- Different elements that are so, counted: those that are one thing or another, those of a list, those by what a function
-- makes of them.
use Rattle.std.proofs.Common.{◌≡◌, ◌≢◌, ◌⊎◌, inl, inr, ℕ, zero, suc, ◌+◌, ◌-◌, ◌*◌, ◌<◌, ◌≤◌, List, [], ◌∷◌, length, get_or, sym, ◌∙◌, subst, arith, ⊎_elim, suc-mul}
use Rattle.std.specs.Prelude.{Contains}
use Rattle.ark_sum_check.specs.Rounds.{AtMost}

-- one element before others
abbrev after : {A : Type 0} → A → (ℕ → A) → ℕ → A
after y x zero = y
after y x (suc i) = x i

module _ {A : Type 0} where
  pub AtMost-none : (n : ℕ) (P : A → Type 0) → ((x : A) → P x → ⊥) → AtMost n P
  AtMost-none n P none zero x apart so = omega arith
  AtMost-none n P none (suc k) x apart so = absurd (none (x 0) (so 0 (omega arith)))

  pub AtMost-one : (P : A → Type 0) → ((x y : A) → P x → P y → x ≡ y) → AtMost 1 P
  AtMost-one P same zero x apart so = omega arith
  AtMost-one P same (suc zero) x apart so = omega arith
  AtMost-one P same (suc (suc k)) x apart so = absurd (apart 0 1 (omega arith) (omega arith) (same (x 0) (x 1) (so 0 (omega arith)) (so 1 (omega arith))))

  pub AtMost-weaker : (n : ℕ) (P Q : A → Type 0) → ((x : A) → Q x → P x) → AtMost n P → AtMost n Q
  AtMost-weaker n P Q f h k x apart so = h k x apart (λ i l. f (x i) (so i l))

  -- beside one that is so there is one less
  AtMost-others : (n : ℕ) (P : A → Type 0) (y : A) → P y → AtMost n P → (0 < n) × AtMost (n - 1) (λ x. P x × (y ≢ x))
  AtMost-others n P y p h =
      let some : 1 ≤ n = h 1 (λ i. y) (λ i j l m. absurd (omega arith)) (λ i l. p) in (
        some,
        λ k x apart so.
            let more : suc k ≤ n = h (suc k) (after y x) (differ k x apart so) (are k x so) in
            omega arith,
      )
    where
      differ : (k : ℕ) (x : ℕ → A) → ((i j : ℕ) → i < j → j < k → x i ≢ x j) → ((i : ℕ) → i < k → P (x i) × (y ≢ x i)) → (i j : ℕ) → i < j → j < suc k → after y x i ≢ after y x j
      differ k x apart so zero zero l m = absurd (omega arith)
      differ k x apart so zero (suc j) l m = (so j (omega arith)).1
      differ k x apart so (suc i) zero l m = absurd (omega arith)
      differ k x apart so (suc i) (suc j) l m = apart i j (omega arith) (omega arith)

      are : (k : ℕ) (x : ℕ → A) → ((i : ℕ) → i < k → P (x i) × (y ≢ x i)) → (i : ℕ) → i < suc k → P (after y x i)
      are k x so zero l = p
      are k x so (suc i) l = (so i (omega arith)).0

  pub AtMost-either : (a b : ℕ) (P Q : A → Type 0) → AtMost a P → AtMost b Q → AtMost (a + b) (λ x. P x ⊎ Q x)
  AtMost-either a b P Q f g zero x apart so = omega arith
  AtMost-either a b P Q f g (suc k) x apart so = ⊎_elim
      (λ (p : P (x 0)).
      let o = AtMost-others a P (x 0) p f in
      let rest : k ≤ (a - 1) + b =
      AtMost-either (a - 1) b (λ y. P y × (x 0 ≢ y)) Q o.1 g k (λ i. x (suc i))
      (λ i j l m. apart (suc i) (suc j) (omega arith) (omega arith))
      (λ i l. ⊎_elim (λ (r : P (x (suc i))). inl (r, apart 0 (suc i) (omega arith) (omega arith))) (λ (r : Q (x (suc i))). inr r) (so (suc i) (omega arith))) in
      omega (arith, o.0))
      (λ (q : Q (x 0)).
      let o = AtMost-others b Q (x 0) q g in
      let rest : k ≤ a + (b - 1) =
      AtMost-either a (b - 1) P (λ y. Q y × (x 0 ≢ y)) f o.1 k (λ i. x (suc i))
      (λ i j l m. apart (suc i) (suc j) (omega arith) (omega arith))
      (λ i l. ⊎_elim (λ (r : P (x (suc i))). inl r) (λ (r : Q (x (suc i))). inr (r, apart 0 (suc i) (omega arith) (omega arith))) (so (suc i) (omega arith))) in
      omega (arith, o.0))
      (so 0 (omega arith))

  -- elements of a list
  pub AtMost-contained : (xs : List A) → AtMost (length xs) (Contains xs)
  AtMost-contained [] = AtMost-none 0 (Contains []) (λ x c. absurd (omega (arith, c.1)))
  AtMost-contained (y ∷ xs) =
      let s : 1 + length xs ≡ length (y ∷ xs) = omega arith in
      subst (λ n. AtMost n (Contains (y ∷ xs))) s
      (AtMost-weaker (1 + length xs) (λ x. (y ≡ x) ⊎ Contains xs x) (Contains (y ∷ xs)) cases
      (AtMost-either 1 (length xs) (λ x. y ≡ x) (Contains xs) (AtMost-one (λ x. y ≡ x) (λ a b e f. sym e ∙ f)) (AtMost-contained xs)))
    where
      at : (x : A) (k : ℕ) → k < length (y ∷ xs) → get_or (y ∷ xs) k x ≡ x → (y ≡ x) ⊎ Contains xs x
      at x zero l e = inl e
      at x (suc k) l e = inr (k, omega arith, e)

      cases : (x : A) → Contains (y ∷ xs) x → (y ≡ x) ⊎ Contains xs x
      cases x c = at x c.0 c.1 c.2

module _ {A B : Type 0} (f : A → B) where
  -- where f tells them apart
  pub AtMost-image : (n : ℕ) (P : A → Type 0) (Q : B → Type 0) → ((x y : A) → P x → P y → f x ≡ f y → x ≡ y) → ((x : A) → P x → Q (f x)) → AtMost n Q → AtMost n P
  AtMost-image n P Q one into h k x apart so =
      h k (λ i. f (x i)) (λ i j l m e. apart i j l m (one (x i) (x j) (so i (omega arith)) (so j m) e)) (λ i l. into (x i) (so i l))

  -- where f makes n things of them, and each one of b at most
  pub AtMost-by : ((x y : B) → (x ≡ y) ⊎ (x ≢ y)) → (n b : ℕ) (P : A → Type 0) (Q : B → Type 0) → ((x : A) → P x → Q (f x)) → AtMost n Q → ((y : B) → AtMost b (λ x. P x × (f x ≡ y))) → AtMost (n * b) P
  AtMost-by decide zero b P Q into few each zero x apart so = omega arith
  AtMost-by decide zero b P Q into few each (suc k) x apart so = absurd (omega (arith, (AtMost-others 0 Q (f (x 0)) (into (x 0) (so 0 (omega arith))) few).0))
  AtMost-by decide (suc n) b P Q into few each zero x apart so = omega arith
  AtMost-by decide (suc n) b P Q into few each (suc k) x apart so =
      let y = f (x 0) in
      let o = AtMost-others (suc n) Q y (into (x 0) (so 0 (omega arith))) few in
      let s : suc n - 1 ≡ n = omega arith in
      let t : b + n * b ≡ suc n * b = omega (arith, suc-mul n b) in
      subst (λ c. suc k ≤ c) t
      (AtMost-either b (n * b) (λ z. P z × (f z ≡ y)) (λ z. P z × (y ≢ f z)) (each y)
      (AtMost-by decide n b (λ z. P z × (y ≢ f z)) (λ z. Q z × (y ≢ z)) (λ z p. (into z p.0, p.1)) (subst (λ c. AtMost c (λ z. Q z × (y ≢ z))) s o.1)
      (λ z. AtMost-weaker b (λ w. P w × (f w ≡ z)) (λ w. (P w × (y ≢ f w)) × (f w ≡ z)) (λ w p. (p.0.0, p.1)) (each z)))
      (suc k) x apart
      (λ i l. ⊎_elim (λ (e : y ≡ f (x i)). inl (so i l, sym e)) (λ (e : y ≢ f (x i)). inr (so i l, e)) (decide y (f (x i)))))
