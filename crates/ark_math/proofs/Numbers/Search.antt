-- What is looked for below a number is there, or nowhere.
use Rattle.std.proofs.Common.{◌≡◌, ◌≢◌, ℕ, zero, suc, ◌<◌, ◌⊎◌, inl, inr, subst, arith, ⊎_elim}
use Rattle.std.proofs.lemmas.Bool.{cases_eq}

-- a search below n
pub search_below : (P : ℕ → Type 0) (n : ℕ) → ((i : ℕ) → i < n → P i ⊎ (P i → ⊥)) → ((i : ℕ) × (i < n) × P i) ⊎ ((i : ℕ) → i < n → P i → ⊥)
search_below P zero decide = inr (λ i l. absurd (omega arith))
search_below P (suc n) decide =
    ⊎_elim
    (λ h. inl (h.0, omega arith, h.2))
    (λ none. ⊎_elim
    (λ here. inl (n, omega arith, here))
    (λ ne. inr (λ i l p. ⊎_elim (λ (e : i ≡ n). ne (subst P e p)) (λ (f : i ≢ n). none i (omega arith) p) (cases_eq i n)))
    (decide n (omega arith)))
    (search_below P n (λ i l. decide i (omega arith)))
