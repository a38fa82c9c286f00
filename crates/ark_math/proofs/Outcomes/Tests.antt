-- Tests that decide a fact.
use Rattle.std.proofs.Common.{◌≡◌, ◌⊎◌, inl, inr, Bool, true, false, Decides, refl, sym, true≢false}

pub refuted : {b : Bool} {P : Type 0} → Decides b P → (P → ⊥) → b ≡ false
refuted {b = true} d n = absurd (n (d.0 refl))
refuted {b = false} d n = refl

pub decided : {P : Type 0} (b : Bool) → Decides b P → P ⊎ (P → ⊥)
decided true d = inl (d.0 refl)
decided false d = inr (λ p. absurd (true≢false (sym (d.1 p))))
