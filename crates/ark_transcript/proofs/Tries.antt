-- The tries of a challenge in a field.
use Rattle.std.proofs.Common.{◌≡◌, ◌≢◌, ℕ, zero, suc, ◌+◌, ◌-◌, ◌<◌, List, sym, ◌∙◌, ap, inl, inr, subst, arith}
use Rattle.std.specs.Int.{w64, from_le_bytes}
use Rattle.ark_math.specs.Field.{FieldOn, natural}
use Rattle.ark_math_formats.specs.Format.{Format, AreElements}
use Rattle.ark_transcript.specs.Calls.{Call}
use Rattle.ark_transcript.specs.Challenges.{IsChallenge, challenge_of, then_asked}

module _ {F : Type 0} (K : FieldOn F) (e : Format F) (size : ℕ) (label : List ℕ) where
  -- a challenge is one
  pub one_challenge : AreElements e size → (tries : ℕ) (calls : List Call) (x y : F) (after other : List Call) → IsChallenge K e size label tries calls x after → IsChallenge K e size label tries calls y other → (x ≡ y) × (after ≡ other)
  unfolding IsChallenge
  one_challenge A zero calls x y after other a b = (a.0 ∙ sym b.0, a.1 ∙ sym b.1)
  one_challenge A (suc tries) calls x y after other (inl a) (inl b) =
      (A.one_to_one x y (A.all x) (A.all y) (sym a.0 ∙ b.0), a.1 ∙ sym b.1)
  one_challenge A (suc tries) calls x y after other (inl a) (inr b) = absurd (b.0 x a.0)
  one_challenge A (suc tries) calls x y after other (inr a) (inl b) = absurd (a.0 y b.0)
  one_challenge A (suc tries) calls x y after other (inr a) (inr b) = one_challenge A tries (then_asked calls label size) x y after other a.1 b.1

  -- try i gives the element
  pub good_try : (i : ℕ) (calls : List Call) (x : F) (after : List Call) → i < 4096 → challenge_of calls label size ≡ e.spelling x → after ≡ then_asked calls label size → IsChallenge K e size label (4096 - i) calls x after
  unfolding IsChallenge
  good_try i calls x after below is next =
      let left : suc (4095 - i) ≡ 4096 - i = omega (arith, below) in
      subst (λ t. IsChallenge K e size label t calls x after) left (inl (is, next))

  -- try i gives none
  pub failed_try : (i : ℕ) (calls next : List Call) (x : F) (after : List Call) → i < 4096 → ((y : F) → challenge_of calls label size ≢ e.spelling y) → next ≡ then_asked calls label size → IsChallenge K e size label (4096 - (i + 1)) next x after → IsChallenge K e size label (4096 - i) calls x after
  unfolding IsChallenge
  failed_try i calls next x after below none asked rest =
      let left : suc (4096 - (i + 1)) ≡ 4096 - i = omega (arith, below) in
      let later = subst (λ cs. IsChallenge K e size label (4096 - (i + 1)) cs x after) asked rest in
      subst (λ t. IsChallenge K e size label t calls x after) left (inr (none, later))

  -- after the last try
  pub last_try : (i n : ℕ) (calls : List Call) (x : F) (after : List Call) → 4096 - i ≡ 0 → x ≡ natural K n → n ≡ from_le_bytes w64 (challenge_of calls label 8) → after ≡ then_asked calls label 8 → IsChallenge K e size label (4096 - i) calls x after
  unfolding IsChallenge
  last_try i n calls x after none is number next =
      subst (λ t. IsChallenge K e size label t calls x after) (sym none) (is ∙ ap (λ m. natural K m) number, next)
