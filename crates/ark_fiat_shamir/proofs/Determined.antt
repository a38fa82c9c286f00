-- After the same calls there is one challenge, and one list of calls after it.
use Rattle.std.proofs.Common.{◌≡◌, ℕ, List, [], ◌∷◌, sym, ◌∙◌, subst}
use Rattle.ark_math.specs.Field.{FieldOn}
use Rattle.ark_math_formats.specs.Format.{Format, AreElements}
use Rattle.ark_transcript.proofs.Tries.{one_challenge}
use Rattle.ark_sum_check.specs.Rounds.{AreChallenged, IsDetermined, Round}
use Rattle.ark_fiat_shamir.specs.Derived.{IsRoundChallenge, after_values, challenge_label}

module _ {F : Type 0} (K : FieldOn F) (e : Format F) (size : ℕ) (A : AreElements e size) where
  pub determined : IsDetermined (IsRoundChallenge K e size)
  determined calls values x y after other h k =
      one_challenge K e size challenge_label A 4096 (after_values e values calls) x y after other h k

-- the same rounds from one state lead to one
pub one_end : {F C : Type 0} (gives : C → List F → F → C → Type 0) → IsDetermined gives → (a b c : C) (rs : List (Round F))
    → AreChallenged gives a rs b → AreChallenged gives a rs c → b ≡ c
one_end gives one a b c [] h k = sym h ∙ k
one_end gives one a b c (r ∷ rs) h k =
    let same = one a r.values r.challenge r.challenge h.0 k.0 h.1 k.1 in
    one_end gives one h.0 b c rs h.2 (subst (λ s. AreChallenged gives s rs c) (sym same.1) k.2)
