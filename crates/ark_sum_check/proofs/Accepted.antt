-- Rounds that are accepted: true ones are, and what false claims need.
use Rattle.std.proofs.Common.{◌≡◌, ◌≢◌, ◌⊎◌, inl, inr, ℕ, suc, ◌+◌, ◌-◌, ◌<◌, ◌≤◌, List, [], ◌∷◌, ◌++◌, length, refl, sym, ◌∙◌, ap, ap₂, subst, arith, ⊎_elim, append_assoc}
use Rattle.std.proofs.lemmas.List.{append-nil, length-map}
use Rattle.ark_math.specs.Field.{FieldOn, IsField, minus, natural}
use Rattle.ark_math.specs.Univariate.{IsBelow, IsValue, difference, nothing, of_list}
use Rattle.ark_math.proofs.Outcomes.Draws.{AreDrawn-push}
use Rattle.ark_math.proofs.Algebra.Solve.{nought, ◌⊖◌}
use Rattle.ark_math.proofs.Algebra.Ring.{ring2_by}
use Rattle.ark_math_polynomials.proofs.Polynomials.Univariate.{IsBelow-more, difference-below}
use Rattle.ark_math_polynomials.proofs.Polynomials.UnivariateValues.{one_value, value-difference, value-nothing}
use Rattle.ark_sum_check.specs.Cube.{SumOfProducts, bound_to, cube_sum, degree_of, round_value, sum_value}
use Rattle.ark_sum_check.specs.Rounds.{AreAccepted, AreChallenged, AreTrueRounds, HasUnlucky, IsRound, IsSound, IsTrueRound, IsUnlucky, Round, challenges}
use Rattle.ark_sum_check.proofs.TrueRounds.{cube_sum-halves, cube_sum-none, natural-one, sum_value-cons, true_polynomial}

module _ {F : Type 0} (K : FieldOn F) (N : IsField K) where
  -- a true round is accepted of the sum, and the next claim is the sum that is left
  true_round : (d m : ℕ) (s : SumOfProducts F) (r : Round F) → 0 < d → degree_of s ≤ d → IsTrueRound K d m s r.values → IsRound K d (cube_sum K (suc m) s) r (round_value K m s r.challenge)
  true_round d m s r some few h =
      let t = true_polynomial K N m s in
      record {
        adds_up = record {
          count = h.count;
          some = omega (arith, h.count);
          sum =
              ap₂ K.plus (h.sums 0 (omega arith)) (h.sums 1 (omega arith) ∙ ap (round_value K m s) (natural-one K N))
              ∙ cube_sum-halves K N m s;
        };
        value = (
          t.0,
          record {
            below = IsBelow-more K (degree_of s + 1) (length r.values) t.0 (omega (arith, h.count)) t.1;
            takes = λ i l. subst (IsValue K t.0 (natural K i)) (sym (h.sums i (omega (arith, h.count)))) (t.2 (natural K i));
          },
          t.2 r.challenge,
        );
      }

  -- completeness
  pub true_accepted : (d : ℕ) (s : SumOfProducts F) (rs : List (Round F)) → 0 < d → degree_of s ≤ d → AreTrueRounds K d s rs → AreAccepted K d (cube_sum K (length rs) s) rs (sum_value K s (challenges rs))
  true_accepted d s [] some few h = cube_sum-none K N s
  true_accepted d s (r ∷ rs) some few h = (
    round_value K (length rs) s r.challenge,
    true_round d (length rs) s r some few h.0,
    subst (AreAccepted K d (round_value K (length rs) s r.challenge) rs) (sym (sum_value-cons K N s r.challenge (challenges rs)))
        (true_accepted d (bound_to K r.challenge s) rs some few h.1),
  )

  -- a round of a false claim: the next claim is false, or the round is unlucky
  false_round : (d m : ℕ) (claim : F) (s : SumOfProducts F) (r : Round F) (next : F) → degree_of s ≤ d → IsRound K d claim r next → claim ≢ cube_sum K (suc m) s → next ≡ round_value K m s r.challenge → IsUnlucky K d m s r.values r.challenge
  false_round d m claim s r next few h ne same =
      let t = true_polynomial K N m s in
      let p = h.value.0 in
      let through = h.value.1 in
      let two = h.adds_up.some in
      record {
        sent = p;
        truth = t.0;
        is_sent = through;
        is_true = t.2;
        below = difference-below K N (d + 1) p t.0 (subst (λ n. IsBelow K n p) h.adds_up.count through.below) (IsBelow-more K (degree_of s + 1) (d + 1) t.0 (omega arith) t.1);
        apart = λ none.
            let agree : (x y : F) → IsValue K p x y → y ≡ round_value K m s x = λ x y at.
            ring2_by K N (λ a b. (a, b, a ⊖ b, nought)) refl y (round_value K m s x)
            (one_value K N (nothing K) x (minus K y (round_value K m s x)) K.zero
            (subst (λ f. IsValue K f x (minus K y (round_value K m s x))) none (value-difference K N p t.0 x y (round_value K m s x) at (t.2 x)))
            (value-nothing K N x)) in
            ne (sym h.adds_up.sum
            ∙ ap₂ K.plus (agree K.zero (of_list K r.values 0) (through.takes 0 (omega arith)))
            (agree (natural K 1) (of_list K r.values 1) (through.takes 1 (omega arith)) ∙ ap (round_value K m s) (natural-one K N))
            ∙ cube_sum-halves K N m s);
        root =
            subst (IsValue K (difference K p t.0) r.challenge)
            (ap (λ y. minus K y (round_value K m s r.challenge)) same ∙ N.plus_negated (round_value K m s r.challenge))
            (value-difference K N p t.0 r.challenge next (round_value K m s r.challenge) h.value.2 (t.2 r.challenge));
      }

  -- soundness
  pub sound : ((a b : F) → (a ≡ b) ⊎ (a ≢ b)) → (d : ℕ) (claim : F) (rs : List (Round F)) (last : F) (s : SumOfProducts F) → degree_of s ≤ d → AreAccepted K d claim rs last → IsSound K d claim rs last s
  sound decide d claim [] last s few h = ⊎_elim
      (λ (e : claim ≡ cube_sum K 0 s). inl e)
      (λ (ne : claim ≢ cube_sum K 0 s). inr (inl (λ e. ne (h ∙ e ∙ sym (cube_sum-none K N s)))))
      (decide claim (cube_sum K 0 s))
  sound decide d claim (r ∷ rs) last s few h =
      let m = length rs in
      ⊎_elim
      (λ (e : claim ≡ cube_sum K (suc m) s). inl e)
      (λ (ne : claim ≢ cube_sum K (suc m) s). ⊎_elim
      (λ (e : h.0 ≡ round_value K m s r.challenge). inr (inr (inl (false_round d m claim s r h.0 few h.1 ne e))))
      (λ (no : h.0 ≢ round_value K m s r.challenge). ⊎_elim
      (λ (e : h.0 ≡ round_value K m s r.challenge). absurd (no e))
      (λ (rest : (last ≢ sum_value K (bound_to K r.challenge s) (challenges rs)) ⊎ HasUnlucky K d (bound_to K r.challenge s) rs). ⊎_elim
      (λ (wrong : last ≢ sum_value K (bound_to K r.challenge s) (challenges rs)). inr (inl (λ e. wrong (e ∙ sum_value-cons K N s r.challenge (challenges rs)))))
      (λ (unlucky : HasUnlucky K d (bound_to K r.challenge s) rs). inr (inr (inr unlucky)))
      rest)
      (sound decide d h.0 rs last (bound_to K r.challenge s) few h.2))
      (decide h.0 (round_value K m s r.challenge)))
      (decide claim (cube_sum K (suc m) s))

-- ---- rounds that are made one after the other

-- whatever true rounds are added to these, all of them are true
abbrev pub AreTrueSoFar : {F : Type 0} → FieldOn F → ℕ → SumOfProducts F → List (Round F) → ℕ → SumOfProducts F → Type 0
AreTrueSoFar {F} K d s rs left us = (rest : List (Round F)) → length rest ≡ left → AreTrueRounds K d us rest → AreTrueRounds K d s (rs ++ rest)

module _ {F : Type 0} (K : FieldOn F) (d : ℕ) (s : SumOfProducts F) where
  pub AreTrueSoFar-more : (rs : List (Round F)) (r : Round F) (left : ℕ) (us vs : SumOfProducts F) → 0 < left → IsTrueRound K d (left - 1) us r.values → vs ≡ bound_to K r.challenge us → AreTrueSoFar K d s rs left us → AreTrueSoFar K d s (rs ++ r ∷ []) (left - 1) vs
  AreTrueSoFar-more rs r left us vs some t e h rest n g =
      subst (AreTrueRounds K d s) (sym (append_assoc rs (r ∷ []) rest))
      (h (r ∷ rest) (omega arith) (subst (λ m. IsTrueRound K d m us r.values) (sym n) t, subst (λ ws. AreTrueRounds K d ws rest) e g))

  pub AreTrueSoFar-end : (rs : List (Round F)) (us : SumOfProducts F) (left : ℕ) → left ≡ 0 → AreTrueSoFar K d s rs left us → AreTrueRounds K d s rs
  AreTrueSoFar-end rs us left e h = subst (AreTrueRounds K d s) (append-nil rs) (h [] (sym e) tt)

-- as many challenges as rounds
pub length-challenges : {F : Type 0} (rs : List (Round F)) → length (challenges rs) ≡ length rs
length-challenges rs = length-map rs (λ r. r.challenge)

-- one more challenge
pub AreChallenged-push : {F C : Type 0} (gives : C → List F → F → C → Type 0) (a : C) (rs : List (Round F)) (b : C) (values : List F) (r : Round F) (c : C) → AreChallenged gives a rs b → gives b values r.challenge c → values ≡ r.values → AreChallenged gives a (rs ++ r ∷ []) c
AreChallenged-push gives a rs b values r c h g e = AreDrawn-push (λ now s next. gives now s.values s.challenge next) a rs b r c h (subst (λ vs. gives b vs r.challenge c) e g)
