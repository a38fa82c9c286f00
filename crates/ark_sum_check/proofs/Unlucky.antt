-- How many challenges are unlucky, once a round's values are known.
use Rattle.std.proofs.Common.{◌≡◌, ◌≢◌, ◌⊎◌, inl, inr, ℕ, ◌+◌, ◌<◌, ◌≤◌, List, [], ◌∷◌, length, refl, sym, ap, subst, arith, ⊎_elim}
use Rattle.std.proofs.lemmas.Bool.{cases_lt}
use Rattle.ark_math.specs.Field.{FieldOn, IsField, minus}
use Rattle.ark_math.specs.Univariate.{IsValue, difference, value_below}
use Rattle.ark_math.proofs.Algebra.Solve.{nought, ◌⊖◌}
use Rattle.ark_math.proofs.Algebra.Ring.{ring2_by}
use Rattle.ark_math_polynomials.proofs.Polynomials.UnivariateValues.{has_value, one_value, value_is, value-difference}
use Rattle.ark_math_polynomials.proofs.Polynomials.Zeros.{zeros_nothing}
use Rattle.ark_sum_check.specs.Cube.{SumOfProducts, bound_to, cube_sum, degree_of, round_value, sum_value}
use Rattle.ark_sum_check.specs.Rounds.{AreAccepted, AreDifferent, AtMost, HasOneOfFew, HasUnlucky, IsUnlucky, Round, challenges}
use Rattle.ark_sum_check.proofs.Accepted.{sound}
use Rattle.ark_sum_check.proofs.ValuesThrough.{one_through}

module _ {F : Type 0} (K : FieldOn F) (N : IsField K) where
  -- at such a challenge the polynomial that was sent has the true value
  true_value : (d m : ℕ) (s : SumOfProducts F) (values : List F) (x : F) (u : IsUnlucky K d m s values x) → IsValue K u.sent x (round_value K m s x)
  true_value d m s values x u =
      let y = round_value K m s x in
      let v = value_below K (length values) u.sent x in
      let at : IsValue K u.sent x v = has_value K N (length values) u.sent x u.is_sent.below in
      subst (IsValue K u.sent x)
      (ring2_by K N (λ a b. (a, b, a ⊖ b, nought)) refl v y
      (one_value K N (difference K u.sent u.truth) x (minus K v y) K.zero (value-difference K N u.sent u.truth x v y at (u.is_true x)) u.root))
      at

  pub few_unlucky : (d m : ℕ) (s : SumOfProducts F) (values : List F) → AreDifferent K (length values) → AtMost d (IsUnlucky K d m s values)
  few_unlucky d m s values different k x apart h = ⊎_elim
      (λ (l : d < k).
      let u = h 0 (omega arith) in
      let p = difference K u.sent u.truth in
      let zeros : (i : ℕ) → i < d + 1 → value_below K (d + 1) p (x i) ≡ K.zero = λ i b.
      let w = h i (omega arith) in
      let y = round_value K m s (x i) in
      let at : IsValue K u.sent (x i) y =
      subst (λ q. IsValue K q (x i) y) (one_through K N values w.sent u.sent different w.is_sent u.is_sent) (true_value d m s values (x i) w) in
      sym (value_is K N (d + 1) p (x i) K.zero u.below
      (subst (IsValue K p (x i)) (N.plus_negated y) (value-difference K N u.sent u.truth (x i) y y at (u.is_true (x i))))) in
      absurd (u.apart (zeros_nothing K N (d + 1) p x u.below (λ i j a b. apart i j a (omega arith)) zeros)))
      (λ (g : k ≤ d). g)
      (cases_lt d k)

  -- an unlucky round is so among few
  one_of_few : (d : ℕ) (claim : F) (rs : List (Round F)) (last : F) (s : SumOfProducts F) → AreDifferent K (d + 1) → AreAccepted K d claim rs last → HasUnlucky K d s rs → HasOneOfFew K d s rs
  one_of_few d claim [] last s different a h = absurd h
  one_of_few d claim (r ∷ rs) last s different a h = ⊎_elim
      (λ (u : IsUnlucky K d (length rs) s r.values r.challenge). record {
        before = [];
        round = r;
        after = rs;
        is = refl;
        few = few_unlucky d (length rs) s r.values (subst (AreDifferent K) (sym a.1.adds_up.count) different);
        unlucky = u;
      })
      (λ (later : HasUnlucky K d (bound_to K r.challenge s) rs).
      let o = one_of_few d a.0 rs last (bound_to K r.challenge s) different a.2 later in
      record {
        before = r ∷ o.before;
        round = o.round;
        after = o.after;
        is = ap (λ us. r ∷ us) o.is;
        few = o.few;
        unlucky = o.unlucky;
      })
      h

  has_round : (d : ℕ) (s : SumOfProducts F) (rs : List (Round F)) → HasUnlucky K d s rs → 0 < length rs
  has_round d s [] h = absurd h
  has_round d s (r ∷ rs) h = omega arith

  pub true_or_few : ((a b : F) → (a ≡ b) ⊎ (a ≢ b)) → (d : ℕ) (claim : F) (rs : List (Round F)) (last : F) (s : SumOfProducts F) → degree_of s ≤ d → (0 < length rs → AreDifferent K (d + 1)) → AreAccepted K d claim rs last → last ≡ sum_value K s (challenges rs) → (claim ≡ cube_sum K (length rs) s) ⊎ HasOneOfFew K d s rs
  true_or_few decide d claim rs last s few different a e = ⊎_elim
      (λ (same : claim ≡ cube_sum K (length rs) s). inl same)
      (λ (rest : (last ≢ sum_value K s (challenges rs)) ⊎ HasUnlucky K d s rs). inr (⊎_elim
      (λ (wrong : last ≢ sum_value K s (challenges rs)). absurd (wrong e))
      (λ (u : HasUnlucky K d s rs). one_of_few d claim rs last s (different (has_round d s rs u)) a u)
      rest))
      (sound K N decide d claim rs last s few a)
