-- How many vectors of challenges let a false claim through, whatever is sent.
use Rattle.std.proofs.Common.{◌≡◌, ◌≢◌, ◌⊎◌, ℕ, zero, suc, ◌+◌, ◌-◌, ◌*◌, ◌^◌, ◌≤◌, List, [], ◌∷◌, ◌++◌, length, refl, sym, ◌∙◌, ap, subst, subst₂, arith, ⊎_elim, length-append}
use Rattle.std.specs.Prelude.{Contains}
use Rattle.std.proofs.lemmas.List.{map-append}
use Rattle.std.proofs.lemmas.List.Elements.{All-head, All-tail}
use Rattle.ark_math.specs.Field.{FieldOn, IsField}
use Rattle.ark_sum_check.specs.Cube.{SumOfProducts, cube_sum, degree_of, sum_value}
use Rattle.ark_sum_check.specs.Rounds.{AreChosen, AreDifferent, AtMost, HasOneOfFew, IsBelieved, IsUnlucky, Round, Strategy, challenges, left_after, rounds_of}
use Rattle.ark_sum_check.proofs.Accepted.{length-challenges}
use Rattle.ark_sum_check.proofs.AtMost.{AtMost-contained, AtMost-weaker}
use Rattle.ark_sum_check.proofs.Unlucky.{true_or_few}
use Rattle.ark_sum_check.proofs.Vectors.{HasBad, HasBad-at, IsOver, few_bad, first, rest}

-- the rounds of a strategy have its challenges, and its values
challenges_of : {F : Type 0} (sends : Strategy F) (xs : List F) → challenges (rounds_of sends xs) ≡ xs
challenges_of sends [] = refl
challenges_of sends (x ∷ xs) = ap (λ ys. x ∷ ys) (challenges_of (λ b. sends (x ∷ b)) xs)

length-rounds_of : {F : Type 0} (sends : Strategy F) (xs : List F) → length (rounds_of sends xs) ≡ length xs
length-rounds_of sends [] = refl
length-rounds_of sends (x ∷ xs) = ap suc (length-rounds_of (λ b. sends (x ∷ b)) xs)

-- after the challenges before a round its values were sent
values_at : {F : Type 0} (sends : Strategy F) (xs : List F) (before : List (Round F)) (r : Round F) (after : List (Round F)) → rounds_of sends xs ≡ before ++ r ∷ after → sends (challenges before) ≡ r.values
values_at sends [] before r after e =
    let l : 0 ≡ length before + suc (length after) = ap length e ∙ length-append before (r ∷ after) in
    absurd (omega (arith, l))
values_at sends (x ∷ xs) [] r after e = ap (λ us. (first r us).values) e
values_at sends (x ∷ xs) (u ∷ before) r after e =
    let same : x ≡ u.challenge = ap (λ us. (first r us).challenge) e in
    ap (λ y. sends (y ∷ challenges before)) (sym same) ∙ values_at (λ b. sends (x ∷ b)) xs before r after (ap rest e)

-- chosen challenges as vectors
over : {F : Type 0} (choices : List F) (m : ℕ) (xs : List F) → AreChosen choices m xs → IsOver (Contains choices) m xs
over choices zero [] h = tt
over choices zero (x ∷ xs) h = absurd (omega (arith, h.count))
over choices (suc m) [] h = absurd (omega (arith, h.count))
over choices (suc m) (x ∷ xs) h = (
  All-head (Contains choices) x xs h.chosen,
  over choices m xs (record { count = omega (arith, h.count); chosen = All-tail (Contains choices) x xs h.chosen }),
)

module _ {F : Type 0} (K : FieldOn F) (N : IsField K) (decide : (a b : F) → (a ≡ b) ⊎ (a ≢ b)) (d m : ℕ) where
  -- unlucky after these challenges, of m in all
  abbrev unlucky_after : Strategy F → SumOfProducts F → List F → F → Type 0
  unlucky_after sends s before x = IsUnlucky K d (m - 1 - length before) (left_after K before s) (sends before) x

  abbrev bad_after : Strategy F → SumOfProducts F → List F → F → Type 0
  bad_after sends s before x = AtMost d (unlucky_after sends s before) × unlucky_after sends s before x

  bad_few : (sends : Strategy F) (s : SumOfProducts F) (before : List F) → AtMost d (bad_after sends s before)
  bad_few sends s before zero x apart so = omega arith
  bad_few sends s before (suc k) x apart so = (so 0 (omega arith)).0 (suc k) x apart (λ i l. (so i l).1)

  has_bad : (sends : Strategy F) (s : SumOfProducts F) (xs : List F) → length xs ≡ m → HasOneOfFew K d s (rounds_of sends xs) → HasBad (bad_after sends s) xs
  has_bad sends s xs count o =
      let rs = rounds_of sends xs in
      let before = challenges o.before in
      let is : xs ≡ before ++ o.round.challenge ∷ challenges o.after =
      sym (challenges_of sends xs) ∙ ap challenges o.is ∙ map-append (λ r. r.challenge) o.before (o.round ∷ o.after) in
      let all : length xs ≡ length before + suc (length o.after) =
      ap length is ∙ length-append before (o.round.challenge ∷ challenges o.after) ∙ ap (λ n. length before + suc n) (length-challenges o.after) in
      let left : length o.after ≡ m - 1 - length before = omega (arith, all, count) in
      let values : o.round.values ≡ sends before = sym (values_at sends xs o.before o.round o.after o.is) in
      let same : (P : (F → Type 0) → Type 0) → P (IsUnlucky K d (length o.after) (left_after K before s) o.round.values) → P (unlucky_after sends s before) =
      λ P h. subst₂ (λ n vs. P (IsUnlucky K d n (left_after K before s) vs)) left values h in
      subst (HasBad (bad_after sends s)) (sym is)
      (HasBad-at (bad_after sends s) before o.round.challenge (challenges o.after)
      (same (λ U. AtMost d U) o.few, same (λ U. U o.round.challenge) o.unlucky))

  pub few_believed : (claim : F) (sends : Strategy F) (s : SumOfProducts F) (choices : List F) → degree_of s ≤ d → AreDifferent K (d + 1) → claim ≢ cube_sum K m s → AtMost (m * d * length choices ^ (m - 1)) (λ xs. AreChosen choices m xs × IsBelieved K d claim sends s xs)
  few_believed claim sends s choices few different false =
      AtMost-weaker (m * d * length choices ^ (m - 1)) (λ xs. IsOver (Contains choices) m xs × HasBad (bad_after sends s) xs) (λ xs. AreChosen choices m xs × IsBelieved K d claim sends s xs)
      (λ xs h. (over choices m xs h.0, bad xs h.0 h.1))
      (few_bad K.zero (Contains choices) decide (length choices) (AtMost-contained choices) d m (bad_after sends s) (bad_few sends s))
    where
      bad : (xs : List F) → AreChosen choices m xs → IsBelieved K d claim sends s xs → HasBad (bad_after sends s) xs
      bad xs chosen believed =
          let rs = rounds_of sends xs in
          let last = sum_value K s xs in
          let count : length rs ≡ m = length-rounds_of sends xs ∙ chosen.count in
          ⊎_elim
          (λ (e : claim ≡ cube_sum K (length rs) s). absurd (false (e ∙ ap (λ n. cube_sum K n s) count)))
          (λ (o : HasOneOfFew K d s rs). has_bad sends s xs chosen.count o)
          (true_or_few K N decide d claim rs last s few (λ l. different) believed (ap (sum_value K s) (sym (challenges_of sends xs))))
