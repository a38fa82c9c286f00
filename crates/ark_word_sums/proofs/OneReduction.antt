-- Bytes are a proof of one claim in one way.
use Rattle.std.proofs.Common.{◌≡◌, ℕ, ◌+◌, ◌*◌, List, [], ◌∷◌, ◌++◌, length, map, refl, sym, ap, ap₂, subst, ◌∙◌, arith}
use Rattle.std.specs.List.{AllByRecursion, flat_map}
use Rattle.std.proofs.lemmas.List.{append_cancel_left, length-map}
use Rattle.ark_math.specs.Field.{FieldOn, IsField}
use Rattle.ark_math_formats.specs.Format.{Format, list, word, AreElements}
use Rattle.ark_sum_check.specs.Rounds.{AreAccepted, AreChallenged, AreDifferent, IsDetermined, Round}
use Rattle.ark_sum_check.proofs.ValuesThrough.{one_value_through}
use Rattle.ark_sum_check.proofs.Vectors.{first, rest}
use Rattle.ark_word_sums.proofs.AddendWords.{one_front}
use Rattle.ark_word_sums.proofs.Bytes.{list_length}

-- ---- values

-- as many items of one length each are told by what they spell
module _ {X : Type 0} (f : X → List ℕ) (P : X → Type 0) (told : (x y : X) → P x → P y → (length (f x) ≡ length (f y)) × (f x ≡ f y → x ≡ y)) where
  told_lists : (xs ys : List X) → AllByRecursion P xs → AllByRecursion P ys → length xs ≡ length ys → flat_map f xs ≡ flat_map f ys → xs ≡ ys
  told_lists [] [] h k same e = refl
  told_lists [] (y ∷ ys) h k same e = absurd (omega (arith, same))
  told_lists (x ∷ xs) [] h k same e = absurd (omega (arith, same))
  told_lists (x ∷ xs) (y ∷ ys) h k same e =
      let here = told x y h.0 k.0 in
      let split = one_front (f x) (f y) (flat_map f xs) (flat_map f ys) here.0 e in
      ap₂ (λ u us. u ∷ us) (here.1 split.0) (told_lists xs ys h.1 k.1 (omega (arith, same)) split.1)

module _ {F : Type 0} (K : FieldOn F) (e : Format F) (size : ℕ) (A : AreElements e size) where
  all_elements : (xs : List F) → AllByRecursion (λ _. Unit {0}) xs
  all_elements [] = tt
  all_elements (x ∷ xs) = (tt, all_elements xs)

  told_values : (xs ys : List F) → length xs ≡ length ys → (list e).spelling xs ≡ (list e).spelling ys → xs ≡ ys
  told_values xs ys same spelled =
      let items = append_cancel_left (word.spelling (length ys)) (flat_map e.spelling xs) (flat_map e.spelling ys) (ap (λ n. word.spelling n ++ flat_map e.spelling xs) (sym same) ∙ spelled) in
      told_lists e.spelling (λ _. Unit {0})
      (λ x y _ _. (A.lengths x ∙ sym (A.lengths y), λ alike. A.one_to_one x y (A.all x) (A.all y) alike))
      xs ys (all_elements xs) (all_elements ys) same items

  told_round : (n : ℕ) (xs ys : List F) → length xs ≡ n → length ys ≡ n → (length ((list e).spelling xs) ≡ length ((list e).spelling ys)) × ((list e).spelling xs ≡ (list e).spelling ys → xs ≡ ys)
  told_round n xs ys h k =
      (list_length K e size A xs ∙ ap (λ m. 8 + m * size) (h ∙ sym k) ∙ sym (list_length K e size A ys), λ alike. told_values xs ys (h ∙ sym k) alike)

  -- each round has one value more than the degree
  pub counted : (d : ℕ) (claim : F) (rs : List (Round F)) (last : F) → AreAccepted K d claim rs last → AllByRecursion (λ xs. length xs ≡ d + 1) (map (λ r. r.values) rs)
  counted d claim [] last h = tt
  counted d claim (r ∷ rs) last (next, here, more) = (here.adds_up.count, counted d next rs last more)

  -- accepted rounds, as many of one claim as of another, are told by their bytes
  pub one_values : (d : ℕ) (claim : F) (rs qs : List (Round F)) (x y : F) → length rs ≡ length qs → AreAccepted K d claim rs x → AreAccepted K d claim qs y
      → (list (list e)).spelling (map (λ r. r.values) rs) ≡ (list (list e)).spelling (map (λ r. r.values) qs) → map (λ r. r.values) rs ≡ map (λ r. r.values) qs
  one_values d claim rs qs x y same h k spelled =
      let us = map (λ (r : Round F). r.values) rs in
      let vs = map (λ (r : Round F). r.values) qs in
      let count : length us ≡ length vs = length-map rs (λ r. r.values) ∙ same ∙ sym (length-map qs (λ r. r.values)) in
      let items = append_cancel_left (word.spelling (length vs)) (flat_map (list e).spelling us) (flat_map (list e).spelling vs) (ap (λ n. word.spelling n ++ flat_map (list e).spelling us) (sym count) ∙ spelled) in
      told_lists (list e).spelling (λ zs. length zs ≡ d + 1) (told_round (d + 1)) us vs (counted d claim rs x h) (counted d claim qs y k) count items

-- ---- challenges

-- rounds with the same values, each challenge of which follows from the values so far
pub one_rounds : {F C : Type 0} (gives : C → List F → F → C → Type 0) → IsDetermined gives → (start a b : C) (rs qs : List (Round F)) → map (λ r. r.values) rs ≡ map (λ r. r.values) qs
    → AreChallenged gives start rs a → AreChallenged gives start qs b → rs ≡ qs
one_rounds gives one start a b [] [] e h k = refl
one_rounds gives one start a b [] (q ∷ qs) e h k = cc
one_rounds gives one start a b (r ∷ rs) [] e h k = cc
one_rounds gives one start a b (r ∷ rs) (q ∷ qs) e (next, here, more) (other, there, others) =
    let values : r.values ≡ q.values = ap (first r.values) e in
    let both = one start r.values r.challenge q.challenge next other here (subst (λ vs. gives start vs q.challenge other) (sym values) there) in
    ap₂ (λ x xs. x ∷ xs) (ap₂ (λ vs x. record { values = vs; challenge = x }) values both.0)
    (one_rounds gives one next a b rs qs (ap rest e) more (subst (λ s. AreChallenged gives s qs b) (sym both.1) others))

-- ---- the last claim

module _ {F : Type 0} (K : FieldOn F) (N : IsField K) (d : ℕ) (different : AreDifferent K (d + 1)) where
  pub one_last : (claim : F) (rs : List (Round F)) (x y : F) → AreAccepted K d claim rs x → AreAccepted K d claim rs y → x ≡ y
  one_last claim [] x y h k = sym h ∙ k
  one_last claim (r ∷ rs) x y (next, here, more) (other, there, others) =
      let same = one_value_through K N r.values r.challenge next other (subst (AreDifferent K) (sym here.adds_up.count) different) here.value there.value in
      one_last next rs x y more (subst (λ c. AreAccepted K d c rs y) (sym same) others)
