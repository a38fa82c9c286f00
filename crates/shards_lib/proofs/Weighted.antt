-- Numbers by weights.
use Rattle.std.proofs.Common.{◌≡◌, ◌≢◌, ℕ, ◌*◌, ◌+◌, ◌<◌, ◌≤◌, List, length, map, ◌++◌, [], ◌∷◌, zero, suc, length-append, get_or, sym, ◌∙◌, ap, ap₂, refl, subst, arith}
use Rattle.std.proofs.lemmas.List.{get_or-append-add, get_or_append_left, get_or-map, length-map}
use Rattle.ark_math_points.specs.AtPoints.{AreDifferent, AreWeightsAt}
use Rattle.ark_math.specs.Field.{FieldOn, IsField, natural}
use Rattle.ark_math.specs.Module.{itself, sum_below}
use Rattle.ark_math.specs.Univariate.{IsBelow, of_list, value_below}
use Rattle.ark_math.proofs.Algebra.Sums.{sum_below-same}
use Rattle.shards_lib.specs.Numbers.{Numbered, number_at_place, place_element, value_at_place}
use Rattle.shards_lib.specs.Weights.{AreWeights, GiveAt}
use Rattle.shards_lib.specs.PlaceValues.{some_polynomial}

module _ {F : Type 0} (s : Numbered F) (N : IsField s.field)
    (inverts : (x : F) → x ≢ s.field.zero → s.field.times x (s.inverse x) ≡ s.field.one)
    (natural_number : (x : F) → natural s.field (s.number x) ≡ x)
    (k n : ℕ) (first : AreDifferent k (place_element s.field s.root n)) where
  abbrev K : FieldOn F
  K = s.field

  abbrev x : ℕ → F
  x = place_element K s.root n

  -- the sum of the numbers at given places, times a wanted place's weights, is the value there
  pub weighted_number : (given wanted weights : List ℕ) → AreWeights s n given wanted weights → length given ≡ k
      → (stripe : ℕ → ℕ) (numbers : ℕ → ℕ) → ((c : ℕ) → c < k → numbers c ≡ number_at_place s k n stripe (get_or given c 0))
      → (b : ℕ) → b < length wanted
      → sum_below (itself K) k (λ c. K.times (natural K (get_or weights (b * k + c) 0)) (natural K (numbers c))) ≡ value_at_place s k n (λ j. natural K (stripe j)) (get_or wanted b 0)
  weighted_number given wanted weights W len stripe numbers are b l =
      let p = some_polynomial s N inverts k n first (λ j. natural K (stripe j)) in
      sum_below-same (itself K) k _ (λ c. K.times (natural K (get_or weights (b * k + c) 0)) (value_below K k p.0 (x (get_or given c 0))))
      (λ c m. ap (K.times (natural K (get_or weights (b * k + c) 0))) (ap (natural K) (are c m) ∙ natural_number _ ∙ p.2 (get_or given c 0)))
      ∙ subst (λ m. sum_below (itself K) m (λ c. K.times (natural K (get_or weights (b * m + c) 0)) (value_below K m p.0 (x (get_or given c 0)))) ≡ value_below K m p.0 (x (get_or wanted b 0))) len
      (W.give b l p.0 (subst (λ m. IsBelow K m p.0) (sym len) p.1))
      ∙ sym (p.2 (get_or wanted b 0))

-- ---- weights that are added to others

module _ {F : Type 0} (s : Numbered F) (number_fits : (x : F) → s.number x ≤ 65536) (natural_number : (x : F) → natural s.field (s.number x) ≡ x) (n : ℕ)
    (given : List ℕ) (points : List F) (len : length points ≡ length given)
    (are : (c : ℕ) → c < length given → of_list s.field points c ≡ place_element s.field s.root n (get_or given c 0)) where
  pub added_give : (old : List ℕ) (place : ℕ) (added : List F) → AreWeightsAt s.field (length points) (of_list s.field points) (place_element s.field s.root n place) added
      → GiveAt s n given (old ++ map s.number added) (length old) place
  added_give old place added W a below =
      let K = s.field in
      let k = length given in
      let x = place_element K s.root n in
      let count : length added ≡ k = W.count ∙ len in
      sum_below-same (itself K) k (λ c. K.times (natural K (get_or (old ++ map s.number added) (length old + c) 0)) (value_below K k a (x (get_or given c 0)))) (λ c. K.times (of_list K added c) (value_below K k a (of_list K points c)))
      (λ c l.
      ap₂ K.times
      (ap (natural K) (get_or-append-add old (map s.number added) c 0 ∙ get_or-map s.number added c K.zero 0 (omega (arith, l, count))) ∙ natural_number (of_list K added c))
      (ap (value_below K k a) (sym (are c l))))
      ∙ subst (λ m. sum_below (itself K) m (λ c. K.times (of_list K added c) (value_below K m a (of_list K points c))) ≡ value_below K m a (x place)) len
      (W.give a (subst (λ m. IsBelow K m a) (sym len) below))

-- weights stay what they are behind others
pub kept_give : {F : Type 0} (s : Numbered F) (n : ℕ) (given old added : List ℕ) (start place : ℕ) → start + length given ≤ length old → GiveAt s n given old start place → GiveAt s n given (old ++ added) start place
kept_give s n given old added start place within G a below =
    let K = s.field in
    let k = length given in
    sum_below-same (itself K) k _ _ (λ c l. ap (λ w. K.times (natural K w) (value_below K k a (place_element K s.root n (get_or given c 0)))) (get_or_append_left old added 0 (start + c) (omega (arith, within, l))))
    ∙ G a below

-- ---- lists of weights that grow

module _ {F : Type 0} (number : F → ℕ) where
  times_more : (b k : ℕ) → b * k + k ≡ (b + 1) * k
  times_more b k = grind arith

  pub added_len : (k b : ℕ) (old : List ℕ) (added : List F) → length old ≡ b * k → length added ≡ k → length (old ++ map number added) ≡ (b + 1) * k
  added_len k b old added len count =
      let e = times_more b k in
      omega (arith, length-append old (map number added), length-map added number, len, count, e)

  pub added_fit : ((x : F) → number x ≤ 65536) → (old : List ℕ) (added : List F) → ((p : ℕ) → get_or old p 0 ≤ 65536) → (p : ℕ) → get_or (old ++ map number added) p 0 ≤ 65536
  added_fit fits [] [] before p = omega arith
  added_fit fits [] (x ∷ xs) before zero = fits x
  added_fit fits [] (x ∷ xs) before (suc p) = added_fit fits [] xs (λ q. omega arith) p
  added_fit fits (y ∷ ys) added before zero = before 0
  added_fit fits (y ∷ ys) added before (suc p) = added_fit fits ys added (λ q. before (suc q)) p
