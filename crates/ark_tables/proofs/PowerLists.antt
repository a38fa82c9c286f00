-- Comparisons of lists, powers by squaring, and products of powers.
use Rattle.std.proofs.Common.{◌≡◌, ◌≢◌, ℕ, suc, ◌+◌, ◌-◌, ◌*◌, min, List, [], ◌∷◌, length, get_or, drop, drop-cons, ◌/◌, ◌%◌, ◌^◌, ◌<◌, ◌≤◌, sym, ◌∙◌, ap, subst, arith}
use Rattle.std.specs.Cmp.{nat_cmp_is}
use Rattle.std.specs.Cmp.Lexicographic.{slice_cmp}
use Rattle.std.specs.Ordering.{MatchOrdering, nat_cmp}
use Rattle.std.specs.declared.cmp.Ordering.{Ordering}
use Rattle.std.proofs.lemmas.List.{length-drop, get_or_read}
use Rattle.std.proofs.lemmas.List.Elements.{All-head, All-rest, All-get_or}
use Rattle.std.proofs.lemmas.Nat.{shr-shr, shr_high}
use Rattle.ark_math.specs.Field.{FieldOn, IsField, power}
use Rattle.ark_math_variables.specs.Term.{IsWithin, term_value}
use Rattle.ark_math.proofs.Algebra.Powers.{power-double}

-- the number above its highest bit
pub highest_bit : (n b : ℕ) → 2 ^ b ≤ n → n < 2 * 2 ^ b → n / 2 ^ b ≡ 1
highest_bit n b low high =
    let e : n ≡ 1 * 2 ^ b + (n - 2 ^ b) = omega arith in
    let rest : n - 2 ^ b < 2 ^ b = omega arith in
    ap (λ t. t / 2 ^ b) e ∙ shr_high 1 b (n - 2 ^ b) rest

-- the next lower bit
next_bit : (n b : ℕ) → 0 < b → n / 2 ^ (b - 1) / 2 ≡ n / 2 ^ b
next_bit n b pos =
    let e : b - 1 + 1 ≡ b = omega arith in
    shr-shr n (b - 1) 1 ∙ ap (λ k. n / 2 ^ k) e

-- two lists of which the first i pairs don't differ, where one of them ends
end_order : {X : Type 0} (R : X → X → Ordering) (i m n : ℕ) (xs ys : List X) → m ≡ i + length xs → n ≡ i + length ys → min (length xs) (length ys) ≡ 0 → MatchOrdering (slice_cmp R xs ys) (m < n) (m ≡ n) (n < m)
end_order R i m n [] [] f g h = f ∙ sym g
end_order R i m n [] (y ∷ ys) f g h = omega arith
end_order R i m n (x ∷ xs) [] f g h = omega arith
end_order R i m n (x ∷ xs) (y ∷ ys) f g h = absurd (omega arith)

pub compared_all : {X : Type 0} (R : X → X → Ordering) (i : ℕ) (xs ys : List X) → i ≤ min (length xs) (length ys) → min (length xs) (length ys) ≤ i → slice_cmp R (drop i xs) (drop i ys) ≡ slice_cmp R xs ys → nat_cmp (length xs) (length ys) ≡ slice_cmp R xs ys
compared_all R i xs ys low high h =
    let left = length-drop i xs in
    let right = length-drop i ys in
    sym (nat_cmp_is (length xs) (length ys) (slice_cmp R (drop i xs) (drop i ys))
    (end_order R i (length xs) (length ys) (drop i xs) (drop i ys) (omega arith) (omega arith) (omega arith)))
    ∙ h

module _ {F : Type 0} (K : FieldOn F) (L : IsField K) where
  -- the power up to the next lower bit: a square, and once more the base where the bit is set
  pub bit_unset : (x p : F) (n b : ℕ) → 0 < b → p ≡ power K x (n / 2 ^ b) → n / 2 ^ (b - 1) % 2 ≢ 1 → K.times p p ≡ power K x (n / 2 ^ (b - 1))
  bit_unset x p n b pos h even =
      let m = n / 2 ^ (b - 1) in
      let half : m / 2 ≡ n / 2 ^ b = next_bit n b pos in
      let e : (n / 2 ^ b) * 2 ≡ m = omega arith in
      ap (λ t. K.times t t) h ∙ sym (power-double K L x (n / 2 ^ b)) ∙ ap (power K x) e

  pub bit_set : (x p : F) (n b : ℕ) → 0 < b → p ≡ power K x (n / 2 ^ b) → n / 2 ^ (b - 1) % 2 ≡ 1 → K.times (K.times p p) x ≡ power K x (n / 2 ^ (b - 1))
  bit_set x p n b pos h odd =
      let m = n / 2 ^ (b - 1) in
      let half : m / 2 ≡ n / 2 ^ b = next_bit n b pos in
      let e : suc ((n / 2 ^ b) * 2) ≡ m = omega arith in
      L.times_comm (K.times p p) x
      ∙ ap (λ t. K.times x (K.times t t)) h
      ∙ ap (K.times x) (sym (power-double K L x (n / 2 ^ b)))
      ∙ ap (power K x) e

  -- the first factor
  pub value_first : (ps : List (ℕ × ℕ)) (p : ℕ × ℕ) (qs : List (ℕ × ℕ)) (x : List F) (a b : F) → qs ≡ p ∷ ps → IsWithin (length x) qs → a ≡ get_or x p.0 a → b ≡ power K a p.1 → K.times b (term_value K (drop 0 ps) x) ≡ term_value K qs x
  value_first ps p qs x a b e h is raised =
      let inside : p.0 < length x = All-head (λ q. q.0 < length x) p ps (subst (IsWithin (length x)) e h) in
      let base : a ≡ get_or x p.0 K.zero = get_or_read x p.0 a inside is K.zero in
      ap (λ y. K.times y (term_value K ps x)) (raised ∙ ap (λ y. power K y p.1) base)
      ∙ ap (λ t. term_value K t x) (sym e)

  drop_next : (ps : List (ℕ × ℕ)) (i : ℕ) → i < length ps → drop i ps ≡ get_or ps i (0, 0) ∷ drop (i + 1) ps
  drop_next ps i l =
      let e : suc i ≡ i + 1 = omega arith in
      drop-cons ps i (0, 0) l ∙ ap (λ k. get_or ps i (0, 0) ∷ drop k ps) e

  -- the product of one more pair
  pub value_next : (ps : List (ℕ × ℕ)) (x : List F) (i : ℕ) (v a b w t : F) → i < length ps → K.times v (term_value K (drop i ps) x) ≡ t → (get_or ps i (0, 0)).0 < length x → a ≡ get_or x (get_or ps i (0, 0)).0 a → b ≡ power K a (get_or ps i (0, 0)).1 → w ≡ K.times v b → K.times w (term_value K (drop (i + 1) ps) x) ≡ t
  value_next ps x i v a b w t l h inside is raised product =
      let p = get_or ps i (0, 0) in
      let rest = term_value K (drop (i + 1) ps) x in
      let base : a ≡ get_or x p.0 K.zero = get_or_read x p.0 a inside is K.zero in
      let factor : b ≡ power K (get_or x p.0 K.zero) p.1 = raised ∙ ap (λ y. power K y p.1) base in
      ap (λ y. K.times y rest) (product ∙ ap (K.times v) factor)
      ∙ L.times_assoc v (power K (get_or x p.0 K.zero) p.1) rest
      ∙ ap (λ qs. K.times v (term_value K qs x)) (sym (drop_next ps i l))
      ∙ h

-- a pair behind the first has its variable in range
pub behind_within : (n i : ℕ) (p : ℕ × ℕ) (ps qs : List (ℕ × ℕ)) → qs ≡ p ∷ ps → i < length ps → IsWithin n qs → (get_or ps i (0, 0)).0 < n
behind_within n i p ps qs e l h = All-get_or (λ q. q.0 < n) ps i (0, 0) l (All-rest (λ q. q.0 < n) p ps qs e h)
