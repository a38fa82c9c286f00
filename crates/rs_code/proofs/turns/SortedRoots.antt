-- Lists of roots by the patterns of their fours, and what they give once they are full.
use Rattle.std.proofs.Common.{◌≡◌, ◌≢◌, ℕ, zero, suc, ◌+◌, ◌%◌, ◌<◌, ◌≤◌, List, [], ◌∷◌, ◌++◌, length, map, set, ◌∙◌, ap, ap₂, refl, arith, ⊎_elim, Vec, Global}
use Rattle.std.proofs.lemmas.Bool.{cases_eq}
use Rattle.std.proofs.lemmas.List.{length-append, map-append}
use Rattle.ark_math.specs.Field.{FieldOn, IsField, power}
use Rattle.ark_math.proofs.Algebra.Solve.{◌⊗◌, negative}
use Rattle.ark_math.proofs.Algebra.Ring.{ring1, ring2}
use Rattle.ark_math.proofs.Lists.Lists.{written_other, written_same}
use Rattle.rs_code.specs.Turns.{Sorted, alternating, finished, pushed, roots_of}

one_longer : {X : Type 0} (xs : List X) (x : X) → length (xs ++ x ∷ []) ≡ suc (length xs)
one_longer xs x = omega (arith, length-append xs (x ∷ []))

-- ---- one more root in one of the lists

module _ {F : Type 0} (lists : List (Vec F Global)) (p : ℕ) (v : Vec F Global) where
  pub other-roots : (k : ℕ) → k ≢ p → roots_of (set lists p v) k ≡ roots_of lists k
  other-roots k ne = written_other (λ v. v.items) [] lists p k v ne

  module _ (r : F) (inside : p < length lists) (old : List F) (new : v.items ≡ old ++ r ∷ []) (is : old ≡ roots_of lists p) where
    pub pushed-roots : roots_of (set lists p v) p ≡ roots_of lists p ++ r ∷ []
    pushed-roots = written_same (λ v. v.items) [] lists p v inside ∙ new ∙ ap (λ xs. xs ++ r ∷ []) is

    pub pushed-length : (n : ℕ) → ((k : ℕ) → length (roots_of lists k) ≤ n) → (k : ℕ) → length (roots_of (set lists p v) k) ≤ n + 1
    pushed-length n few k =
        ⊎_elim
        (λ (e : k ≡ p). let same : length (roots_of (set lists p v) k) ≡ suc (length (roots_of lists p)) = ap (λ m. length (roots_of (set lists p v) m)) e ∙ ap length pushed-roots ∙ one_longer (roots_of lists p) r in omega (arith, same, few p))
        (λ (ne : k ≢ p). omega (arith, ap length (other-roots k ne), few k))
        (cases_eq k p)

-- ---- what the lists give

module _ {F : Type 0} (K : FieldOn F) (N : IsField K) (x : F) where
  pub alternating-even : (n : ℕ) → n % 2 ≡ 0 → alternating K n x ≡ x
  alternating-even zero e = refl
  alternating-even (suc zero) e = absurd (omega (arith, e))
  alternating-even (suc (suc n)) e = ring1 K N (λ y. (negative (negative y), y)) refl (alternating K n x) ∙ alternating-even n (omega (arith, e))

  pub alternating-odd : (n : ℕ) → n % 2 ≡ 1 → alternating K n x ≡ K.negated x
  alternating-odd zero e = absurd (omega (arith, e))
  alternating-odd (suc zero) e = refl
  alternating-odd (suc (suc n)) e = ring1 K N (λ y. (negative (negative y), y)) refl (alternating K n x) ∙ alternating-odd n (omega (arith, e))

module _ {F : Type 0} (K : FieldOn F) (N : IsField K) (w : F) where
  square : F → F
  square r = K.times r r

  pub finished_same : {a b c e f g a2 b2 c2 e2 f2 g2 : List F} → a ≡ a2 → b ≡ b2 → c ≡ c2 → e ≡ e2 → f ≡ f2 → g ≡ g2 → finished K w a b c e f g ≡ finished K w a2 b2 c2 e2 f2 g2
  finished_same {a} {b} {c} {e} {f} {g} {a2} {b2} {c2} {e2} {f2} {g2} a_is b_is c_is e_is f_is g_is =
      ap₂ (λ s t. finished K w s t c e f g) a_is b_is ∙ ap₂ (λ s t. finished K w a2 b2 s t f g) c_is e_is ∙ ap₂ (λ s t. finished K w a2 b2 c2 e2 s t) f_is g_is

  alternating-times : (n : ℕ) (x : F) → alternating K n (K.times w x) ≡ K.times (alternating K n x) w
  alternating-times zero x = N.times_comm w x
  alternating-times (suc n) x = ap K.negated (alternating-times n x) ∙ ring2 K N (λ y w. (negative (y ⊗ w), negative y ⊗ w)) refl (alternating K n x) w

  squares-more : (xs : List F) (r : F) → map (λ r. K.times r r) (xs ++ r ∷ []) ≡ map (λ r. K.times r r) xs ++ K.times r r ∷ []
  squares-more xs r = map-append (λ r. K.times r r) xs (r ∷ [])

  fourths-more : (xs : List F) (r : F) → map (λ r. K.times r r) (map (λ r. K.times r r) (xs ++ r ∷ [])) ≡ map (λ r. K.times r r) (map (λ r. K.times r r) xs) ++ K.times (K.times r r) (K.times r r) ∷ []
  fourths-more xs r = ap (map (λ r. K.times r r)) (squares-more xs r) ∙ squares-more (map (λ r. K.times r r) xs) (K.times r r)

  module _ (r : F) (a b c e f g : List F) where
    abbrev before : Sorted F
    before = finished K w a b c e f g

    abbrev turns : ℕ
    turns = length c + length e

    more_none : finished K w (a ++ r ∷ []) b c e f g ≡ pushed K w 0 r before
    more_none = ap (λ xs. record before { none = xs }) (fourths-more a r)

    more_one : finished K w a (b ++ r ∷ []) c e f g ≡ pushed K w 1 r before
    more_one =
        let signs : length (b ++ r ∷ []) + length e + length g ≡ suc (length b + length e + length g) = omega (arith, one_longer b r) in
        ap (λ n. record before { one = b ++ r ∷ []; kept_scale = alternating K n (power K w turns) }) signs

    more_two : finished K w a b (c ++ r ∷ []) e f g ≡ pushed K w 2 r before
    more_two =
        let more : length (c ++ r ∷ []) + length e ≡ suc turns = omega (arith, one_longer c r) in
        ap (λ n. record before { two = c ++ r ∷ []; erased_scale = alternating K (length e) (power K w n); kept_scale = alternating K (length b + length e + length g) (power K w n) }) more
        ∙ ap₂ (λ s t. record before { two = c ++ r ∷ []; erased_scale = s; kept_scale = t }) (alternating-times (length e) (power K w turns)) (alternating-times (length b + length e + length g) (power K w turns))

    more_three : finished K w a b c (e ++ r ∷ []) f g ≡ pushed K w 3 r before
    more_three =
        let more : length c + length (e ++ r ∷ []) ≡ suc turns = omega (arith, one_longer e r) in
        let signs : length b + length (e ++ r ∷ []) + length g ≡ suc (length b + length e + length g) = omega (arith, one_longer e r) in
        ap₂ (λ m n. record before { three = e ++ r ∷ []; erased_scale = alternating K m (power K w n); kept_scale = alternating K (length b + length (e ++ r ∷ []) + length g) (power K w n) }) (one_longer e r) more
        ∙ ap (λ n. record before { three = e ++ r ∷ []; erased_scale = alternating K (suc (length e)) (power K w (suc turns)); kept_scale = alternating K n (power K w (suc turns)) }) signs
        ∙ ap₂ (λ s t. record before { three = e ++ r ∷ []; erased_scale = K.negated s; kept_scale = K.negated t }) (alternating-times (length e) (power K w turns)) (alternating-times (length b + length e + length g) (power K w turns))

    more_all : finished K w a b c e (f ++ r ∷ []) g ≡ pushed K w 4 r before
    more_all = ap (λ xs. record before { all = xs }) (fourths-more f r)

    more_opposite : finished K w a b c e f (g ++ r ∷ []) ≡ pushed K w 5 r before
    more_opposite =
        let signs : length b + length e + length (g ++ r ∷ []) ≡ suc (length b + length e + length g) = omega (arith, one_longer g r) in
        ap₂ (λ xs n. record before { opposite = xs; kept_scale = alternating K n (power K w turns) }) (squares-more g r) signs

  -- one more root in the list p
  pub finished-more : (r : F) (p : ℕ) (old new : ℕ → List F) → p < 6 → new p ≡ old p ++ r ∷ [] → ((k : ℕ) → k ≢ p → new k ≡ old k) →
      finished K w (new 0) (new 1) (new 2) (new 3) (new 4) (new 5) ≡ pushed K w p r (finished K w (old 0) (old 1) (old 2) (old 3) (old 4) (old 5))
  finished-more r zero old new b here rest =
      finished_same here (rest 1 (omega arith)) (rest 2 (omega arith)) (rest 3 (omega arith)) (rest 4 (omega arith)) (rest 5 (omega arith))
      ∙ more_none r (old 0) (old 1) (old 2) (old 3) (old 4) (old 5)
  finished-more r (suc zero) old new b here rest =
      finished_same (rest 0 (omega arith)) here (rest 2 (omega arith)) (rest 3 (omega arith)) (rest 4 (omega arith)) (rest 5 (omega arith))
      ∙ more_one r (old 0) (old 1) (old 2) (old 3) (old 4) (old 5)
  finished-more r (suc (suc zero)) old new b here rest =
      finished_same (rest 0 (omega arith)) (rest 1 (omega arith)) here (rest 3 (omega arith)) (rest 4 (omega arith)) (rest 5 (omega arith))
      ∙ more_two r (old 0) (old 1) (old 2) (old 3) (old 4) (old 5)
  finished-more r (suc (suc (suc zero))) old new b here rest =
      finished_same (rest 0 (omega arith)) (rest 1 (omega arith)) (rest 2 (omega arith)) here (rest 4 (omega arith)) (rest 5 (omega arith))
      ∙ more_three r (old 0) (old 1) (old 2) (old 3) (old 4) (old 5)
  finished-more r (suc (suc (suc (suc zero)))) old new b here rest =
      finished_same (rest 0 (omega arith)) (rest 1 (omega arith)) (rest 2 (omega arith)) (rest 3 (omega arith)) here (rest 5 (omega arith))
      ∙ more_all r (old 0) (old 1) (old 2) (old 3) (old 4) (old 5)
  finished-more r (suc (suc (suc (suc (suc zero))))) old new b here rest =
      finished_same (rest 0 (omega arith)) (rest 1 (omega arith)) (rest 2 (omega arith)) (rest 3 (omega arith)) (rest 4 (omega arith)) here
      ∙ more_opposite r (old 0) (old 1) (old 2) (old 3) (old 4) (old 5)
  finished-more r (suc (suc (suc (suc (suc (suc p)))))) old new b here rest = absurd (omega (arith, b))
