-- Factors of places from the values at their turns.
use Rattle.std.proofs.Common.{◌≡◌, ℕ, ◌+◌, ◌*◌, ◌/◌, ◌%◌, ◌<◌, Bool, true, false, List, length, map, get_or, sym, ◌∙◌, ap, ap₂, refl, subst, arith}
use Rattle.std.specs.Prelude.{not}
use Rattle.std.proofs.Math.Nat.{mod-add-div}
use Rattle.ark_math.specs.Field.{FieldOn, IsField, natural, power}
use Rattle.ark_math.specs.Root.{HasOrder}
use Rattle.ark_math.specs.Domain.{Domain, element}
use Rattle.ark_math.proofs.Algebra.Powers.{power-add, power-mul, power-one}
use Rattle.ark_math.proofs.Algebra.Solve.{◌⊗◌, negative, unit}
use Rattle.ark_math.proofs.Algebra.Ring.{ring3, ring4, ring6, ring7, ring2_by}
use Rattle.ark_math.specs.Univariate.{of_list}
use Rattle.rs_code.specs.Locator.{lost, locator_at, derivative_at, IsFactor}
use Rattle.rs_code.specs.Turns.{four, Sorted, AreSorted, product_of_eight}
use Rattle.rs_code.proofs.turns.QuarterTurns.{turn-square, element-turned, element-opposite, element-back}
use Rattle.rs_code.proofs.Places.{at_default, is_read}
use Rattle.rs_code.proofs.Kept.{inverse-derivative_at}

-- the marks of four places as they are read
pub four_read : (marks : List Bool) (q j : ℕ) → j + q + q + q < length marks →
    record { first = get_or marks j false; second = get_or marks (j + q) false; third = get_or marks (j + q + q) false; fourth = get_or marks (j + q + q + q) false } ≡ four marks q j
four_read marks q j l =
    let same : (i : ℕ) → i < length marks → get_or marks i false ≡ get_or marks i true = λ i h. sym (at_default marks i false true (get_or marks i false) h refl) in
    ap₂ (λ s t. record { first = s; second = t; third = get_or marks (j + q + q) false; fourth = get_or marks (j + q + q + q) false }) (same j (omega (arith, l))) (same (j + q) (omega (arith, l)))
    ∙ ap₂ (λ s t. record { first = get_or marks j true; second = get_or marks (j + q) true; third = s; fourth = t }) (same (j + q + q) (omega (arith, l))) (same (j + q + q + q) l)

module _ {F : Type 0} (K : FieldOn F) where
  -- the same values are multiplied
  pub eight_same : {a b c e f g h i a2 b2 c2 e2 f2 g2 h2 i2 : F} → a ≡ a2 → b ≡ b2 → c ≡ c2 → e ≡ e2 → f ≡ f2 → g ≡ g2 → h ≡ h2 → i ≡ i2 →
      product_of_eight K a b c e f g h i ≡ product_of_eight K a2 b2 c2 e2 f2 g2 h2 i2
  eight_same a b c e f g h i = ap₂ K.times (ap₂ K.times (ap₂ K.times a b) (ap₂ K.times c e)) (ap₂ K.times (ap₂ K.times f g) (ap₂ K.times h i))

module _ {F : Type 0} (K : FieldOn F) (N : IsField K) where
  -- those for a kept place, where k is a scale
  eight_kept : (k a p f g u h v w : F) → product_of_eight K (K.times a k) p f g u h v w ≡ K.times k (K.times f (K.times (K.times g u) (K.times (K.times h (K.times v w)) (K.times p a))))
  eight_kept k a p f g u h v w =
      ring7 K N (λ x f g u h v w. ((x ⊗ (f ⊗ g)) ⊗ ((u ⊗ h) ⊗ (v ⊗ w)), x ⊗ (f ⊗ ((g ⊗ u) ⊗ (h ⊗ (v ⊗ w)))))) refl (K.times (K.times a k) p) f g u h v w
      ∙ ring6 K N (λ k a p f g h. (((a ⊗ k) ⊗ p) ⊗ (f ⊗ (g ⊗ h)), k ⊗ (f ⊗ (g ⊗ (h ⊗ (p ⊗ a)))))) refl k a p f (K.times g u) (K.times h (K.times v w))

  -- and for an erased one, with an inverse
  eight_erased : (i k z p a b c u v h : F) → product_of_eight K (K.times z (K.times k i)) p a b c u v h ≡ K.times i (K.times k (K.times (K.times a (K.times b c)) (K.times (K.times u v) (K.times h (K.times p z)))))
  eight_erased i k z p a b c u v h =
      ring7 K N (λ x a b c u v h. ((x ⊗ (a ⊗ b)) ⊗ ((c ⊗ u) ⊗ (v ⊗ h)), x ⊗ ((a ⊗ (b ⊗ c)) ⊗ ((u ⊗ v) ⊗ h)))) refl (K.times (K.times z (K.times k i)) p) a b c u v h
      ∙ ring7 K N (λ i k z p f g h. (((z ⊗ (k ⊗ i)) ⊗ p) ⊗ (f ⊗ (g ⊗ h)), i ⊗ (k ⊗ (f ⊗ (g ⊗ (h ⊗ (p ⊗ z))))))) refl i k z p (K.times a (K.times b c)) (K.times u v) h

module _ {F : Type 0} (K : FieldOn F) (N : IsField K) (d : Domain F) (q : ℕ) (o : HasOrder K d.root d.size) (one : d.offset ≡ K.one) (size : d.size ≡ q + (q + (q + q))) (some : 0 < q) where
  -- places that differ by rounds
  pub element-rounds : (i c : ℕ) → element K d (i + d.size * c) ≡ element K d i
  element-rounds i c =
      ap (K.times d.offset)
      (power-add K N d.root i (d.size * c)
      ∙ ap (K.times (power K d.root i)) (power-mul K N d.root d.size c ∙ ap (λ t. power K t c) o.one ∙ power-one K N c)
      ∙ N.times_one (power K d.root i))

  -- a place of the quarter t, turned s times
  pub element-turns : (t s j : ℕ) → element K d (((t + s) % 4) * q + j) ≡ element K d ((t * q + j) + s * q)
  element-turns t s j =
      let whole : t + s ≡ (t + s) % 4 + 4 * ((t + s) / 4) = omega (arith, mod-add-div (t + s) 4) in
      let e : (t * q + j) + s * q ≡ (((t + s) % 4) * q + j) + d.size * ((t + s) / 4) = rounds t s j ((t + s) % 4) ((t + s) / 4) whole in
      sym (ap (element K d) e ∙ element-rounds (((t + s) % 4) * q + j) ((t + s) / 4))
    where
      rounds : (t s j r c : ℕ) → t + s ≡ r + 4 * c → (t * q + j) + s * q ≡ (r * q + j) + d.size * c
      rounds t s j r c e =
          let f : t * q + s * q ≡ (t + s) * q = omega arith in
          let g : (t + s) * q ≡ (r + 4 * c) * q = ap (λ n. n * q) e in
          let h : (r + 4 * c) * q ≡ r * q + (q + (q + (q + q))) * c = omega arith in
          let k : d.size * c ≡ (q + (q + (q + q))) * c = ap (λ n. n * c) size in
          omega (arith, f, g, h, k)

  -- the square of an element, and the other one of its half of the squares
  pub element-square : (i : ℕ) → element K d (i * 2) ≡ K.times (element K d i) (element K d i)
  element-square i =
      let e : i * 2 ≡ i + i = omega arith in
      ap (element K d) e
      ∙ ap₂ K.times one (power-add K N d.root i i)
      ∙ ring3 K N (λ o p w. (unit ⊗ (p ⊗ p), (unit ⊗ p) ⊗ (unit ⊗ p))) refl K.one (power K d.root i) K.one
      ∙ sym (ap₂ (λ s t. K.times (K.times s (power K d.root i)) (K.times t (power K d.root i))) one one)

  pub element-fourth : (i : ℕ) → element K d (i * 4) ≡ K.times (K.times (element K d i) (element K d i)) (K.times (element K d i) (element K d i))
  element-fourth i =
      let e : i * 4 ≡ (i * 2) * 2 = omega arith in
      ap (element K d) e ∙ element-square (i * 2) ∙ ap (λ t. K.times t t) (element-square i)

  pub square-turned : (t j : ℕ) → element K d (((t % 2) * q + j) * 2) ≡ K.times (element K d (t * q + j)) (element K d (t * q + j))
  square-turned t j =
      let whole : t ≡ t % 2 + 2 * (t / 2) = omega (arith, mod-add-div t 2) in
      let e : (t * q + j) * 2 ≡ ((t % 2) * q + j) * 2 + d.size * (t / 2) = rounds t j (t % 2) (t / 2) whole in
      sym (ap (element K d) e ∙ element-rounds (((t % 2) * q + j) * 2) (t / 2)) ∙ element-square (t * q + j)
    where
      rounds : (t j r c : ℕ) → t ≡ r + 2 * c → (t * q + j) * 2 ≡ (r * q + j) * 2 + d.size * c
      rounds t j r c e =
          let g : t * q ≡ (r + 2 * c) * q = ap (λ n. n * q) e in
          let h : (r + 2 * c) * q * 2 ≡ r * q * 2 + (q + (q + (q + q))) * c = omega arith in
          let k : d.size * c ≡ (q + (q + (q + q))) * c = ap (λ n. n * c) size in
          omega (arith, g, h, k)

  pub square-other : (t j : ℕ) → element K d ((((t + 1) % 2) * q + j) * 2) ≡ K.negated (K.times (element K d (t * q + j)) (element K d (t * q + j)))
  square-other t j =
      let next : (t + 1) * q + j ≡ (t * q + j) + q = omega arith in
      let w = element K d q in
      let x = element K d (t * q + j) in
      square-turned (t + 1) j
      ∙ ap (λ i. K.times (element K d i) (element K d i)) next
      ∙ ap (λ y. K.times y y) (element-turned K N d q o one size some (t * q + j))
      ∙ ring2_by K N (λ w x. ((w ⊗ x) ⊗ (w ⊗ x), negative (x ⊗ x), (x ⊗ x) ⊗ (w ⊗ w), (x ⊗ x) ⊗ negative unit)) refl w x (ap (K.times (K.times x x)) (turn-square K N d q o one size some))

  pub fourth-turned : (t j : ℕ) → element K d (j * 4) ≡ K.times (K.times (element K d (t * q + j)) (element K d (t * q + j))) (K.times (element K d (t * q + j)) (element K d (t * q + j)))
  fourth-turned t j =
      let k : d.size * t ≡ (q + (q + (q + q))) * t = ap (λ n. n * t) size in
      let h : (q + (q + (q + q))) * t ≡ t * q * 4 = omega arith in
      let e : (t * q + j) * 4 ≡ j * 4 + d.size * t = omega (arith, h, k) in
      sym (ap (element K d) e ∙ element-rounds (j * 4) t) ∙ element-fourth (t * q + j)

  -- the three turns of a place
  pub turn-ahead : (t j : ℕ) → element K d (((t + 1) % 4) * q + j) ≡ K.times (element K d q) (element K d (t * q + j))
  turn-ahead t j = element-turns t 1 j ∙ (let e : (t * q + j) + 1 * q ≡ (t * q + j) + q = omega arith in ap (element K d) e) ∙ element-turned K N d q o one size some (t * q + j)

  pub turn-over : (t j : ℕ) → element K d (((t + 2) % 4) * q + j) ≡ K.negated (element K d (t * q + j))
  turn-over t j = element-turns t 2 j ∙ (let e : (t * q + j) + 2 * q ≡ (t * q + j) + q + q = omega arith in ap (element K d) e) ∙ element-opposite K N d q o one size some (t * q + j)

  pub turn-back : (t j : ℕ) → element K d (((t + 3) % 4) * q + j) ≡ K.negated (K.times (element K d q) (element K d (t * q + j)))
  turn-back t j = element-turns t 3 j ∙ (let e : (t * q + j) + 3 * q ≡ (t * q + j) + q + q + q = omega arith in ap (element K d) e) ∙ element-back K N d q o one size some (t * q + j)

  -- ---- factors

  module _ (marks : List Bool) (len : length marks ≡ d.size) (s : Sorted F) (sorted : AreSorted K d q marks s) (t j : ℕ) (inside : t * q + j < d.size) where
    pub kept-place : (all opposite first two two_back three three_back three_over : F) → get_or marks (t * q + j) true ≡ false →
        all ≡ K.times (locator_at K s.all (element K d (j * 4))) s.erased_scale →
        opposite ≡ locator_at K s.opposite (element K d (((t % 2) * q + j) * 2)) →
        first ≡ locator_at K s.one (element K d (t * q + j)) →
        two ≡ locator_at K s.two (element K d (t * q + j)) → two_back ≡ locator_at K s.two (element K d (((t + 3) % 4) * q + j)) →
        three ≡ locator_at K s.three (element K d (t * q + j)) → three_back ≡ locator_at K s.three (element K d (((t + 3) % 4) * q + j)) → three_over ≡ locator_at K s.three (element K d (((t + 2) % 4) * q + j)) →
        IsFactor K (lost K d marks) (element K d (t * q + j)) (get_or marks (t * q + j) true) (product_of_eight K all opposite first two two_back three three_back three_over)
    kept-place all opposite first two two_back three three_back three_over e all_is opposite_is one_is two_is two_back_is three_is three_back_is three_over_is =
        subst (λ b. IsFactor K (lost K d marks) (element K d (t * q + j)) b (product_of_eight K all opposite first two two_back three three_back three_over)) (sym e)
        (eight_same K
        (all_is ∙ ap (λ y. K.times (locator_at K s.all y) s.erased_scale) (fourth-turned t j))
        (opposite_is ∙ ap (locator_at K s.opposite) (square-turned t j))
        one_is
        two_is (two_back_is ∙ ap (locator_at K s.two) (turn-back t j))
        three_is (three_back_is ∙ ap (locator_at K s.three) (turn-back t j)) (three_over_is ∙ ap (locator_at K s.three) (turn-over t j))
        ∙ eight_kept K N s.erased_scale _ _ _ _ _ _ _ _
        ∙ sorted.erased (element K d (t * q + j)))

    pub erased-place : (inverse none opposite first_back first_over first_ahead two_over two_ahead three_ahead : F) → get_or marks (t * q + j) true ≡ true →
        K.times inverse (natural K d.size) ≡ K.one →
        none ≡ K.times (locator_at K s.none (element K d (j * 4))) (K.times s.kept_scale inverse) →
        opposite ≡ locator_at K s.opposite (element K d ((((t + 1) % 2) * q + j) * 2)) →
        first_back ≡ locator_at K s.one (element K d (((t + 3) % 4) * q + j)) → first_over ≡ locator_at K s.one (element K d (((t + 2) % 4) * q + j)) → first_ahead ≡ locator_at K s.one (element K d (((t + 1) % 4) * q + j)) →
        two_over ≡ locator_at K s.two (element K d (((t + 2) % 4) * q + j)) → two_ahead ≡ locator_at K s.two (element K d (((t + 1) % 4) * q + j)) →
        three_ahead ≡ locator_at K s.three (element K d (((t + 1) % 4) * q + j)) →
        IsFactor K (lost K d marks) (element K d (t * q + j)) (get_or marks (t * q + j) true) (product_of_eight K none opposite first_back first_over first_ahead two_over two_ahead three_ahead)
    erased-place inverse none opposite first_back first_over first_ahead two_over two_ahead three_ahead e inverse_is none_is opposite_is back_is over_is ahead_is two_over_is two_ahead_is three_ahead_is =
        let x = element K d (t * q + j) in
        let formula = product_of_eight K none opposite first_back first_over first_ahead two_over two_ahead three_ahead in
        let same : formula ≡ K.times inverse (locator_at K (lost K d (map not marks)) x) =
        eight_same K
        (none_is ∙ ap (λ y. K.times (locator_at K s.none y) (K.times s.kept_scale inverse)) (fourth-turned t j))
        (opposite_is ∙ ap (locator_at K s.opposite) (square-other t j))
        (back_is ∙ ap (locator_at K s.one) (turn-back t j)) (over_is ∙ ap (locator_at K s.one) (turn-over t j)) (ahead_is ∙ ap (locator_at K s.one) (turn-ahead t j))
        (two_over_is ∙ ap (locator_at K s.two) (turn-over t j)) (two_ahead_is ∙ ap (locator_at K s.two) (turn-ahead t j))
        (three_ahead_is ∙ ap (locator_at K s.three) (turn-ahead t j))
        ∙ eight_erased K N inverse s.kept_scale _ _ _ _ _ _ _ _
        ∙ ap (K.times inverse) (sorted.kept x) in
        subst (λ b. IsFactor K (lost K d marks) x b formula) (sym e)
        (ap (λ y. K.times y (K.times x (derivative_at K (lost K d marks) x))) same
        ∙ ring4 K N (λ i k x s. ((i ⊗ k) ⊗ (x ⊗ s), (i ⊗ (x ⊗ k)) ⊗ s)) refl inverse (locator_at K (lost K d (map not marks)) x) x (derivative_at K (lost K d marks) x)
        ∙ inverse-derivative_at K N d o one marks len (t * q + j) inside e inverse inverse_is)
