-- The product of two polynomials: its laws, its value, its degree.
use Rattle.std.proofs.Common.{◌≡◌, ◌≢◌, ℕ, suc, ◌+◌, ◌-◌, ◌<◌, ◌≤◌, sym, ◌∙◌, ap, ap₂, refl, arith, ⊎_elim}
use mathlib.Core.Path.{fun_ext}
use Rattle.std.proofs.lemmas.Bool.{cases_eq, cases_lt}
use Rattle.ark_math.specs.Field.{FieldOn, IsField, power}
use Rattle.ark_math.specs.Module.{IsModule, itself, sum_below}
use Rattle.ark_math.specs.Univariate.{nothing, added, difference, opposite, scaled, monomial, product, IsBelow, IsDegree, value_below, IsValue}
use Rattle.ark_math.proofs.Algebra.Groups.{itself_is_module, one_times, scale_zero, zero_scale}
use Rattle.ark_math.proofs.Algebra.Powers.{power-add, zero_factor}
use Rattle.ark_math.proofs.Algebra.Sums.{sum_below-same, sum_below-plus, sum_below-scale}
use Rattle.ark_math.proofs.Algebra.Regrouped.{sum_below-zero, sum_below-past, sum_below-single, sum_below-reversed, sum_below-triangle, sum_below-negated, sum_of_scalars}
use Rattle.ark_math.proofs.Algebra.Solve.{◌⊗◌, negative}
use Rattle.ark_math.proofs.Algebra.Ring.{ring2, ring4}
use Rattle.ark_math_polynomials.proofs.Polynomials.Univariate.{monomial-same, monomial-other, IsBelow-more}

module _ {F : Type 0} (K : FieldOn F) (N : IsField K) where
  abbrev whole : IsModule K (itself K)
  whole = itself_is_module K N

  zero_times : (x : F) → K.times K.zero x ≡ K.zero
  zero_times x = zero_scale N whole x

  pub product_comm : (a b : ℕ → F) → product K a b ≡ product K b a
  product_comm a b = fun_ext (λ k.
      sum_below-reversed whole (suc k) (λ i. K.times (a i) (b (k - i))) (λ i. K.times (b i) (a (k - i)))
      (λ i j e.
      let f : k - i ≡ j = omega arith in
      let g : k - j ≡ i = omega arith in
      N.times_comm (a i) (b (k - i)) ∙ ap₂ K.times (ap b f) (ap a (sym g))))

  pub product_assoc : (a b c : ℕ → F) → product K (product K a b) c ≡ product K a (product K b c)
  product_assoc a b c = fun_ext (λ k.
      let f : ℕ → ℕ → F = λ i j. K.times (K.times (a i) (b j)) (c (k - (i + j))) in
      sum_below-same (itself K) (suc k) (λ m. K.times (product K a b m) (c (k - m))) (λ m. sum_below (itself K) (suc m) (λ i. f i (m - i)))
      (λ m l.
      sym (sum_of_scalars N whole (suc m) (λ i. K.times (a i) (b (m - i))) (c (k - m)))
      ∙ sum_below-same (itself K) (suc m) (λ i. K.times (K.times (a i) (b (m - i))) (c (k - m))) (λ i. f i (m - i))
      (λ i h. let e : k - m ≡ k - (i + (m - i)) = omega arith in ap (λ t. K.times (K.times (a i) (b (m - i))) (c t)) e))
      ∙ sum_below-triangle whole (suc k) f
      ∙ sum_below-same (itself K) (suc k) (λ i. sum_below (itself K) (suc k - i) (f i)) (λ i. K.times (a i) (product K b c (k - i)))
      (λ i l.
      let e : suc k - i ≡ suc (k - i) = omega arith in
      ap (λ t. sum_below (itself K) t (f i)) e
      ∙ sum_below-same (itself K) (suc (k - i)) (f i) (λ j. K.times (a i) (K.times (b j) (c (k - i - j))))
      (λ j h.
      let g : k - (i + j) ≡ k - i - j = omega arith in
      ap (λ t. K.times (K.times (a i) (b j)) (c t)) g ∙ N.times_assoc (a i) (b j) (c (k - i - j)))
      ∙ sum_below-scale whole (suc (k - i)) (a i) (λ j. K.times (b j) (c (k - i - j)))))

  pub product-added : (a b c : ℕ → F) → product K a (added K b c) ≡ added K (product K a b) (product K a c)
  product-added a b c = fun_ext (λ k.
      sum_below-same (itself K) (suc k) (λ i. K.times (a i) (K.plus (b (k - i)) (c (k - i)))) (λ i. K.plus (K.times (a i) (b (k - i))) (K.times (a i) (c (k - i))))
      (λ i l. N.times_plus (a i) (b (k - i)) (c (k - i)))
      ∙ sum_below-plus whole (suc k) (λ i. K.times (a i) (b (k - i))) (λ i. K.times (a i) (c (k - i))))

  product-opposite : (a b : ℕ → F) → product K a (opposite K b) ≡ opposite K (product K a b)
  product-opposite a b = fun_ext (λ k.
      sum_below-same (itself K) (suc k) (λ i. K.times (a i) (K.negated (b (k - i)))) (λ i. K.negated (K.times (a i) (b (k - i))))
      (λ i l. ring2 K N (λ a b. (a ⊗ negative b, negative (a ⊗ b))) refl _ _)
      ∙ sum_below-negated N whole (suc k) (λ i. K.times (a i) (b (k - i))))

  pub product-difference : (a b c : ℕ → F) → product K a (difference K b c) ≡ difference K (product K a b) (product K a c)
  product-difference a b c = product-added a b (opposite K c) ∙ ap (added K (product K a b)) (product-opposite a c)

  -- and from the left
  pub added-product : (a b c : ℕ → F) → product K (added K a b) c ≡ added K (product K a c) (product K b c)
  added-product a b c = product_comm (added K a b) c ∙ product-added c a b ∙ ap₂ (added K) (product_comm c a) (product_comm c b)

  pub difference-product : (a b c : ℕ → F) → product K (difference K a b) c ≡ difference K (product K a c) (product K b c)
  difference-product a b c = product_comm (difference K a b) c ∙ product-difference c a b ∙ ap₂ (difference K) (product_comm c a) (product_comm c b)

  -- by a monomial: moved up by its exponent
  pub monomial-product_past : (n : ℕ) (c : F) (a : ℕ → F) (k : ℕ) → n ≤ k → product K (monomial K n c) a k ≡ K.times c (a (k - n))
  monomial-product_past n c a k l =
      sum_below-single whole (suc k) n (λ i. K.times (monomial K n c i) (a (k - i))) (omega arith)
      (λ i h ne. ap (λ t. K.times t (a (k - i))) (monomial-other K n c i (λ e. ne (sym e))) ∙ zero_times (a (k - i)))
      ∙ ap (λ t. K.times t (a (k - n))) (monomial-same K n c)

  pub monomial-product_before : (n : ℕ) (c : F) (a : ℕ → F) (k : ℕ) → k < n → product K (monomial K n c) a k ≡ K.zero
  monomial-product_before n c a k l =
      sum_below-zero whole (suc k) (λ i. K.times (monomial K n c i) (a (k - i)))
      (λ i h. ap (λ t. K.times t (a (k - i))) (monomial-other K n c i (λ e. omega arith)) ∙ zero_times (a (k - i)))

  pub constant-product : (c : F) (a : ℕ → F) → product K (monomial K 0 c) a ≡ scaled K c a
  constant-product c a = fun_ext (λ k. let e : k - 0 ≡ k = omega arith in monomial-product_past 0 c a k (omega arith) ∙ ap (λ t. K.times c (a t)) e)

  pub monomial-monomial : (m n : ℕ) (c d : F) → product K (monomial K m c) (monomial K n d) ≡ monomial K (m + n) (K.times c d)
  monomial-monomial m n c d = fun_ext (λ k. ⊎_elim
      (λ (l : k < m). monomial-product_before m c (monomial K n d) k l ∙ sym (monomial-other K (m + n) (K.times c d) k (λ e. omega arith)))
      (λ (l : m ≤ k).
      monomial-product_past m c (monomial K n d) k l
      ∙ ⊎_elim
      (λ (e : m + n ≡ k).
      let f : n ≡ k - m = omega arith in
      ap (λ t. K.times c (monomial K n d t)) (sym f) ∙ ap (K.times c) (monomial-same K n d) ∙ sym (monomial-same K (m + n) (K.times c d)) ∙ ap (monomial K (m + n) (K.times c d)) e)
      (λ (ne : m + n ≢ k).
      ap (K.times c) (monomial-other K n d (k - m) (λ e. ne (omega arith))) ∙ scale_zero whole c ∙ sym (monomial-other K (m + n) (K.times c d) k ne))
      (cases_eq (m + n) k))
      (cases_lt k m))

  pub one-product : (a : ℕ → F) → product K (monomial K 0 K.one) a ≡ a
  one-product a = constant-product K.one a ∙ fun_ext (λ k. one_times K N (a k))

  pub nothing-product : (a : ℕ → F) → product K (nothing K) a ≡ nothing K
  nothing-product a = fun_ext (λ k. sum_below-zero whole (suc k) (λ i. K.times K.zero (a (k - i))) (λ i l. zero_times (a (k - i))))

  pub product-nothing : (a : ℕ → F) → product K a (nothing K) ≡ nothing K
  product-nothing a = product_comm a (nothing K) ∙ nothing-product a

  -- ---- bounds and the degree

  pub product-below : (m n : ℕ) (a b : ℕ → F) → IsBelow K m a → IsBelow K n b → IsBelow K (m + n - 1) (product K a b)
  product-below m n a b f g k l =
      sum_below-zero whole (suc k) (λ i. K.times (a i) (b (k - i)))
      (λ i h. ⊎_elim
      (λ (s : i < m). ap (K.times (a i)) (g (k - i) (omega arith)) ∙ scale_zero whole (a i))
      (λ (s : m ≤ i). ap (λ t. K.times t (b (k - i))) (f i s) ∙ zero_times (b (k - i)))
      (cases_lt i m))

  pub product_leading : (m n : ℕ) (a b : ℕ → F) → IsBelow K (m + 1) a → IsBelow K (n + 1) b → product K a b (m + n) ≡ K.times (a m) (b n)
  product_leading m n a b f g =
      let e : m + n - m ≡ n = omega arith in
      sum_below-single whole (suc (m + n)) m (λ i. K.times (a i) (b (m + n - i))) (omega arith)
      (λ i h ne. ⊎_elim
      (λ (s : i < m). ap (K.times (a i)) (g (m + n - i) (omega arith)) ∙ scale_zero whole (a i))
      (λ (s : m ≤ i). ap (λ t. K.times t (b (m + n - i))) (f i (omega arith)) ∙ zero_times (b (m + n - i)))
      (cases_lt i m))
      ∙ ap (λ t. K.times (a m) (b t)) e

  -- the sum of the degrees, over a field
  pub product-degree : (m n : ℕ) (a b : ℕ → F) → a m ≢ K.zero → b n ≢ K.zero → IsDegree K a m → IsDegree K b n → IsDegree K (product K a b) (m + n)
  product-degree m n a b p q f g = record {
    rest = λ k l. product-below (m + 1) (n + 1) a b f.rest g.rest k (omega arith);
    leading = λ _ e. q (zero_factor K N (a m) (b n) p (sym (product_leading m n a b f.rest g.rest) ∙ e));
  }

  -- ---- the value

  value_below-product : (m n : ℕ) (a b : ℕ → F) (x : F) → IsBelow K m a → IsBelow K n b → value_below K (m + n) (product K a b) x ≡ K.times (value_below K m a x) (value_below K n b x)
  value_below-product m n a b x f g =
      let p : ℕ → F = λ i. K.times (power K x i) (a i) in
      let q : ℕ → F = λ j. K.times (power K x j) (b j) in
      let t : ℕ → ℕ → F = λ i j. K.times (p i) (q j) in
      let row : (i : ℕ) → sum_below (itself K) (m + n - i) (t i) ≡ K.times (p i) (sum_below (itself K) (m + n - i) q) = λ i. sum_below-scale whole (m + n - i) (p i) q in
      sum_below-same (itself K) (m + n) (λ k. K.times (power K x k) (product K a b k)) (λ k. sum_below (itself K) (suc k) (λ i. t i (k - i)))
      (λ k l.
      sym (sum_below-scale whole (suc k) (power K x k) (λ i. K.times (a i) (b (k - i))))
      ∙ sum_below-same (itself K) (suc k) (λ i. K.times (power K x k) (K.times (a i) (b (k - i)))) (λ i. t i (k - i))
      (λ i h.
      let e : k ≡ i + (k - i) = omega arith in
      ap (λ s. K.times s (K.times (a i) (b (k - i)))) (ap (power K x) e ∙ power-add K N x i (k - i))
      ∙ ring4 K N (λ u v a b. ((u ⊗ v) ⊗ (a ⊗ b), (u ⊗ a) ⊗ (v ⊗ b))) refl _ _ _ _))
      ∙ sum_below-triangle whole (m + n) t
      ∙ sum_below-past whole m (m + n) (λ i. sum_below (itself K) (m + n - i) (t i)) (omega arith)
      (λ i h _. row i ∙ ap (λ s. K.times s (sum_below (itself K) (m + n - i) q)) (ap (K.times (power K x i)) (f i h) ∙ scale_zero whole (power K x i)) ∙ zero_times (sum_below (itself K) (m + n - i) q))
      ∙ sum_below-same (itself K) m (λ i. sum_below (itself K) (m + n - i) (t i)) (λ i. K.times (p i) (value_below K n b x))
      (λ i h.
      row i
      ∙ ap (K.times (p i)) (sum_below-past whole n (m + n - i) q (omega arith) (λ j s _. ap (K.times (power K x j)) (g j s) ∙ scale_zero whole (power K x j))))
      ∙ sum_of_scalars N whole m p (value_below K n b x)

  pub value-product : (a b : ℕ → F) (x y z : F) → IsValue K a x y → IsValue K b x z → IsValue K (product K a b) x (K.times y z)
  value-product a b x y z g h = (
    g.0 + h.0,
    IsBelow-more K (g.0 + h.0 - 1) (g.0 + h.0) (product K a b) (omega arith) (product-below g.0 h.0 a b g.1 h.1),
    ap₂ K.times g.2 h.2 ∙ sym (value_below-product g.0 h.0 a b x g.1 h.1),
  )
