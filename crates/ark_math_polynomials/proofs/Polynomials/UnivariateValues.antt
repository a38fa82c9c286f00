-- The value of a polynomial at a point, and Horner's step.
use Rattle.std.proofs.Common.{◌≡◌, ℕ, suc, ◌+◌, ◌<◌, ◌≤◌, List, [], ◌∷◌, length, get_or, drop, sym, ◌∙◌, ap, ap₂, subst, refl, arith, ⊎_elim}
use Rattle.std.proofs.lemmas.Bool.{cases_lt}
use Rattle.std.proofs.lemmas.List.{drop_more}
use Rattle.ark_math.specs.Field.{FieldOn, IsField, power, minus}
use Rattle.ark_math.specs.Module.{ModuleOn, IsModule, itself, sum_below, item}
use Rattle.ark_math.specs.Transform.{value_at}
use Rattle.ark_math.specs.Forms.{IsPolynomials}
use Rattle.ark_math.specs.Univariate.{nothing, added, difference, opposite, scaled, coefficient_operations, monomial, IsBelow, value_below, IsValue, IsDegree, of_list}
use Rattle.ark_math.proofs.Algebra.Groups.{itself_is_module, scale_zero}
use Rattle.ark_math.proofs.Algebra.Sums.{sum_below-same, sum_below-plus, sum_below-scale}
use Rattle.ark_math.proofs.Algebra.Regrouped.{sum_below-past, sum_below-first, sum_below-single, sum_below-negated}
use Rattle.ark_math.proofs.Algebra.Solve.{◌⊕◌, ◌⊗◌, negative}
use Rattle.ark_math.proofs.Algebra.Ring.{ring2, ring3, ring6}
use Rattle.ark_math_polynomials.proofs.Polynomials.Univariate.{added-below, opposite-below, scaled-below, coefficients_are_module, one_degree, nothing-below, IsBelow-more, monomial-below, monomial-same, monomial-other}
use Rattle.ark_math_polynomials.proofs.Polynomials.UnivariateLists.{of_list-below, trimmed-nil, trimmed_degree}

-- ---- Horner's step, from the last item to the first

module _ {F M : Type 0} {K : FieldOn F} {V : ModuleOn F M} (L : IsModule K V) where
  horner : (n : ℕ) (a : ℕ → M) (x : F) → sum_below V (suc n) (λ i. V.scale (power K x i) (a i)) ≡ V.plus (a 0) (V.scale x (sum_below V n (λ i. V.scale (power K x i) (a (suc i)))))
  horner n a x =
      sum_below-first L n (λ i. V.scale (power K x i) (a i))
      ∙ ap₂ V.plus (L.one_scale (a 0))
      (sum_below-same V n (λ i. V.scale (power K x (suc i)) (a (suc i))) (λ i. V.scale x (V.scale (power K x i) (a (suc i)))) (λ i l. L.times_scale x (power K x i) (a (suc i)))
      ∙ sum_below-scale L n x (λ i. V.scale (power K x i) (a (suc i))))

  value_at-cons : (c : List M) (y : M) (x : F) → value_at K V (y ∷ c) x ≡ V.plus y (V.scale x (value_at K V c x))
  value_at-cons c y x = horner (length c) (item V (y ∷ c)) x

  value_at-drop : (c : List M) (i : ℕ) (x : F) → i < length c → value_at K V (drop i c) x ≡ V.plus (item V c i) (V.scale x (value_at K V (drop (i + 1) c) x))
  value_at-drop c i x l = ap (λ t. value_at K V t x) (drop_more c i V.zero l) ∙ value_at-cons (drop (i + 1) c) (item V c i) x

-- ---- values

module _ {F : Type 0} (K : FieldOn F) (N : IsField K) where
  -- past the last coefficient nothing is added
  pub value_below-past : (m n : ℕ) (a : ℕ → F) (x : F) → m ≤ n → IsBelow K m a → value_below K n a x ≡ value_below K m a x
  value_below-past m n a x l b =
      sum_below-past (itself_is_module K N) m n (λ i. K.times (power K x i) (a i)) l
      (λ i h _. ap (K.times (power K x i)) (b i h) ∙ scale_zero (itself_is_module K N) (power K x i))

  value_below-two : (m n : ℕ) (a : ℕ → F) (x : F) → IsBelow K m a → IsBelow K n a → value_below K m a x ≡ value_below K n a x
  value_below-two m n a x f g =
      ⊎_elim
      (λ (l : m < n). sym (value_below-past m n a x (omega arith) f))
      (λ (l : n ≤ m). value_below-past n m a x l g)
      (cases_lt m n)

  -- ---- one value, and that there is one

  pub has_value : (n : ℕ) (a : ℕ → F) (x : F) → IsBelow K n a → IsValue K a x (value_below K n a x)
  has_value n a x b = (n, b, refl)

  pub value_is : (n : ℕ) (a : ℕ → F) (x y : F) → IsBelow K n a → IsValue K a x y → y ≡ value_below K n a x
  value_is n a x y b h = h.2 ∙ value_below-two h.0 n a x h.1 b

  pub one_value : (a : ℕ → F) (x y z : F) → IsValue K a x y → IsValue K a x z → y ≡ z
  one_value a x y z g h = g.2 ∙ value_below-two g.0 h.0 a x g.1 h.1 ∙ sym h.2

  -- ---- of a sum, and so on: of the parts below a bound

  pub value_below-added : (n : ℕ) (a b : ℕ → F) (x : F) → value_below K n (added K a b) x ≡ K.plus (value_below K n a x) (value_below K n b x)
  value_below-added n a b x =
      sum_below-same (itself K) n (λ i. K.times (power K x i) (K.plus (a i) (b i))) (λ i. K.plus (K.times (power K x i) (a i)) (K.times (power K x i) (b i)))
      (λ i l. N.times_plus (power K x i) (a i) (b i))
      ∙ sum_below-plus (itself_is_module K N) n (λ i. K.times (power K x i) (a i)) (λ i. K.times (power K x i) (b i))

  value_below-opposite : (n : ℕ) (a : ℕ → F) (x : F) → value_below K n (opposite K a) x ≡ K.negated (value_below K n a x)
  value_below-opposite n a x =
      sum_below-same (itself K) n (λ i. K.times (power K x i) (K.negated (a i))) (λ i. K.negated (K.times (power K x i) (a i)))
      (λ i l. ring2 K N (λ p a. (p ⊗ negative a, negative (p ⊗ a))) refl _ _)
      ∙ sum_below-negated N (itself_is_module K N) n (λ i. K.times (power K x i) (a i))

  pub value_below-difference : (n : ℕ) (a b : ℕ → F) (x : F) → value_below K n (difference K a b) x ≡ minus K (value_below K n a x) (value_below K n b x)
  value_below-difference n a b x = value_below-added n a (opposite K b) x ∙ ap (K.plus (value_below K n a x)) (value_below-opposite n b x)

  pub value_below-scaled : (n : ℕ) (c : F) (a : ℕ → F) (x : F) → value_below K n (scaled K c a) x ≡ K.times c (value_below K n a x)
  value_below-scaled n c a x =
      sum_below-same (itself K) n (λ i. K.times (power K x i) (K.times c (a i))) (λ i. K.times c (K.times (power K x i) (a i)))
      (λ i l. ring3 K N (λ p c a. (p ⊗ (c ⊗ a), c ⊗ (p ⊗ a))) refl _ _ _)
      ∙ sum_below-scale (itself_is_module K N) n c (λ i. K.times (power K x i) (a i))

  pub value_below-monomial : (n k : ℕ) (c x : F) → k < n → value_below K n (monomial K k c) x ≡ K.times (power K x k) c
  value_below-monomial n k c x l =
      sum_below-single (itself_is_module K N) n k (λ i. K.times (power K x i) (monomial K k c i)) l
      (λ i _ ne. ap (K.times (power K x i)) (monomial-other K k c i (λ e. ne (sym e))) ∙ scale_zero (itself_is_module K N) (power K x i))
      ∙ ap (K.times (power K x k)) (monomial-same K k c)

  -- ---- and so of the whole

  pub value-added : (a b : ℕ → F) (x y z : F) → IsValue K a x y → IsValue K b x z → IsValue K (added K a b) x (K.plus y z)
  value-added a b x y z g h =
      let n = g.0 + h.0 in
      let f : IsBelow K n a = IsBelow-more K g.0 n a (omega arith) g.1 in
      let k : IsBelow K n b = IsBelow-more K h.0 n b (omega arith) h.1 in
      (n, added-below K N n a b f k, ap₂ K.plus (value_is n a x y f g) (value_is n b x z k h) ∙ sym (value_below-added n a b x))

  pub value-opposite : (a : ℕ → F) (x y : F) → IsValue K a x y → IsValue K (opposite K a) x (K.negated y)
  value-opposite a x y h = (h.0, opposite-below K N h.0 a h.1, ap K.negated h.2 ∙ sym (value_below-opposite h.0 a x))

  pub value-difference : (a b : ℕ → F) (x y z : F) → IsValue K a x y → IsValue K b x z → IsValue K (difference K a b) x (minus K y z)
  value-difference a b x y z g h = value-added a (opposite K b) x y (K.negated z) g (value-opposite b x z h)

  pub value-scaled : (c : F) (a : ℕ → F) (x y : F) → IsValue K a x y → IsValue K (scaled K c a) x (K.times c y)
  value-scaled c a x y h = (h.0, scaled-below K N h.0 a c h.1, ap (K.times c) h.2 ∙ sym (value_below-scaled h.0 c a x))

  pub value-nothing : (x : F) → IsValue K (nothing K) x K.zero
  value-nothing x = (0, nothing-below K 0, refl)

  pub value-monomial : (k : ℕ) (c x : F) → IsValue K (monomial K k c) x (K.times (power K x k) c)
  value-monomial k c x = (suc k, monomial-below K k (suc k) c (omega arith), sym (value_below-monomial (suc k) k c x (omega arith)))

  pub value-of_list : (c : List F) (x : F) → IsValue K (of_list K c) x (value_at K (itself K) c x)
  value-of_list c x = (length c, of_list-below K c, refl)

  -- the value of the polynomial that a list denotes is that of the list
  pub value_of_list : (a : ℕ → F) (c : List F) (x y : F) → a ≡ of_list K c → IsValue K a x y → y ≡ value_at K (itself K) c x
  value_of_list a c x y e h = one_value a x y (value_at K (itself K) c x) h (subst (λ b. IsValue K b x (value_at K (itself K) c x)) (sym e) (value-of_list c x))

  pub value_below-first : (n : ℕ) (a : ℕ → F) (x : F) → value_below K (suc n) a x ≡ K.plus (a 0) (K.times x (value_below K n (λ i. a (suc i)) x))
  value_below-first n a x = horner (itself_is_module K N) n a x

-- ---- the laws of polynomials in one variable

pub univariate_polynomials : {F : Type 0} (K : FieldOn F) → IsField K → IsPolynomials K (coefficient_operations K) (λ _ _. Unit {0}) (IsDegree K) (IsValue K)
univariate_polynomials K N =
    let L = coefficients_are_module K N in
    record {
      addable_zero = λ a. tt;
      addable_comm = λ a b _. tt;
      addable_negated = λ a b _. tt;
      addable_scale = λ s a b _. tt;
      plus_zero = L.plus_zero;
      plus_comm = λ a b _. L.plus_comm a b;
      plus_assoc = λ a b c _ _. L.plus_assoc a b c;
      scale_plus = λ s a b _. L.scale_plus s a b;
      scale_zero = scale_zero L;
      plus_scale = L.plus_scale;
      times_scale = L.times_scale;
      one_scale = L.one_scale;
      degree_zero = trimmed_degree K [] (trimmed-nil K);
      one_degree = one_degree K;
      one_value = one_value K N;
      value_plus = λ a b x y z _. value-added K N a b x y z;
      value_negated = value-opposite K N;
      value_scale = value-scaled K N;
    }

-- ---- Horner's steps, as a loop takes them from the end of a list

-- the value of the items from i on
abbrev pub value_from : {F : Type 0} → FieldOn F → List F → F → ℕ → F
value_from K c x i = value_at K (itself K) (drop i c) x

module _ {F : Type 0} (K : FieldOn F) (N : IsField K) (c : List F) (x : F) where
  pub value_from-one : (i : ℕ) (v : F) → i < length c → v ≡ value_from K c x (i + 1) → K.plus (K.times v x) (get_or c i K.zero) ≡ value_from K c x i
  value_from-one i v l e =
      ap (λ t. K.plus (K.times t x) (get_or c i K.zero)) e
      ∙ ring3 K N (λ v x a. (v ⊗ x ⊕ a, a ⊕ x ⊗ v)) refl (value_from K c x (i + 1)) x (get_or c i K.zero)
      ∙ sym (value_at-drop (itself_is_module K N) c i x l)

  -- by powers of the point, so that one product alone needs what was found before
  pub value_from-four : (i : ℕ) (square cube fourth v : F) → i + 3 < length c → square ≡ K.times x x → cube ≡ K.times square x → fourth ≡ K.times square square → v ≡ value_from K c x (i + 4)
      → K.plus (K.times v fourth) (K.plus (K.plus (get_or c i K.zero) (K.times (get_or c (i + 1) K.zero) x)) (K.plus (K.times (get_or c (i + 2) K.zero) square) (K.times (get_or c (i + 3) K.zero) cube))) ≡ value_from K c x i
  value_from-four i square cube fourth v l e f g h =
      let item = λ (k : ℕ). get_or c k K.zero in
      let step = λ (k : ℕ) (m : k < length c). value_at-drop (itself_is_module K N) c k x m in
      let low = K.plus (item i) (K.times (item (i + 1)) x) in
      let two : i + 1 + 1 ≡ i + 2 = omega arith in
      let three : i + 2 + 1 ≡ i + 3 = omega arith in
      let four : i + 3 + 1 ≡ i + 4 = omega arith in
      let on = λ (a v : F). K.plus a (K.times x v) in
      ap₂ K.plus (ap₂ K.times h (g ∙ ap₂ K.times e e)) (ap (K.plus low) (ap₂ K.plus (ap (K.times (item (i + 2))) e) (ap (K.times (item (i + 3))) (f ∙ ap (λ t. K.times t x) e))))
      ∙ ring6 K N (λ x v a b c d. (v ⊗ ((x ⊗ x) ⊗ (x ⊗ x)) ⊕ ((a ⊕ b ⊗ x) ⊕ (c ⊗ (x ⊗ x) ⊕ d ⊗ ((x ⊗ x) ⊗ x))), a ⊕ x ⊗ (b ⊕ x ⊗ (c ⊕ x ⊗ (d ⊕ x ⊗ v))))) refl x (value_from K c x (i + 4)) (item i) (item (i + 1)) (item (i + 2)) (item (i + 3))
      ∙ sym (step i (omega arith)
      ∙ ap (on (item i)) (step (i + 1) (omega arith)
      ∙ ap (on (item (i + 1))) (ap (value_from K c x) two ∙ step (i + 2) (omega arith)
      ∙ ap (on (item (i + 2))) (ap (value_from K c x) three ∙ step (i + 3) (omega arith)
      ∙ ap (on (item (i + 3))) (ap (value_from K c x) four)))))
