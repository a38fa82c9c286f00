-- The values of a polynomial at the places of a domain, and the polynomial that has them.
use Rattle.std.proofs.Common.{◌≡◌, ◌≢◌, ℕ, ◌+◌, ◌<◌, ◌≤◌, List, length, get_or, sym, ◌∙◌, ap, refl, subst, arith}
use Rattle.std.proofs.lemmas.List.{ext_get_or}
use Rattle.ark_math.specs.Field.{FieldOn, IsField, power, minus}
use Rattle.ark_math.specs.Module.{itself, sum_below, item}
use Rattle.ark_math.specs.Root.{HasOrder}
use Rattle.ark_math.specs.Domain.{Domain, element}
use Rattle.ark_math.specs.Transform.{transform, fit, value_at, IsInverse}
use Rattle.ark_math.specs.Univariate.{added, difference, scaled, product, IsBelow, IsValue, value_below, of_list}
use Rattle.ark_math_domains.specs.Points.{AreValues}
use Rattle.ark_math.proofs.Algebra.Sums.{sum_below-same}
use Rattle.ark_math.proofs.Lists.Tabulated.{length-tabulate, get_or-tabulate, is_tabulated, item-tabulate, tabulate-same}
use Rattle.ark_math_polynomials.proofs.Polynomials.Univariate.{added-below, difference-below, scaled-below, IsBelow-more}
use Rattle.ark_math_polynomials.proofs.Polynomials.UnivariateLists.{of_list-below}
use Rattle.ark_math_polynomials.proofs.Polynomials.UnivariateValues.{value_is, one_value, value-added, value-difference, value-scaled}
use Rattle.ark_math_polynomials.proofs.Polynomials.UnivariateProducts.{product-below, value-product}
use Rattle.ark_math_polynomials.proofs.Polynomials.Zeros.{same_from_values}
use Rattle.ark_math_domains.proofs.Domains.Elements.{elements_differ}

module _ {F : Type 0} (K : FieldOn F) (N : IsField K) (d : Domain F) where
  pub values-length : (a : ℕ → F) (v : List F) → AreValues K d a v → length v ≡ d.size
  values-length a v h = ap length h.2 ∙ length-tabulate d.size (λ i. value_below K h.0 a (element K d i))

  -- one by one
  pub values-item : (a : ℕ → F) (v : List F) → AreValues K d a v → (i : ℕ) → i < d.size → IsValue K a (element K d i) (of_list K v i)
  values-item a v h i l =
      (h.0, h.1, ap (λ t. get_or t i K.zero) h.2 ∙ get_or-tabulate d.size (λ i. value_below K h.0 a (element K d i)) i K.zero l)

  pub values_from : (n : ℕ) (a : ℕ → F) (v : List F) → IsBelow K n a → length v ≡ d.size → ((i : ℕ) → i < d.size → IsValue K a (element K d i) (of_list K v i)) → AreValues K d a v
  values_from n a v b e h =
      (n, b, is_tabulated K.zero v d.size (λ i. value_below K n a (element K d i)) e (λ i l. value_is K N n a (element K d i) (of_list K v i) b (h i l)))

  pub one_list_of_values : (a : ℕ → F) (v u : List F) → AreValues K d a v → AreValues K d a u → v ≡ u
  one_list_of_values a v u g h =
      ext_get_or K.zero v u (values-length a v g ∙ sym (values-length a u h))
      (λ i l.
      let b : i < d.size = rw (values-length a v g) at l in
      one_value K N a (element K d i) (of_list K v i) (of_list K u i) (values-item a v g i b) (values-item a u h i b))

  -- ---- place by place

  pub values-added : (a b : ℕ → F) (v u w : List F) → AreValues K d a v → AreValues K d b u → length w ≡ d.size → ((i : ℕ) → i < d.size → of_list K w i ≡ K.plus (of_list K v i) (of_list K u i)) → AreValues K d (added K a b) w
  values-added a b v u w g h e same =
      let n = g.0 + h.0 in
      values_from n (added K a b) w
      (added-below K N n a b (IsBelow-more K g.0 n a (omega arith) g.1) (IsBelow-more K h.0 n b (omega arith) h.1)) e
      (λ i l. subst (IsValue K (added K a b) (element K d i)) (sym (same i l)) (value-added K N a b (element K d i) _ _ (values-item a v g i l) (values-item b u h i l)))

  pub values-difference : (a b : ℕ → F) (v u w : List F) → AreValues K d a v → AreValues K d b u → length w ≡ d.size → ((i : ℕ) → i < d.size → of_list K w i ≡ minus K (of_list K v i) (of_list K u i)) → AreValues K d (difference K a b) w
  values-difference a b v u w g h e same =
      let n = g.0 + h.0 in
      values_from n (difference K a b) w
      (difference-below K N n a b (IsBelow-more K g.0 n a (omega arith) g.1) (IsBelow-more K h.0 n b (omega arith) h.1)) e
      (λ i l. subst (IsValue K (difference K a b) (element K d i)) (sym (same i l)) (value-difference K N a b (element K d i) _ _ (values-item a v g i l) (values-item b u h i l)))

  pub values-product : (a b : ℕ → F) (v u w : List F) → AreValues K d a v → AreValues K d b u → length w ≡ d.size → ((i : ℕ) → i < d.size → of_list K w i ≡ K.times (of_list K v i) (of_list K u i)) → AreValues K d (product K a b) w
  values-product a b v u w g h e same =
      values_from _ (product K a b) w (product-below K N g.0 h.0 a b g.1 h.1) e
      (λ i l. subst (IsValue K (product K a b) (element K d i)) (sym (same i l)) (value-product K N a b (element K d i) _ _ (values-item a v g i l) (values-item b u h i l)))

  pub values-scaled : (c : F) (a : ℕ → F) (v w : List F) → AreValues K d a v → length w ≡ d.size → ((i : ℕ) → i < d.size → of_list K w i ≡ K.times c (of_list K v i)) → AreValues K d (scaled K c a) w
  values-scaled c a v w g e same =
      values_from g.0 (scaled K c a) w (scaled-below K N g.0 a c g.1) e
      (λ i l. subst (IsValue K (scaled K c a) (element K d i)) (sym (same i l)) (value-scaled K N c a (element K d i) _ (values-item a v g i l)))

  -- ---- the only polynomial below the size with these values

  pub one_interpolation : HasOrder K d.root d.size → d.offset ≢ K.zero → (a b : ℕ → F) (v : List F) → IsBelow K d.size a → IsBelow K d.size b → AreValues K d a v → AreValues K d b v → a ≡ b
  one_interpolation o off a b v f g A B =
      same_from_values K N d.size a b (element K d) f g (elements_differ K N d o off)
      (λ i l. sym (value_is K N d.size a (element K d i) (of_list K v i) f (values-item a v A i l)) ∙ value_is K N d.size b (element K d i) (of_list K v i) g (values-item b v B i l))

  -- ---- by transforms

  pub value_at-fit : (c : List F) (n : ℕ) (x : F) → value_at K (itself K) (fit (itself K) c n) x ≡ value_below K n (of_list K c) x
  value_at-fit c n x =
      ap (λ t. sum_below (itself K) t (λ i. K.times (power K x i) (item (itself K) (fit (itself K) c n) i))) (length-tabulate n (item (itself K) c))
      ∙ sum_below-same (itself K) n (λ i. K.times (power K x i) (item (itself K) (fit (itself K) c n) i)) (λ i. K.times (power K x i) (of_list K c i))
      (λ i l. ap (K.times (power K x i)) (item-tabulate (itself K) n (item (itself K) c) i l))

  list_below : (c : List F) → length c ≤ d.size → IsBelow K d.size (of_list K c)
  list_below c l = IsBelow-more K (length c) d.size (of_list K c) l (of_list-below K c)

  pub transform-values : (c : List F) → length c ≤ d.size → AreValues K d (of_list K c) (transform K (itself K) d c)
  transform-values c l = (
    d.size,
    list_below c l,
    tabulate-same d.size (λ i. value_at K (itself K) (fit (itself K) c d.size) (element K d i)) (λ i. value_below K d.size (of_list K c) (element K d i)) (λ i _. value_at-fit c d.size (element K d i)),
  )

  pub inverse-values : (v u : List F) → length v ≡ d.size → IsInverse K (itself K) d v u → IsBelow K d.size (of_list K u) × AreValues K d (of_list K u) v
  inverse-values v u e h =
      let l : length u ≤ d.size = let f = h.size in omega arith in
      let same : v ≡ transform K (itself K) d u = is_tabulated K.zero v d.size (item (itself K) v) e (λ i _. refl) ∙ sym h.values in
      (list_below u l, subst (AreValues K d (of_list K u)) (sym same) (transform-values u l))
