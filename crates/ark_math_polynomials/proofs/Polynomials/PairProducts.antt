-- Products of lists of (exponent, coefficient) pair by pair, and their remainders by x ^ n - c.
use Rattle.std.proofs.Common.{◌≡◌, ℕ, zero, suc, ◌+◌, ◌*◌, ◌/◌, ◌%◌, ◌<◌, ◌≤◌, List, [], ◌∷◌, ◌++◌, length, get_or, set, take, replicate, sym, ◌∙◌, ap, ap₂, refl, subst, arith, ⊎_elim, mod-lt}
use mathlib.Core.Path.{fun_ext}
use Rattle.std.specs.List.{All}
use Rattle.std.proofs.lemmas.Bool.{cases_lt}
use Rattle.std.proofs.lemmas.List.{take_all, length-replicate}
use Rattle.std.proofs.lemmas.Nat.{div-add-mod'}
use Rattle.ark_math.specs.Field.{FieldOn, IsField, power}
use Rattle.ark_math.specs.Univariate.{nothing, added, difference, monomial, product, IsBelow, IsDegree, IsQuotient, of_list, of_pairs, IsSparse}
use Rattle.ark_math.proofs.Algebra.Groups.{zero_plus, one_times}
use Rattle.ark_math.proofs.Algebra.Solve.{◌⊕◌, ◌⊖◌, ◌⊗◌}
use Rattle.ark_math.proofs.Algebra.Ring.{ring2, ring3, ring4}
use Rattle.ark_math_polynomials.proofs.Polynomials.Univariate.{coefficients_are_module, one_degree, nothing-below, added-below, monomial-below, monomial-same, monomial-other, IsBelow-more}
use Rattle.ark_math_polynomials.proofs.Polynomials.UnivariateLists.{of_list-below, of_list-replicate, of_list-set}
use Rattle.ark_math_polynomials.proofs.Polynomials.UnivariatePairs.{of_pairs-push, of_pairs-at, take_next}
use Rattle.ark_math_polynomials.proofs.Polynomials.UnivariateProducts.{product-added, added-product, product-difference, monomial-monomial, nothing-product, product-nothing}
use Rattle.ark_math_polynomials.proofs.Polynomials.Binomials.{binomial, binomial-below, binomial-leading}

module _ {F : Type 0} (K : FieldOn F) (N : IsField K) where
  of_pairs-next : (p : List (ℕ × F)) (i : ℕ) (x : ℕ × F) → i < length p → x ≡ get_or p i x → of_pairs K (take (i + 1) p) ≡ added K (of_pairs K (take i p)) (monomial K x.0 x.1)
  of_pairs-next p i x l e = ap (of_pairs K) (take_next K N p i x l e) ∙ of_pairs-push K N (take i p) x

  -- ---- bounds

  pub pairs_bound : (p : List (ℕ × F)) → (n : ℕ) × IsBelow K n (of_pairs K p)
  pairs_bound [] = (0, nothing-below K 0)
  pairs_bound (x ∷ p) =
      let h = pairs_bound p in
      let n = h.0 + suc x.0 in
      (n, added-below K N n (monomial K x.0 x.1) (of_pairs K p) (monomial-below K x.0 n x.1 (omega arith)) (IsBelow-more K h.0 n (of_pairs K p) (omega arith) h.1))

  -- ---- products

  -- the product of a term with no pair
  pub multiples_none : (old a : ℕ → F) → old ≡ added K old (product K a (nothing K))
  multiples_none old a = sym (ap (added K old) (product-nothing K N a) ∙ (coefficients_are_module K N).plus_zero old)

  -- with one more
  pub multiples_more : (old : ℕ → F) (t x y : ℕ × F) (p done : List (ℕ × F)) (i : ℕ) → i < length p → x ≡ get_or p i x → y.0 ≡ t.0 + x.0 → y.1 ≡ K.times t.1 x.1
      → of_pairs K done ≡ added K old (product K (monomial K t.0 t.1) (of_pairs K (take i p)))
      → of_pairs K (done ++ y ∷ []) ≡ added K old (product K (monomial K t.0 t.1) (of_pairs K (take (i + 1) p)))
  multiples_more old t x y p done i l is e f h =
      let a = monomial K t.0 t.1 in
      let b = of_pairs K (take i p) in
      of_pairs-push K N done y
      ∙ ap₂ (added K) h (ap₂ (monomial K) e f ∙ sym (monomial-monomial K N t.0 x.0 t.1 x.1))
      ∙ (coefficients_are_module K N).plus_assoc old (product K a b) (product K a (monomial K x.0 x.1))
      ∙ ap (added K old) (sym (product-added K N a b (monomial K x.0 x.1)) ∙ ap (product K a) (sym (of_pairs-next p i x l is)))

  -- and with all
  pub multiples_all : (old a : ℕ → F) (p : List (ℕ × F)) (i : ℕ) → length p ≤ i → added K old (product K a (of_pairs K (take i p))) ≡ added K old (product K a (of_pairs K p))
  multiples_all old a p i l = ap (λ t. added K old (product K a (of_pairs K t))) (take_all i p l)

  -- the products of one more term
  pub product_rows_more : (p : List (ℕ × F)) (b : ℕ → F) (i : ℕ) (x : ℕ × F) → i < length p → x ≡ get_or p i x
      → added K (product K (of_pairs K (take i p)) b) (product K (monomial K x.0 x.1) b) ≡ product K (of_pairs K (take (i + 1) p)) b
  product_rows_more p b i x l is =
      sym (added-product K N (of_pairs K (take i p)) (monomial K x.0 x.1) b) ∙ ap (λ t. product K t b) (sym (of_pairs-next p i x l is))

  pub product_rows_none : (p : List (ℕ × F)) (b : ℕ → F) → nothing K ≡ product K (of_pairs K (take 0 p)) b
  product_rows_none p b = sym (nothing-product K N b)

  pub product_rows_all : (p : List (ℕ × F)) (b : ℕ → F) (i : ℕ) → length p ≤ i → product K (of_pairs K (take i p)) b ≡ product K (of_pairs K p) b
  product_rows_all p b i l = ap (λ t. product K (of_pairs K t) b) (take_all i p l)

  -- no exponent is past the degree
  sparse_exponents : (p : List (ℕ × F)) (d : ℕ) → IsSparse K p → IsDegree K (of_pairs K p) d → All (λ x. x.0 ≤ d) p
  sparse_exponents p d s h k x l =
      let e = (get_or p k x).0 in
      ⊎_elim
      (λ (b : d < e). absurd (s.some k x l (sym (of_pairs-at K N p k x s.rising l) ∙ h.rest e (omega arith))))
      (λ (b : e ≤ d). b)
      (cases_lt d e)

  pub exponents_room : (p q : List (ℕ × F)) (d e most : ℕ) → IsSparse K p → IsSparse K q → IsDegree K (of_pairs K p) d → IsDegree K (of_pairs K q) e → d + e ≤ most
      → All (λ x. All (λ y. x.0 + y.0 ≤ most) q) p
  exponents_room p q d e most s t f g room k x l j y m =
      let a = sparse_exponents p d s f k x l in
      let b = sparse_exponents q e t g j y m in
      omega arith

  pub no_degrees_past : (a b : ℕ → F) (d e most : ℕ) → IsDegree K a d → IsDegree K b e → d + e ≤ most
      → (m : ℕ) × (n : ℕ) × IsDegree K a m × IsDegree K b n × (most < m + n) → ⊥
  no_degrees_past a b d e most f g room past =
      let same : past.0 ≡ d = one_degree K a past.0 d past.2 f in
      let others : past.1 ≡ e = one_degree K b past.1 e past.3 g in
      let l = past.4 in
      omega arith

-- ---- remainders by x ^ n - c

-- r is a but for a multiple of x ^ n - c
pub record IsReduced {F : Type 0} (K : FieldOn F) (n : ℕ) (c : F) (a r : ℕ → F) : Type 0 where
  pub factor : ℕ → F
  pub finite : (m : ℕ) × IsBelow K m factor
  pub whole : a ≡ added K (product K factor (binomial K n c)) r

module _ {F : Type 0} (K : FieldOn F) (N : IsField K) (n : ℕ) (c : F) where
  reduced-none : (r : ℕ → F) → IsReduced K n c r r
  reduced-none r = record {
    factor = nothing K;
    finite = (0, nothing-below K 0);
    whole = sym (ap (λ t. added K t r) (nothing-product K N (binomial K n c)) ∙ zero_plus (coefficients_are_module K N) r);
  }

  pub reduced_zeros : (xs : List F) → xs ≡ replicate n K.zero → (length xs ≡ n) × IsReduced K n c (nothing K) (of_list K xs)
  reduced_zeros xs e = (
    ap length e ∙ length-replicate n K.zero,
    subst (IsReduced K n c (nothing K)) (sym (ap (of_list K) e ∙ of_list-replicate K n)) (reduced-none (nothing K)),
  )

  reduced-added : (a b r s : ℕ → F) → IsReduced K n c a r → IsReduced K n c b s → IsReduced K n c (added K a b) (added K r s)
  reduced-added a b r s g h =
      let m = g.finite.0 + h.finite.0 in
      let p = product K g.factor (binomial K n c) in
      let q = product K h.factor (binomial K n c) in
      record {
        factor = added K g.factor h.factor;
        finite = (
          m,
          added-below K N m g.factor h.factor (IsBelow-more K g.finite.0 m g.factor (omega arith) g.finite.1) (IsBelow-more K h.finite.0 m h.factor (omega arith) h.finite.1),
        );
        whole =
            ap₂ (added K) g.whole h.whole
            ∙ fun_ext (λ k. ring4 K N (λ p r q s. ((p ⊕ r) ⊕ (q ⊕ s), (p ⊕ q) ⊕ (r ⊕ s))) refl (p k) (r k) (q k) (s k))
            ∙ ap (λ t. added K t (added K r s)) (sym (added-product K N g.factor h.factor (binomial K n c)));
      }

  -- a term's exponent goes down by n, for a factor c
  monomial-lowered : (e : ℕ) (x : F) → monomial K (e + n) x ≡ added K (product K (monomial K e x) (binomial K n c)) (monomial K e (K.times c x))
  monomial-lowered e x =
      let same : e + 0 ≡ e = omega arith in
      let high : product K (monomial K e x) (monomial K n K.one) ≡ monomial K (e + n) x =
      monomial-monomial K N e n x K.one ∙ ap (monomial K (e + n)) (N.times_one x) in
      let low : product K (monomial K e x) (monomial K 0 c) ≡ monomial K e (K.times c x) =
      monomial-monomial K N e 0 x c ∙ ap₂ (monomial K) same (N.times_comm x c) in
      fun_ext (λ k. ring2 K N (λ u v. (u, (u ⊖ v) ⊕ v)) refl (monomial K (e + n) x k) (monomial K e (K.times c x) k))
      ∙ ap (λ t. added K t (monomial K e (K.times c x))) (sym (product-difference K N (monomial K e x) (monomial K n K.one) (monomial K 0 c) ∙ ap₂ (difference K) high low))

  reduced-times : (k r : ℕ) (x : F) → IsReduced K n c (monomial K (k * n + r) x) (monomial K r (K.times (power K c k) x))
  reduced-times zero r x =
      let e : r ≡ 0 * n + r = omega arith in
      subst (λ t. IsReduced K n c (monomial K t x) (monomial K r (K.times K.one x))) e
      (subst (λ t. IsReduced K n c (monomial K r x) (monomial K r t)) (sym (one_times K N x)) (reduced-none (monomial K r x)))
  reduced-times (suc k) r x =
      let e = k * n + r in
      let up : suc k * n + r ≡ e + n = omega arith in
      let h = reduced-times k r (K.times c x) in
      let rest = monomial K r (K.times (power K c k) (K.times c x)) in
      let first : IsReduced K n c (product K (monomial K e x) (binomial K n c)) (nothing K) = record {
        factor = monomial K e x;
        finite = (suc e, monomial-below K e (suc e) x (omega arith));
        whole = sym ((coefficients_are_module K N).plus_zero (product K (monomial K e x) (binomial K n c)));
      } in
      let last : added K (nothing K) rest ≡ monomial K r (K.times (power K c (suc k)) x) =
      zero_plus (coefficients_are_module K N) rest
      ∙ ap (monomial K r) (ring3 K N (λ p c x. (p ⊗ (c ⊗ x), (c ⊗ p) ⊗ x)) refl (power K c k) c x) in
      subst (λ t. IsReduced K n c t (monomial K r (K.times (power K c (suc k)) x))) (sym (ap (λ t. monomial K t x) up ∙ monomial-lowered e x))
      (subst (IsReduced K n c (added K (product K (monomial K e x) (binomial K n c)) (monomial K e (K.times c x)))) last
      (reduced-added (product K (monomial K e x) (binomial K n c)) (monomial K e (K.times c x)) (nothing K) rest first h))

  -- a term by the quotient and the remainder of its exponent
  reduced-monomial : (d : ℕ) (x : F) → IsReduced K n c (monomial K d x) (monomial K (d % n) (K.times (power K c (d / n)) x))
  reduced-monomial d x =
      subst (λ t. IsReduced K n c (monomial K t x) (monomial K (d % n) (K.times (power K c (d / n)) x))) (div-add-mod' d n) (reduced-times (d / n) (d % n) x)

  -- an item with more added to it
  of_list-added : (xs : List F) (k : ℕ) (x y : F) → k < length xs → y ≡ K.plus (of_list K xs k) x → of_list K (set xs k y) ≡ added K (of_list K xs) (monomial K k x)
  of_list-added xs k x y l e =
      of_list-set K xs k y (added K (of_list K xs) (monomial K k x)) l
      (ap (K.plus (of_list K xs k)) (monomial-same K k x) ∙ sym e)
      (λ i ne. ap (K.plus (of_list K xs i)) (monomial-other K k x i (λ f. ne (sym f))) ∙ N.plus_zero (of_list K xs i))

  -- one more pair
  pub reduced_more : (p : List (ℕ × F)) (i : ℕ) (x : ℕ × F) (xs : List F) (y : F) → 0 < n → length xs ≡ n → i < length p → x ≡ get_or p i x
      → y ≡ K.plus (of_list K xs (x.0 % n)) (K.times (power K c (x.0 / n)) x.1)
      → IsReduced K n c (of_pairs K (take i p)) (of_list K xs) → IsReduced K n c (of_pairs K (take (i + 1) p)) (of_list K (set xs (x.0 % n) y))
  reduced_more p i x xs y some len l is e h =
      let t = K.times (power K c (x.0 / n)) x.1 in
      let inside : x.0 % n < length xs = let m = mod-lt x.0 some in omega arith in
      subst (λ r. IsReduced K n c (of_pairs K (take (i + 1) p)) r) (sym (of_list-added xs (x.0 % n) t y inside e))
      (subst (λ a. IsReduced K n c a (added K (of_list K xs) (monomial K (x.0 % n) t))) (sym (of_pairs-next K N p i x l is))
      (reduced-added (of_pairs K (take i p)) (monomial K x.0 x.1) (of_list K xs) (monomial K (x.0 % n) t) h (reduced-monomial x.0 x.1)))

  -- all of them: n items are the remainder
  pub reduced_all : (p : List (ℕ × F)) (i : ℕ) (xs : List F) → 0 < n → length xs ≡ n → length p ≤ i → IsReduced K n c (of_pairs K (take i p)) (of_list K xs)
      → (q : ℕ → F) × IsQuotient K (of_pairs K p) (binomial K n c) q (of_list K xs)
  reduced_all p i xs some len all h = (
    h.factor,
    record {
      finite = h.finite;
      whole = sym (ap (of_pairs K) (take_all i p all)) ∙ h.whole;
      degree = (
        n,
        (λ e. N.one_not_zero (sym (binomial-leading K N n c some) ∙ e)),
        binomial-below K N n c,
        subst (λ k. IsBelow K k (of_list K xs)) len (of_list-below K xs),
      );
    },
  )
