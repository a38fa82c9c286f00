-- Coefficients in the reversed order, and the quotient by a series that inverts the reversed divisor.
use Rattle.std.proofs.Common.{◌≡◌, ◌≢◌, ℕ, zero, suc, ◌+◌, ◌-◌, ◌<◌, ◌≤◌, sym, ◌∙◌, ap, ap₂, refl, subst, arith, ⊎_elim}
use mathlib.Core.Path.{fun_ext}
use Rattle.std.proofs.lemmas.Bool.{cases_lt, cases_eq}
use Rattle.ark_math.specs.Field.{FieldOn, IsField, minus}
use Rattle.ark_quotients.specs.PowerSeries.{AgreeBelow, backwards, unity}
use Rattle.ark_math.specs.Univariate.{nothing, added, difference, monomial, product, IsBelow, IsQuotient}
use Rattle.ark_math.proofs.Algebra.Groups.{itself_is_module, zero_scale}
use Rattle.ark_math.proofs.Algebra.Powers.{times_zero}
use Rattle.ark_math.proofs.Algebra.Solve.{◌⊞◌, ◌⊟◌}
use Rattle.ark_math.proofs.Algebra.Ring.{module0_2}
use Rattle.ark_math_polynomials.proofs.Polynomials.Univariate.{coefficients_are_module, monomial-same, monomial-other, same_below, difference-below, nothing-below}
use Rattle.ark_math_polynomials.proofs.Polynomials.UnivariateLoops.{cut, cut-inside, cut-outside, cut-none, cut-all, cut-more}
use Rattle.ark_math_polynomials.proofs.Polynomials.UnivariateProducts.{product_assoc, product_comm, added-product, one-product, nothing-product, product-below, monomial-product_past, monomial-product_before}
use Rattle.ark_quotients.proofs.PowerSeries.{agree-product}

module _ {F : Type 0} (K : FieldOn F) where
  pub backwards-inside : (m : ℕ) (a : ℕ → F) (i : ℕ) → i ≤ m → backwards K m a i ≡ a (m - i)
  backwards-inside m a i l = cut-inside K (m + 1) (λ i. a (m - i)) i (omega arith)

  backwards-outside : (m : ℕ) (a : ℕ → F) (i : ℕ) → m < i → backwards K m a i ≡ K.zero
  backwards-outside m a i l = cut-outside K (m + 1) (λ i. a (m - i)) i (omega arith)

  backwards-below : (m : ℕ) (a : ℕ → F) → IsBelow K (m + 1) (backwards K m a)
  backwards-below m a i l = backwards-outside m a i (omega arith)

  backwards-nothing : (m : ℕ) → backwards K m (nothing K) ≡ nothing K
  backwards-nothing m = same_below K (m + 1) (backwards K m (nothing K)) (nothing K) (backwards-below m (nothing K)) (nothing-below K (m + 1))
      (λ i l. backwards-inside m (nothing K) i (omega arith))

  -- twice reversed is as it was
  backwards-backwards : (m : ℕ) (a : ℕ → F) → backwards K m (backwards K m a) ≡ cut K (m + 1) a
  backwards-backwards m a = same_below K (m + 1) (backwards K m (backwards K m a)) (cut K (m + 1) a) (backwards-below m (backwards K m a)) (λ i l. cut-outside K (m + 1) a i l)
      (λ i l.
      let e : m - (m - i) ≡ i = omega arith in
      backwards-inside m (backwards K m a) i (omega arith) ∙ backwards-inside m a (m - i) (omega arith) ∙ ap a e ∙ sym (cut-inside K (m + 1) a i l))

  backwards-monomial : (m j : ℕ) (c : F) → j ≤ m → backwards K m (monomial K j c) ≡ monomial K (m - j) c
  backwards-monomial m j c l = fun_ext (λ i. ⊎_elim
      (λ (h : m < i). backwards-outside m (monomial K j c) i h ∙ sym (monomial-other K (m - j) c i (λ e. omega arith)))
      (λ (h : i ≤ m).
      backwards-inside m (monomial K j c) i h
      ∙ ⊎_elim
      (λ (e : j ≡ m - i). let f : m - j ≡ i = omega arith in ap (monomial K j c) (sym e) ∙ monomial-same K j c ∙ sym (ap (monomial K (m - j) c) (sym f) ∙ monomial-same K (m - j) c))
      (λ (ne : j ≢ m - i). monomial-other K j c (m - i) ne ∙ sym (monomial-other K (m - j) c i (λ e. ne (omega arith))))
      (cases_eq j (m - i)))
      (cases_lt m i))

module _ {F : Type 0} (K : FieldOn F) (N : IsField K) where
  backwards-added : (m : ℕ) (a b : ℕ → F) → backwards K m (added K a b) ≡ added K (backwards K m a) (backwards K m b)
  backwards-added m a b = fun_ext (λ i. ⊎_elim
      (λ (h : m < i).
      backwards-outside K m (added K a b) i h ∙ sym (ap₂ K.plus (backwards-outside K m a i h) (backwards-outside K m b i h) ∙ N.plus_zero K.zero))
      (λ (h : i ≤ m).
      backwards-inside K m (added K a b) i h ∙ sym (ap₂ K.plus (backwards-inside K m a i h) (backwards-inside K m b i h)))
      (cases_lt m i))

  -- c times the variable to the j, times b
  backwards-moved : (m n j : ℕ) (c : F) (b : ℕ → F) → j ≤ m → IsBelow K (n + 1) b → backwards K (m + n) (product K (monomial K j c) b) ≡ product K (monomial K (m - j) c) (backwards K n b)
  backwards-moved m n j c b l f = fun_ext (λ i.
      let p = product K (monomial K j c) b in
      let q = product K (monomial K (m - j) c) (backwards K n b) in
      let none : m - j ≤ i → n < i - (m - j) → q i ≡ K.zero =
      λ s t. monomial-product_past K N (m - j) c (backwards K n b) i s ∙ ap (K.times c) (backwards-outside K n b (i - (m - j)) t) ∙ times_zero K N c in
      ⊎_elim
      (λ (h : m + n < i). backwards-outside K (m + n) p i h ∙ sym (none (omega arith) (omega arith)))
      (λ (h : i ≤ m + n).
      backwards-inside K (m + n) p i h
      ∙ ⊎_elim
      (λ (s : m + n - i < j). monomial-product_before K N j c b (m + n - i) s ∙ sym (none (omega arith) (omega arith)))
      (λ (s : j ≤ m + n - i).
      monomial-product_past K N j c b (m + n - i) s
      ∙ ⊎_elim
      (λ (t : i < m - j). ap (K.times c) (f (m + n - i - j) (omega arith)) ∙ times_zero K N c ∙ sym (monomial-product_before K N (m - j) c (backwards K n b) i t))
      (λ (t : m - j ≤ i).
      let e : m + n - i - j ≡ n - (i - (m - j)) = omega arith in
      ap (λ u. K.times c (b u)) e
      ∙ sym (monomial-product_past K N (m - j) c (backwards K n b) i t ∙ ap (K.times c) (backwards-inside K n b (i - (m - j)) (omega arith))))
      (cases_lt i (m - j)))
      (cases_lt (m + n - i) j))
      (cases_lt (m + n) i))

  backwards-cut : (m n k : ℕ) (a b : ℕ → F) → k ≤ m + 1 → IsBelow K (n + 1) b → backwards K (m + n) (product K (cut K k a) b) ≡ product K (backwards K m (cut K k a)) (backwards K n b)
  backwards-cut m n zero a b l f =
      ap (λ t. backwards K (m + n) (product K t b)) (cut-none K a)
      ∙ ap (backwards K (m + n)) (nothing-product K N b)
      ∙ backwards-nothing K (m + n)
      ∙ sym (ap (λ t. product K (backwards K m t) (backwards K n b)) (cut-none K a) ∙ ap (λ t. product K t (backwards K n b)) (backwards-nothing K m) ∙ nothing-product K N (backwards K n b))
  backwards-cut m n (suc k) a b l f =
      let one_more : suc k ≡ k + 1 = omega arith in
      let x = monomial K k (a k) in
      let parts : cut K (suc k) a ≡ added K (cut K k a) x = ap (λ t. cut K t a) one_more ∙ cut-more K N k a in
      ap (λ t. backwards K (m + n) (product K t b)) parts
      ∙ ap (backwards K (m + n)) (added-product K N (cut K k a) x b)
      ∙ backwards-added (m + n) (product K (cut K k a) b) (product K x b)
      ∙ ap₂ (added K)
      (backwards-cut m n k a b (omega arith) f)
      (backwards-moved m n k (a k) b (omega arith) f ∙ ap (λ t. product K t (backwards K n b)) (sym (backwards-monomial K m k (a k) (omega arith))))
      ∙ sym (added-product K N (backwards K m (cut K k a)) (backwards K m x) (backwards K n b))
      ∙ ap (λ t. product K t (backwards K n b)) (sym (ap (backwards K m) parts ∙ backwards-added m (cut K k a) x))

  -- a reversed product is the product of the reversed
  backwards-product : (m n : ℕ) (a b : ℕ → F) → IsBelow K (m + 1) a → IsBelow K (n + 1) b → backwards K (m + n) (product K a b) ≡ product K (backwards K m a) (backwards K n b)
  backwards-product m n a b f g = subst (λ t. backwards K (m + n) (product K t b) ≡ product K (backwards K m t) (backwards K n b)) (cut-all K (m + 1) a f) (backwards-cut m n (m + 1) a b (omega arith) g)

  -- the quotient of a by d has, in the reversed order, the first coefficients of a's reversed ones times an inverse of d's
  backwards_quotient : (n k : ℕ) (a d g s : ℕ → F) → d n ≢ K.zero → IsBelow K (n + 1) d → IsBelow K (k + n + 1) a → AgreeBelow (k + 1) (product K (backwards K n d) g) (unity K) → AgreeBelow (k + 1) s (product K (backwards K (k + n) a) g) → IsQuotient K a d (backwards K k s) (difference K a (product K (backwards K k s) d))
  backwards_quotient n k a d g s ne f h inverse times =
      let q = backwards K k s in
      let p = product K q d in
      let top : IsBelow K (k + n + 1) p = λ i l. product-below K N (k + 1) (n + 1) q d (backwards-below K k s) f i (omega arith) in
      let back : AgreeBelow (k + 1) (backwards K k q) s = λ i l. ap (λ t. t i) (backwards-backwards K k s) ∙ cut-inside K (k + 1) s i l in
      let same : AgreeBelow (k + 1) (backwards K (k + n) p) (backwards K (k + n) a) = λ i l.
      let ra = backwards K (k + n) a in
      let rd = backwards K n d in
      ap (λ t. t i) (backwards-product k n q d (backwards-below K k s) f)
      ∙ agree-product K (k + 1) (backwards K k q) (product K ra g) rd rd (λ j b. back j b ∙ times j b) (λ j b. refl) i l
      ∙ ap (λ t. t i) (product_assoc K N ra g rd ∙ ap (product K ra) (product_comm K N g rd))
      ∙ agree-product K (k + 1) ra ra (product K rd g) (unity K) (λ j b. refl) inverse i l
      ∙ ap (λ t. t i) (product_comm K N ra (unity K) ∙ one-product K N ra) in
      record {
        finite = (k + 1, backwards-below K k s);
        whole = module0_2 N (coefficients_are_module K N) (λ a p. (a, p ⊞ (a ⊟ p))) refl a p;
        degree = (
          n,
          ne,
          f,
          λ i l. ⊎_elim
              (λ (b : k + n < i). difference-below K N (k + n + 1) a p h top i (omega arith))
              (λ (b : i ≤ k + n).
              let j = k + n - i in
              let e : k + n - j ≡ i = omega arith in
              let at : p i ≡ a i =
              sym (ap p e) ∙ sym (backwards-inside K (k + n) p j (omega arith)) ∙ same j (omega arith) ∙ backwards-inside K (k + n) a j (omega arith) ∙ ap a e in
              ap (minus K (a i)) at ∙ N.plus_negated (a i))
              (cases_lt (k + n) i),
        );
      }

  -- the quotient by lengths: e and b are the reversed divisor and the first reversed coefficients of the dividend, and x the
  -- inverse of the leading coefficient
  pub quotient_of_lengths : (n m len : ℕ) (x : F) (a d e g b s q : ℕ → F) → 0 < n → n ≤ m → len ≡ m - n + 1 → K.times (d (n - 1)) x ≡ K.one → IsBelow K n d → IsBelow K m a → AgreeBelow n e (backwards K (n - 1) d) → IsBelow K n e → AgreeBelow len (product K e g) (unity K) → AgreeBelow len b (backwards K (m - 1) a) → s ≡ product K b g → AgreeBelow len q (backwards K (len - 1) s) → IsBelow K len q → IsQuotient K a d q (difference K a (product K q d))
  quotient_of_lengths n m len x a d e g b s q some long count leading fd fa same_e fe inverse same_b times same_q fq =
      let j = n - 1 in
      let k = len - 1 in
      let n_is : j + 1 ≡ n = omega arith in
      let len_is : k + 1 ≡ len = omega arith in
      let m_is : k + j + 1 ≡ m = omega arith in
      let top_is : m - 1 ≡ k + j = omega arith in
      let ne : d j ≢ K.zero = λ z. N.one_not_zero (sym leading ∙ ap (λ t. K.times t x) z ∙ zero_scale N (itself_is_module K N) x) in
      let e_is : e ≡ backwards K j d = same_below K n e (backwards K j d) fe (subst (λ t. IsBelow K t (backwards K j d)) n_is (backwards-below K j d)) same_e in
      let q_is : q ≡ backwards K k s = same_below K len q (backwards K k s) fq (subst (λ t. IsBelow K t (backwards K k s)) len_is (backwards-below K k s)) same_q in
      subst (λ t. IsQuotient K a d t (difference K a (product K t d))) (sym q_is)
      (backwards_quotient j k a d g s ne
      (subst (λ t. IsBelow K t d) (sym n_is) fd)
      (subst (λ t. IsBelow K t a) (sym m_is) fa)
      (λ i l. ap (λ t. product K t g i) (sym e_is) ∙ inverse i (omega arith))
      (λ i l. ap (λ t. t i) times ∙ agree-product K len b (backwards K (k + j) a) g g (λ o h. same_b o h ∙ ap (λ t. backwards K t a o) top_is) (λ o h. refl) i (omega arith)))
