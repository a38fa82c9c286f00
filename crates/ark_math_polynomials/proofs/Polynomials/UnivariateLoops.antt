-- What loops over two lists of coefficients compute.
use Rattle.std.proofs.Common.{◌≡◌, ◌≢◌, ℕ, ◌+◌, ◌<◌, ◌≤◌, List, length, get_or, set, sym, ◌∙◌, ap, ap₂, subst, arith, ⊎_elim, cond}
use mathlib.Core.Path.{fun_ext}
use Rattle.std.proofs.lemmas.Bool.{cases_eq, cases_lt, cond-true, cond-false, lt-ltb, le-ltb}
use Rattle.std.specs.Prelude.{nat_lt}
use Rattle.ark_math.specs.Field.{FieldOn, IsField}
use Rattle.ark_math.specs.Univariate.{nothing, added, monomial, product, IsBelow, of_list}
use Rattle.ark_math.proofs.Algebra.Groups.{itself_is_module, zero_plus}
use Rattle.ark_math_polynomials.proofs.Polynomials.Univariate.{coefficients_are_module, monomial-same, monomial-other, same_below}
use Rattle.ark_math_polynomials.proofs.Polynomials.UnivariateLists.{of_list-set}
use Rattle.ark_math_polynomials.proofs.Polynomials.UnivariateProducts.{product-added, added-product, product-nothing, nothing-product, monomial-monomial}

-- the coefficients below n, and zero from there on
abbrev pub cut : {F : Type 0} → FieldOn F → ℕ → (ℕ → F) → ℕ → F
cut K n a i = cond (nat_lt i n) (a i) K.zero

-- the coefficients of two by an operation, below n alone
abbrev pub zipped : {F : Type 0} → (F → F → F) → ℕ → (ℕ → F) → (ℕ → F) → ℕ → F
zipped f n a b i = cond (nat_lt i n) (f (a i) (b i)) (a i)

-- a product by rows: all that the first coefficient gives, then what the second adds, and so on; after i rows, and j
-- items of row i
abbrev pub rows : {F : Type 0} → FieldOn F → (ℕ → F) → (ℕ → F) → ℕ → ℕ → ℕ → F
rows K a b i j = added K (product K (cut K i a) b) (product K (monomial K i (a i)) (cut K j b))

module _ {F : Type 0} (K : FieldOn F) where
  pub cut-inside : (n : ℕ) (a : ℕ → F) (i : ℕ) → i < n → cut K n a i ≡ a i
  cut-inside n a i l = cond-true (nat_lt i n) (a i) K.zero (lt-ltb i n l)

  pub cut-outside : (n : ℕ) (a : ℕ → F) (i : ℕ) → n ≤ i → cut K n a i ≡ K.zero
  cut-outside n a i l = cond-false (nat_lt i n) (a i) K.zero (le-ltb i n l)

  pub cut-none : (a : ℕ → F) → cut K 0 a ≡ nothing K
  cut-none a = fun_ext (λ i. cut-outside 0 a i (omega arith))

  pub cut-all : (n : ℕ) (a : ℕ → F) → IsBelow K n a → cut K n a ≡ a
  cut-all n a b = same_below K n (cut K n a) a (cut-outside n a) b (cut-inside n a)

  -- ---- one item after the other, by an operation

  pub zipped-inside : (f : F → F → F) (n : ℕ) (a b : ℕ → F) (i : ℕ) → i < n → zipped f n a b i ≡ f (a i) (b i)
  zipped-inside f n a b i l = cond-true (nat_lt i n) (f (a i) (b i)) (a i) (lt-ltb i n l)

  pub zipped-outside : (f : F → F → F) (n : ℕ) (a b : ℕ → F) (i : ℕ) → n ≤ i → zipped f n a b i ≡ a i
  zipped-outside f n a b i l = cond-false (nat_lt i n) (f (a i) (b i)) (a i) (le-ltb i n l)

  pub zipped-begin : (f : F → F → F) (a b : ℕ → F) → a ≡ zipped f 0 a b
  zipped-begin f a b = fun_ext (λ i. sym (zipped-outside f 0 a b i (omega arith)))

  -- all of them, where the operation changes none past the end
  pub zipped-end : (f : F → F → F) (n : ℕ) (a b : ℕ → F) → ((i : ℕ) → n ≤ i → f (a i) (b i) ≡ a i) → zipped f n a b ≡ (λ i. f (a i) (b i))
  zipped-end f n a b h = fun_ext (λ i. ⊎_elim
      (λ (l : i < n). zipped-inside f n a b i l)
      (λ (l : n ≤ i). zipped-outside f n a b i l ∙ sym (h i l))
      (cases_lt i n))

  pub zipped-set : (f : F → F → F) (a b : ℕ → F) (i : ℕ) (c : List F) (x : F) → i < length c → of_list K c ≡ zipped f i a b → x ≡ f (of_list K c i) (b i) → of_list K (set c i x) ≡ zipped f (i + 1) a b
  zipped-set f a b i c x l e h =
      let old : of_list K c i ≡ a i = ap (λ t. t i) e ∙ zipped-outside f i a b i (omega arith) in
      of_list-set K c i x (zipped f (i + 1) a b) l
      (zipped-inside f (i + 1) a b i (omega arith) ∙ sym (h ∙ ap (λ t. f t (b i)) old))
      (λ k ne.
      ⊎_elim
      (λ (s : k < i). zipped-inside f (i + 1) a b k (omega arith) ∙ sym (zipped-inside f i a b k s))
      (λ (s : i ≤ k). zipped-outside f (i + 1) a b k (omega arith) ∙ sym (zipped-outside f i a b k s))
      (cases_lt k i)
      ∙ sym (ap (λ t. t k) e))

module _ {F : Type 0} (K : FieldOn F) (N : IsField K) where
  pub cut-more : (n : ℕ) (a : ℕ → F) → cut K (n + 1) a ≡ added K (cut K n a) (monomial K n (a n))
  cut-more n a = fun_ext (λ i. ⊎_elim
      (λ (l : i < n).
      cut-inside K (n + 1) a i (omega arith) ∙ sym (N.plus_zero (a i)) ∙ sym (ap₂ K.plus (cut-inside K n a i l) (monomial-other K n (a n) i (λ e. omega arith))))
      (λ (l : n ≤ i). ⊎_elim
      (λ (e : n ≡ i).
      cut-inside K (n + 1) a i (omega arith) ∙ sym (zero_plus (itself_is_module K N) (a i))
      ∙ sym (ap₂ K.plus (cut-outside K n a i l) (subst (λ t. monomial K n (a n) t ≡ a t) e (monomial-same K n (a n)))))
      (λ (ne : n ≢ i).
      cut-outside K (n + 1) a i (omega arith) ∙ sym (N.plus_zero K.zero) ∙ sym (ap₂ K.plus (cut-outside K n a i l) (monomial-other K n (a n) i ne)))
      (cases_eq n i))
      (cases_lt i n))

  -- ---- rows

  pub rows-none : (a b : ℕ → F) → product K (cut K 0 a) b ≡ nothing K
  rows-none a b = ap (λ t. product K t b) (cut-none K a) ∙ nothing-product K N b

  -- a whole row
  rows-row : (a b : ℕ → F) (i : ℕ) → added K (product K (cut K i a) b) (product K (monomial K i (a i)) b) ≡ product K (cut K (i + 1) a) b
  rows-row a b i = sym (ap (λ t. product K t b) (cut-more i a) ∙ added-product K N (cut K i a) (monomial K i (a i)) b)

  pub rows-begin : (a b : ℕ → F) (i : ℕ) → rows K a b i 0 ≡ product K (cut K i a) b
  rows-begin a b i =
      ap (added K (product K (cut K i a) b)) (ap (product K (monomial K i (a i))) (cut-none K b) ∙ product-nothing K N (monomial K i (a i)))
      ∙ (coefficients_are_module K N).plus_zero (product K (cut K i a) b)

  pub rows-end : (a b : ℕ → F) (i n : ℕ) → IsBelow K n b → rows K a b i n ≡ product K (cut K (i + 1) a) b
  rows-end a b i n f = ap (λ t. added K (product K (cut K i a) b) (product K (monomial K i (a i)) t)) (cut-all K n b f) ∙ rows-row a b i

  rows-more : (a b : ℕ → F) (i j : ℕ) → rows K a b i (j + 1) ≡ added K (rows K a b i j) (monomial K (i + j) (K.times (a i) (b j)))
  rows-more a b i j =
      let m = monomial K i (a i) in
      ap (added K (product K (cut K i a) b))
      (ap (product K m) (cut-more j b)
      ∙ product-added K N m (cut K j b) (monomial K j (b j))
      ∙ ap (added K (product K m (cut K j b))) (monomial-monomial K N i j (a i) (b j)))
      ∙ sym ((coefficients_are_module K N).plus_assoc (product K (cut K i a) b) (product K m (cut K j b)) (monomial K (i + j) (K.times (a i) (b j))))

  rows-same : (a b : ℕ → F) (i j : ℕ) → rows K a b i (j + 1) (i + j) ≡ K.plus (rows K a b i j (i + j)) (K.times (a i) (b j))
  rows-same a b i j = ap (λ t. t (i + j)) (rows-more a b i j) ∙ ap (K.plus (rows K a b i j (i + j))) (monomial-same K (i + j) (K.times (a i) (b j)))

  rows-other : (a b : ℕ → F) (i j k : ℕ) → k ≢ i + j → rows K a b i (j + 1) k ≡ rows K a b i j k
  rows-other a b i j k ne =
      ap (λ t. t k) (rows-more a b i j)
      ∙ ap (K.plus (rows K a b i j k)) (monomial-other K (i + j) (K.times (a i) (b j)) k (λ e. ne (sym e)))
      ∙ N.plus_zero (rows K a b i j k)

  -- one item of a row, as a list is written
  pub rows-set : (a b : ℕ → F) (i j : ℕ) (c : List F) → i + j < length c → of_list K c ≡ rows K a b i j → of_list K (set c (i + j) (K.plus (get_or c (i + j) K.zero) (K.times (a i) (b j)))) ≡ rows K a b i (j + 1)
  rows-set a b i j c l e =
      of_list-set K c (i + j) (K.plus (get_or c (i + j) K.zero) (K.times (a i) (b j))) (rows K a b i (j + 1)) l
      (rows-same a b i j ∙ ap (λ t. K.plus (t (i + j)) (K.times (a i) (b j))) (sym e))
      (λ k ne. rows-other a b i j k ne ∙ ap (λ t. t k) (sym e))
