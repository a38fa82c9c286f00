-- The multiples of a number below another one, and the numbers between them, as listings.
use Rattle.std.proofs.Common.{◌≡◌, ℕ, zero, suc, ◌+◌, ◌*◌, ◌/◌, ◌%◌, ◌<◌, [], ◌∷◌, ◌++◌, Bool, true, false, not, eqb, sym, ◌∙◌, ap, ap₂, refl, arith}
use Rattle.std.specs.Prelude.{filter}
use Rattle.std.proofs.lemmas.Nat.{div-mul-add, mod-mul-add}
use Rattle.std.proofs.lemmas.Bool.{cond-true, cond-false, eq-eqb, ne_eqb}
use Rattle.std.proofs.lemmas.List.Elements.{filter-append}
use Rattle.ark_math.specs.Module.{tabulate, tabulate_from}
use Rattle.ark_math.proofs.Lists.Tabulated.{tabulate_from-add}

-- ---- listings

tabulate_from-same : {M : Type 0} (i j n : ℕ) (f g : ℕ → M) → ((r : ℕ) → r < n → f (i + r) ≡ g (j + r)) → tabulate_from i n f ≡ tabulate_from j n g
tabulate_from-same i j zero f g h = refl
tabulate_from-same i j (suc n) f g h =
    let a : i ≡ i + 0 = omega arith in
    let b : j + 0 ≡ j = omega arith in
    ap₂ (λ x xs. x ∷ xs)
    (ap f a ∙ h 0 (omega arith) ∙ ap g b)
    (tabulate_from-same (suc i) (suc j) n f g
    (λ r l.
    let c : suc i + r ≡ i + suc r = omega arith in
    let d : j + suc r ≡ suc j + r = omega arith in
    ap f c ∙ h (suc r) (omega arith) ∙ ap g d))

filter-all : {M : Type 0} (p : M → Bool) (f : ℕ → M) (i n : ℕ) → ((r : ℕ) → r < n → p (f (i + r)) ≡ true) → filter p (tabulate_from i n f) ≡ tabulate_from i n f
filter-all p f i zero h = refl
filter-all p f i (suc n) h =
    let a : i ≡ i + 0 = omega arith in
    cond-true (p (f i)) _ _ (ap (λ t. p (f t)) a ∙ h 0 (omega arith))
    ∙ ap (λ xs. f i ∷ xs) (filter-all p f (suc i) n (λ r l. let e : suc i + r ≡ i + suc r = omega arith in ap (λ t. p (f t)) e ∙ h (suc r) (omega arith)))

filter-none : {M : Type 0} (p : M → Bool) (f : ℕ → M) (i n : ℕ) → ((r : ℕ) → r < n → p (f (i + r)) ≡ false) → filter p (tabulate_from i n f) ≡ []
filter-none p f i zero h = refl
filter-none p f i (suc n) h =
    let a : i ≡ i + 0 = omega arith in
    cond-false (p (f i)) _ _ (ap (λ t. p (f t)) a ∙ h 0 (omega arith))
    ∙ filter-none p f (suc i) n (λ r l. let e : suc i + r ≡ i + suc r = omega arith in ap (λ t. p (f t)) e ∙ h (suc r) (omega arith))

-- ---- the two parts, for t = x + 1

abbrev pub number : ℕ → ℕ
number i = i

abbrev pub is_multiple : ℕ → ℕ → Bool
is_multiple t i = eqb (i % t) 0

abbrev pub other : ℕ → ℕ → ℕ
other x j = j + j / x + 1

module _ (x : ℕ) where
  pub multiple_yes : (k : ℕ) → is_multiple (suc x) (k * suc x) ≡ true
  multiple_yes k = let e : k * suc x ≡ k * suc x + 0 = omega arith in eq-eqb _ 0 (ap (λ t. t % suc x) e ∙ mod-mul-add k (suc x) 0 (omega arith))

  pub multiple_no : (k r : ℕ) → r < x → is_multiple (suc x) (suc (k * suc x) + r) ≡ false
  multiple_no k r l =
      let e : suc (k * suc x) + r ≡ k * suc x + suc r = omega arith in
      let f = mod-mul-add k (suc x) (suc r) (omega arith) in
      ne_eqb ((suc (k * suc x) + r) % suc x) 0 (λ z. let g : suc r ≡ 0 = sym f ∙ ap (λ t. t % suc x) (sym e) ∙ z in omega arith)

  -- one block of x + 1 more
  block : (p : ℕ → Bool) (k : ℕ) → filter p (tabulate (suc k * suc x) number) ≡ filter p (tabulate (k * suc x) number) ++ filter p (tabulate_from (k * suc x) (suc x) number)
  block p k =
      let e : suc k * suc x ≡ k * suc x + suc x = omega arith in
      let z : 0 + k * suc x ≡ k * suc x = omega arith in
      ap (λ t. filter p (tabulate t number)) e
      ∙ ap (filter p) (tabulate_from-add 0 (k * suc x) (suc x) number ∙ ap (λ t. tabulate (k * suc x) number ++ tabulate_from t (suc x) number) z)
      ∙ filter-append p (tabulate (k * suc x) number) (tabulate_from (k * suc x) (suc x) number)

  pub multiples : (k : ℕ) → filter (is_multiple (suc x)) (tabulate (k * suc x) number) ≡ tabulate k (λ i. i * suc x)
  multiples zero = let e : 0 * suc x ≡ 0 = omega arith in ap (λ t. filter (is_multiple (suc x)) (tabulate t number)) e
  multiples (suc k) =
      let p = is_multiple (suc x) in
      let m = k * suc x in
      let e : suc k ≡ k + 1 = omega arith in
      let z : 0 + k ≡ k = omega arith in
      block p k
      ∙ ap₂ (λ xs ys. xs ++ ys) (multiples k)
      (cond-true (p m) _ _ (multiple_yes k) ∙ ap (λ xs. m ∷ xs) (filter-none p number (suc m) x (λ r l. multiple_no k r l)))
      ∙ sym (ap (λ t. tabulate t (λ i. i * suc x)) e ∙ tabulate_from-add 0 k 1 (λ i. i * suc x) ∙ ap (λ t. tabulate k (λ i. i * suc x) ++ t * suc x ∷ []) z)

  pub others : (k : ℕ) → filter (λ i. not (is_multiple (suc x) i)) (tabulate (k * suc x) number) ≡ tabulate (k * x) (other x)
  others zero =
      let e : 0 * suc x ≡ 0 = omega arith in
      let f : 0 ≡ 0 * x = omega arith in
      ap (λ t. filter (λ i. not (is_multiple (suc x) i)) (tabulate t number)) e ∙ ap (λ t. tabulate t (other x)) f
  others (suc k) =
      let p : ℕ → Bool = λ i. not (is_multiple (suc x) i) in
      let m = k * suc x in
      let e : suc k * x ≡ k * x + x = omega arith in
      block p k
      ∙ ap₂ (λ xs ys. xs ++ ys) (others k)
      (cond-false (p m) _ _ (ap not (multiple_yes k))
      ∙ filter-all p number (suc m) x (λ r l. ap not (multiple_no k r l))
      ∙ tabulate_from-same (suc m) (0 + k * x) x number (other x)
      (λ r l.
      let f : (0 + k * x + r) / x ≡ k = ap (λ t. (t + r) / x) (omega arith) ∙ div-mul-add k x r l in
      let g : k * suc x ≡ k * x + k = omega arith in
      omega arith))
      ∙ sym (ap (λ t. tabulate t (other x)) e ∙ tabulate_from-add 0 (k * x) x (other x))
