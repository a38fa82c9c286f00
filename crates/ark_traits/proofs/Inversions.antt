-- Products of the items that aren't zero, by which many values are inverted at once.
use Rattle.std.proofs.Common.{◌≡◌, ◌≢◌, ℕ, zero, suc, ◌+◌, ◌<◌, ◌≤◌, Bool, true, false, cond, List, [], ◌∷◌, ◌++◌, length, set, sym, ◌∙◌, ap, refl, subst, arith, add-one, Decides, ⊎_elim, get_or-set_same, get_or-set_other}
use Rattle.std.proofs.lemmas.Bool.{cases_eq, cases_lt, cond-true, cond-false}
use Rattle.std.proofs.lemmas.Bool.Decides.{not_from_Decides}
use Rattle.std.proofs.lemmas.List.{get_or_push, get_or_append_left, length-append}
use Rattle.ark_math.specs.Field.{FieldOn, IsField, IsPlaceQuotient}
use Rattle.ark_math.specs.Univariate.{of_list}
use Rattle.ark_math.proofs.Algebra.NonZero.{times_not_zero}
use Rattle.ark_math.proofs.Algebra.Solve.{◌⊗◌}
use Rattle.ark_math.proofs.Algebra.Ring.{ring3}

-- the product of the items n - 2, n - 4 and so on, those left out that the test holds of
abbrev pub product_before : {F : Type 0} → FieldOn F → (F → Bool) → List F → ℕ → F
product_before K t xs zero = K.one
product_before K t xs (suc zero) = K.one
product_before K t xs (suc (suc n)) = cond (t (of_list K xs n)) (product_before K t xs n) (K.times (product_before K t xs n) (of_list K xs n))

-- those products from 0 on, and the next two
pub record AreProducts {F : Type 0} (K : FieldOn F) (t : F → Bool) (xs ps : List F) (n : ℕ) (p q : F) : Type 0 where
  pub count : length ps ≡ n
  pub before : (k : ℕ) → k < n → of_list K ps k ≡ product_before K t xs k
  pub next : p ≡ product_before K t xs n
  pub after : q ≡ product_before K t xs (n + 1)

-- the items from n on are inverted, and a and b are the inverses of the two products of those before
pub record AreInverted {F : Type 0} (K : FieldOn F) (t : F → Bool) (xs ys : List F) (n : ℕ) (a b : F) : Type 0 where
  pub next : K.times (product_before K t xs n) a ≡ K.one
  pub after : K.times (product_before K t xs (n + 1)) b ≡ K.one
  pub done : (k : ℕ) → n ≤ k → k < length xs → IsPlaceQuotient K K.one (of_list K xs k) (of_list K ys k)
  pub rest : (k : ℕ) → k < n → of_list K ys k ≡ of_list K xs k

module _ {F : Type 0} (K : FieldOn F) (N : IsField K) (t : F → Bool) (decides : (x : F) → Decides (t x) (x ≡ K.zero)) (xs : List F) where
  product-later : (n : ℕ) → product_before K t xs (n + 1 + 1) ≡ product_before K t xs (suc (suc n))
  product-later n = ap (product_before K t xs) (add-one (n + 1) ∙ ap suc (add-one n))

  product-zero : (n : ℕ) → t (of_list K xs n) ≡ true → product_before K t xs (n + 1 + 1) ≡ product_before K t xs n
  product-zero n e = product-later n ∙ cond-true _ _ _ e

  product-some : (n : ℕ) → t (of_list K xs n) ≡ false → product_before K t xs (n + 1 + 1) ≡ K.times (product_before K t xs n) (of_list K xs n)
  product-some n e = product-later n ∙ cond-false _ _ _ e

  product_not_zero : (n : ℕ) → product_before K t xs n ≢ K.zero
  product_not_zero zero e = N.one_not_zero e
  product_not_zero (suc zero) e = N.one_not_zero e
  product_not_zero (suc (suc n)) e =
      elim (t (of_list K xs n)) as (λ b. t (of_list K xs n) ≡ b → ⊥) [
        | true ↦ λ h. product_not_zero n (sym (cond-true _ _ _ h) ∙ e)
        | false ↦ λ h. times_not_zero K N _ _ (product_not_zero n) (not_from_Decides _ (decides _) h) (sym (cond-false _ _ _ h) ∙ e)
      ] refl

  pub products_not_zero : (ps : List F) (n : ℕ) (p q : F) → AreProducts K t xs ps n p q → K.times p q ≢ K.zero
  products_not_zero ps n p q h =
      times_not_zero K N p q (λ z. product_not_zero n (sym h.next ∙ z)) (λ z. product_not_zero (n + 1) (sym h.after ∙ z))

  products_push : (ps : List F) (n : ℕ) (p q r : F) → AreProducts K t xs ps n p q → r ≡ product_before K t xs (n + 1 + 1) → AreProducts K t xs (ps ++ p ∷ []) (n + 1) q r
  products_push ps n p q r h e = record {
    count = simp length-append (ap (λ u. u + 1) h.count);
    before = λ k l. ⊎_elim
        (λ (b : k < n). let c : k < length ps = omega (arith, h.count) in get_or_append_left ps (p ∷ []) K.zero k c ∙ h.before k b)
        (λ (b : n ≤ k). let c : k ≡ n = omega arith in get_or_push ps p K.zero k (h.count ∙ sym c) ∙ h.next ∙ ap (product_before K t xs) (sym c))
        (cases_lt k n);
    next = h.after;
    after = e;
  }

  pub products_zero : (ps : List F) (n : ℕ) (p q x : F) → AreProducts K t xs ps n p q → x ≡ of_list K xs n → t x ≡ true → AreProducts K t xs (ps ++ p ∷ []) (n + 1) q p
  products_zero ps n p q x h e z = products_push ps n p q p h (h.next ∙ sym (product-zero n (ap t (sym e) ∙ z)))

  pub products_some : (ps : List F) (n : ℕ) (p q x r : F) → AreProducts K t xs ps n p q → x ≡ of_list K xs n → t x ≡ false → r ≡ K.times p x → AreProducts K t xs (ps ++ p ∷ []) (n + 1) q r
  products_some ps n p q x r h e z f =
      products_push ps n p q r h
      (f ∙ ap (λ u. K.times p u) e ∙ ap (λ u. K.times u (of_list K xs n)) h.next ∙ sym (product-some n (ap t (sym e) ∙ z)))

  pub inverted_zero : (ys : List F) (n : ℕ) (a b x : F) → AreInverted K t xs ys (n + 1) a b → x ≡ of_list K ys n → t x ≡ true → AreInverted K t xs ys n b a
  inverted_zero ys n a b x h e z =
      let same : of_list K ys n ≡ of_list K xs n = h.rest n (omega arith) in
      let test : t (of_list K xs n) ≡ true = ap t (sym (e ∙ same)) ∙ z in
      let none : of_list K xs n ≡ K.zero = (decides _).0 test in
      record {
        next = ap (λ u. K.times u b) (sym (product-zero n test)) ∙ h.after;
        after = h.next;
        done = λ k l m. ⊎_elim
            (λ (b : k ≡ n).
            subst (λ i. IsPlaceQuotient K K.one (of_list K xs i) (of_list K ys i)) (sym b)
            (record { none = λ _. same ∙ none; some = λ ne. absurd (ne none) }))
            (λ (b : k ≢ n). h.done k (omega arith) m)
            (cases_eq k n);
        rest = λ k l. h.rest k (omega arith);
      }

  pub inverted_some : (ys : List F) (n : ℕ) (a b x v d p : F) → n < length ys → AreInverted K t xs ys (n + 1) a b → x ≡ of_list K ys n → t x ≡ false → p ≡ product_before K t xs n → v ≡ K.times b p → d ≡ K.times b x → AreInverted K t xs (set ys n v) n d a
  inverted_some ys n a b x v d p l h e z f g j =
      let same : x ≡ of_list K xs n = e ∙ h.rest n (omega arith) in
      let test : t (of_list K xs n) ≡ false = ap t (sym same) ∙ z in
      let some : of_list K xs n ≢ K.zero = not_from_Decides _ (decides _) test in
      let whole : K.times (K.times p x) b ≡ K.one =
      ap (λ u. K.times (K.times u x) b) f ∙ ap (λ u. K.times (K.times (product_before K t xs n) u) b) same ∙ ap (λ u. K.times u b) (sym (product-some n test)) ∙ h.after in
      record {
        next =
            ap (λ u. K.times u d) (sym f) ∙ ap (K.times p) j ∙ ring3 K N (λ p b x. (p ⊗ (b ⊗ x), (p ⊗ x) ⊗ b)) refl p b x ∙ whole;
        after = h.next;
        done = λ k c m. ⊎_elim
            (λ (o : k ≡ n).
            subst (λ i. IsPlaceQuotient K K.one (of_list K xs i) (of_list K (set ys n v) i)) (sym o)
            (record {
              none = λ o. absurd (some o);
              some = λ _.
                  ap (λ u. K.times u (of_list K xs n)) (get_or-set_same ys n v K.zero l ∙ g)
                  ∙ ap (K.times (K.times b p)) (sym same)
                  ∙ ring3 K N (λ p b x. ((b ⊗ p) ⊗ x, (p ⊗ x) ⊗ b)) refl p b x
                  ∙ whole;
            }))
            (λ (o : k ≢ n).
            subst (IsPlaceQuotient K K.one (of_list K xs k)) (sym (get_or-set_other ys n k v K.zero o)) (h.done k (omega arith) m))
            (cases_eq k n);
        rest = λ k c. get_or-set_other ys n k v K.zero (omega arith) ∙ h.rest k (omega arith);
      }
