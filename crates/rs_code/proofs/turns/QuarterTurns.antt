-- Products of x - r over the marked places of a domain, by fours that are quarter turns of each other.
use Rattle.std.proofs.Common.{◌≡◌, ℕ, zero, suc, ◌+◌, ◌*◌, ◌<◌, ◌≤◌, Bool, true, false, List, [], ◌∷◌, ◌++◌, length, map, get_or, sym, ◌∙◌, ap, ap₂, refl, subst, arith}
use Rattle.std.specs.Prelude.{not}
use Rattle.std.proofs.lemmas.List.{get_or-map, length-append, length-map}
use Rattle.ark_math.specs.Field.{FieldOn, IsField, power, minus, product_below}
use Rattle.ark_math.specs.Root.{HasOrder}
use Rattle.ark_math.specs.Domain.{Domain, element}
use Rattle.ark_math.proofs.Algebra.Powers.{power-add, half_of_order, power-double}
use Rattle.ark_math.proofs.Algebra.Solve.{◌⊕◌, ◌⊖◌, ◌⊗◌, negative, unit}
use Rattle.ark_math.proofs.Algebra.Ring.{ring1, ring2, ring3, ring4, ring5, ring6, ring7, ring2_by, ring3_by}
use Rattle.ark_math.proofs.Algebra.Products.{product_below-first, product_below-same}
use Rattle.rs_code.specs.Locator.{lost_from, lost, locator_at}
use Rattle.rs_code.specs.Turns.{Four, turned, others, marked_first, factor, four, over_four, Sorted, over_erased, over_kept, pushed, nothing_sorted, AreWithin, AreSortedBelow, AreSorted}

module _ {F : Type 0} (K : FieldOn F) (N : IsField K) where
  -- one more root
  pub locator_at-push : (rs : List F) (r x : F) → locator_at K (rs ++ r ∷ []) x ≡ K.times (locator_at K rs x) (minus K x r)
  locator_at-push [] r x = N.times_comm (minus K x r) K.one
  locator_at-push (s ∷ rs) r x = ap (K.times (minus K x s)) (locator_at-push rs r x) ∙ sym (N.times_assoc (minus K x s) (locator_at K rs x) (minus K x r))

  -- ---- products over all places, by fours

  product-append : (m n : ℕ) (f : ℕ → F) → product_below K (m + n) f ≡ K.times (product_below K m f) (product_below K n (λ i. f (m + i)))
  product-append m zero f = (let e : m + 0 ≡ m = omega arith in ap (λ t. product_below K t f) e) ∙ sym (N.times_one (product_below K m f))
  product-append m (suc n) f =
      (let e : m + suc n ≡ suc (m + n) = omega arith in ap (λ t. product_below K t f) e)
      ∙ ap (λ p. K.times p (f (m + n))) (product-append m n f)
      ∙ N.times_assoc (product_below K m f) (product_below K n (λ i. f (m + i))) (f (m + n))

  product-times : (n : ℕ) (f g : ℕ → F) → K.times (product_below K n f) (product_below K n g) ≡ product_below K n (λ i. K.times (f i) (g i))
  product-times zero f g = N.times_one K.one
  product-times (suc n) f g =
      ring4 K N (λ p a q b. ((p ⊗ a) ⊗ (q ⊗ b), (p ⊗ q) ⊗ (a ⊗ b))) refl (product_below K n f) (f n) (product_below K n g) (g n)
      ∙ ap (λ p. K.times p (K.times (f n) (g n))) (product-times n f g)

  product-fours : (q : ℕ) (f : ℕ → F) → product_below K (q + (q + (q + q))) f ≡ product_below K q (λ j. K.times (f j) (K.times (f (j + q)) (K.times (f (j + q + q)) (f (j + q + q + q)))))
  product-fours q f =
      product-append q (q + (q + q)) f
      ∙ ap (K.times (product_below K q f)) (product-append q (q + q) (λ i. f (q + i)) ∙ ap (K.times (product_below K q (λ i. f (q + i)))) (product-append q q (λ i. f (q + (q + i)))))
      ∙ ap (λ p. K.times (product_below K q f) (K.times (product_below K q (λ i. f (q + i))) p)) (product-times q (λ i. f (q + (q + i))) (λ i. f (q + (q + (q + i)))))
      ∙ ap (K.times (product_below K q f)) (product-times q (λ i. f (q + i)) (λ i. K.times (f (q + (q + i))) (f (q + (q + (q + i))))))
      ∙ product-times q f (λ i. K.times (f (q + i)) (K.times (f (q + (q + i))) (f (q + (q + (q + i))))))
      ∙ product_below-same K q _ _ (λ i l.
      let e : q + i ≡ i + q = omega arith in
      let g : q + (q + i) ≡ i + q + q = omega arith in
      let h : q + (q + (q + i)) ≡ i + q + q + q = omega arith in
      ap₂ (λ s t. K.times (f i) (K.times (f s) t)) e (ap₂ (λ s t. K.times (f s) (f t)) g h))

  -- the polynomial of the marked places as a product over all
  locator_from-product : (d : Domain F) (i : ℕ) (marks : List Bool) (x : F) → locator_at K (lost_from K d i marks) x ≡ product_below K (length marks) (λ j. factor K (get_or marks j true) (minus K x (element K d (i + j))))
  locator_from-product d i [] x = refl
  locator_from-product d i (true ∷ marks) x =
      (let e : i ≡ i + 0 = omega arith in ap (λ t. K.times (minus K x (element K d t)) (locator_at K (lost_from K d (suc i) marks) x)) e)
      ∙ ap (K.times (minus K x (element K d (i + 0)))) (locator_from-product d (suc i) marks x ∙ moved i marks x)
      ∙ sym (product_below-first K N (length marks) (λ j. factor K (get_or (true ∷ marks) j true) (minus K x (element K d (i + j)))))
    where
      moved : (i : ℕ) (marks : List Bool) (x : F) → product_below K (length marks) (λ j. factor K (get_or marks j true) (minus K x (element K d (suc i + j)))) ≡ product_below K (length marks) (λ j. factor K (get_or marks j true) (minus K x (element K d (i + suc j))))
      moved i marks x = product_below-same K (length marks) _ _ (λ j l. let e : suc i + j ≡ i + suc j = omega arith in ap (λ t. factor K (get_or marks j true) (minus K x (element K d t))) e)
  locator_from-product d i (false ∷ marks) x =
      locator_from-product d (suc i) marks x
      ∙ product_below-same K (length marks) _ _ (λ j l. let e : suc i + j ≡ i + suc j = omega arith in ap (λ t. factor K (get_or marks j true) (minus K x (element K d t))) e)
      ∙ sym (N.times_comm K.one _ ∙ N.times_one _)
      ∙ sym (product_below-first K N (length marks) (λ j. factor K (get_or (false ∷ marks) j true) (minus K x (element K d (i + j)))))

  pub locator_at-fours : (d : Domain F) (q : ℕ) (marks : List Bool) (x : F) → length marks ≡ q + (q + (q + q)) → locator_at K (lost K d marks) x ≡ product_below K q (λ j. over_four K d (four marks q j) q j x)
  locator_at-fours d q marks x len =
      locator_from-product d 0 marks x
      ∙ product_below-same K (length marks) _ (λ j. factor K (get_or marks j true) (minus K x (element K d j))) (λ j l. let e : 0 + j ≡ j = omega arith in ap (λ t. factor K (get_or marks j true) (minus K x (element K d t))) e)
      ∙ ap (λ n. product_below K n (λ j. factor K (get_or marks j true) (minus K x (element K d j)))) len
      ∙ product-fours q (λ j. factor K (get_or marks j true) (minus K x (element K d j)))

-- ---- a quarter turn

module _ {F : Type 0} (K : FieldOn F) (N : IsField K) (w : F) (turn : K.times w w ≡ K.negated K.one) where
  -- the factors of r at the turns of x are those of the turns of r at x, but for their scale
  row_of_two : (x r : F) → K.times w (K.times (minus K x r) (minus K (K.negated (K.times w x)) r)) ≡ K.times (minus K x r) (minus K x (K.times w r))
  row_of_two x r =
      ring3_by K N (λ w x r. (w ⊗ ((x ⊖ r) ⊗ (negative (w ⊗ x) ⊖ r)), (x ⊖ r) ⊗ (x ⊖ w ⊗ r), ((x ⊖ r) ⊗ x) ⊗ negative unit, ((x ⊖ r) ⊗ x) ⊗ (w ⊗ w))) refl w x r
      (ap (K.times (K.times (minus K x r) x)) (sym turn))

  row_of_three : (x r : F) → K.negated (K.times w (K.times (minus K x r) (K.times (minus K (K.negated (K.times w x)) r) (minus K (K.negated x) r)))) ≡ K.times (minus K x r) (K.times (minus K x (K.times w r)) (minus K x (K.negated r)))
  row_of_three x r =
      ring3_by K N (λ w x r. (negative (w ⊗ ((x ⊖ r) ⊗ ((negative (w ⊗ x) ⊖ r) ⊗ (negative x ⊖ r)))), (x ⊖ r) ⊗ ((x ⊖ w ⊗ r) ⊗ (x ⊖ negative r)), (((x ⊖ r) ⊗ (x ⊕ r)) ⊗ x) ⊗ negative unit, (((x ⊖ r) ⊗ (x ⊕ r)) ⊗ x) ⊗ (w ⊗ w))) refl w x r
      (ap (K.times (K.times (K.times (minus K x r) (K.plus x r)) x)) (sym turn))

  rest_of_one : (x r : F) → K.negated (K.times (minus K (K.negated (K.times w x)) r) (K.times (minus K (K.negated x) r) (minus K (K.times w x) r))) ≡ K.times (minus K x (K.times w r)) (K.times (minus K x (K.negated r)) (minus K x (K.negated (K.times w r))))
  rest_of_one x r =
      ring3_by K N (λ w x r. (negative ((negative (w ⊗ x) ⊖ r) ⊗ ((negative x ⊖ r) ⊗ (w ⊗ x ⊖ r))), (x ⊖ w ⊗ r) ⊗ ((x ⊖ negative r) ⊗ (x ⊖ negative (w ⊗ r))), ((x ⊕ r) ⊗ (r ⊗ r ⊖ x ⊗ x)) ⊗ (w ⊗ w), ((x ⊕ r) ⊗ (r ⊗ r ⊖ x ⊗ x)) ⊗ negative unit)) refl w x r
      (ap (K.times (K.times (K.plus x r) (minus K (K.times r r) (K.times x x)))) turn)

  rest_of_two : (x r : F) → K.times w (K.times (minus K (K.negated x) r) (minus K (K.times w x) r)) ≡ K.times (minus K x (K.negated r)) (minus K x (K.negated (K.times w r)))
  rest_of_two x r =
      ring3_by K N (λ w x r. (w ⊗ ((negative x ⊖ r) ⊗ (w ⊗ x ⊖ r)), (x ⊖ negative r) ⊗ (x ⊖ negative (w ⊗ r)), ((x ⊕ r) ⊗ x) ⊗ negative unit, ((x ⊕ r) ⊗ x) ⊗ (w ⊗ w))) refl w x r
      (ap (K.times (K.times (K.plus x r) x)) (sym turn))

  rest_of_three : (x r : F) → K.negated (K.times w (minus K (K.times w x) r)) ≡ minus K x (K.negated (K.times w r))
  rest_of_three x r =
      ring3_by K N (λ w x r. (negative (w ⊗ (w ⊗ x ⊖ r)), x ⊖ negative (w ⊗ r), x ⊗ negative unit, x ⊗ (w ⊗ w))) refl w x r (ap (K.times x) (sym turn))

  rest_of_opposite : (x r : F) → K.negated (minus K (K.negated (K.times x x)) (K.times r r)) ≡ K.times (minus K x (K.times w r)) (minus K x (K.negated (K.times w r)))
  rest_of_opposite x r =
      ring3_by K N (λ w x r. (negative (negative (x ⊗ x) ⊖ r ⊗ r), (x ⊖ w ⊗ r) ⊗ (x ⊖ negative (w ⊗ r)), (r ⊗ r) ⊗ (w ⊗ w), (r ⊗ r) ⊗ negative unit)) refl w x r (ap (K.times (K.times r r)) turn)

  row_of_opposite : (x r : F) → minus K (K.times x x) (K.times r r) ≡ K.times (minus K x r) (minus K x (K.negated r))
  row_of_opposite x r = ring2 K N (λ x r. (x ⊗ x ⊖ r ⊗ r, (x ⊖ r) ⊗ (x ⊖ negative r))) refl x r

  all_four : (x r : F) → minus K (K.times (K.times x x) (K.times x x)) (K.times (K.times r r) (K.times r r)) ≡ K.times (minus K x r) (K.times (minus K x (K.times w r)) (K.times (minus K x (K.negated r)) (minus K x (K.negated (K.times w r)))))
  all_four x r =
      ring3_by K N (λ w x r. ((x ⊗ x) ⊗ (x ⊗ x) ⊖ (r ⊗ r) ⊗ (r ⊗ r), (x ⊖ r) ⊗ ((x ⊖ w ⊗ r) ⊗ ((x ⊖ negative r) ⊗ (x ⊖ negative (w ⊗ r)))), ((x ⊗ x ⊖ r ⊗ r) ⊗ (r ⊗ r)) ⊗ (w ⊗ w), ((x ⊗ x ⊖ r ⊗ r) ⊗ (r ⊗ r)) ⊗ negative unit)) refl w x r
      (ap (K.times (K.times (minus K (K.times x x) (K.times r r)) (K.times r r))) turn)

  -- ---- one more root in the lists

  -- of a product of five, scaled, with one factor taken in
  in_first : (k m a u r : F) → K.times (K.times k m) (K.times (K.times a u) r) ≡ K.times (K.times k (K.times a r)) (K.times m u)
  in_first k m a u r = ring5 K N (λ k m a u r. ((k ⊗ m) ⊗ ((a ⊗ u) ⊗ r), (k ⊗ (a ⊗ r)) ⊗ (m ⊗ u))) refl k m a u r

  in_second : (k m a b u r : F) → K.times (K.times k m) (K.times a (K.times (K.times b u) r)) ≡ K.times (K.times k (K.times a (K.times b r))) (K.times m u)
  in_second k m a b u r = ring6 K N (λ k m a b u r. ((k ⊗ m) ⊗ (a ⊗ ((b ⊗ u) ⊗ r)), (k ⊗ (a ⊗ (b ⊗ r))) ⊗ (m ⊗ u))) refl k m a b u r

  in_third : (k m a b c u r : F) → K.times (K.times k m) (K.times a (K.times b (K.times (K.times c u) r))) ≡ K.times (K.times k (K.times a (K.times b (K.times c r)))) (K.times m u)
  in_third k m a b c u r = ring7 K N (λ k m a b c u r. ((k ⊗ m) ⊗ (a ⊗ (b ⊗ ((c ⊗ u) ⊗ r))), (k ⊗ (a ⊗ (b ⊗ (c ⊗ r)))) ⊗ (m ⊗ u))) refl k m a b c u r

  in_fourth : (k m a b c d u r : F) → K.times (K.times k m) (K.times a (K.times b (K.times c (K.times (K.times d u) r)))) ≡ K.times (K.times k (K.times a (K.times b (K.times c (K.times d r))))) (K.times m u)
  in_fourth k m a b c d u r =
      ap (λ t. K.times (K.times k m) (K.times a (K.times b t))) (sym (N.times_assoc c (K.times d u) r))
      ∙ ap (λ t. K.times (K.times k m) (K.times a (K.times b (K.times t r)))) (sym (N.times_assoc c d u))
      ∙ in_third k m a b (K.times c d) u r
      ∙ ap (λ t. K.times (K.times k (K.times a (K.times b t))) (K.times m u)) (N.times_assoc c d r)

  in_last : (k a b c d e u : F) → K.times k (K.times a (K.times b (K.times c (K.times d (K.times e u))))) ≡ K.times (K.times k (K.times a (K.times b (K.times c (K.times d e))))) u
  in_last k a b c d e u =
      ap (λ t. K.times k (K.times a (K.times b (K.times c t)))) (sym (N.times_assoc d e u))
      ∙ ring6 K N (λ k a b c t u. (k ⊗ (a ⊗ (b ⊗ (c ⊗ (t ⊗ u)))), (k ⊗ (a ⊗ (b ⊗ (c ⊗ t)))) ⊗ u)) refl k a b c (K.times d e) u

  two_pairs : (a u b v : F) → K.times (K.times a u) (K.times b v) ≡ K.times (K.times a b) (K.times u v)
  two_pairs a u b v = ring4 K N (λ a u b v. ((a ⊗ u) ⊗ (b ⊗ v), (a ⊗ b) ⊗ (u ⊗ v))) refl a u b v

  three_pairs : (a u b v c t : F) → K.times (K.times a u) (K.times (K.times b v) (K.times c t)) ≡ K.times (K.times a (K.times b c)) (K.times u (K.times v t))
  three_pairs a u b v c t = ring6 K N (λ a u b v c t. ((a ⊗ u) ⊗ ((b ⊗ v) ⊗ (c ⊗ t)), (a ⊗ (b ⊗ c)) ⊗ (u ⊗ (v ⊗ t)))) refl a u b v c t

  by_one : (k : F) → k ≡ K.times k K.one
  by_one k = sym (N.times_one k)

  by_minus : (k : F) → K.negated k ≡ K.times k (K.negated K.one)
  by_minus k = ring1 K N (λ k. (negative k, k ⊗ negative unit)) refl k

  by_back : (k w : F) → K.negated (K.times k w) ≡ K.times k (K.negated w)
  by_back k w = ring2 K N (λ k w. (negative (k ⊗ w), k ⊗ negative w)) refl k w

  minus_times : (u : F) → K.times (K.negated K.one) u ≡ K.negated u
  minus_times u = ring1 K N (λ u. (negative unit ⊗ u, negative u)) refl u

  back_times : (w u : F) → K.times (K.negated w) u ≡ K.negated (K.times w u)
  back_times w u = ring2 K N (λ w u. (negative w ⊗ u, negative (w ⊗ u))) refl w u

  one_times : (u : F) → K.times K.one u ≡ u
  one_times u = N.times_comm K.one u ∙ N.times_one u

  -- the factors of r and of its turns that are marked
  abbrev pub by_marks : Four → F → F → F
  by_marks m r x = K.times (factor K m.first (minus K x r)) (K.times (factor K m.second (minus K x (K.times w r))) (K.times (factor K m.third (minus K x (K.negated r))) (factor K m.fourth (minus K x (K.negated (K.times w r))))))

  -- the factors of both products, each of one list
  abbrev of_two : Sorted F → F → F
  of_two s x = K.times (locator_at K s.two x) (locator_at K s.two (K.negated (K.times w x)))

  abbrev of_three : Sorted F → F → F
  of_three s x = K.times (locator_at K s.three x) (K.times (locator_at K s.three (K.negated (K.times w x))) (locator_at K s.three (K.negated x)))

  abbrev rest_one : Sorted F → F → F
  rest_one s x = K.times (locator_at K s.one (K.negated (K.times w x))) (K.times (locator_at K s.one (K.negated x)) (locator_at K s.one (K.times w x)))

  abbrev rest_two : Sorted F → F → F
  rest_two s x = K.times (locator_at K s.two (K.negated x)) (locator_at K s.two (K.times w x))

  abbrev fourth : F → F
  fourth x = K.times (K.times x x) (K.times x x)

  pub pushed-erased : (p : ℕ) (r x : F) (s : Sorted F) → over_erased K w (pushed K w p r s) x ≡ K.times (over_erased K w s x) (by_marks (marked_first p) r x)
  pushed-erased zero r x s = by_one _ ∙ ap (K.times (over_erased K w s x)) (ring1 K N (λ u. (unit, unit ⊗ (unit ⊗ (unit ⊗ unit)))) refl r)
  pushed-erased (suc zero) r x s =
      let rest = K.times (of_two s x) (K.times (of_three s x) (K.times (locator_at K s.opposite (K.times x x)) (locator_at K s.all (fourth x)))) in
      ap₂ (λ k a. K.times k (K.times a rest)) (by_one s.erased_scale) (locator_at-push K N s.one r x)
      ∙ in_first s.erased_scale K.one (locator_at K s.one x) (minus K x r) rest
      ∙ ap (K.times (over_erased K w s x)) (ring1 K N (λ u. (unit ⊗ u, u ⊗ (unit ⊗ (unit ⊗ unit)))) refl (minus K x r))
  pushed-erased (suc (suc zero)) r x s =
      let back = K.negated (K.times w x) in
      let first = locator_at K s.one x in
      let rest = K.times (of_three s x) (K.times (locator_at K s.opposite (K.times x x)) (locator_at K s.all (fourth x))) in
      ap (λ b. K.times (K.times s.erased_scale w) (K.times first (K.times b rest))) (ap₂ K.times (locator_at-push K N s.two r x) (locator_at-push K N s.two r back) ∙ two_pairs (locator_at K s.two x) (minus K x r) (locator_at K s.two back) (minus K back r))
      ∙ in_second s.erased_scale w first (of_two s x) (K.times (minus K x r) (minus K back r)) rest
      ∙ ap (K.times (over_erased K w s x)) (row_of_two x r ∙ ring2 K N (λ u v. (u ⊗ v, u ⊗ (v ⊗ (unit ⊗ unit)))) refl (minus K x r) (minus K x (K.times w r)))
  pushed-erased (suc (suc (suc zero))) r x s =
      let back = K.negated (K.times w x) in
      let over = K.negated x in
      let first = locator_at K s.one x in
      let rest = K.times (locator_at K s.opposite (K.times x x)) (locator_at K s.all (fourth x)) in
      ap₂ (λ k c. K.times k (K.times first (K.times (of_two s x) (K.times c rest)))) (by_back s.erased_scale w)
      (ap₂ K.times (locator_at-push K N s.three r x) (ap₂ K.times (locator_at-push K N s.three r back) (locator_at-push K N s.three r over))
      ∙ three_pairs (locator_at K s.three x) (minus K x r) (locator_at K s.three back) (minus K back r) (locator_at K s.three over) (minus K over r))
      ∙ in_third s.erased_scale (K.negated w) first (of_two s x) (of_three s x) (K.times (minus K x r) (K.times (minus K back r) (minus K over r))) rest
      ∙ ap (K.times (over_erased K w s x)) (back_times w (K.times (minus K x r) (K.times (minus K back r) (minus K over r))) ∙ row_of_three x r ∙ ring3 K N (λ u v t. (u ⊗ (v ⊗ t), u ⊗ (v ⊗ (t ⊗ unit)))) refl (minus K x r) (minus K x (K.times w r)) (minus K x (K.negated r)))
  pushed-erased (suc (suc (suc (suc zero)))) r x s =
      let first = locator_at K s.one x in
      let square = locator_at K s.opposite (K.times x x) in
      ap (λ e. K.times s.erased_scale (K.times first (K.times (of_two s x) (K.times (of_three s x) (K.times square e))))) (locator_at-push K N s.all (fourth r) (fourth x))
      ∙ in_last s.erased_scale first (of_two s x) (of_three s x) square (locator_at K s.all (fourth x)) (minus K (fourth x) (fourth r))
      ∙ ap (K.times (over_erased K w s x)) (all_four x r)
  pushed-erased (suc (suc (suc (suc (suc n))))) r x s =
      let first = locator_at K s.one x in
      let square = locator_at K s.opposite (K.times x x) in
      let rest = locator_at K s.all (fourth x) in
      let u = minus K (K.times x x) (K.times r r) in
      ap₂ (λ k d. K.times k (K.times first (K.times (of_two s x) (K.times (of_three s x) (K.times d rest))))) (by_one s.erased_scale) (locator_at-push K N s.opposite (K.times r r) (K.times x x))
      ∙ in_fourth s.erased_scale K.one first (of_two s x) (of_three s x) square u rest
      ∙ ap (K.times (over_erased K w s x)) (one_times u ∙ row_of_opposite x r ∙ ring2 K N (λ u v. (u ⊗ v, u ⊗ (unit ⊗ (v ⊗ unit)))) refl (minus K x r) (minus K x (K.negated r)))

  pub pushed-kept : (p : ℕ) (r x : F) (s : Sorted F) → over_kept K w (pushed K w p r s) x ≡ K.times (over_kept K w s x) (by_marks (others (marked_first p)) r x)
  pushed-kept zero r x s =
      let third = locator_at K s.three (K.times w x) in
      let square = locator_at K s.opposite (K.negated (K.times x x)) in
      ap (λ e. K.times s.kept_scale (K.times (rest_one s x) (K.times (rest_two s x) (K.times third (K.times square e))))) (locator_at-push K N s.none (fourth r) (fourth x))
      ∙ in_last s.kept_scale (rest_one s x) (rest_two s x) third square (locator_at K s.none (fourth x)) (minus K (fourth x) (fourth r))
      ∙ ap (K.times (over_kept K w s x)) (all_four x r)
  pushed-kept (suc zero) r x s =
      let back = K.negated (K.times w x) in
      let over = K.negated x in
      let ahead = K.times w x in
      let rest = K.times (rest_two s x) (K.times (locator_at K s.three ahead) (K.times (locator_at K s.opposite (K.negated (K.times x x))) (locator_at K s.none (fourth x)))) in
      let u = K.times (minus K back r) (K.times (minus K over r) (minus K ahead r)) in
      ap₂ (λ k a. K.times k (K.times a rest)) (by_minus s.kept_scale)
      (ap₂ K.times (locator_at-push K N s.one r back) (ap₂ K.times (locator_at-push K N s.one r over) (locator_at-push K N s.one r ahead))
      ∙ three_pairs (locator_at K s.one back) (minus K back r) (locator_at K s.one over) (minus K over r) (locator_at K s.one ahead) (minus K ahead r))
      ∙ in_first s.kept_scale (K.negated K.one) (rest_one s x) u rest
      ∙ ap (K.times (over_kept K w s x)) (minus_times u ∙ rest_of_one x r ∙ ring3 K N (λ u v t. (u ⊗ (v ⊗ t), unit ⊗ (u ⊗ (v ⊗ t)))) refl (minus K x (K.times w r)) (minus K x (K.negated r)) (minus K x (K.negated (K.times w r))))
  pushed-kept (suc (suc zero)) r x s =
      let over = K.negated x in
      let ahead = K.times w x in
      let rest = K.times (locator_at K s.three ahead) (K.times (locator_at K s.opposite (K.negated (K.times x x))) (locator_at K s.none (fourth x))) in
      ap (λ b. K.times (K.times s.kept_scale w) (K.times (rest_one s x) (K.times b rest))) (ap₂ K.times (locator_at-push K N s.two r over) (locator_at-push K N s.two r ahead) ∙ two_pairs (locator_at K s.two over) (minus K over r) (locator_at K s.two ahead) (minus K ahead r))
      ∙ in_second s.kept_scale w (rest_one s x) (rest_two s x) (K.times (minus K over r) (minus K ahead r)) rest
      ∙ ap (K.times (over_kept K w s x)) (rest_of_two x r ∙ ring2 K N (λ u v. (u ⊗ v, unit ⊗ (unit ⊗ (u ⊗ v)))) refl (minus K x (K.negated r)) (minus K x (K.negated (K.times w r))))
  pushed-kept (suc (suc (suc zero))) r x s =
      let ahead = K.times w x in
      let rest = K.times (locator_at K s.opposite (K.negated (K.times x x))) (locator_at K s.none (fourth x)) in
      ap₂ (λ k c. K.times k (K.times (rest_one s x) (K.times (rest_two s x) (K.times c rest)))) (by_back s.kept_scale w) (locator_at-push K N s.three r ahead)
      ∙ in_third s.kept_scale (K.negated w) (rest_one s x) (rest_two s x) (locator_at K s.three ahead) (minus K ahead r) rest
      ∙ ap (K.times (over_kept K w s x)) (back_times w (minus K ahead r) ∙ rest_of_three x r ∙ ring1 K N (λ u. (u, unit ⊗ (unit ⊗ (unit ⊗ u)))) refl (minus K x (K.negated (K.times w r))))
  pushed-kept (suc (suc (suc (suc zero)))) r x s = by_one _ ∙ ap (K.times (over_kept K w s x)) (ring1 K N (λ u. (unit, unit ⊗ (unit ⊗ (unit ⊗ unit)))) refl r)
  pushed-kept (suc (suc (suc (suc (suc n))))) r x s =
      let third = locator_at K s.three (K.times w x) in
      let y = K.negated (K.times x x) in
      let rest = locator_at K s.none (fourth x) in
      let u = minus K y (K.times r r) in
      ap₂ (λ k d. K.times k (K.times (rest_one s x) (K.times (rest_two s x) (K.times third (K.times d rest))))) (by_minus s.kept_scale) (locator_at-push K N s.opposite (K.times r r) y)
      ∙ in_fourth s.kept_scale (K.negated K.one) (rest_one s x) (rest_two s x) third (locator_at K s.opposite y) u rest
      ∙ ap (K.times (over_kept K w s x)) (minus_times u ∙ rest_of_opposite x r ∙ ring2 K N (λ u v. (u ⊗ v, unit ⊗ (u ⊗ (unit ⊗ v)))) refl (minus K x (K.times w r)) (minus K x (K.negated (K.times w r))))

-- ---- the places of a domain

module _ {F : Type 0} (K : FieldOn F) (N : IsField K) (d : Domain F) (q : ℕ) (o : HasOrder K d.root d.size) (one : d.offset ≡ K.one) (size : d.size ≡ q + (q + (q + q))) (some : 0 < q) where
  as_power : (i : ℕ) → element K d i ≡ power K d.root i
  as_power i = ap (λ t. K.times t (power K d.root i)) one ∙ N.times_comm K.one _ ∙ N.times_one _

  pub turn-square : K.times (element K d q) (element K d q) ≡ K.negated K.one
  turn-square =
      let order : d.size ≡ (q * 2) * 2 = omega (arith, size) in
      ap₂ K.times (as_power q) (as_power q)
      ∙ sym (power-double K N d.root q)
      ∙ half_of_order K N d.root (q * 2) (omega (arith, some)) (subst (HasOrder K d.root) order o)

  pub element-turned : (i : ℕ) → element K d (i + q) ≡ K.times (element K d q) (element K d i)
  element-turned i = as_power (i + q) ∙ power-add K N d.root i q ∙ N.times_comm _ _ ∙ sym (ap₂ K.times (as_power q) (as_power i))

  pub element-opposite : (i : ℕ) → element K d (i + q + q) ≡ K.negated (element K d i)
  element-opposite i =
      element-turned (i + q)
      ∙ ap (K.times (element K d q)) (element-turned i)
      ∙ ring2_by K N (λ w r. (w ⊗ (w ⊗ r), negative r, r ⊗ (w ⊗ w), r ⊗ negative unit)) refl (element K d q) (element K d i) (ap (K.times (element K d i)) turn-square)

  pub element-back : (i : ℕ) → element K d (i + q + q + q) ≡ K.negated (K.times (element K d q) (element K d i))
  element-back i =
      element-turned (i + q + q)
      ∙ ap (K.times (element K d q)) (element-opposite i)
      ∙ ring2 K N (λ w r. (w ⊗ negative r, negative (w ⊗ r))) refl (element K d q) (element K d i)

  over_four-marks : (m : Four) (j : ℕ) (x : F) → over_four K d m q j x ≡ by_marks K N (element K d q) turn-square m (element K d j) x
  over_four-marks m j x =
      ap₂ (λ s t. K.times (factor K m.first (minus K x (element K d j))) (K.times (factor K m.second (minus K x s)) t)) (element-turned j)
      (ap₂ (λ s t. K.times (factor K m.third (minus K x s)) (factor K m.fourth (minus K x t))) (element-opposite j) (element-back j))

  -- begun at another of the four
  turned_once : (m : Four) (j : ℕ) (x : F) → over_four K d (turned 1 m) q (j + q) x ≡ over_four K d m q j x
  turned_once m j x =
      let first = factor K m.first (minus K x (element K d j)) in
      let second = factor K m.second (minus K x (element K d (j + q))) in
      let third = factor K m.third (minus K x (element K d (j + q + q))) in
      let fourth = factor K m.fourth (minus K x (element K d (j + q + q + q))) in
      let whole : element K d (j + q + q + q + q) ≡ element K d j =
      element-opposite (j + q + q) ∙ ap K.negated (element-opposite j) ∙ ring1 K N (λ r. (negative (negative r), r)) refl (element K d j) in
      ap (λ t. K.times second (K.times third (K.times fourth (factor K m.first (minus K x t))))) whole
      ∙ ring4 K N (λ a b c e. (b ⊗ (c ⊗ (e ⊗ a)), a ⊗ (b ⊗ (c ⊗ e)))) refl first second third fourth

  turned_more : (f : ℕ) (m : Four) (j : ℕ) (x : F) → over_four K d (turned f m) q (j + f * q) x ≡ over_four K d m q j x
  turned_more zero m j x = let e : j + 0 * q ≡ j = omega arith in ap (λ t. over_four K d m q t x) e
  turned_more (suc f) m j x =
      let e : j + suc f * q ≡ (j + q) + f * q = omega arith in
      ap (λ t. over_four K d (turned f (turned 1 m)) q t x) e ∙ turned_more f (turned 1 m) (j + q) x ∙ turned_once m j x

  turned_others : (f : ℕ) (m : Four) → turned f (others m) ≡ others (turned f m)
  turned_others zero m = refl
  turned_others (suc f) m = turned_others f (turned 1 m)

  -- one more four
  pub more-erased : (p f j : ℕ) (m : Four) (s : Sorted F) → turned f m ≡ marked_first p → (x : F) →
      over_erased K (element K d q) (pushed K (element K d q) p (element K d (j + f * q)) s) x ≡ K.times (over_erased K (element K d q) s x) (over_four K d m q j x)
  more-erased p f j m s e x =
      pushed-erased K N (element K d q) turn-square p (element K d (j + f * q)) x s
      ∙ ap (K.times (over_erased K (element K d q) s x))
      (sym (over_four-marks (marked_first p) (j + f * q) x) ∙ ap (λ t. over_four K d t q (j + f * q) x) (sym e) ∙ turned_more f m j x)

  pub more-kept : (p f j : ℕ) (m : Four) (s : Sorted F) → turned f m ≡ marked_first p → (x : F) →
      over_kept K (element K d q) (pushed K (element K d q) p (element K d (j + f * q)) s) x ≡ K.times (over_kept K (element K d q) s x) (over_four K d (others m) q j x)
  more-kept p f j m s e x =
      pushed-kept K N (element K d q) turn-square p (element K d (j + f * q)) x s
      ∙ ap (K.times (over_kept K (element K d q) s x))
      (sym (over_four-marks (others (marked_first p)) (j + f * q) x) ∙ ap (λ t. over_four K d t q (j + f * q) x) (sym (turned_others f m ∙ ap others e)) ∙ turned_more f (others m) j x)

  -- ---- the loop

  pub sorted-none : (marks : List Bool) → AreSortedBelow K d q marks 0 (nothing_sorted K)
  sorted-none marks = record {
    within = record { one = omega arith; two = omega arith; three = omega arith; opposite = omega arith; all = omega arith; none = omega arith };
    erased = λ x. ring1 K N (λ u. (unit ⊗ (unit ⊗ ((unit ⊗ unit) ⊗ ((unit ⊗ (unit ⊗ unit)) ⊗ (unit ⊗ unit)))), unit)) refl x;
    kept = λ x. ring1 K N (λ u. (unit ⊗ ((unit ⊗ (unit ⊗ unit)) ⊗ ((unit ⊗ unit) ⊗ (unit ⊗ (unit ⊗ unit)))), unit)) refl x;
  }

  one_longer : (n : ℕ) (xs : List F) (r : F) → length xs ≤ n → length (xs ++ r ∷ []) ≤ suc n
  one_longer n xs r l = omega (arith, length-append xs (r ∷ []))

  pushed-within : (w r : F) (p n : ℕ) (s : Sorted F) → AreWithin n s → AreWithin (suc n) (pushed K w p r s)
  pushed-within w r zero n s l = record { one = omega (arith, l.one); two = omega (arith, l.two); three = omega (arith, l.three); opposite = omega (arith, l.opposite); all = omega (arith, l.all); none = one_longer n s.none _ l.none }
  pushed-within w r (suc zero) n s l = record { one = one_longer n s.one r l.one; two = omega (arith, l.two); three = omega (arith, l.three); opposite = omega (arith, l.opposite); all = omega (arith, l.all); none = omega (arith, l.none) }
  pushed-within w r (suc (suc zero)) n s l = record { one = omega (arith, l.one); two = one_longer n s.two r l.two; three = omega (arith, l.three); opposite = omega (arith, l.opposite); all = omega (arith, l.all); none = omega (arith, l.none) }
  pushed-within w r (suc (suc (suc zero))) n s l = record { one = omega (arith, l.one); two = omega (arith, l.two); three = one_longer n s.three r l.three; opposite = omega (arith, l.opposite); all = omega (arith, l.all); none = omega (arith, l.none) }
  pushed-within w r (suc (suc (suc (suc zero)))) n s l = record { one = omega (arith, l.one); two = omega (arith, l.two); three = omega (arith, l.three); opposite = omega (arith, l.opposite); all = one_longer n s.all _ l.all; none = omega (arith, l.none) }
  pushed-within w r (suc (suc (suc (suc (suc m))))) n s l = record { one = omega (arith, l.one); two = omega (arith, l.two); three = omega (arith, l.three); opposite = one_longer n s.opposite _ l.opposite; all = omega (arith, l.all); none = omega (arith, l.none) }

  pub sorted-more : (marks : List Bool) (j p f : ℕ) (s : Sorted F) → AreSortedBelow K d q marks j s → turned f (four marks q j) ≡ marked_first p →
      AreSortedBelow K d q marks (suc j) (pushed K (element K d q) p (element K d (j + f * q)) s)
  sorted-more marks j p f s so e = record {
    within = pushed-within (element K d q) (element K d (j + f * q)) p j s so.within;
    erased = λ x. more-erased p f j (four marks q j) s e x ∙ ap (λ t. K.times t (over_four K d (four marks q j) q j x)) (so.erased x);
    kept = λ x. more-kept p f j (four marks q j) s e x ∙ ap (λ t. K.times t (over_four K d (others (four marks q j)) q j x)) (so.kept x);
  }

  four-others : (marks : List Bool) (j : ℕ) → length marks ≡ d.size → j < q → four (map not marks) q j ≡ others (four marks q j)
  four-others marks j len l =
      let a = get_or-map not marks j true true (omega (arith, len, size)) in
      let b = get_or-map not marks (j + q) true true (omega (arith, len, size)) in
      let c = get_or-map not marks (j + q + q) true true (omega (arith, len, size)) in
      let e = get_or-map not marks (j + q + q + q) true true (omega (arith, len, size)) in
      ap₂ (λ s t. record { first = s; second = t; third = get_or (map not marks) (j + q + q) true; fourth = get_or (map not marks) (j + q + q + q) true }) a b
      ∙ ap₂ (λ s t. record { first = not (get_or marks j true); second = not (get_or marks (j + q) true); third = s; fourth = t }) c e

  pub sorted-all : (marks : List Bool) (s : Sorted F) → length marks ≡ d.size → AreSortedBelow K d q marks q s → AreSorted K d q marks s
  sorted-all marks s len so = record {
    within = so.within;
    erased = λ x. so.erased x ∙ sym (locator_at-fours K N d q marks x (omega (arith, len, size)));
    kept = λ x.
        so.kept x
        ∙ product_below-same K q _ _ (λ i l. ap (λ m. over_four K d m q i x) (sym (four-others marks i len l)))
        ∙ sym (locator_at-fours K N d q (map not marks) x (omega (arith, length-map marks not, len, size)));
  }
