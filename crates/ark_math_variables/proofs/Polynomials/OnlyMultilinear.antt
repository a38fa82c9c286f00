-- A function that is affine in each item of a point is the extension of its values at the corners; so is a polynomial
-- with no power above one.
use Rattle.std.proofs.Common.{◌≡◌, ◌≢◌, ℕ, zero, suc, ◌+◌, ◌*◌, ◌/◌, ◌<◌, ◌≤◌, ◌^◌, ◌⊎◌, if◌then◌else◌, List, [], ◌∷◌, length, set, get_or, sym, ◌∙◌, ap, ap₂, refl, subst, arith, ⊎_elim, length-set, get_or-set_same, get_or-set_other}
use mathlib.Core.Path.{fun_ext}
use Rattle.std.proofs.lemmas.Bool.{cases_eq, cond-true}
use Rattle.ark_math.specs.Field.{FieldOn, IsField, minus, power}
use Rattle.ark_math.specs.Module.{itself, item, tabulate}
use Rattle.ark_math.specs.Univariate.{added, difference, opposite, scaled}
use Rattle.ark_math_variables.specs.Term.{power_of, term_value}
use Rattle.ark_math_variables.specs.Multivariate.{same_term, of_terms, sum_at, IsValueAt}
use Rattle.ark_math_variables.specs.Multilinear.{bit, corner, extension, IsMultilinear}
use Rattle.ark_math.proofs.Algebra.Solve.{unit, nought, ◌⊕◌, ◌⊖◌, ◌⊗◌}
use Rattle.ark_math.proofs.Algebra.Ring.{ring1, ring2, ring3, ring4, ring5}
use Rattle.ark_math.proofs.Lists.Tabulated.{length-tabulate, get_or-tabulate, is_tabulated}
use Rattle.ark_math_variables.proofs.Polynomials.Terms.{same_term-same, cases_term, power_of-same, power_of-other}
use Rattle.ark_math_variables.proofs.Polynomials.Multivariate.{without, length-without, of_terms-without_same, of_terms-without_other, sum_at-without, one_value_at}
use Rattle.ark_math_variables.proofs.Polynomials.SquareFree.{square_free-few}
use Rattle.ark_math_variables.proofs.Polynomials.Cube.{bit-even, bit-odd, corner-suc}
use Rattle.ark_math_variables.proofs.Polynomials.Multilinear.{bound, extension-same, extension-nil, extension-cons, extension-added, extension-scaled, extension-opposite}

-- between its values where an item is zero and where it is one, for each of the m items
abbrev pub IsAffine : {F : Type 0} → FieldOn F → ℕ → (List F → F) → Type 0
IsAffine {F} K m g = (x : List F) → length x ≡ m → (l : ℕ) → l < m → (c : F) →
    g (set x l c) ≡ K.plus (g (set x l K.zero)) (K.times c (minus K (g (set x l K.one)) (g (set x l K.zero))))

module _ {F : Type 0} (K : FieldOn F) (N : IsField K) where
  corner-even : (m c : ℕ) → corner K (suc m) (2 * c) ≡ K.zero ∷ corner K m c
  corner-even m c =
      let e : 2 * c / 2 ≡ c = omega arith in
      corner-suc K N m (2 * c) ∙ ap₂ (λ s b. (if s then K.one else K.zero) ∷ corner K m b) (bit-even c) e

  corner-odd : (m c : ℕ) → corner K (suc m) (2 * c + 1) ≡ K.one ∷ corner K m c
  corner-odd m c =
      let e : (2 * c + 1) / 2 ≡ c = omega arith in
      corner-suc K N m (2 * c + 1) ∙ ap₂ (λ s b. (if s then K.one else K.zero) ∷ corner K m b) (bit-odd c) e

  pub length-corner : (m b : ℕ) → length (corner K m b) ≡ m
  length-corner m b = length-tabulate m (λ i. if bit b i then K.one else K.zero)

  pub only_affine : (m : ℕ) (g : List F → F) → IsAffine K m g → (x : List F) → length x ≡ m → g x ≡ extension K (λ b. g (corner K m b)) x
  only_affine zero g h [] e = sym (extension-nil K N (λ b. g (corner K 0 b)))
  only_affine zero g h (x ∷ xs) e = absurd (omega arith)
  only_affine (suc m) g h [] e = absurd (omega arith)
  only_affine (suc m) g h (x ∷ xs) e =
      only_affine m (λ ys. g (x ∷ ys)) (λ ys k l b c. h (x ∷ ys) (omega arith) (suc l) (omega arith) c) xs (omega arith)
      ∙ extension-same K N (λ b. g (x ∷ corner K m b)) (bound K (λ b. g (corner K (suc m) b)) x) xs
      (λ c l.
      let k = length-corner m c in
      h (x ∷ corner K m c) (omega arith) 0 (omega arith) x
      ∙ ap₂ (λ u v. K.plus (g u) (K.times x (minus K (g v) (g u)))) (sym (corner-even m c)) (sym (corner-odd m c)))
      ∙ sym (extension-cons K N (λ b. g (corner K (suc m) b)) x xs)

  -- ---- extensions are affine

  bound-affine : (t : ℕ → F) (c : F) → bound K t c ≡ added K (bound K t K.zero) (scaled K c (difference K (bound K t K.one) (bound K t K.zero)))
  bound-affine t c =
      fun_ext (λ b. ring3 K N (λ u v x. (u ⊕ x ⊗ (v ⊖ u), (u ⊕ nought ⊗ (v ⊖ u)) ⊕ x ⊗ ((u ⊕ unit ⊗ (v ⊖ u)) ⊖ (u ⊕ nought ⊗ (v ⊖ u))))) refl (t (2 * b)) (t (2 * b + 1)) c)

  pub extension-affine : (m : ℕ) (t : ℕ → F) → IsAffine K m (extension K t)
  extension-affine m t [] e l b c = absurd (omega arith)
  extension-affine m t (x ∷ xs) e zero b c =
      let f = bound K t K.zero in
      let g = bound K t K.one in
      extension-cons K N t c xs
      ∙ ap (λ s. extension K s xs) (bound-affine t c)
      ∙ extension-added K N f (scaled K c (difference K g f)) xs
      ∙ ap (K.plus (extension K f xs)) (extension-scaled K N c (difference K g f) xs
      ∙ ap (K.times c) (extension-added K N g (opposite K f) xs ∙ ap (K.plus (extension K g xs)) (extension-opposite K N f xs)))
      ∙ ap₂ (λ u v. K.plus u (K.times c (minus K v u))) (sym (extension-cons K N t K.zero xs)) (sym (extension-cons K N t K.one xs))
  extension-affine zero t (x ∷ xs) e (suc l) b c = absurd (omega arith)
  extension-affine (suc m) t (x ∷ xs) e (suc l) b c =
      extension-cons K N t x (set xs l c)
      ∙ extension-affine m (bound K t x) xs (omega arith) l (omega arith) c
      ∙ ap₂ (λ u v. K.plus u (K.times c (minus K v u))) (sym (extension-cons K N t x (set xs l K.zero))) (sym (extension-cons K N t x (set xs l K.one)))

  -- ---- with the items in another order

  -- an order that is its own inverse
  reordered-set : (m : ℕ) (s : ℕ → ℕ) → ((i : ℕ) → i < m → s i < m) → ((i : ℕ) → i < m → s (s i) ≡ i) → (x : List F) → length x ≡ m → (l : ℕ) → l < m → (c : F)
      → tabulate m (λ i. item (itself K) (set x l c) (s i)) ≡ set (tabulate m (λ i. item (itself K) x (s i))) (s l) c
  reordered-set m s within twice x e l b c =
      sym (is_tabulated K.zero (set xs (s l) c) m (λ i. item (itself K) (set x l c) (s i)) (length-set xs (s l) c ∙ length-tabulate m (λ i. item (itself K) x (s i)))
      (λ i k. ⊎_elim
      (λ (f : i ≡ s l).
      ap (λ j. get_or (set xs (s l) c) j K.zero) f
      ∙ get_or-set_same xs (s l) c K.zero (let w = within l b in omega (arith, length-tabulate m (λ i. item (itself K) x (s i))))
      ∙ sym (get_or-set_same x l c K.zero (omega arith))
      ∙ ap (λ j. get_or (set x l c) j K.zero) (sym (ap s f ∙ twice l b)))
      (λ (ne : i ≢ s l).
      get_or-set_other xs (s l) i c K.zero ne
      ∙ get_or-tabulate m (λ i. item (itself K) x (s i)) i K.zero k
      ∙ sym (get_or-set_other x l (s i) c K.zero (λ f. ne (sym (twice i k) ∙ ap s f))))
      (cases_eq i (s l))))
    where
      xs : List F
      xs = tabulate m (λ i. item (itself K) x (s i))

  pub reordered-affine : (m : ℕ) (s : ℕ → ℕ) → ((i : ℕ) → i < m → s i < m) → ((i : ℕ) → i < m → s (s i) ≡ i) → (g : List F → F) → IsAffine K m g → IsAffine K m (λ x. g (tabulate m (λ i. item (itself K) x (s i))))
  reordered-affine m s within twice g h x e l b c =
      let at : (k : F) → g (tabulate m (λ i. item (itself K) (set x l k) (s i))) ≡ g (set (tabulate m (λ i. item (itself K) x (s i))) (s l) k) = λ k. ap g (reordered-set m s within twice x e l b k) in
      at c
      ∙ h (tabulate m (λ i. item (itself K) x (s i))) (length-tabulate m (λ i. item (itself K) x (s i))) (s l) (within l b) c
      ∙ ap₂ (λ u v. K.plus u (K.times c (minus K v u))) (sym (at K.zero)) (sym (at K.one))

  -- ---- terms

  -- a term without a variable doesn't depend on it
  term_value-absent : (ps : List (ℕ × ℕ)) (x : List F) (l : ℕ) (c : F) → power_of ps l ≡ 0 → term_value K ps (set x l c) ≡ term_value K ps x
  term_value-absent [] x l c e = refl
  term_value-absent (p ∷ ps) x l c e = ⊎_elim
      (λ (f : p.0 ≡ l).
      let yes = power_of-same p ps l f in
      let none : p.1 ≡ 0 = omega (arith, yes, e) in
      ap₂ (λ n v. K.times (power K (get_or (set x l c) p.0 K.zero) n) v) none (term_value-absent ps x l c (omega (arith, yes, e)))
      ∙ ap (λ n. K.times (power K (get_or x p.0 K.zero) n) (term_value K ps x)) (sym none))
      (λ (ne : p.0 ≢ l).
      let no = power_of-other p ps l ne in
      ap₂ (λ y v. K.times (power K y p.1) v) (get_or-set_other x l p.0 c K.zero ne) (term_value-absent ps x l c (omega (arith, no, e))))
      (cases_eq p.0 l)

  -- a term with a variable once is proportional to it
  term_value-once : (ps : List (ℕ × ℕ)) (x : List F) (l : ℕ) (c : F) → l < length x → power_of ps l ≡ 1 → term_value K ps (set x l c) ≡ K.times c (term_value K ps (set x l K.one))
  term_value-once [] x l c b e = absurd (omega (arith, e))
  term_value-once (p ∷ ps) x l c b e = ⊎_elim
      (λ (f : p.0 ≡ l).
      let yes = power_of-same p ps l f in
      let at : (k : F) → get_or (set x l k) p.0 K.zero ≡ k = λ k. ap (λ v. get_or (set x l k) v K.zero) f ∙ get_or-set_same x l k K.zero b in
      ⊎_elim
      (λ (none : p.1 ≡ 0).
      ap₂ (λ n v. K.times (power K (get_or (set x l c) p.0 K.zero) n) v) none (term_value-once ps x l c b (omega (arith, yes, none, e)))
      ∙ ring2 K N (λ c v. (unit ⊗ (c ⊗ v), c ⊗ (unit ⊗ v))) refl c (term_value K ps (set x l K.one))
      ∙ ap (λ n. K.times c (K.times (power K (get_or (set x l K.one) p.0 K.zero) n) (term_value K ps (set x l K.one)))) (sym none))
      (λ (some : p.1 ≢ 0).
      let once : p.1 ≡ 1 = omega (arith, yes, e) in
      let rest : power_of ps l ≡ 0 = omega (arith, yes, e) in
      let all : (k : F) → term_value K (p ∷ ps) (set x l k) ≡ K.times (K.times k K.one) (term_value K ps x) =
      λ k. ap₂ (λ n v. K.times (power K (get_or (set x l k) p.0 K.zero) n) v) once (term_value-absent ps x l k rest) ∙ ap (λ y. K.times (K.times y K.one) (term_value K ps x)) (at k) in
      all c
      ∙ ring2 K N (λ c v. ((c ⊗ unit) ⊗ v, c ⊗ ((unit ⊗ unit) ⊗ v))) refl c (term_value K ps x)
      ∙ ap (K.times c) (sym (all K.one)))
      (cases_eq p.1 0))
      (λ (ne : p.0 ≢ l).
      let no = power_of-other p ps l ne in
      ap₂ (λ y v. K.times (power K y p.1) v) (get_or-set_other x l p.0 c K.zero ne) (term_value-once ps x l c b (omega (arith, no, e)))
      ∙ ring3 K N (λ y c v. (y ⊗ (c ⊗ v), c ⊗ (y ⊗ v))) refl (power K (get_or x p.0 K.zero) p.1) c (term_value K ps (set x l K.one))
      ∙ ap (λ y. K.times c (K.times (power K y p.1) (term_value K ps (set x l K.one)))) (sym (get_or-set_other x l p.0 K.one K.zero ne)))
      (cases_eq p.0 l)

  term_value-affine : (m : ℕ) (ps : List (ℕ × ℕ)) → ((v : ℕ) → power_of ps v ≤ 1) → IsAffine K m (term_value K ps)
  term_value-affine m ps h x e l b c = ⊎_elim
      (λ (none : power_of ps l ≡ 0).
      term_value-absent ps x l c none
      ∙ ring2 K N (λ v c. (v, v ⊕ c ⊗ (v ⊖ v))) refl (term_value K ps x) c
      ∙ ap₂ (λ u v. K.plus u (K.times c (minus K v u))) (sym (term_value-absent ps x l K.zero none)) (sym (term_value-absent ps x l K.one none)))
      (λ (some : power_of ps l ≢ 0).
      let most = h l in
      let once : power_of ps l ≡ 1 = omega (arith, most, some) in
      term_value-once ps x l c (omega arith) once
      ∙ ring2 K N (λ c v. (c ⊗ v, nought ⊗ v ⊕ c ⊗ (v ⊖ nought ⊗ v))) refl c (term_value K ps (set x l K.one))
      ∙ ap (λ u. K.plus u (K.times c (minus K (term_value K ps (set x l K.one)) u))) (sym (term_value-once ps x l K.zero (omega arith) once)))
      (cases_eq (power_of ps l) 0)

  -- ---- polynomials

  affine-same : (m : ℕ) (g h : List F → F) → ((x : List F) → g x ≡ h x) → IsAffine K m h → IsAffine K m g
  affine-same m g h e a x k l b c =
      e (set x l c) ∙ a x k l b c ∙ ap₂ (λ u v. K.plus u (K.times c (minus K v u))) (sym (e (set x l K.zero))) (sym (e (set x l K.one)))

  affine-plus : (m : ℕ) (g h : List F → F) → IsAffine K m g → IsAffine K m h → IsAffine K m (λ x. K.plus (g x) (h x))
  affine-plus m g h a b x k l i c =
      ap₂ K.plus (a x k l i c) (b x k l i c)
      ∙ ring5 K N (λ u v w z c. ((u ⊕ c ⊗ (v ⊖ u)) ⊕ (w ⊕ c ⊗ (z ⊖ w)), (u ⊕ w) ⊕ c ⊗ ((v ⊕ z) ⊖ (u ⊕ w)))) refl (g (set x l K.zero)) (g (set x l K.one)) (h (set x l K.zero)) (h (set x l K.one)) c

  affine-times : (m : ℕ) (s : F) (g : List F → F) → IsAffine K m g → IsAffine K m (λ x. K.times s (g x))
  affine-times m s g a x k l i c =
      ap (K.times s) (a x k l i c)
      ∙ ring4 K N (λ s u v c. (s ⊗ (u ⊕ c ⊗ (v ⊖ u)), s ⊗ u ⊕ c ⊗ (s ⊗ v ⊖ s ⊗ u))) refl s (g (set x l K.zero)) (g (set x l K.one)) c

  affine-zero : (m : ℕ) → IsAffine K m (λ x. K.zero)
  affine-zero m x k l i c = ring1 K N (λ c. (nought, nought ⊕ c ⊗ (nought ⊖ nought))) refl c

  module _ (cases_zero : (c : F) → (c ≡ K.zero) ⊎ (c ≢ K.zero)) (m : ℕ) where
    -- term by term, each of which is taken out
    sum_at_affine : (n : ℕ) (cs : List (F × List (ℕ × ℕ))) → length cs ≤ n → ((t : List (ℕ × ℕ)) → of_terms K cs t ≢ K.zero → (v : ℕ) → power_of t v ≤ 1) → IsAffine K m (sum_at K cs)
    sum_at_affine n [] l h = affine-zero m
    sum_at_affine zero (c ∷ cs) l h = absurd (omega arith)
    sum_at_affine (suc n) (c ∷ cs) l h =
        let t = c.1 in
        let less = length-without t cs in
        let rest : without t (c ∷ cs) ≡ without t cs = cond-true (same_term t t) (without t cs) (c ∷ without t cs) (same_term-same t) in
        let k = of_terms K (c ∷ cs) t in
        let kept : (u : List (ℕ × ℕ)) → of_terms K (without t cs) u ≢ K.zero → (v : ℕ) → power_of u v ≤ 1 =
        λ u some v. ⊎_elim
        (λ (e : t ≡ u). absurd (some (ap (of_terms K (without t cs)) (sym e) ∙ of_terms-without_same K N t cs)))
        (λ (ne : t ≢ u). h u (λ z. some (ap (λ ds. of_terms K ds u) (sym rest) ∙ of_terms-without_other K N t (c ∷ cs) u ne ∙ z)) v)
        (cases_term t u) in
        let first : IsAffine K m (λ x. K.times k (term_value K t x)) =
        ⊎_elim
        (λ (none : k ≡ K.zero). affine-same m (λ x. K.times k (term_value K t x)) (λ x. K.zero) (λ x. ap (λ s. K.times s (term_value K t x)) none ∙ ring1 K N (λ v. (nought ⊗ v, nought)) refl (term_value K t x)) (affine-zero m))
        (λ (some : k ≢ K.zero). affine-times m k (term_value K t) (term_value-affine m t (h t some)))
        (cases_zero k) in
        affine-same m (sum_at K (c ∷ cs)) (λ x. K.plus (K.times k (term_value K t x)) (sum_at K (without t cs) x))
        (λ x. sum_at-without K N t (c ∷ cs) x ∙ ap (λ ds. K.plus (K.times k (term_value K t x)) (sum_at K ds x)) rest)
        (affine-plus m (λ x. K.times k (term_value K t x)) (sum_at K (without t cs)) first (sum_at_affine n (without t cs) (omega arith) kept))

    -- the only multilinear polynomial with these values at the corners
    pub only_multilinear : (a : List (ℕ × ℕ) → F) (t : ℕ → F) (x : List F) (y : F) → IsMultilinear K m a → ((b : ℕ) → b < 2 ^ m → IsValueAt K a (corner K m b) (t b)) → length x ≡ m → IsValueAt K a x y → y ≡ extension K t x
    only_multilinear a t x y multilinear values e h =
        let cs = h.0 in
        h.2
        ∙ only_affine m (sum_at K cs) (sum_at_affine (length cs) cs (omega arith) (λ u some v. square_free-few m u v (multilinear u (λ z. some (ap (λ f. f u) h.1 ∙ z))))) x e
        ∙ extension-same K N (λ b. sum_at K cs (corner K m b)) t x
        (λ b l. one_value_at K N a (corner K m b) (sum_at K cs (corner K m b)) (t b) (cs, h.1, refl) (values b (subst (λ n. b < 2 ^ n) e l)))
