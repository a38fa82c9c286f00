-- Multilinear extensions: one variable bound after the other, sums and multiples of tables, values at the corners.
use Rattle.std.proofs.Common.{◌≡◌, ◌≢◌, ℕ, zero, suc, ◌+◌, ◌-◌, ◌*◌, ◌/◌, ◌%◌, ◌^◌, ◌<◌, ◌≤◌, true, false, if◌then◌else◌, List, [], ◌∷◌, ◌++◌, length, sym, ◌∙◌, ap, ap₂, refl, subst, arith, ⊎_elim, pow_pos, div-add-mod'}
use Rattle.std.proofs.lemmas.Nat.{mod_below, same_from_place, div-mul-add}
use Rattle.std.proofs.lemmas.Bool.{cases_eq, cases_Bool, eqb-true, eqb-false}
use mathlib.Core.Path.{fun_ext}
use Rattle.ark_math.specs.Field.{FieldOn, IsField, minus}
use Rattle.ark_math.specs.Module.{IsModule, itself, sum_below}
use Rattle.ark_math.specs.Univariate.{nothing, added, difference, opposite, scaled, monomial, IsBelow}
use Rattle.ark_math_variables.specs.Multilinear.{bit, corner, weight, extension, fixed}
use Rattle.ark_math.proofs.Algebra.Groups.{itself_is_module}
use Rattle.ark_math.proofs.Algebra.Sums.{sum_below-same, sum_below-plus, sum_below-scale}
use Rattle.ark_math.proofs.Algebra.Regrouped.{sum_below-zero, sum_below-single, sum_below-negated}
use Rattle.ark_math.proofs.Algebra.Solve.{unit, nought, negative, ◌⊕◌, ◌⊖◌, ◌⊗◌}
use Rattle.ark_math.proofs.Algebra.Ring.{ring1, ring2, ring3, ring4}
use Rattle.ark_math_polynomials.proofs.Polynomials.Univariate.{monomial-same, monomial-other}
use Rattle.ark_math.proofs.Numbers.PowersOfTwo.{pow_twice}
use Rattle.ark_math_variables.proofs.Polynomials.Cube.{sum_below-pairs, weight-even, weight-odd, corner-suc}

-- the first variable bound to x: its value at c, from those at 2 c and at 2 c + 1
abbrev pub bound : {F : Type 0} → FieldOn F → (ℕ → F) → F → ℕ → F
bound K t x c = K.plus (t (2 * c)) (K.times x (minus K (t (2 * c + 1)) (t (2 * c))))

-- the last of n + 1 variables bound to x: its value at b, from those at b and at 2 ^ n + b
abbrev pub last_bound : {F : Type 0} → FieldOn F → ℕ → (ℕ → F) → F → ℕ → F
last_bound K n t x b = K.plus (t b) (K.times x (minus K (t (2 ^ n + b)) (t b)))

module _ {F : Type 0} (K : FieldOn F) (N : IsField K) where
  pub extension-same : (s t : ℕ → F) (x : List F) → ((b : ℕ) → b < 2 ^ length x → s b ≡ t b) → extension K s x ≡ extension K t x
  extension-same s t x h = sum_below-same (itself K) (2 ^ length x) (λ b. K.times (s b) (weight K x b)) (λ b. K.times (t b) (weight K x b)) (λ b l. ap (λ v. K.times v (weight K x b)) (h b l))

  -- of no variables
  pub extension-nil : (t : ℕ → F) → extension K t [] ≡ t 0
  extension-nil t = ring1 K N (λ v. (nought ⊕ v ⊗ unit, v)) refl (t 0)

  -- the first variable, and the others
  pub extension-cons : (t : ℕ → F) (x : F) (p : List F) → extension K t (x ∷ p) ≡ extension K (bound K t x) p
  extension-cons t x p =
      ap (λ n. sum_below (itself K) n (λ b. K.times (t b) (weight K (x ∷ p) b))) (pow_twice (length p))
      ∙ sum_below-pairs (itself_is_module K N) (2 ^ length p) (λ b. K.times (t b) (weight K (x ∷ p) b))
      ∙ sum_below-same (itself K) (2 ^ length p) (λ c. K.plus (K.times (t (2 * c)) (weight K (x ∷ p) (2 * c))) (K.times (t (2 * c + 1)) (weight K (x ∷ p) (2 * c + 1)))) (λ c. K.times (bound K t x c) (weight K p c))
      (λ c l.
      ap₂ (λ u v. K.plus (K.times (t (2 * c)) u) (K.times (t (2 * c + 1)) v)) (weight-even K N x p c) (weight-odd K N x p c)
      ∙ ring4 K N (λ a b x w. (a ⊗ ((unit ⊖ x) ⊗ w) ⊕ b ⊗ (x ⊗ w), (a ⊕ x ⊗ (b ⊖ a)) ⊗ w)) refl (t (2 * c)) (t (2 * c + 1)) x (weight K p c))

  -- ---- the first variables bound

  pub fixed-nil : (t : ℕ → F) → fixed K t [] ≡ t
  fixed-nil t = fun_ext (λ c. let e : c * 2 ^ 0 + 0 ≡ c = omega arith in extension-nil (λ b. t (c * 2 ^ 0 + b)) ∙ ap t e)

  fixed-cons : (t : ℕ → F) (x : F) (p : List F) → fixed K t (x ∷ p) ≡ fixed K (bound K t x) p
  fixed-cons t x p = fun_ext (λ c.
      let n = 2 ^ length p in
      extension-cons (λ b. t (c * 2 ^ suc (length p) + b)) x p
      ∙ extension-same (bound K (λ b. t (c * 2 ^ suc (length p) + b)) x) (λ b. bound K t x (c * n + b)) p
      (λ b l.
      let twice = pow_twice (length p) in
      let m : c * 2 ^ suc (length p) ≡ 2 * (c * n) = ap (λ k. c * k) twice ∙ grind arith in
      let e : c * 2 ^ suc (length p) + 2 * b ≡ 2 * (c * n + b) = omega arith in
      let o : c * 2 ^ suc (length p) + (2 * b + 1) ≡ 2 * (c * n + b) + 1 = omega arith in
      ap₂ (λ i j. K.plus (t i) (K.times x (minus K (t j) (t i)))) e o))

  pub fixed-one : (t : ℕ → F) (x : F) → fixed K t (x ∷ []) ≡ bound K t x
  fixed-one t x = fixed-cons t x [] ∙ fixed-nil (bound K t x)

  pub fixed-append : (t : ℕ → F) (p q : List F) → fixed K t (p ++ q) ≡ fixed K (fixed K t p) q
  fixed-append t [] q = ap (λ s. fixed K s q) (sym (fixed-nil t))
  fixed-append t (x ∷ p) q =
      fixed-cons t x (p ++ q) ∙ fixed-append (bound K t x) p q ∙ ap (λ s. fixed K s q) (sym (fixed-cons t x p))

  -- one variable more
  pub fixed-push : (t : ℕ → F) (p : List F) (x : F) → fixed K t (p ++ x ∷ []) ≡ bound K (fixed K t p) x
  fixed-push t p x = fixed-append t p (x ∷ []) ∙ fixed-one (fixed K t p) x

  -- all of them
  pub extension-fixed : (t : ℕ → F) (x : List F) → extension K t x ≡ fixed K t x 0
  extension-fixed t x = extension-same t (λ b. t (0 * 2 ^ length x + b)) x (λ b l. let e : b ≡ 0 * 2 ^ length x + b = omega arith in ap t e)

  pub extension-append : (t : ℕ → F) (p q : List F) → extension K t (p ++ q) ≡ extension K (fixed K t p) q
  extension-append t p q = extension-fixed t (p ++ q) ∙ ap (λ s. s 0) (fixed-append t p q) ∙ sym (extension-fixed (fixed K t p) q)

  -- ---- zeros past the last corner

  pub bound-below : (t : ℕ → F) (x : F) (n : ℕ) → IsBelow K (2 * n) t → IsBelow K n (bound K t x)
  bound-below t x n h c l =
      ap₂ (λ u v. K.plus u (K.times x (minus K v u))) (h (2 * c) (omega arith)) (h (2 * c + 1) (omega arith))
      ∙ ring1 K N (λ x. (nought ⊕ x ⊗ (nought ⊖ nought), nought)) refl x

  pub fixed-below : (t : ℕ → F) (p : List F) (m : ℕ) → length p ≤ m → IsBelow K (2 ^ m) t → IsBelow K (2 ^ (m - length p)) (fixed K t p)
  fixed-below t [] m l h =
      let e : m - 0 ≡ m = omega arith in
      subst (λ k. IsBelow K (2 ^ k) (fixed K t [])) (sym e) (subst (IsBelow K (2 ^ m)) (sym (fixed-nil t)) h)
  fixed-below t (x ∷ p) zero l h = absurd (omega arith)
  fixed-below t (x ∷ p) (suc m) l h =
      let e : suc m - suc (length p) ≡ m - length p = omega arith in
      subst (λ k. IsBelow K (2 ^ k) (fixed K t (x ∷ p))) (sym e)
      (subst (IsBelow K (2 ^ (m - length p))) (sym (fixed-cons t x p))
      (fixed-below (bound K t x) p m (omega arith) (bound-below t x (2 ^ m) (subst (λ k. IsBelow K k t) (pow_twice m) h))))

  -- ---- sums and multiples

  extension-nothing : (x : List F) → extension K (nothing K) x ≡ K.zero
  extension-nothing x =
      sum_below-zero (itself_is_module K N) (2 ^ length x) (λ b. K.times K.zero (weight K x b)) (λ b l. ring1 K N (λ w. (nought ⊗ w, nought)) refl (weight K x b))

  pub extension-added : (s t : ℕ → F) (x : List F) → extension K (added K s t) x ≡ K.plus (extension K s x) (extension K t x)
  extension-added s t x =
      sum_below-same (itself K) (2 ^ length x) (λ b. K.times (K.plus (s b) (t b)) (weight K x b)) (λ b. K.plus (K.times (s b) (weight K x b)) (K.times (t b) (weight K x b)))
      (λ b l. ring3 K N (λ s t w. ((s ⊕ t) ⊗ w, s ⊗ w ⊕ t ⊗ w)) refl (s b) (t b) (weight K x b))
      ∙ sum_below-plus (itself_is_module K N) (2 ^ length x) (λ b. K.times (s b) (weight K x b)) (λ b. K.times (t b) (weight K x b))

  pub extension-scaled : (c : F) (t : ℕ → F) (x : List F) → extension K (scaled K c t) x ≡ K.times c (extension K t x)
  extension-scaled c t x =
      sum_below-same (itself K) (2 ^ length x) (λ b. K.times (K.times c (t b)) (weight K x b)) (λ b. K.times c (K.times (t b) (weight K x b)))
      (λ b l. N.times_assoc c (t b) (weight K x b))
      ∙ sum_below-scale (itself_is_module K N) (2 ^ length x) c (λ b. K.times (t b) (weight K x b))

  pub extension-opposite : (t : ℕ → F) (x : List F) → extension K (opposite K t) x ≡ K.negated (extension K t x)
  extension-opposite t x =
      extension-same (opposite K t) (scaled K (K.negated K.one) t) x (λ b l. ring1 K N (λ v. (negative v, negative unit ⊗ v)) refl (t b))
      ∙ extension-scaled (K.negated K.one) t x
      ∙ ring1 K N (λ v. (negative unit ⊗ v, negative v)) refl (extension K t x)

  -- a point's last item is bound to the last variable
  pub extension-last : (t : ℕ → F) (p : List F) (x : F) → extension K t (p ++ x ∷ []) ≡ extension K (last_bound K (length p) t x) p
  extension-last t p x =
      let upper : ℕ → F = λ b. t (2 ^ length p + b) in
      let low : fixed K t p 0 ≡ extension K t p = sym (extension-fixed t p) in
      let high : fixed K t p 1 ≡ extension K upper p =
      extension-same (λ b. t (1 * 2 ^ length p + b)) upper p (λ b l. let e : 1 * 2 ^ length p + b ≡ 2 ^ length p + b = omega arith in ap t e) in
      extension-append t p (x ∷ [])
      ∙ extension-cons (fixed K t p) x []
      ∙ extension-nil (bound K (fixed K t p) x)
      ∙ ap₂ (λ u v. K.plus u (K.times x (minus K v u))) low high
      ∙ sym (extension-added t (scaled K x (difference K upper t)) p
      ∙ ap (K.plus (extension K t p)) (extension-scaled x (difference K upper t) p
      ∙ ap (K.times x) (extension-added upper (opposite K t) p ∙ ap (K.plus (extension K upper p)) (extension-opposite t p))))

  pub fixed-nothing : (p : List F) → fixed K (nothing K) p ≡ nothing K
  fixed-nothing p = fun_ext (λ c. extension-nothing p)

  pub fixed-added : (s t : ℕ → F) (p : List F) → fixed K (added K s t) p ≡ added K (fixed K s p) (fixed K t p)
  fixed-added s t p = fun_ext (λ c. extension-added (λ b. s (c * 2 ^ length p + b)) (λ b. t (c * 2 ^ length p + b)) p)

  -- ---- tables of pairs

  -- one pair: its place, and its value weighted by its place in the window
  pub fixed-monomial : (i : ℕ) (v : F) (p : List F) → fixed K (monomial K i v) p ≡ monomial K (i / 2 ^ length p) (K.times v (weight K p (i % 2 ^ length p)))
  fixed-monomial i v p = fun_ext (λ c. ⊎_elim
      (λ (e : i / n ≡ c).
      sum_below-single L n (i % n) (λ b. K.times (monomial K i v (c * n + b)) (weight K p b)) below
      (λ b l ne. none b c (λ f. ne (same_from_place c b c (i % n) n l below (sym f ∙ whole ∙ ap (λ k. k * n + i % n) e)).1))
      ∙ ap (λ k. K.times k (weight K p (i % n))) (ap (monomial K i v) (ap (λ k. k * n + i % n) (sym e) ∙ sym whole) ∙ monomial-same K i v)
      ∙ sym (monomial-same K (i / n) (K.times v (weight K p (i % n))))
      ∙ ap (monomial K (i / n) (K.times v (weight K p (i % n)))) e)
      (λ (ne : i / n ≢ c).
      sum_below-zero L n (λ b. K.times (monomial K i v (c * n + b)) (weight K p b))
      (λ b l. none b c (λ f. ne (ap (λ k. k / n) f ∙ div-mul-add c n b l)))
      ∙ sym (monomial-other K (i / n) (K.times v (weight K p (i % n))) c ne))
      (cases_eq (i / n) c))
    where
      L : IsModule K (itself K)
      L = itself_is_module K N

      n : ℕ
      n = 2 ^ length p

      below : i % n < n
      below = mod_below i n (pow_pos (length p))

      whole : i ≡ i / n * n + i % n
      whole = sym (div-add-mod' i n)

      none : (b c : ℕ) → i ≢ c * n + b → K.times (monomial K i v (c * n + b)) (weight K p b) ≡ K.zero
      none b c ne = ap (λ k. K.times k (weight K p b)) (monomial-other K i v (c * n + b) ne) ∙ ring1 K N (λ w. (nought ⊗ w, nought)) refl (weight K p b)

  -- ---- at the corners

  pub extension-corner : (t : ℕ → F) (m b : ℕ) → b < 2 ^ m → extension K t (corner K m b) ≡ t b
  extension-corner t zero b l = let e : 0 ≡ b = omega arith in extension-nil t ∙ ap t e
  extension-corner t (suc m) b l =
      let twice = pow_twice m in
      ap (extension K t) (corner-suc K N m b)
      ∙ extension-cons t (if bit b 0 then K.one else K.zero) (corner K m (b / 2))
      ∙ extension-corner (bound K t (if bit b 0 then K.one else K.zero)) m (b / 2) (omega arith)
      ∙ ⊎_elim
      (λ (e : bit b 0 ≡ true).
      let r = eqb-true ((b / 1) % 2) 1 e in
      let o : 2 * (b / 2) + 1 ≡ b = omega arith in
      ap (λ s. bound K t (if s then K.one else K.zero) (b / 2)) e
      ∙ ring2 K N (λ u v. (u ⊕ unit ⊗ (v ⊖ u), v)) refl (t (2 * (b / 2))) (t (2 * (b / 2) + 1))
      ∙ ap t o)
      (λ (e : bit b 0 ≡ false).
      let r = eqb-false ((b / 1) % 2) 1 e in
      let o : 2 * (b / 2) ≡ b = omega arith in
      ap (λ s. bound K t (if s then K.one else K.zero) (b / 2)) e
      ∙ ring2 K N (λ u v. (u ⊕ nought ⊗ (v ⊖ u), u)) refl (t (2 * (b / 2))) (t (2 * (b / 2) + 1))
      ∙ ap t o)
      (cases_Bool (bit b 0))

  -- ---- sums over the cube

  -- the first variable is zero, or one
  pub cube_sum : (m : ℕ) (t : ℕ → F) → sum_below (itself K) (2 ^ suc m) t ≡ K.plus (sum_below (itself K) (2 ^ m) (fixed K t (K.zero ∷ []))) (sum_below (itself K) (2 ^ m) (fixed K t (K.one ∷ [])))
  cube_sum m t =
      ap (λ n. sum_below (itself K) n t) (pow_twice m)
      ∙ sum_below-pairs (itself_is_module K N) (2 ^ m) t
      ∙ sum_below-plus (itself_is_module K N) (2 ^ m) (λ c. t (2 * c)) (λ c. t (2 * c + 1))
      ∙ ap₂ (λ f g. K.plus (sum_below (itself K) (2 ^ m) f) (sum_below (itself K) (2 ^ m) g))
      (sym (fixed-one t K.zero ∙ fun_ext (λ c. ring2 K N (λ u v. (u ⊕ nought ⊗ (v ⊖ u), u)) refl (t (2 * c)) (t (2 * c + 1)))))
      (sym (fixed-one t K.one ∙ fun_ext (λ c. ring2 K N (λ u v. (u ⊕ unit ⊗ (v ⊖ u), v)) refl (t (2 * c)) (t (2 * c + 1)))))

  -- what is left is affine in the item that is bound
  fixed_one-affine : (t : ℕ → F) (x : F) → fixed K t (x ∷ []) ≡ added K (fixed K t (K.zero ∷ [])) (scaled K x (difference K (fixed K t (K.one ∷ [])) (fixed K t (K.zero ∷ []))))
  fixed_one-affine t x =
      fixed-one t x
      ∙ fun_ext (λ c. ring3 K N (λ u v x. (u ⊕ x ⊗ (v ⊖ u), (u ⊕ nought ⊗ (v ⊖ u)) ⊕ x ⊗ ((u ⊕ unit ⊗ (v ⊖ u)) ⊖ (u ⊕ nought ⊗ (v ⊖ u))))) refl (t (2 * c)) (t (2 * c + 1)) x)
      ∙ ap₂ (λ f g. added K f (scaled K x (difference K g f))) (sym (fixed-one t K.zero)) (sym (fixed-one t K.one))

  -- and so is its sum
  pub cube_sum-affine : (n : ℕ) (t : ℕ → F) (x : F) → sum_below (itself K) n (fixed K t (x ∷ []))
      ≡ K.plus (sum_below (itself K) n (fixed K t (K.zero ∷ []))) (K.times x (minus K (sum_below (itself K) n (fixed K t (K.one ∷ []))) (sum_below (itself K) n (fixed K t (K.zero ∷ [])))))
  cube_sum-affine n t x =
      let L = itself_is_module K N in
      let f = fixed K t (K.zero ∷ []) in
      let g = fixed K t (K.one ∷ []) in
      ap (sum_below (itself K) n) (fixed_one-affine t x)
      ∙ sum_below-plus L n f (scaled K x (difference K g f))
      ∙ ap (K.plus (sum_below (itself K) n f)) (sum_below-scale L n x (difference K g f)
      ∙ ap (K.times x) (sum_below-plus L n g (opposite K f) ∙ ap (K.plus (sum_below (itself K) n g)) (sum_below-negated N L n f)))
