-- Each table's extension is the value of a multilinear polynomial, by the list of its terms.
use Rattle.std.proofs.Common.{◌≡◌, ℕ, zero, suc, ◌+◌, ◌*◌, ◌<◌, ◌^◌, if◌then◌else◌, All, List, [], ◌∷◌, ◌++◌, length, get_or, map, sym, ◌∙◌, ap, ap₂, refl, subst, arith}
use Rattle.std.proofs.lemmas.List.Elements.{All-append, All-map, All-cons}
use Rattle.ark_math.specs.Field.{FieldOn, IsField, minus}
use Rattle.ark_math.specs.Module.{itself, item, tabulate}
use Rattle.ark_math_variables.specs.Term.{term_value}
use Rattle.ark_math_variables.specs.Multivariate.{of_terms, sum_at, IsValueAt}
use Rattle.ark_math_variables.specs.Multilinear.{bit, corner, extension, fixed, IsSquareFree, IsMultilinear}
use Rattle.ark_math.proofs.Algebra.Solve.{unit, nought, ◌⊕◌, ◌⊖◌, ◌⊗◌}
use Rattle.ark_math.proofs.Algebra.Ring.{ring1, ring3, ring4}
use Rattle.ark_math.proofs.Lists.Tabulated.{length-tabulate, tabulate-push, is_tabulated}
use Rattle.ark_math_variables.proofs.Polynomials.Terms.{term_value-append}
use Rattle.ark_math_variables.proofs.Polynomials.SquareFree.{square_free-nil, square_free-wider, square_free-push}
use Rattle.ark_math_variables.proofs.Polynomials.Multivariate.{of_terms-present, sum_at-append}
use Rattle.ark_math_variables.proofs.Polynomials.Multilinear.{extension-nil, extension-same, extension-append, extension-added, extension-opposite, extension-corner}

-- the terms with one variable more in each
abbrev with_variable : {F : Type 0} → ℕ → List (F × List (ℕ × ℕ)) → List (F × List (ℕ × ℕ))
with_variable v cs = map (λ c. (c.0, c.1 ++ (v, 1) ∷ [])) cs

-- what the last variable adds where it is one
abbrev growth : {F : Type 0} → FieldOn F → ℕ → (ℕ → F) → ℕ → F
growth K m t b = minus K (t (2 ^ m + b)) (t b)

-- the terms of the extension of a table of m variables
abbrev pub multilinear_terms : {F : Type 0} → FieldOn F → ℕ → (ℕ → F) → List (F × List (ℕ × ℕ))
multilinear_terms K zero t = (t 0, []) ∷ []
multilinear_terms K (suc m) t = multilinear_terms K m t ++ with_variable m (multilinear_terms K m (growth K m t))

module _ {F : Type 0} (K : FieldOn F) (N : IsField K) where
  terms_square_free : (m : ℕ) (t : ℕ → F) → All (λ c. IsSquareFree m c.1) (multilinear_terms K m t)
  terms_square_free zero t = All-cons (λ c. IsSquareFree 0 c.1) (t 0, []) [] (square_free-nil 0) (λ k d l. absurd (omega arith))
  terms_square_free (suc m) t =
      All-append (λ c. IsSquareFree (suc m) c.1) (multilinear_terms K m t) (with_variable m (multilinear_terms K m (growth K m t)))
      (λ k d l. square_free-wider m (get_or (multilinear_terms K m t) k d).1 (terms_square_free m t k d l))
      (All-map (λ c. IsSquareFree (suc m) c.1) (λ c. (c.0, c.1 ++ (m, 1) ∷ [])) (multilinear_terms K m (growth K m t))
      (λ k d l. square_free-push m (get_or (multilinear_terms K m (growth K m t)) k d).1 (terms_square_free m (growth K m t) k d l)))

  pub terms_multilinear : (m : ℕ) (t : ℕ → F) → IsMultilinear K m (of_terms K (multilinear_terms K m t))
  terms_multilinear m t u some =
      let r = of_terms-present K N (multilinear_terms K m t) u some in
      subst (IsSquareFree m) (ap (λ c. c.1) r.3 ∙ r.4) (terms_square_free m t r.0 r.1 r.2)

  sum_at-with_variable : (v : ℕ) (cs : List (F × List (ℕ × ℕ))) (x : List F) → sum_at K (with_variable v cs) x ≡ K.times (get_or x v K.zero) (sum_at K cs x)
  sum_at-with_variable v [] x = ring1 K N (λ y. (nought, y ⊗ nought)) refl (get_or x v K.zero)
  sum_at-with_variable v (c ∷ cs) x =
      ap₂ (λ w s. K.plus (K.times c.0 w) s) (term_value-append K N x c.1 ((v, 1) ∷ [])) (sum_at-with_variable v cs x)
      ∙ ring4 K N (λ c w y s. (c ⊗ (w ⊗ ((y ⊗ unit) ⊗ unit)) ⊕ y ⊗ s, y ⊗ (c ⊗ w ⊕ s))) refl c.0 (term_value K c.1 x) (get_or x v K.zero) (sum_at K cs x)

  -- one item more at the end
  extension-push : (t : ℕ → F) (p : List F) (y : F) → extension K t (p ++ y ∷ []) ≡ K.plus (extension K t p) (K.times y (extension K (growth K (length p) t) p))
  extension-push t p y =
      let m = length p in
      let high : ℕ → F = λ b. t (2 ^ m + b) in
      extension-append K N t p (y ∷ [])
      ∙ ring3 K N (λ u v y. ((nought ⊕ u ⊗ (unit ⊗ (unit ⊖ y))) ⊕ v ⊗ (unit ⊗ y), u ⊕ y ⊗ (v ⊖ u))) refl (fixed K t p 0) (fixed K t p 1) y
      ∙ ap₂ (λ u v. K.plus u (K.times y (minus K v u)))
      (extension-same K N (λ b. t (0 * 2 ^ m + b)) t p (λ b l. ap t (omega arith)))
      (extension-same K N (λ b. t (1 * 2 ^ m + b)) high p (λ b l. ap t (omega arith)))
      ∙ ap (λ e. K.plus (extension K t p) (K.times y e))
      (sym (extension-added K N high (λ b. K.negated (t b)) p ∙ ap (K.plus (extension K high p)) (extension-opposite K N t p)))

  terms_value : (m : ℕ) (t : ℕ → F) (x : List F) → sum_at K (multilinear_terms K m t) x ≡ extension K t (tabulate m (item (itself K) x))
  terms_value zero t x = ring1 K N (λ v. (v ⊗ unit ⊕ nought, v)) refl (t 0) ∙ sym (extension-nil K N t)
  terms_value (suc m) t x =
      let p = tabulate m (item (itself K) x) in
      let e : suc m ≡ m + 1 = omega arith in
      sum_at-append K N (multilinear_terms K m t) (with_variable m (multilinear_terms K m (growth K m t))) x
      ∙ ap₂ K.plus (terms_value m t x) (sum_at-with_variable m (multilinear_terms K m (growth K m t)) x ∙ ap (K.times (get_or x m K.zero)) (terms_value m (growth K m t) x))
      ∙ ap (λ n. K.plus (extension K t p) (K.times (get_or x m K.zero) (extension K (growth K n t) p))) (sym (length-tabulate m (item (itself K) x)))
      ∙ sym (ap (extension K t) (ap (λ n. tabulate n (item (itself K) x)) e ∙ tabulate-push m (item (itself K) x)) ∙ extension-push t p (get_or x m K.zero))

  -- the value of this polynomial is the table's extension
  pub terms_value_at : (m : ℕ) (t : ℕ → F) (x : List F) → length x ≡ m → IsValueAt K (of_terms K (multilinear_terms K m t)) x (extension K t x)
  terms_value_at m t x e = (
    multilinear_terms K m t,
    refl,
    ap (extension K t) (is_tabulated K.zero x m (item (itself K) x) e (λ i l. refl)) ∙ sym (terms_value m t x),
  )

  -- at a corner it is what the table has there
  pub terms_at_corner : (m : ℕ) (t : ℕ → F) (c : ℕ) → c < 2 ^ m → IsValueAt K (of_terms K (multilinear_terms K m t)) (corner K m c) (t c)
  terms_at_corner m t c l =
      subst (IsValueAt K (of_terms K (multilinear_terms K m t)) (corner K m c)) (extension-corner K N t m c l)
      (terms_value_at m t (corner K m c) (length-tabulate m (λ i. if bit c i then K.one else K.zero)))
