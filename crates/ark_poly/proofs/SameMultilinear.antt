-- Polynomials with no power above one are told by their values at the corners of the cube.
use Rattle.std.proofs.Common.{◌≡◌, ◌≢◌, ℕ, zero, suc, ◌+◌, ◌*◌, ◌/◌, ◌<◌, ◌≤◌, ◌^◌, ◌⊎◌, Bool, true, false, if◌then◌else◌, All, List, [], ◌∷◌, length, get_or, sym, ◌∙◌, ap, ap₂, refl, arith, inl, inr, ⊎_elim, eqb, eq-eqb, ne_eqb}
use mathlib.Core.Path.{fun_ext}
use Rattle.std.proofs.lemmas.Bool.{cases_eq, cases_Bool, cond-true, cond-false}
use Rattle.std.proofs.lemmas.List.Elements.{All-cons, All-tail}
use Rattle.ark_math.specs.Field.{FieldOn, IsField, power}
use Rattle.ark_math.specs.Univariate.{added, opposite}
use Rattle.ark_math_variables.specs.Term.{power_of, term_value}
use Rattle.ark_math_variables.specs.Multivariate.{same_term, of_terms, sum_at, IsValueAt}
use Rattle.ark_math_variables.specs.Multilinear.{bit, corner, IsSquareFree, IsMultilinear}
use Rattle.ark_math.proofs.Algebra.Solve.{unit, nought, ◌⊕◌, ◌⊖◌, ◌⊗◌}
use Rattle.ark_math.proofs.Algebra.Ring.{ring1, ring2_by}
use Rattle.ark_math.proofs.Lists.Tabulated.{get_or-tabulate}
use Rattle.ark_math_variables.proofs.Polynomials.Terms.{same_term-same, cases_term}
use Rattle.ark_math_variables.proofs.Polynomials.Multivariate.{without, length-without, of_terms-without_same, of_terms-without_other, sum_at-without, IsValueAt-added, IsValueAt-opposite}
use Rattle.ark_math.proofs.Numbers.PowersOfTwo.{pow_twice}
use Rattle.ark_math_variables.proofs.Polynomials.Cube.{bit-suc, bit-even, bit-odd}
use Rattle.ark_math_variables.proofs.Polynomials.SquareFree.{square_free-tail, square_free-at, square_free-among}

-- ---- a corner with given bits

bits_from : (b m : ℕ) (f : ℕ → Bool) → bit b 0 ≡ f 0 → ((i : ℕ) → i < m → bit (b / 2) i ≡ f (suc i)) → (i : ℕ) → i < suc m → bit b i ≡ f i
bits_from b m f first rest zero l = first
bits_from b m f first rest (suc i) l = bit-suc b i ∙ rest i (omega arith)

with_bits : (m : ℕ) (f : ℕ → Bool) → (c : ℕ) × (c < 2 ^ m) × ((i : ℕ) → i < m → bit c i ≡ f i)
with_bits zero f = (0, omega arith, λ i l. absurd (omega arith))
with_bits (suc m) f =
    let r = with_bits m (λ i. f (suc i)) in
    let below = r.1 in
    let twice = pow_twice m in
    ⊎_elim
    (λ (e : f 0 ≡ true).
    let half : (2 * r.0 + 1) / 2 ≡ r.0 = omega arith in
    (2 * r.0 + 1, omega (arith, below, twice), bits_from (2 * r.0 + 1) m f (bit-odd r.0 ∙ sym e) (λ i l. ap (λ b. bit b i) half ∙ r.2 i l)))
    (λ (e : f 0 ≡ false).
    let half : 2 * r.0 / 2 ≡ r.0 = omega arith in
    (2 * r.0, omega (arith, below, twice), bits_from (2 * r.0) m f (bit-even r.0 ∙ sym e) (λ i l. ap (λ b. bit b i) half ∙ r.2 i l)))
    (cases_Bool (f 0))

module _ {F : Type 0} (K : FieldOn F) (N : IsField K) where
  -- ---- terms at the point that is one at the variables of us, and zero at others

  module _ (m : ℕ) (us : List (ℕ × ℕ)) (x : List F) (point : (i : ℕ) → i < m → get_or x i K.zero ≡ (if eqb (power_of us i) 1 then K.one else K.zero)) where
    item-one : (p : ℕ × ℕ) → p.0 < m → p.1 ≡ 1 → power_of us p.0 ≡ 1 → power K (get_or x p.0 K.zero) p.1 ≡ K.one
    item-one p l e f =
        ap₂ (power K) (point p.0 l ∙ cond-true (eqb (power_of us p.0) 1) K.one K.zero (eq-eqb (power_of us p.0) 1 f)) e
        ∙ ring1 K N (λ v. (unit ⊗ unit, unit)) refl K.one

    item-zero : (p : ℕ × ℕ) → p.0 < m → p.1 ≡ 1 → power_of us p.0 ≢ 1 → power K (get_or x p.0 K.zero) p.1 ≡ K.zero
    item-zero p l e f =
        ap₂ (power K) (point p.0 l ∙ cond-false (eqb (power_of us p.0) 1) K.one K.zero (ne_eqb (power_of us p.0) 1 f)) e
        ∙ ring1 K N (λ v. (nought ⊗ unit, nought)) refl K.one

    value-one : (ps : List (ℕ × ℕ)) → IsSquareFree m ps → All (λ p. power_of us p.0 ≡ 1) ps → term_value K ps x ≡ K.one
    value-one [] h w = refl
    value-one (p ∷ ps) h w =
        let o = h.once 0 p (omega arith) in
        ap₂ K.times (item-one p o.0 o.1 (w 0 p (omega arith))) (value-one ps (square_free-tail m p ps h) (All-tail (λ p. power_of us p.0 ≡ 1) p ps w))
        ∙ ring1 K N (λ v. (unit ⊗ unit, unit)) refl K.one

    among_or_zero : (ps : List (ℕ × ℕ)) → IsSquareFree m ps → All (λ p. power_of us p.0 ≡ 1) ps ⊎ (term_value K ps x ≡ K.zero)
    among_or_zero [] h = inl (λ k d l. absurd (omega arith))
    among_or_zero (p ∷ ps) h =
        let o = h.once 0 p (omega arith) in
        let first = power K (get_or x p.0 K.zero) p.1 in
        ⊎_elim
        (λ (e : power_of us p.0 ≡ 1). ⊎_elim
        (λ (w : All (λ p. power_of us p.0 ≡ 1) ps). inl (All-cons (λ p. power_of us p.0 ≡ 1) p ps e w))
        (λ (z : term_value K ps x ≡ K.zero). inr (ap (K.times first) z ∙ ring1 K N (λ v. (v ⊗ nought, nought)) refl first))
        (among_or_zero ps (square_free-tail m p ps h)))
        (λ (ne : power_of us p.0 ≢ 1).
        inr (ap (λ y. K.times y (term_value K ps x)) (item-zero p o.0 o.1 ne) ∙ ring1 K N (λ v. (nought ⊗ v, nought)) refl (term_value K ps x)))
        (cases_eq (power_of us p.0) 1)

  module _ (cases_zero : (c : F) → (c ≡ K.zero) ⊎ (c ≢ K.zero)) where
    -- a sum of terms that are zero there, or have no coefficient
    sum_at_zero : (n : ℕ) (cs : List (F × List (ℕ × ℕ))) (x : List F) → length cs ≤ n → ((t : List (ℕ × ℕ)) → of_terms K cs t ≢ K.zero → term_value K t x ≡ K.zero) → sum_at K cs x ≡ K.zero
    sum_at_zero n [] x l h = refl
    sum_at_zero zero (c ∷ cs) x l h = absurd (omega arith)
    sum_at_zero (suc n) (c ∷ cs) x l h =
        let t = c.1 in
        let less = length-without t cs in
        let rest : without t (c ∷ cs) ≡ without t cs = cond-true (same_term t t) (without t cs) (c ∷ without t cs) (same_term-same t) in
        let k = of_terms K (c ∷ cs) t in
        let kept : (u : List (ℕ × ℕ)) → of_terms K (without t cs) u ≢ K.zero → term_value K u x ≡ K.zero =
        λ u some. ⊎_elim
        (λ (e : t ≡ u). absurd (some (ap (of_terms K (without t cs)) (sym e) ∙ of_terms-without_same K N t cs)))
        (λ (ne : t ≢ u). h u (λ z. some (ap (λ ds. of_terms K ds u) (sym rest) ∙ of_terms-without_other K N t (c ∷ cs) u ne ∙ z)))
        (cases_term t u) in
        let first : K.times k (term_value K t x) ≡ K.zero =
        ⊎_elim
        (λ (none : k ≡ K.zero). ap (λ s. K.times s (term_value K t x)) none ∙ ring1 K N (λ v. (nought ⊗ v, nought)) refl (term_value K t x))
        (λ (some : k ≢ K.zero). ap (K.times k) (h t some) ∙ ring1 K N (λ v. (v ⊗ nought, nought)) refl k)
        (cases_zero k) in
        sum_at-without K N t (c ∷ cs) x
        ∙ ap₂ K.plus first (ap (λ ds. sum_at K ds x) rest ∙ sum_at_zero n (without t cs) x (omega arith) kept)
        ∙ N.plus_zero K.zero

    -- zero at every corner: no coefficient, of shorter terms first
    none_below : (m : ℕ) (a : List (ℕ × ℕ) → F) → IsMultilinear K m a → ((c : ℕ) → c < 2 ^ m → IsValueAt K a (corner K m c) K.zero) → (n : ℕ) (u : List (ℕ × ℕ)) → length u < n → a u ≡ K.zero
    none_below m a multilinear values zero u l = absurd (omega arith)
    none_below m a multilinear values (suc n) u l = ⊎_elim
        (λ (none : a u ≡ K.zero). none)
        (λ (some : a u ≢ K.zero).
        let free = multilinear u some in
        let r = with_bits m (λ v. eqb (power_of u v) 1) in
        let x = corner K m r.0 in
        let point : (i : ℕ) → i < m → get_or x i K.zero ≡ (if eqb (power_of u i) 1 then K.one else K.zero) =
        λ i b. get_or-tabulate m (λ i. if bit r.0 i then K.one else K.zero) i K.zero b ∙ ap (λ s. if s then K.one else K.zero) (r.2 i b) in
        let h = values r.0 r.1 in
        let cs = h.0 in
        let others : (t : List (ℕ × ℕ)) → of_terms K (without u cs) t ≢ K.zero → term_value K t x ≡ K.zero =
        λ t left. ⊎_elim
        (λ (e : u ≡ t). absurd (left (ap (of_terms K (without u cs)) (sym e) ∙ of_terms-without_same K N u cs)))
        (λ (ne : u ≢ t).
        let has : a t ≢ K.zero = λ z. left (of_terms-without_other K N u cs t ne ∙ ap (λ f. f t) h.1 ∙ z) in
        let other = multilinear t has in
        ⊎_elim
        (λ (w : All (λ p. power_of u p.0 ≡ 1) t). ⊎_elim
        (λ (same : t ≡ u). absurd (ne (sym same)))
        (λ (less : length t < length u). absurd (has (none_below m a multilinear values n t (omega (arith, less, l)))))
        (square_free-among m m t u other free w))
        (λ (z : term_value K t x ≡ K.zero). z)
        (among_or_zero m u x point t other))
        (cases_term u t) in
        sym (h.2
        ∙ sum_at-without K N u cs x
        ∙ ap₂ K.plus
        (ap₂ K.times (ap (λ f. f u) h.1) (value-one m u x point u free (square_free-at m u free)))
        (sum_at_zero (length (without u cs)) (without u cs) x (omega arith) others)
        ∙ ring1 K N (λ v. (v ⊗ unit ⊕ nought, v)) refl (a u)))
        (cases_zero (a u))

    difference_multilinear : (m : ℕ) (a b : List (ℕ × ℕ) → F) → IsMultilinear K m a → IsMultilinear K m b → IsMultilinear K m (added K a (opposite K b))
    difference_multilinear m a b g h t some = ⊎_elim
        (λ (none : a t ≡ K.zero). h t (λ z. some (ap₂ (λ u v. K.plus u (K.negated v)) none z ∙ N.plus_negated K.zero)))
        (λ (has : a t ≢ K.zero). g t has)
        (cases_zero (a t))

    -- one multilinear polynomial has these values at the corners
    pub same_multilinear : (m : ℕ) (t : ℕ → F) (a b : List (ℕ × ℕ) → F) → IsMultilinear K m a → IsMultilinear K m b
        → ((c : ℕ) → c < 2 ^ m → IsValueAt K a (corner K m c) (t c)) → ((c : ℕ) → c < 2 ^ m → IsValueAt K b (corner K m c) (t c)) → a ≡ b
    same_multilinear m t a b g h values others =
        let zeros : (c : ℕ) → c < 2 ^ m → IsValueAt K (added K a (opposite K b)) (corner K m c) K.zero =
        λ c l.
        let x = corner K m c in
        let v = IsValueAt-added K N a (opposite K b) x (t c) (K.negated (t c)) (values c l) (IsValueAt-opposite K N b x (t c) (others c l)) in
        (v.0, v.1, sym (N.plus_negated (t c)) ∙ v.2) in
        fun_ext (λ u. ring2_by K N (λ y z. (y, z, y ⊖ z, nought)) refl (a u) (b u)
        (none_below m (added K a (opposite K b)) (difference_multilinear m a b g h) zeros (suc (length u)) u (omega arith)))
