-- Power series, of which the first coefficients alone count: products of those that agree below a bound, and Newton's
-- step to an inverse.
use Rattle.std.proofs.Common.{◌≡◌, ℕ, suc, ◌+◌, ◌-◌, ◌<◌, ◌≤◌, sym, ◌∙◌, ap, ap₂, refl, subst, arith, ⊎_elim}
use mathlib.Core.Path.{fun_ext}
use Rattle.std.proofs.lemmas.Bool.{cases_lt}
use Rattle.ark_math.specs.Field.{FieldOn, IsField, minus}
use Rattle.ark_math.specs.Module.{itself}
use Rattle.ark_quotients.specs.PowerSeries.{AgreeBelow, unity, past}
use Rattle.ark_math.specs.Univariate.{nothing, added, difference, opposite, monomial, product, IsBelow}
use Rattle.ark_math.proofs.Algebra.Groups.{itself_is_module, scale_zero, zero_scale, zero_plus}
use Rattle.ark_math.proofs.Algebra.Sums.{sum_below-same}
use Rattle.ark_math.proofs.Algebra.Regrouped.{sum_below-zero}
use Rattle.ark_math.proofs.Algebra.Solve.{◌⊞◌, ◌⊟◌, ◌⊖◌, nought}
use Rattle.ark_math.proofs.Algebra.Ring.{ring1, module0_3}
use Rattle.ark_math_polynomials.proofs.Polynomials.Univariate.{coefficients_are_module, monomial-same, monomial-other}
use Rattle.ark_math_polynomials.proofs.Polynomials.UnivariateProducts.{product_assoc, product_comm, product-difference, added-product, one-product, monomial-product_past, monomial-product_before}

module _ {F : Type 0} (K : FieldOn F) where
  pub agree-product : (n : ℕ) (a b c d : ℕ → F) → AgreeBelow n a b → AgreeBelow n c d → AgreeBelow n (product K a c) (product K b d)
  agree-product n a b c d f g k l =
      sum_below-same (itself K) (suc k) (λ i. K.times (a i) (c (k - i))) (λ i. K.times (b i) (d (k - i)))
      (λ i h. ap₂ K.times (f i (omega arith)) (g (k - i) (omega arith)))

module _ {F : Type 0} (K : FieldOn F) (N : IsField K) where
  -- where the first coefficients are zero, more of the product's are
  agree-nothing : (m n : ℕ) (a b : ℕ → F) → AgreeBelow m a (nothing K) → AgreeBelow n b (nothing K) → AgreeBelow (m + n) (product K a b) (nothing K)
  agree-nothing m n a b f g k l =
      let L = itself_is_module K N in
      sum_below-zero L (suc k) (λ i. K.times (a i) (b (k - i)))
      (λ i h. ⊎_elim
      (λ (s : i < m). ap (λ t. K.times t (b (k - i))) (f i s) ∙ zero_scale N L (b (k - i)))
      (λ (s : m ≤ i). ap (K.times (a i)) (g (k - i) (omega arith)) ∙ scale_zero L (a i))
      (cases_lt i m))

  -- (1 + s) * (1 - s) = 1 - s * s
  newton_square : (f g s : ℕ → F) → product K f g ≡ added K (unity K) s → product K f (difference K g (product K g s)) ≡ difference K (unity K) (product K s s)
  newton_square f g s e =
      product-difference K N f g (product K g s)
      ∙ ap (difference K (product K f g)) (sym (product_assoc K N f g s))
      ∙ ap (λ t. difference K t (product K t s)) e
      ∙ ap (difference K (added K (unity K) s)) (added-product K N (unity K) s s ∙ ap (λ t. added K t (product K s s)) (one-product K N s))
      ∙ module0_3 N (coefficients_are_module K N) (λ u s t. ((u ⊞ s) ⊟ (s ⊞ t), u ⊟ t)) refl (unity K) s (product K s s)

  -- Newton's step: what agrees with one below k does so below twice that
  newton : (k : ℕ) (f g s : ℕ → F) → product K f g ≡ added K (unity K) s → AgreeBelow k s (nothing K) → AgreeBelow (k + k) (product K f (difference K g (product K g s))) (unity K)
  newton k f g s e z i l =
      ap (λ t. t i) (newton_square f g s e)
      ∙ ap (minus K (unity K i)) (agree-nothing k k s s z z i l)
      ∙ ring1 K N (λ x. (x ⊖ nought, x)) refl (unity K i)

  -- what is one below k, and the rest of it
  one_and_past : (k : ℕ) (a : ℕ → F) → 0 < k → AgreeBelow k a (unity K) → a ≡ added K (unity K) (product K (monomial K k K.one) (past k a))
  one_and_past k a pos h = fun_ext (λ i. ⊎_elim
      (λ (l : i < k).
      h i l ∙ sym (N.plus_zero (unity K i)) ∙ ap (K.plus (unity K i)) (sym (monomial-product_before K N k K.one (past k a) i l)))
      (λ (l : k ≤ i).
      let e : k + (i - k) ≡ i = omega arith in
      sym (ap₂ K.plus
      (monomial-other K 0 K.one i (λ z. omega arith))
      (monomial-product_past K N k K.one (past k a) i l ∙ (itself_is_module K N).one_scale (past k a (i - k)) ∙ ap a e)
      ∙ zero_plus (itself_is_module K N) (a i)))
      (cases_lt i k))

  -- the step by parts: the first k coefficients stay, and n - k more are those of - g * h, where h are those of f * g
  -- from k on
  newton_parts : (k n : ℕ) (f g h t w : ℕ → F) → 0 < k → k ≤ n → n ≤ k + k → IsBelow K k g → AgreeBelow k (product K f g) (unity K) → AgreeBelow (n - k) h (past k (product K f g)) → AgreeBelow (n - k) t (product K g h) → AgreeBelow k w g → AgreeBelow (n - k) (past k w) (λ i. K.negated (t i)) → AgreeBelow n (product K f w) (unity K)
  newton_parts k n f g h t w pos more most below inverse high times kept rest =
      let fg = product K f g in
      let rise = monomial K k K.one in
      let s = product K rise (past k fg) in
      let new = difference K g (product K g s) in
      let e : product K g s ≡ product K rise (product K g (past k fg)) =
      sym (product_assoc K N g rise (past k fg)) ∙ ap (λ t. product K t (past k fg)) (product_comm K N g rise) ∙ product_assoc K N rise g (past k fg) in
      let z : AgreeBelow k s (nothing K) = λ i l. monomial-product_before K N k K.one (past k fg) i l in
      let same : AgreeBelow n w new = λ i l. ⊎_elim
      (λ (b : i < k).
      kept i b ∙ sym (ring1 K N (λ x. (x ⊖ nought, x)) refl (g i))
      ∙ ap (minus K (g i)) (sym (ap (λ t. t i) e ∙ monomial-product_before K N k K.one (product K g (past k fg)) i b)))
      (λ (b : k ≤ i).
      let j = i - k in
      let at : k + j ≡ i = omega arith in
      ap w (sym at) ∙ rest j (omega arith)
      ∙ ap K.negated (times j (omega arith) ∙ agree-product K (n - k) g g h (past k fg) (λ i l. refl) high j (omega arith))
      ∙ sym (ap₂ (minus K) (below i b)
      (ap (λ t. t i) e ∙ monomial-product_past K N k K.one (product K g (past k fg)) i b ∙ (itself_is_module K N).one_scale (product K g (past k fg) j))
      ∙ zero_plus (itself_is_module K N) (K.negated (product K g (past k fg) j))))
      (cases_lt i k) in
      λ i l. agree-product K n f f w new (λ i l. refl) same i l ∙ newton k f g s (one_and_past k fg pos inverse) z i (omega arith)

  -- the step over parts: a and b are f and f * g as far as the step needs them, h is b from k on, and t is h * g
  pub newton_step : (k n : ℕ) (f a b g h t w : ℕ → F) → 0 < k → k ≤ n → n ≤ k + k → IsBelow K k g → AgreeBelow k (product K f g) (unity K) → AgreeBelow (n - 0) a (past 0 f) → b ≡ product K a g → AgreeBelow (n - k) h (past k b) → t ≡ product K h g → AgreeBelow k w g → AgreeBelow (n - k) (past k w) (opposite K t) → AgreeBelow n (product K f w) (unity K)
  newton_step k n f a b g h t w pos more most below inverse first whole high times kept rest =
      let start : AgreeBelow n a f = λ i l. first i (omega arith) ∙ ap f (let e : 0 + i ≡ i = omega arith in e) in
      newton_parts k n f g h t w pos more most below inverse
      (λ i l. high i l ∙ ap (λ s. s (k + i)) whole ∙ agree-product K n a f g g start (λ j b. refl) (k + i) (omega arith))
      (λ i l. ap (λ s. s i) (times ∙ product_comm K N h g))
      kept rest

  -- one coefficient of the inverse is the first one's inverse
  pub inverse_constant : (n : ℕ) (f w : ℕ → F) (x : F) → n ≡ 1 → K.times (f 0) x ≡ K.one → w 0 ≡ x → AgreeBelow n (product K f w) (unity K)
  inverse_constant n f w x one inverse is i l =
      let first : i ≡ 0 = omega arith in
      subst (λ t. product K f w t ≡ unity K t) (sym first)
      (zero_plus (itself_is_module K N) (K.times (f 0) (w 0)) ∙ ap (K.times (f 0)) is ∙ inverse ∙ sym (monomial-same K 0 K.one))
