-- Polynomials over a module that are zero at the marked places, divided by the product of the factors x - r.
use Rattle.std.proofs.Common.{◌≡◌, ◌≢◌, ℕ, zero, suc, ◌+◌, ◌<◌, ◌≤◌, Bool, true, false, List, [], ◌∷◌, length, get_or, sym, ◌∙◌, ap, ap₂, refl, arith}
use mathlib.Core.Path.{fun_ext}
use Rattle.ark_math.specs.Field.{FieldOn, IsField, power, minus}
use Rattle.ark_math.specs.Module.{ModuleOn, IsModule}
use Rattle.ark_math.specs.Root.{HasOrder}
use Rattle.ark_math.specs.Domain.{Domain, element}
use Rattle.ark_math.proofs.Algebra.Groups.{scale_zero}
use Rattle.ark_math.proofs.Algebra.Sums.{sum_below-powers}
use Rattle.ark_math.proofs.Algebra.Solve.{◌⊞◌, ◌•◌, negative}
use Rattle.ark_math.proofs.Algebra.Ring.{module1_2}
use Rattle.ark_math_domains.proofs.Domains.Elements.{elements_differ}
use Rattle.ark_math.proofs.Algebra.NonZero.{minus_not_zero}
use Rattle.rs_code.specs.Locator.{lost_from, by_factor, by_factors}
use Rattle.rs_code.proofs.Locators.{value, value-same, IsShort, by_factor-value}

module _ {F M : Type 0} {K : FieldOn F} {V : ModuleOn F M} (N : IsField K) (L : IsModule K V) where
  -- a factor that isn't zero, on both sides
  pub scale_cancel : (x : F) (v w : M) → x ≢ K.zero → V.scale x v ≡ V.scale x w → v ≡ w
  scale_cancel x v w some e =
      let y = N.inverts x some in
      let back : (t : M) → t ≡ V.scale y.0 (V.scale x t) = λ t.
      sym (L.one_scale t) ∙ ap (λ s. V.scale s t) (sym y.1 ∙ N.times_comm x y.0) ∙ L.times_scale y.0 x t in
      back v ∙ ap (V.scale y.0) e ∙ sym (back w)

  value-zero : (n : ℕ) (a : ℕ → M) (x : F) → ((i : ℕ) → a i ≡ V.zero) → value K V n a x ≡ V.zero
  value-zero zero a x h = refl
  value-zero (suc n) a x h = ap₂ V.plus (value-zero n a x h) (ap (V.scale (power K x n)) (h n) ∙ scale_zero L (power K x n)) ∙ L.plus_zero V.zero

  -- ---- by one factor

  -- the value of what is left of the polynomial from item i on
  value_from : ℕ → F → (ℕ → M) → ℕ → M
  value_from n r a i = value K V n (λ j. a (i + j)) r

  value_from-step : (n : ℕ) (r : F) (a : ℕ → M) (i : ℕ) → IsShort V n a → value_from n r a i ≡ V.plus (V.scale r (value_from n r a (suc i))) (a i)
  unfolding value_from
  value_from-step n r a i short =
      let last : V.scale (power K r n) (a (i + n)) ≡ V.zero = ap (V.scale (power K r n)) (short (i + n) (omega arith)) ∙ scale_zero L (power K r n) in
      sym (ap (V.plus (value K V n (λ j. a (i + j)) r)) last ∙ L.plus_zero (value K V n (λ j. a (i + j)) r))
      ∙ sum_below-powers L n r (λ j. a (i + j))
      ∙ ap₂ (λ s t. V.plus (V.scale r s) t)
      (value-same N L n (λ j. a (i + suc j)) (λ j. a (suc i + j)) r (λ j _. let e : i + suc j ≡ suc i + j = omega arith in ap a e))
      (let e : i + 0 ≡ i = omega arith in ap a e)

  pub quotient : ℕ → F → (ℕ → M) → ℕ → M
  quotient n r a i = value_from n r a (suc i)

  pub quotient-short : (m n : ℕ) (r : F) (a : ℕ → M) → IsShort V (suc m) a → IsShort V m (quotient n r a)
  unfolding quotient value_from
  quotient-short m n r a short i l = value-zero n (λ j. a (suc i + j)) r (λ j. short (suc i + j) (omega arith))

  quotient_at : (n : ℕ) (r : F) (a : ℕ → M) → IsShort V n a → value K V n a r ≡ V.zero → (i : ℕ) → a i ≡ by_factor K V r (quotient n r a) i
  unfolding quotient value_from
  quotient_at n r a short root zero =
      let whole : value_from n r a 0 ≡ V.zero = value-same N L n (λ j. a (0 + j)) a r (λ j _. let e : 0 + j ≡ j = omega arith in ap a e) ∙ root in
      let rest = value_from n r a 1 in
      sym (module1_2 N L (λ r t a. (negative r • t ⊞ (r • t ⊞ a), a)) refl r rest (a 0))
      ∙ ap (V.plus (V.scale (K.negated r) rest)) (sym (value_from-step n r a 0 short) ∙ whole)
      ∙ L.plus_zero (V.scale (K.negated r) rest)
  quotient_at n r a short root (suc i) =
      let rest = value_from n r a (suc (suc i)) in
      sym (ap (λ t. V.plus t (V.scale (K.negated r) rest)) (value_from-step n r a (suc i) short)
      ∙ module1_2 N L (λ r t a. ((r • t ⊞ a) ⊞ negative r • t, a)) refl r rest (a (suc i)))

  pub by_factor-quotient : (n : ℕ) (r : F) (a : ℕ → M) → IsShort V n a → value K V n a r ≡ V.zero → a ≡ by_factor K V r (quotient n r a)
  by_factor-quotient n r a short root = fun_ext (quotient_at n r a short root)

  -- ---- by all of them

  module _ (d : Domain F) (o : HasOrder K d.root d.size) (off : d.offset ≢ K.zero) where
    pub divided : (n m i : ℕ) (marks : List Bool) (a : ℕ → M) → IsShort V (m + length (lost_from K d i marks)) a → m + length (lost_from K d i marks) ≤ n → i + length marks ≤ d.size →
        ((j : ℕ) → j < length marks → get_or marks j true ≡ true → value K V n a (element K d (i + j)) ≡ V.zero) →
        (q : ℕ → M) × IsShort V m q × (a ≡ by_factors K V (lost_from K d i marks) q)
    divided n m i [] a short room b roots = (a, λ j l. short j (omega arith), refl)
    divided n m i (true ∷ marks) a short room b roots =
        let r = element K d i in
        let rest = lost_from K d (suc i) marks in
        let first : value K V n a r ≡ V.zero = (let e : i ≡ i + 0 = omega arith in ap (λ t. value K V n a (element K d t)) e) ∙ roots 0 (omega arith) refl in
        let q = quotient n r a in
        let q_short : IsShort V (m + length rest) q = quotient-short (m + length rest) n r a (λ j l. short j (omega arith)) in
        let is : a ≡ by_factor K V r q = by_factor-quotient n r a (λ j l. short j (omega arith)) first in
        let others : (j : ℕ) → j < length marks → get_or marks j true ≡ true → value K V n q (element K d (suc i + j)) ≡ V.zero = λ j l e.
        let x = element K d (suc i + j) in
        let same : suc i + j ≡ i + suc j = omega arith in
        scale_cancel (minus K x r) _ V.zero (minus_not_zero K N x r (λ s. elements_differ K N d o off i (suc i + j) (omega arith) (omega arith) (sym s)))
        (sym (by_factor-value N L (m + length rest) n r x q q_short (omega arith))
        ∙ ap (λ t. value K V n t x) (sym is)
        ∙ ap (λ t. value K V n a (element K d t)) same
        ∙ roots (suc j) (omega arith) e
        ∙ sym (scale_zero L (minus K x r))) in
        let more = divided n m (suc i) marks q q_short (omega arith) (omega arith) others in
        (more.0, more.1, is ∙ ap (by_factor K V r) more.2)
    divided n m i (false ∷ marks) a short room b roots =
        divided n m (suc i) marks a short room (omega arith)
        (λ j l e. (let same : suc i + j ≡ i + suc j = omega arith in ap (λ t. value K V n a (element K d t)) same) ∙ roots (suc j) (omega arith) e)
