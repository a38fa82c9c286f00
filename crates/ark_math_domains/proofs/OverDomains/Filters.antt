-- Filters: one at the places of a domain s inside d, and zero at the other places of d.
use Rattle.std.proofs.Common.{◌≡◌, ◌≢◌, ℕ, ◌+◌, ◌-◌, ◌*◌, ◌<◌, ◌≤◌, sym, ◌∙◌, ap, ap₂, refl, arith, ⊎_elim}
use Rattle.std.proofs.lemmas.Bool.{cases_lt}
use Rattle.ark_math.specs.Field.{FieldOn, IsField, power, natural, minus}
use Rattle.ark_math.specs.Module.{itself, sum_below}
use Rattle.ark_math.specs.Root.{HasOrder}
use Rattle.ark_math.specs.Domain.{Domain, element}
use Rattle.ark_math.specs.Univariate.{IsBelow, IsDegree, value_below}
use Rattle.ark_math_domains.specs.Points.{IsFilter}
use Rattle.ark_math.proofs.Algebra.Groups.{itself_is_module, one_times}
use Rattle.ark_math.proofs.Algebra.Powers.{power-mul, power-times, powers_inverse, natural-mul, times_zero}
use Rattle.ark_math.proofs.Algebra.Sums.{sum_below-same, sum_below-scale}
use Rattle.ark_math.proofs.Algebra.Regrouped.{sum_below-multiples}
use Rattle.ark_math_transforms.proofs.Roots.Orthogonal.{geometric, geometric_zero, geometric_one}
use Rattle.ark_math.proofs.Algebra.Solve.{◌⊕◌, ◌⊖◌, ◌⊗◌, unit}
use Rattle.ark_math.proofs.Algebra.Ring.{ring3, ring3_by, ring5, ring7}
use Rattle.ark_math_polynomials.proofs.Polynomials.Univariate.{IsBelow-more}
use Rattle.ark_math_domains.proofs.Domains.Elements.{Inverses, element-power}
use Rattle.ark_math.proofs.Algebra.NonZero.{positive, factor_not_zero, power_not_zero, times_not_zero, minus_same, cancel_factor}
use Rattle.ark_math_domains.proofs.OverDomains.Weights.{outside}

-- s inside d, by sizes and offsets
pub record Inside {F : Type 0} (K : FieldOn F) (s d : Domain F) : Type 0 where
  pub inner : HasOrder K s.root s.size
  pub outer : HasOrder K d.root d.size
  pub index : ℕ
  pub whole : s.size * index ≡ d.size
  pub offsets : power K s.offset d.size ≡ power K d.offset d.size
  pub of_inner : Inverses K s
  pub of_outer : Inverses K d

module _ {F : Type 0} (K : FieldOn F) (s d : Domain F) (c : Inside K s d) where
  -- the first coefficient of a filter, and from one to the next
  abbrev pub start : F
  start = K.times (natural K s.size) c.of_outer.of_size

  abbrev pub ratio : F
  ratio = power K c.of_inner.of_offset s.size

  -- a geometric progression: start * ratio ^ k at k times the size of s, zero elsewhere
  pub record IsProgression (a : ℕ → F) : Type 0 where
    pub short : IsBelow K (d.size - s.size + 1) a
    pub at : (k : ℕ) → k < c.index → a (s.size * k) ≡ K.times start (power K ratio k)
    pub apart : (k r : ℕ) → k < c.index → 0 < r → r < s.size → a (s.size * k + r) ≡ K.zero

module _ {F : Type 0} (K : FieldOn F) (N : IsField K) (s d : Domain F) (c : Inside K s d) where
  abbrev y : F → F
  y x = K.times (power K x s.size) (ratio K s d c)

  pub inner_positive : 0 < s.size
  inner_positive = positive K N s.size (factor_not_zero K N _ _ c.of_inner.size)

  outer_positive : 0 < d.size
  outer_positive = positive K N d.size (factor_not_zero K N _ _ c.of_outer.size)

  progression-value : (a : ℕ → F) (x : F) → IsProgression K s d c a → value_below K d.size a x ≡ K.times (start K s d c) (sum_below (itself K) c.index (power K (y x)))
  progression-value a x R =
      let m = itself_is_module K N in
      ap (λ t. value_below K t a x) (sym c.whole)
      ∙ sum_below-multiples m s.size c.index (λ i. K.times (power K x i) (a i)) inner_positive
      (λ k r l b e. ap (K.times (power K x (s.size * k + r))) (R.apart k r l b e) ∙ times_zero K N (power K x (s.size * k + r)))
      ∙ sum_below-same (itself K) c.index (λ k. K.times (power K x (s.size * k)) (a (s.size * k))) (λ k. K.times (start K s d c) (power K (y x) k))
      (λ k l.
      ap₂ K.times (power-mul K N x s.size k) (R.at k l)
      ∙ ring3 K N (λ p f q. (p ⊗ (f ⊗ q), f ⊗ (p ⊗ q))) refl (power K (power K x s.size) k) (start K s d c) (power K (ratio K s d c) k)
      ∙ ap (K.times (start K s d c)) (sym (power-times K N (power K x s.size) (ratio K s d c) k)))
      ∙ sum_below-scale m c.index (start K s d c) (power K (y x))

  ratio_inverse : K.times (power K s.offset s.size) (ratio K s d c) ≡ K.one
  ratio_inverse = powers_inverse K N s.offset c.of_inner.of_offset s.size c.of_inner.offset

  pub outer_power_not_zero : power K d.offset d.size ≢ K.zero
  outer_power_not_zero = power_not_zero K N d.offset d.size (factor_not_zero K N _ _ c.of_outer.offset)

  y-power : (x : F) → K.times (power K (y x) c.index) (power K d.offset d.size) ≡ power K x d.size
  y-power x =
      let g = power K s.offset s.size in
      ap₂ K.times
      (power-times K N (power K x s.size) (ratio K s d c) c.index
      ∙ ap (λ t. K.times t (power K (ratio K s d c) c.index)) (sym (power-mul K N x s.size c.index) ∙ ap (power K x) c.whole))
      (sym c.offsets ∙ ap (power K s.offset) (sym c.whole) ∙ power-mul K N s.offset s.size c.index)
      ∙ ring3 K N (λ x r h. ((x ⊗ r) ⊗ h, x ⊗ (h ⊗ r))) refl (power K x d.size) (power K (ratio K s d c) c.index) (power K g c.index)
      ∙ ap (K.times (power K x d.size)) (powers_inverse K N g (ratio K s d c) c.index ratio_inverse)
      ∙ N.times_one (power K x d.size)

  -- at a root of the inner vanishing polynomial
  pub progression-inside : (a : ℕ → F) (x : F) → IsProgression K s d c a → power K x s.size ≡ power K s.offset s.size → value_below K d.size a x ≡ K.one
  progression-inside a x R e =
      progression-value a x R
      ∙ ap (K.times (start K s d c)) (geometric_one K N (y x) c.index (ap (λ t. K.times t (ratio K s d c)) e ∙ ratio_inverse))
      ∙ ring3 K N (λ a v i. ((a ⊗ v) ⊗ i, (a ⊗ i) ⊗ v)) refl (natural K s.size) c.of_outer.of_size (natural K c.index)
      ∙ ap (λ t. K.times t c.of_outer.of_size) (sym (natural-mul K N s.size c.index) ∙ ap (natural K) c.whole)
      ∙ c.of_outer.size

  progression-outside : (a : ℕ → F) (x : F) → IsProgression K s d c a → power K x s.size ≢ power K s.offset s.size → power K x d.size ≡ power K d.offset d.size → value_below K d.size a x ≡ K.zero
  progression-outside a x R ne e =
      let h = power K d.offset d.size in
      let g = power K s.offset s.size in
      progression-value a x R
      ∙ ap (K.times (start K s d c))
      (geometric_zero K N (y x) c.index
      (cancel_factor K N h (power K (y x) c.index) K.one outer_power_not_zero (y-power x ∙ e ∙ sym (one_times K N h)))
      (λ f. ne (cancel_factor K N (ratio K s d c) (power K x s.size) g (factor_not_zero K N (ratio K s d c) g (N.times_comm (ratio K s d c) g ∙ ratio_inverse)) (f ∙ sym ratio_inverse))))
      ∙ times_zero K N (start K s d c)

  -- at any point, multiplied out
  pub progression-anywhere : (a : ℕ → F) (x : F) → IsProgression K s d c a →
      K.times (value_below K d.size a x) (K.times (K.times (natural K d.size) (power K d.offset d.size)) (minus K (power K x s.size) (power K s.offset s.size)))
      ≡ K.times (K.times (natural K s.size) (power K s.offset s.size)) (minus K (power K x d.size) (power K d.offset d.size))
  progression-anywhere a x R =
      let h = power K d.offset d.size in
      let g = power K s.offset s.size in
      let t = sum_below (itself K) c.index (power K (y x)) in
      let z = power K x s.size in
      let back : z ≡ K.times (y x) g =
      ring3_by K N (λ x r h. (x, (x ⊗ r) ⊗ h, x ⊗ unit, x ⊗ (h ⊗ r))) refl z (ratio K s d c) g (ap (K.times z) (sym ratio_inverse)) in
      ap₂ (λ u w. K.times u (K.times (K.times (natural K d.size) h) (minus K w g))) (progression-value a x R) back
      ∙ ring7 K N (λ a c t m h y g. (((a ⊗ c) ⊗ t) ⊗ ((m ⊗ h) ⊗ (y ⊗ g ⊖ g)), (m ⊗ c) ⊗ (((y ⊗ t ⊕ unit) ⊖ (t ⊕ unit)) ⊗ ((a ⊗ g) ⊗ h)))) refl
      (natural K s.size) c.of_outer.of_size t (natural K d.size) h (y x) g
      ∙ ap₂ (λ u w. K.times u (K.times (minus K w (K.plus t K.one)) (K.times (K.times (natural K s.size) g) h))) c.of_outer.size (geometric K N (y x) c.index)
      ∙ ring5 K N (λ t q a g h. (unit ⊗ (((t ⊕ q) ⊖ (t ⊕ unit)) ⊗ ((a ⊗ g) ⊗ h)), (a ⊗ g) ⊗ (q ⊗ h ⊖ h))) refl t (power K (y x) c.index) (natural K s.size) g h
      ∙ ap (λ w. K.times (K.times (natural K s.size) g) (minus K w h)) (y-power x)

  pub below : (a : ℕ → F) → IsBelow K (d.size - s.size + 1) a → IsBelow K d.size a
  below a h =
      let p = inner_positive in
      let q = outer_positive in
      IsBelow-more K (d.size - s.size + 1) d.size a (omega arith) h

  pub progression_is_filter : (a : ℕ → F) → IsProgression K s d c a → IsFilter K s d a
  progression_is_filter a R = record {
    short = R.short;
    on = λ i l. (d.size, below a R.short, sym (progression-inside a (element K s i) R (element-power K N s c.inner i)));
    off = λ j l ne. (
      d.size,
      below a R.short,
      sym
          (progression-outside a (element K d j) R
          (λ e. outside K N s c.inner c.of_inner (element K d j) (λ i b f. ne i b (sym f)) (minus_same K N _ _ e))
          (element-power K N d c.outer j)),
    );
  }

  pub progression-degree : (a : ℕ → F) → IsProgression K s d c a → IsDegree K a (d.size - s.size)
  progression-degree a R =
      let k = c.index - 1 in
      let p = inner_positive in
      let q = outer_positive in
      let some : 0 < c.index = ⊎_elim (λ (l : 0 < c.index). l) (λ (l : c.index ≤ 0). let z : s.size * c.index ≡ s.size * 0 = ap (λ t. s.size * t) (omega arith) in absurd (omega (arith, c.whole))) (cases_lt 0 c.index) in
      let more : s.size * c.index ≡ s.size * (k + 1) = ap (λ t. s.size * t) (omega arith) in
      let last : s.size * k ≡ d.size - s.size = omega (arith, c.whole) in
      record {
        rest = R.short;
        leading = λ _ e.
            times_not_zero K N (start K s d c) (power K (ratio K s d c) k)
            (times_not_zero K N (natural K s.size) c.of_outer.of_size
            (factor_not_zero K N _ _ c.of_inner.size)
            (factor_not_zero K N c.of_outer.of_size (natural K d.size) (N.times_comm c.of_outer.of_size (natural K d.size) ∙ c.of_outer.size)))
            (power_not_zero K N (ratio K s d c) k (factor_not_zero K N (ratio K s d c) (power K s.offset s.size) (N.times_comm (ratio K s d c) (power K s.offset s.size) ∙ ratio_inverse)))
            (sym (R.at k (omega arith)) ∙ ap a last ∙ e);
      }
