-- The filter of a contained domain: that there is one, that it is the only one, and its value at any point.
use Rattle.std.proofs.Common.{◌≡◌, ◌≢◌, ℕ, ◌+◌, ◌-◌, ◌*◌, ◌/◌, ◌%◌, ◌<◌, ◌≤◌, inl, inr, cond, eqb, sym, ◌∙◌, ap, subst, arith, ⊎_elim}
use Rattle.std.proofs.Math.Nat.{mod-add-div, mul-le-mul_left}
use Rattle.std.proofs.lemmas.Nat.{div-mul-add, mod-mul-add}
use Rattle.std.proofs.lemmas.Bool.{cases_lt, cases_eq, cond-true, cond-false, eq-eqb, ne_eqb}
use Rattle.ark_math.specs.Field.{FieldOn, IsField, power, natural, minus}
use Rattle.ark_math.specs.Root.{HasOrder}
use Rattle.ark_math.specs.Domain.{Domain, element}
use Rattle.ark_math.specs.Univariate.{IsDegree, IsValue, value_below}
use Rattle.ark_math_domains.specs.Points.{IsContained, IsFilter}
use Rattle.ark_math.proofs.Algebra.Groups.{itself_is_module, zero_scale}
use Rattle.ark_math.proofs.Algebra.Powers.{natural-mul}
use Rattle.ark_math_polynomials.proofs.Polynomials.UnivariateValues.{value_is}
use Rattle.ark_math_polynomials.proofs.Polynomials.UnivariateLoops.{cut, cut-inside, cut-outside}
use Rattle.ark_math_polynomials.proofs.Polynomials.Zeros.{same_from_values}
use Rattle.ark_math_domains.proofs.Domains.Elements.{has_inverses, elements_differ, same_element}
use Rattle.ark_math.proofs.Algebra.NonZero.{factor_not_zero, times_not_zero, minus_not_zero, cancel_factor}
use Rattle.ark_math_domains.proofs.Domains.Contained.{contained_size, contained_offset}
use Rattle.ark_math.proofs.Numbers.Search.{search_below}
use Rattle.ark_math_domains.proofs.OverDomains.Filters.{Inside, IsProgression, start, ratio, below, inner_positive, outer_power_not_zero, progression_is_filter, progression-inside, progression-anywhere, progression-degree}

module _ {F : Type 0} (K : FieldOn F) (N : IsField K) (s d : Domain F) where
  inside_from : HasOrder K s.root s.size → HasOrder K d.root d.size → natural K d.size ≢ K.zero → s.offset ≢ K.zero → d.offset ≢ K.zero → d.size % s.size ≡ 0 → power K s.offset d.size ≡ power K d.offset d.size → Inside K s d
  inside_from p o ne a b z e =
      let k : s.size * (d.size / s.size) ≡ d.size = omega (arith, mod-add-div d.size s.size) in
      let some : natural K s.size ≢ K.zero =
      λ f. ne (ap (natural K) (sym k) ∙ natural-mul K N s.size (d.size / s.size) ∙ ap (λ t. K.times t (natural K (d.size / s.size))) f ∙ zero_scale N (itself_is_module K N) (natural K (d.size / s.size))) in
      record {
        inner = p;
        outer = o;
        index = d.size / s.size;
        whole = k;
        offsets = e;
        of_inner = has_inverses K N s p some a;
        of_outer = has_inverses K N d o ne b;
      }

  pub contained_inside : HasOrder K s.root s.size → HasOrder K d.root d.size → natural K d.size ≢ K.zero → s.offset ≢ K.zero → d.offset ≢ K.zero → 0 < s.size → IsContained K s d → Inside K s d
  contained_inside p o ne a b pos c = inside_from p o ne a b (contained_size K N s d p o pos b c) (contained_offset K N s d p o pos c)

  module _ (c : Inside K s d) where
    -- ---- there is one

    abbrev all_items : ℕ → F
    all_items i = cond (eqb (i % s.size) 0) (K.times (start K s d c) (power K (ratio K s d c) (i / s.size))) K.zero

    abbrev items : ℕ → F
    items = cut K (d.size - s.size + 1) all_items

    at_step : (k r : ℕ) → r < s.size → (s.size * k + r) % s.size ≡ r
    at_step k r l = let e : s.size * k + r ≡ k * s.size + r = omega arith in ap (λ t. t % s.size) e ∙ mod-mul-add k s.size r l

    at_multiple : (k : ℕ) → s.size * k / s.size ≡ k
    at_multiple k = let e : s.size * k ≡ k * s.size + 0 = omega arith in ap (λ t. t / s.size) e ∙ div-mul-add k s.size 0 (inner_positive K N s d c)

    is_progression : IsProgression K s d c items
    is_progression = record {
      short = cut-outside K (d.size - s.size + 1) all_items;
      at = λ k l.
          let more : s.size * (k + 1) ≤ s.size * c.index = mul-le-mul_left s.size (omega arith) in
          let z : s.size * k + 0 ≡ s.size * k = omega arith in
          cut-inside K (d.size - s.size + 1) all_items (s.size * k) (omega (arith, c.whole))
          ∙ cond-true _ _ _ (eq-eqb _ 0 (ap (λ t. t % s.size) (sym z) ∙ at_step k 0 (inner_positive K N s d c)))
          ∙ ap (λ t. K.times (start K s d c) (power K (ratio K s d c) t)) (at_multiple k);
      apart = λ k r l a b.
          let i = s.size * k + r in
          let none : all_items i ≡ K.zero = cond-false _ _ _ (ne_eqb (i % s.size) 0 (λ e. let f = at_step k r b in omega arith)) in
          ⊎_elim
          (λ (m : i < d.size - s.size + 1). cut-inside K (d.size - s.size + 1) all_items i m ∙ none)
          (λ (m : d.size - s.size + 1 ≤ i). cut-outside K (d.size - s.size + 1) all_items i m)
          (cases_lt i (d.size - s.size + 1));
    }

    pub has_filter : (a : ℕ → F) × IsFilter K s d a
    has_filter = (items, progression_is_filter K N s d c items is_progression)

    -- ---- and only one

    offset_not_zero : d.offset ≢ K.zero
    offset_not_zero = factor_not_zero K N _ _ c.of_outer.offset

    same_values : IsContained K s d → (a b : ℕ → F) → IsFilter K s d a → IsFilter K s d b → (j : ℕ) → j < d.size → value_below K d.size a (element K d j) ≡ value_below K d.size b (element K d j)
    same_values h a b A B j l =
        ⊎_elim
        (λ (f : (i : ℕ) × (i < s.size) × (element K s i ≡ element K d j)).
        ap (value_below K d.size a) (sym f.2)
        ∙ sym (value_is K N d.size a (element K s f.0) K.one (below K N s d c a A.short) (A.on f.0 f.1))
        ∙ value_is K N d.size b (element K s f.0) K.one (below K N s d c b B.short) (B.on f.0 f.1)
        ∙ ap (value_below K d.size b) f.2)
        (λ (none : (i : ℕ) → i < s.size → element K s i ≢ element K d j).
        sym (value_is K N d.size a (element K d j) K.zero (below K N s d c a A.short) (A.off j l none))
        ∙ value_is K N d.size b (element K d j) K.zero (below K N s d c b B.short) (B.off j l none))
        (search_below (λ i. element K s i ≡ element K d j) s.size
        (λ i m.
        let k = h i m in
        ⊎_elim
        (λ (e : k.0 ≡ j). inl (k.2 ∙ ap (element K d) e))
        (λ (ne : k.0 ≢ j). inr (λ e. ne (same_element K N d c.outer offset_not_zero k.0 j k.1 l (sym k.2 ∙ e))))
        (cases_eq k.0 j)))

    pub one_filter : IsContained K s d → (a b : ℕ → F) → IsFilter K s d a → IsFilter K s d b → a ≡ b
    one_filter h a b A B =
        same_from_values K N d.size a b (element K d) (below K N s d c a A.short) (below K N s d c b B.short)
        (λ i j l m. elements_differ K N d c.outer offset_not_zero i j l m)
        (same_values h a b A B)

    -- ---- its value

    module _ (h : IsContained K s d) (a : ℕ → F) (A : IsFilter K s d a) where
      is_row : a ≡ items
      is_row = one_filter h a items A (progression_is_filter K N s d c items is_progression)

      pub filter-degree : IsDegree K a (d.size - s.size)
      filter-degree = subst (λ t. IsDegree K t (d.size - s.size)) (sym is_row) (progression-degree K N s d c items is_progression)

      pub filter-value_inside : (x : F) → power K x s.size ≡ power K s.offset s.size → IsValue K a x K.one
      filter-value_inside x e = (d.size, below K N s d c a A.short, sym (ap (λ t. value_below K d.size t x) is_row ∙ progression-inside K N s d c items x is_progression e))

      -- (s * offset ^ s / (n * offset ^ n)) * Z / Z of s, multiplied out
      pub filter-value_elsewhere : (x y : F) → power K x s.size ≢ power K s.offset s.size →
          K.times y (K.times (K.times (natural K d.size) (power K d.offset d.size)) (minus K (power K x s.size) (power K s.offset s.size)))
          ≡ K.times (K.times (natural K s.size) (power K s.offset s.size)) (minus K (power K x d.size) (power K d.offset d.size)) →
          IsValue K a x y
      filter-value_elsewhere x y ne e = (
        d.size,
        below K N s d c a A.short,
        cancel_factor K N _ y (value_below K d.size a x)
            (times_not_zero K N _ _
            (times_not_zero K N (natural K d.size) (power K d.offset d.size) (factor_not_zero K N _ _ c.of_outer.size) (outer_power_not_zero K N s d c))
            (minus_not_zero K N _ _ ne))
            (e ∙ sym (ap (λ t. K.times (value_below K d.size t x) (K.times (K.times (natural K d.size) (power K d.offset d.size)) (minus K (power K x s.size) (power K s.offset s.size)))) is_row ∙ progression-anywhere K N s d c items x is_progression)),
      )
