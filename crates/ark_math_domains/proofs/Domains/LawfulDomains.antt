-- What holds of the domains that there are: their elements, the weights at a point as a list is filled with them, and
-- the domains and filters inside.
use Rattle.std.proofs.Common.{◌≡◌, ◌≢◌, ℕ, ◌+◌, ◌-◌, ◌*◌, ◌/◌, ◌%◌, ◌<◌, ◌⊎◌, ◌↔◌, List, length, sym, ◌∙◌, ap, ap₂, refl, subst, arith}
use Rattle.std.proofs.Math.Nat.{mod-add-div}
use Rattle.ark_math.specs.Field.{FieldOn, IsField, power, natural, minus, IsPlaceQuotient}
use Rattle.ark_math.specs.Module.{ModuleOn, IsModule}
use Rattle.ark_math.specs.Transform.{IsInverse, IsOnlyInverse}
use Rattle.ark_math.specs.Root.{Adicity, HasOrder, AreRoots}
use Rattle.ark_math.specs.Domain.{Domain, IsDomain, element}
use Rattle.ark_math.specs.Univariate.{IsBelow, IsDegree, IsQuotient, IsValue, of_list, product}
use Rattle.ark_math_domains.specs.Points.{AreValues, vanishing, AreWeights, IsElement, IsContained, IsFilter}
use Rattle.ark_math.proofs.Algebra.Groups.{itself_is_module, one_times, zero_scale}
use Rattle.ark_math.proofs.Algebra.Solve.{◌⊖◌, ◌⊗◌, unit}
use Rattle.ark_math.proofs.Algebra.Ring.{ring3, ring4, ring5, ring6}
use Rattle.ark_math_polynomials.proofs.Polynomials.UnivariateLists.{of_list-below}
use Rattle.ark_math_polynomials.proofs.Polynomials.UnivariateValues.{one_value}
use Rattle.ark_math_transforms.proofs.Domains.Domains.{root_order, size_not_zero}
use Rattle.ark_math_domains.proofs.Domains.Elements.{Inverses, has_inverses, element-power, same_element}
use Rattle.ark_math_domains.proofs.OverDomains.AtElements.{value-vanishing}
use Rattle.ark_math.proofs.Algebra.NonZero.{positive, times_not_zero, factor_not_zero, minus_not_zero, power_not_zero, same_from_minus, minus_same}
use Rattle.ark_math.proofs.Algebra.Powers.{powers_inverse}
use Rattle.ark_math_transforms.proofs.Transforms.Inverses.{one_inverse}
use Rattle.ark_math_domains.proofs.OverDomains.PlaceValues.{values-length, one_interpolation}
use Rattle.ark_math_domains.proofs.OverDomains.Vanishing.{interpolated_quotient, interpolated_remainder, interpolated_product}
use Rattle.ark_math_domains.proofs.OverDomains.Weights.{weights_at_element, weights_elsewhere, one_list_of_weights}
use Rattle.ark_math_domains.proofs.Domains.Contained.{is_element, contained_size, contained_offset, contained_from}
use Rattle.ark_math_domains.proofs.OverDomains.Filters.{Inside, IsProgression, progression_is_filter}
use Rattle.ark_math_domains.proofs.OverDomains.OneFilter.{contained_inside, has_filter, one_filter, filter-degree, filter-value_inside, filter-value_elsewhere}

module _ {F : Type 0} (K : FieldOn F) (N : IsField K) where
  -- b * (tau / e - 1), times e
  item_times_element : (tau b p q h w : F) → K.times h p ≡ K.one → K.times w q ≡ K.one → K.times (minus K (K.times (K.times (K.times tau b) p) q) b) (K.times h w) ≡ K.times b (minus K tau (K.times h w))
  item_times_element tau b p q h w e f =
      ring6 K N (λ t b p q h w. ((((t ⊗ b) ⊗ p) ⊗ q ⊖ b) ⊗ (h ⊗ w), (t ⊗ b) ⊗ ((h ⊗ p) ⊗ (w ⊗ q)) ⊖ b ⊗ (h ⊗ w))) refl tau b p q h w
      ∙ ap₂ (λ x y. minus K (K.times (K.times tau b) (K.times x y)) (K.times b (K.times h w))) e f
      ∙ ring4 K N (λ t b h w. ((t ⊗ b) ⊗ (unit ⊗ unit) ⊖ b ⊗ (h ⊗ w), b ⊗ (t ⊖ h ⊗ w))) refl tau b h w

  -- and its inverse
  inverse_is_weight : (tau b z m e y w : F) → K.times b z ≡ m → m ≢ K.zero → tau ≢ e → K.times y e ≡ K.times b (minus K tau e) → IsPlaceQuotient K K.one y w → K.times w (K.times m (minus K tau e)) ≡ K.times z e
  inverse_is_weight tau b z m e y w f some ne g q =
      let b_some : b ≢ K.zero = λ o. some (sym f ∙ ap (λ t. K.times t z) o ∙ zero_scale N (itself_is_module K N) z) in
      let y_some : y ≢ K.zero = λ o.
      times_not_zero K N b (minus K tau e) b_some (minus_not_zero K N tau e ne) (sym g ∙ ap (λ t. K.times t e) o ∙ zero_scale N (itself_is_module K N) e) in
      ap (λ t. K.times w (K.times t (minus K tau e))) (sym f)
      ∙ ring4 K N (λ w b z x. (w ⊗ ((b ⊗ z) ⊗ x), z ⊗ (w ⊗ (b ⊗ x)))) refl w b z (minus K tau e)
      ∙ ap (λ t. K.times z (K.times w t)) (sym g)
      ∙ ring4 K N (λ w z y e. (z ⊗ (w ⊗ (y ⊗ e)), (w ⊗ y) ⊗ (z ⊗ e))) refl w z y e
      ∙ ap (λ t. K.times t (K.times z e)) (q.some y_some)
      ∙ one_times K N (K.times z e)

  vanishing_value : (d : Domain F) (x z : F) → IsValue K (vanishing K d) x z → z ≡ minus K (power K x d.size) (power K d.offset d.size)
  vanishing_value d x z h = one_value K N (vanishing K d) x z _ h (value-vanishing K N d x)

-- a domain of a lawful field with its roots
pub record IsLawful {F : Type 0} (K : FieldOn F) (s : Adicity) (root : ℕ → F) (d : Domain F) : Type 0 where
  pub field_laws : IsField K
  pub roots : AreRoots K s root
  pub domain : IsDomain K s root d

pub lawful_domain : {F : Type 0} {K : FieldOn F} {s : Adicity} {root : ℕ → F} {d : Domain F} → IsField K → AreRoots K s root → IsDomain K s root d → IsLawful K s root d
lawful_domain N R D = record { field_laws = N; roots = R; domain = D }

module _ {F : Type 0} {K : FieldOn F} {s : Adicity} {root : ℕ → F} {d : Domain F} (lawful : IsLawful K s root d) where
  abbrev N : IsField K
  N = lawful.field_laws

  abbrev R : AreRoots K s root
  R = lawful.roots

  abbrev D : IsDomain K s root d
  D = lawful.domain

  pub order : HasOrder K d.root d.size
  order = root_order K s root d R D

  pub inverses : Inverses K d
  inverses = has_inverses K N d order (size_not_zero K s root d R D) D.offset_not_zero

  pub some_size : 0 < d.size
  some_size = positive K N d.size (size_not_zero K s root d R D)

  -- ---- inverses

  -- a list with these values is the only one
  pub only_inverse : {M : Type 0} {V : ModuleOn F M} → IsModule K V → (v u : List M) → IsInverse K V d v u → IsOnlyInverse K V d v u
  only_inverse L v u is other is_other = one_inverse N L d order (size_not_zero K s root d R D) D.offset_not_zero v other u is_other is

  -- ---- elements

  pub elements_differ : (i j : ℕ) → i < d.size → j < d.size → element K d i ≡ element K d j → i ≡ j
  elements_differ = same_element K N d order D.offset_not_zero

  pub vanishing_zero : ((x y : F) → (x ≡ y) ⊎ (x ≢ y)) → (x z : F) → z ≡ minus K (power K x d.size) (power K d.offset d.size) → (z ≡ K.zero) ↔ IsElement K d x
  vanishing_zero decide x z e = (
    (λ o. is_element K N d order (size_not_zero K s root d R D) D.offset_not_zero decide x (same_from_minus K N _ _ (sym e ∙ o))),
    (λ h. e ∙ minus_same K N _ _ (ap (λ t. power K t d.size) h.2 ∙ element-power K N d order h.0)),
  )

  -- ---- interpolation

  -- the polynomials below the size that have some values are one
  pub only_interpolation : (a b : ℕ → F) (v : List F) → IsBelow K d.size a → IsBelow K d.size b → AreValues K d a v → AreValues K d b v → a ≡ b
  only_interpolation = one_interpolation K N d order D.offset_not_zero

  -- ---- products by places

  module _ (a b c : ℕ → F) (v u w : List F) (A : AreValues K d a v) (B : AreValues K d b u) (C : AreValues K d c w) (short : IsBelow K d.size c) (places : (i : ℕ) → of_list K w i ≡ K.times (of_list K v i) (of_list K u i)) where
    pub places_quotient : (q : ℕ → F) × IsQuotient K (product K a b) (vanishing K d) q c
    places_quotient = interpolated_quotient K N d order some_size D.offset_not_zero a b c v u w A B C (values-length K N d c w C) (λ i l. places i) short

    pub places_remainder : (q r : ℕ → F) → IsQuotient K (product K a b) (vanishing K d) q r → r ≡ c
    places_remainder q r h = sym (interpolated_remainder K N d order some_size D.offset_not_zero a b c q r v u w A B C (values-length K N d c w C) (λ i l. places i) short h)

    pub places_product : IsBelow K d.size (product K a b) → c ≡ product K a b
    places_product h = interpolated_product K N d order D.offset_not_zero a b c v u w A B C (values-length K N d c w C) (λ i l. places i) short h

  -- ---- weights

  pub one_weights : (tau : F) (l : List F) → AreWeights K d tau l → (other : List F) → AreWeights K d tau other → other ≡ l
  one_weights tau l h other i = one_list_of_weights K N d order inverses tau other l i h

  pub weights_of_indicator : (tau : F) (l : List F) → IsElement K d tau → length l ≡ d.size → ((i : ℕ) → i < d.size → element K d i ≡ tau → of_list K l i ≡ K.one) → ((i : ℕ) → i < d.size → element K d i ≢ tau → of_list K l i ≡ K.zero) → AreWeights K d tau l
  weights_of_indicator tau l h count here there =
      weights_at_element K N d order inverses h.0 tau l h.1 h.2 count (here h.0 h.1 (sym h.2))
      (λ i b ne. there i b (λ e. ne (elements_differ i h.0 b h.1 (e ∙ h.2))))

  pub weights_of_inverses : (tau z v b p u first : F) (ws : List F) → IsValue K (vanishing K d) tau z → K.times z v ≡ K.one → b ≡ K.times (K.times (natural K d.size) (power K d.offset d.size)) v → K.times d.offset p ≡ K.one → K.times d.root u ≡ K.one → first ≡ K.times (K.times tau b) p → length ws ≡ d.size → ((i : ℕ) → i < d.size → IsPlaceQuotient K K.one (minus K (K.times first (power K u i)) b) (of_list K ws i)) → AreWeights K d tau ws
  weights_of_inverses tau z v b p u first ws value some constant offset back begin count inverted =
      let m = K.times (natural K d.size) (power K d.offset d.size) in
      let is : z ≡ minus K (power K tau d.size) (power K d.offset d.size) = vanishing_value K N d tau z value in
      let whole : K.times b z ≡ m =
      ap (λ t. K.times t z) constant ∙ ring3 K N (λ m v z. ((m ⊗ v) ⊗ z, m ⊗ (z ⊗ v))) refl m v z ∙ ap (K.times m) some ∙ N.times_one m in
      let m_some : m ≢ K.zero = times_not_zero K N _ _ (size_not_zero K s root d R D) (power_not_zero K N d.offset d.size D.offset_not_zero) in
      let outside : (i : ℕ) → i < d.size → tau ≢ element K d i = λ i l e.
      factor_not_zero K N z v some (is ∙ minus_same K N _ _ (ap (λ t. power K t d.size) e ∙ element-power K N d order i)) in
      weights_elsewhere K N d order inverses tau ws outside count
      (λ i l.
      inverse_is_weight K N tau b z m (element K d i) (minus K (K.times first (power K u i)) b) (of_list K ws i) whole m_some (outside i l)
      (ap (λ t. K.times (minus K (K.times t (power K u i)) b) (element K d i)) begin
      ∙ item_times_element K N tau b p (power K u i) d.offset (power K d.root i) offset (powers_inverse K N d.root u i back))
      (inverted i l)
      ∙ ap (λ t. K.times t (element K d i)) is)

  pub scale_not_zero : K.times (natural K d.size) (power K d.offset d.size) ≢ K.zero
  scale_not_zero = times_not_zero K N _ _ (size_not_zero K s root d R D) (power_not_zero K N d.offset d.size D.offset_not_zero)

  -- ---- what is inside

  module _ {e : Domain F} (lawful_inside : IsLawful K s root e) where
    abbrev E : IsDomain K s root e
    E = lawful_inside.domain

    inner_order : HasOrder K e.root e.size
    inner_order = root_order K s root e R E

    inner_size : 0 < e.size
    inner_size = positive K N e.size (size_not_zero K s root e R E)

    pub contained_divides : IsContained K e d → d.size % e.size ≡ 0
    contained_divides h = contained_size K N e d inner_order order inner_size D.offset_not_zero h

    pub contained_power : IsContained K e d → power K e.offset d.size ≡ power K d.offset d.size
    contained_power h = contained_offset K N e d inner_order order inner_size h

    pub is_contained : ((x y : F) → (x ≡ y) ⊎ (x ≢ y)) → d.size % e.size ≡ 0 → power K e.offset d.size ≡ power K d.offset d.size → IsContained K e d
    is_contained decide f g = contained_from K N e d inner_order order (size_not_zero K s root d R D) D.offset_not_zero decide inner_size f g

    pub inside : IsContained K e d → Inside K e d
    inside h = contained_inside K N e d inner_order order (size_not_zero K s root d R D) E.offset_not_zero D.offset_not_zero inner_size h

    pub filter_inside : IsContained K e d → (x z : F) → IsValue K (vanishing K e) x z → z ≡ K.zero → (a : ℕ → F) × IsFilter K e d a × IsValue K a x K.one
    filter_inside h x z value o =
        let f = has_filter K N e d (inside h) in
        (f.0, f.1, filter-value_inside K N e d (inside h) h f.0 f.1 x (same_from_minus K N _ _ (sym (vanishing_value K N e x z value) ∙ o)))

    pub filter_elsewhere : IsContained K e d → (x w z v y : F) → IsValue K (vanishing K e) x w → IsValue K (vanishing K d) x z → w ≢ K.zero → K.times (K.times (K.times (natural K d.size) (power K d.offset d.size)) w) v ≡ K.one → y ≡ K.times (K.times (K.times (natural K e.size) (power K e.offset e.size)) z) v → (a : ℕ → F) × IsFilter K e d a × IsValue K a x y
    filter_elsewhere h x w z v y f g some i j =
        let a = has_filter K N e d (inside h) in
        let inner = vanishing_value K N e x w f in
        let m = K.times (natural K d.size) (power K d.offset d.size) in
        let n = K.times (natural K e.size) (power K e.offset e.size) in (
          a.0,
          a.1,
          filter-value_elsewhere K N e d (inside h) h a.0 a.1 x y
              (λ o. some (inner ∙ minus_same K N _ _ o))
              (ap (λ t. K.times y (K.times m t)) (sym inner)
              ∙ ap (λ t. K.times t (K.times m w)) j
              ∙ ring5 K N (λ n z v m w. (((n ⊗ z) ⊗ v) ⊗ (m ⊗ w), (n ⊗ z) ⊗ ((m ⊗ w) ⊗ v))) refl n z v m w
              ∙ ap (K.times (K.times n z)) i
              ∙ N.times_one (K.times n z)
              ∙ ap (K.times n) (vanishing_value K N d x z g)),
        )

    -- ---- the progression that a filter's coefficients are

    quotient_whole : IsContained K e d → e.size * (d.size / e.size) ≡ d.size
    quotient_whole h = omega (arith, mod-add-div d.size e.size, contained_divides h)

    abbrev inside_by : IsContained K e d → (v q : F) → K.times (natural K d.size) v ≡ K.one → K.times e.offset q ≡ K.one → Inside K e d
    inside_by h v q f g =
        let i = inside h in
        record {
          inner = i.inner;
          outer = i.outer;
          index = d.size / e.size;
          whole = quotient_whole h;
          offsets = i.offsets;
          of_inner = record { of_root = i.of_inner.of_root; of_offset = q; of_size = i.of_inner.of_size; root = i.of_inner.root; offset = g; size = i.of_inner.size };
          of_outer = record { of_root = i.of_outer.of_root; of_offset = i.of_outer.of_offset; of_size = v; root = i.of_outer.root; offset = i.of_outer.offset; size = f };
        }

    module _ (h : IsContained K e d) (v q : F) (f : K.times (natural K d.size) v ≡ K.one) (g : K.times e.offset q ≡ K.one) (c : List F) (count : length c ≡ d.size - e.size + 1) (at : (k : ℕ) → k < d.size / e.size → of_list K c (e.size * k) ≡ K.times (K.times (natural K e.size) v) (power K (power K q e.size) k)) (apart : (k r : ℕ) → 0 < r → r < e.size → of_list K c (e.size * k + r) ≡ K.zero) where
      listed : IsProgression K e d (inside_by h v q f g) (of_list K c)
      listed = record { short = subst (λ n. IsBelow K n (of_list K c)) count (of_list-below K c); at = at; apart = λ k r l. apart k r }

      filter_of_items : IsFilter K e d (of_list K c)
      filter_of_items = progression_is_filter K N e d (inside_by h v q f g) (of_list K c) listed

    -- the same of one over sizes, a start and a ratio that are these
    pub filter_of_spaced : IsContained K e d → (v q start ratio : F) (n m : ℕ) (c : List F) → K.times (natural K d.size) v ≡ K.one → K.times e.offset q ≡ K.one → n ≡ d.size → m ≡ e.size → start ≡ K.times (natural K e.size) v → ratio ≡ power K q e.size → length c ≡ n - m + 1 → ((k : ℕ) → k < n / m → of_list K c (m * k) ≡ K.times start (power K ratio k)) → ((k r : ℕ) → 0 < r → r < m → of_list K c (m * k + r) ≡ K.zero) → IsFilter K e d (of_list K c)
    filter_of_spaced h v q start ratio n m c f g whole part begin by count at apart =
        filter_of_items h v q f g c (count ∙ ap₂ (λ a b. a - b + 1) whole part)
        (λ k l.
        ap (λ t. of_list K c (t * k)) (sym part)
        ∙ at k (subst (λ t. k < t) (sym (ap₂ (λ a b. a / b) whole part)) l)
        ∙ ap₂ (λ a b. K.times a (power K b k)) begin by)
        (λ k r p l. ap (λ t. of_list K c (t * k + r)) (sym part) ∙ apart k r p (subst (λ t. r < t) (sym part) l))

    pub filter_degree : IsContained K e d → (a : ℕ → F) → IsFilter K e d a → IsDegree K a (d.size - e.size)
    filter_degree h a A = filter-degree K N e d (inside h) h a A

    pub only_filter : IsContained K e d → (a : ℕ → F) → IsFilter K e d a → (other : ℕ → F) → IsFilter K e d other → other ≡ a
    only_filter h a A other B = one_filter K N e d (inside h) h other a B A
