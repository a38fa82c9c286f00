-- The vanishing polynomial of a domain: its coefficients, and remainders by it.
use Rattle.std.proofs.Common.{◌≡◌, ◌≢◌, ℕ, ◌+◌, ◌<◌, List, length, sym, ◌∙◌, ap, refl, subst}
use Rattle.ark_math.specs.Field.{FieldOn, IsField, power}
use Rattle.ark_math.specs.Module.{tabulate}
use Rattle.ark_math.specs.Root.{HasOrder}
use Rattle.ark_math.specs.Domain.{Domain, element}
use Rattle.ark_math.specs.Univariate.{added, product, IsBelow, IsQuotient, IsValue, value_below, of_list}
use Rattle.ark_math_domains.specs.Points.{vanishing, AreValues}
use Rattle.ark_math.proofs.Algebra.Groups.{itself_is_module, zero_plus}
use Rattle.ark_math.proofs.Algebra.Powers.{times_zero}
use Rattle.ark_math_polynomials.proofs.Polynomials.Binomials.{binomial-below, binomial-leading}
use Rattle.ark_math_polynomials.proofs.Polynomials.UnivariateValues.{one_value, has_value, value-added}
use Rattle.ark_math_polynomials.proofs.Polynomials.UnivariateProducts.{product-below, value-product}
use Rattle.ark_math_domains.proofs.OverDomains.AtElements.{element-vanishes}
use Rattle.ark_math_polynomials.proofs.Polynomials.Quotients.{one_leading, has_quotient}
use Rattle.ark_math_domains.proofs.OverDomains.PlaceValues.{values_from, values-item, values-length, values-product, one_interpolation, one_list_of_values}

module _ {F : Type 0} (K : FieldOn F) (N : IsField K) (d : Domain F) where
  pub vanishing-below : IsBelow K (d.size + 1) (vanishing K d)
  vanishing-below = binomial-below K N d.size (power K d.offset d.size)

  pub vanishing-leading : 0 < d.size → vanishing K d d.size ≡ K.one
  vanishing-leading = binomial-leading K N d.size (power K d.offset d.size)

  remainder_below : (a q r : ℕ → F) → 0 < d.size → IsQuotient K a (vanishing K d) q r → IsBelow K d.size r
  remainder_below a q r l h =
      let e : h.degree.0 ≡ d.size =
      one_leading K N (vanishing K d) h.degree.0 d.size h.degree.1 (λ e. N.one_not_zero (sym (vanishing-leading l) ∙ e)) h.degree.2 vanishing-below in
      subst (λ t. IsBelow K t r) e h.degree.3

  -- a remainder by the vanishing polynomial has the same values at the places
  remainder-values : (a q r : ℕ → F) (v : List F) → HasOrder K d.root d.size → IsQuotient K a (vanishing K d) q r → AreValues K d a v → AreValues K d r v
  remainder-values a q r v o h A =
      values_from K N d h.degree.0 r v h.degree.3 (values-length K N d a v A)
      (λ i l.
      let x = element K d i in
      let y = value_below K h.degree.0 r x in
      let z = value_below K h.finite.0 q x in
      let there : IsValue K (added K (product K q (vanishing K d)) r) x (K.plus (K.times z K.zero) y) =
      value-added K N (product K q (vanishing K d)) r x (K.times z K.zero) y
      (value-product K N q (vanishing K d) x z K.zero (has_value K N h.finite.0 q x h.finite.1) (element-vanishes K N d o i))
      (has_value K N h.degree.0 r x h.degree.3) in
      let e : of_list K v i ≡ K.plus (K.times z K.zero) y =
      one_value K N a x (of_list K v i) (K.plus (K.times z K.zero) y) (values-item K N d a v A i l) (subst (λ t. IsValue K t x (K.plus (K.times z K.zero) y)) (sym h.whole) there) in
      subst (IsValue K r x)
      (sym (e ∙ ap (λ t. K.plus t y) (times_zero K N z) ∙ zero_plus (itself_is_module K N) y))
      (has_value K N h.degree.0 r x h.degree.3))

  -- a whole that is q times it and a rest below n
  pub vanishing-quotient : (a q r : ℕ → F) (m : ℕ) → 0 < d.size → IsBelow K m q → IsBelow K d.size r → a ≡ added K (product K q (vanishing K d)) r → IsQuotient K a (vanishing K d) q r
  vanishing-quotient a q r m l f g h = record {
    finite = (m, f);
    whole = h;
    degree = (d.size, (λ e. N.one_not_zero (sym (vanishing-leading l) ∙ e)), vanishing-below, g);
  }

  -- and the remainder's values are those of the whole
  pub values_from_remainder : (m : ℕ) (a q r : ℕ → F) (v : List F) → HasOrder K d.root d.size → IsBelow K m a → IsQuotient K a (vanishing K d) q r → AreValues K d r v → AreValues K d a v
  values_from_remainder m a q r v o f h R =
      let u : List F = tabulate d.size (λ i. value_below K m a (element K d i)) in
      let A : AreValues K d a u = (m, f, refl) in
      subst (AreValues K d a) (one_list_of_values K N d r u v (remainder-values a q r u o h A) R) A

  -- the polynomial below n with the products of the values is the product's remainder
  pub interpolated_remainder : HasOrder K d.root d.size → 0 < d.size → d.offset ≢ K.zero → (a b c q r : ℕ → F) (v u w : List F) → AreValues K d a v → AreValues K d b u → AreValues K d c w → length w ≡ d.size → ((i : ℕ) → i < d.size → of_list K w i ≡ K.times (of_list K v i) (of_list K u i)) → IsBelow K d.size c → IsQuotient K (product K a b) (vanishing K d) q r → c ≡ r
  interpolated_remainder o l off a b c q r v u w A B C e same f h =
      one_interpolation K N d o off c r w f (remainder_below (product K a b) q r l h) C
      (remainder-values (product K a b) q r w o h (values-product K N d a b v u w A B e same))

  -- which there is
  pub interpolated_quotient : HasOrder K d.root d.size → 0 < d.size → d.offset ≢ K.zero → (a b c : ℕ → F) (v u w : List F) → AreValues K d a v → AreValues K d b u → AreValues K d c w → length w ≡ d.size → ((i : ℕ) → i < d.size → of_list K w i ≡ K.times (of_list K v i) (of_list K u i)) → IsBelow K d.size c → (q : ℕ → F) × IsQuotient K (product K a b) (vanishing K d) q c
  interpolated_quotient o l off a b c v u w A B C e same f =
      let h =
      has_quotient K N d.size _ (product K a b) (vanishing K d) (λ e. N.one_not_zero (sym (vanishing-leading l) ∙ e)) vanishing-below (product-below K N A.0 B.0 a b A.1 B.1) in
      let is : c ≡ h.1 = interpolated_remainder o l off a b c h.0 h.1 v u w A B C e same f h.2 in
      (h.0, subst (IsQuotient K (product K a b) (vanishing K d) h.0) (sym is) h.2)

  -- and the product itself, where that is below n
  pub interpolated_product : HasOrder K d.root d.size → d.offset ≢ K.zero → (a b c : ℕ → F) (v u w : List F) → AreValues K d a v → AreValues K d b u → AreValues K d c w → length w ≡ d.size → ((i : ℕ) → i < d.size → of_list K w i ≡ K.times (of_list K v i) (of_list K u i)) → IsBelow K d.size c → IsBelow K d.size (product K a b) → c ≡ product K a b
  interpolated_product o off a b c v u w A B C e same f g =
      one_interpolation K N d o off c (product K a b) w f g C (values-product K N d a b v u w A B e same)
