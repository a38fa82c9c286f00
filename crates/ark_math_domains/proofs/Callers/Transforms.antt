-- What `ifft` gives for `fft`, and what both are for a polynomial's coefficients and values.
use Rattle.std.proofs.Common.{◌≡◌, ℕ, ◌<◌, ◌≤◌, List, length, map, sym, ◌∙◌, ap, ap₂, refl, subst, arith}
use Rattle.std.proofs.lemmas.List.{length-map}
use Rattle.ark_math.specs.Field.{FieldOn, IsField, power}
use Rattle.ark_math.specs.Module.{ModuleOn, IsItself, itself, item, tabulate}
use Rattle.ark_math.specs.Root.{HasOrder}
use Rattle.ark_math.specs.Domain.{Domain, element}
use Rattle.ark_math.specs.Transform.{transform, fit, value_at, IsInverse, IsOnlyInverse}
use Rattle.ark_math.specs.Univariate.{IsBelow, IsQuotient, added, product, of_list}
use Rattle.ark_math_domains.specs.Points.{vanishing, AreValues}
use Rattle.ark_math.proofs.Lists.Lists.{same_from_map}
use Rattle.ark_math.proofs.Lists.Tabulated.{length-tabulate, is_tabulated}
use Rattle.ark_math_polynomials.proofs.Polynomials.Univariate.{IsBelow-more}
use Rattle.ark_math_polynomials.proofs.Polynomials.UnivariateLists.{of_list-below}
use Rattle.ark_math_polynomials.proofs.Polynomials.Binomials.{binomial}
use Rattle.ark_math_domains.proofs.OverDomains.PlaceValues.{transform-values, inverse-values}
use Rattle.ark_math_domains.proofs.OverDomains.Vanishing.{vanishing-quotient, values_from_remainder}
use Rattle.ark_math_transforms.proofs.Transforms.Carried.{same_carries, meaning_linear, fit-linear, transform-linear}

module _ {F M : Type 0} (V : ModuleOn F M) where
  -- a list of n items fits n as it is
  pub fit-same : (c : List M) (n : ℕ) → length c ≡ n → fit V c n ≡ c
  fit-same c n e = sym (is_tabulated V.zero c n (item V c) e (λ i l. refl))

  -- a fitted list has n items
  fit-length : (c : List M) (n : ℕ) → length (fit V c n) ≡ n
  fit-length c n = length-tabulate n (item V c)

module _ {F M : Type 0} (K : FieldOn F) (V : ModuleOn F M) (d : Domain F) where
  -- a transform has as many items as there are elements
  pub transform-length : (c : List M) → length (transform K V d c) ≡ d.size
  transform-length c = length-tabulate d.size (λ i. value_at K V (fit V c d.size) (element K d i))

  -- a transform sees the fitted list alone
  pub transform-fit : (c : List M) → transform K V d (fit V c d.size) ≡ transform K V d c
  transform-fit c = ap (λ t. tabulate d.size (λ i. value_at K V t (element K d i))) (fit-same V (fit V c d.size) d.size (fit-length V c d.size))

  -- the fitted list is an inverse of its transform
  pub inverse_of_transform : (c : List M) → IsInverse K V d (transform K V d c) (fit V c d.size)
  inverse_of_transform c = record {
    size = fit-length V c d.size;
    values = transform-fit c ∙ sym (fit-same V (transform K V d c) d.size (transform-length c));
  }

  -- `ifft` of `fft`: the coefficients, cut to the size or filled with zeros
  pub ifft_of_fft : (c v u : List M) → v ≡ transform K V d c → IsOnlyInverse K V d v u → u ≡ fit V c d.size
  ifft_of_fft c v u e only = sym (only (fit V c d.size) (subst (λ t. IsInverse K V d t (fit V c d.size)) (sym e) (inverse_of_transform c)))

  -- `ifft` of `fft`: the coefficients themselves, where there are as many as elements
  pub ifft_of_fft-same : (c v u : List M) → length c ≡ d.size → v ≡ transform K V d c → IsOnlyInverse K V d v u → u ≡ c
  ifft_of_fft-same c v u l e only = ifft_of_fft c v u e only ∙ fit-same V c d.size l

  -- `fft` of `ifft`: the values, cut to the size or filled with zeros
  pub fft_of_ifft : (v u : List M) → IsInverse K V d v u → transform K V d u ≡ fit V v d.size
  fft_of_ifft v u inverse = inverse.values

  -- `fft` of `ifft`: the values themselves, where there are as many as elements
  pub fft_of_ifft-same : (v u : List M) → length v ≡ d.size → IsInverse K V d v u → transform K V d u ≡ v
  fft_of_ifft-same v u l inverse = inverse.values ∙ fit-same V v d.size l

-- ---- items that are the field's own values

module _ {F M : Type 0} (K : FieldOn F) (V : ModuleOn F M) {meaning : F → M} (I : IsItself K V meaning) where
  -- lists of the field's values are told apart by their meanings
  pub same_from_meanings : (xs ys : List F) → map meaning xs ≡ map meaning ys → xs ≡ ys
  same_from_meanings xs ys e = same_from_map meaning I.one_to_one xs ys e

  -- a transform of meanings is one of the values
  pub transform-meanings : (d : Domain F) (c v : List F) → map meaning v ≡ transform K V d (map meaning c) → v ≡ transform K (itself K) d c
  transform-meanings d c v e = same_from_meanings v (transform K (itself K) d c) (e ∙ sym (transform-linear (same_carries K) (meaning_linear I) d c))

  -- and so is an inverse
  pub inverse-meanings : (d : Domain F) (v u : List F) → IsInverse K V d (map meaning v) (map meaning u) → IsInverse K (itself K) d v u
  inverse-meanings d v u inverse = record {
    size = sym (length-map u meaning) ∙ inverse.size;
    values = same_from_meanings (transform K (itself K) d u) (fit (itself K) v d.size)
        (transform-linear (same_carries K) (meaning_linear I) d u ∙ inverse.values ∙ sym (fit-linear (same_carries K) (meaning_linear I) v d.size));
  }

  module _ (N : IsField K) (d : Domain F) where
    -- `fft` of a polynomial's coefficients gives its values at the elements
    pub values_of_fft : (coeffs values : List F) → length coeffs ≤ d.size → map meaning values ≡ transform K V d (map meaning coeffs) → AreValues K d (of_list K coeffs) values
    values_of_fft coeffs values l e = subst (AreValues K d (of_list K coeffs)) (sym (transform-meanings d coeffs values e)) (transform-values K N d coeffs l)

    -- `fft` of the remainder by x ^ n - offset ^ n gives the values of the whole
    pub values_of_reduced : HasOrder K d.root d.size → 0 < d.size → (coeffs quotient rest values : List F) (n : ℕ) (c : F) → n ≡ d.size → c ≡ power K d.offset d.size → of_list K coeffs ≡ added K (product K (of_list K quotient) (binomial K n c)) (of_list K rest) → length rest ≤ n → map meaning values ≡ transform K V d (map meaning rest) → AreValues K d (of_list K coeffs) values
    values_of_reduced o some coeffs quotient rest values n c same constant division short transformed =
        let a = of_list K coeffs in
        let q = of_list K quotient in
        let r = of_list K rest in
        let fits : length rest ≤ d.size = omega arith in
        let whole : a ≡ added K (product K q (vanishing K d)) r = division ∙ ap (λ t. added K (product K q t) r) (ap₂ (binomial K) same constant) in
        values_from_remainder K N d (length coeffs) a q r values o (of_list-below K coeffs)
        (vanishing-quotient K N d a q r (length quotient) some (of_list-below K quotient) (IsBelow-more K (length rest) d.size r fits (of_list-below K rest)) whole)
        (values_of_fft rest values fits transformed)

    -- and so of a remainder with n items
    pub values_of_remainder : HasOrder K d.root d.size → 0 < d.size → (a q : ℕ → F) (m : ℕ) (rest values : List F) (n : ℕ) (c : F) → IsBelow K m a → n ≡ d.size → c ≡ power K d.offset d.size → IsQuotient K a (binomial K n c) q (of_list K rest) → length rest ≡ n → map meaning values ≡ transform K V d (map meaning rest) → AreValues K d a values
    values_of_remainder o some a q m rest values n c below same constant h len transformed =
        values_from_remainder K N d m a q (of_list K rest) values o below
        (subst (λ t. IsQuotient K a t q (of_list K rest)) (ap₂ (binomial K) same constant) h)
        (values_of_fft rest values (omega arith) transformed)

    -- `ifft` of n values gives the coefficients of the polynomial below n that has them
    pub values_of_ifft : (values coeffs : List F) → length values ≡ d.size → IsInverse K V d (map meaning values) (map meaning coeffs) → IsBelow K d.size (of_list K coeffs) × AreValues K d (of_list K coeffs) values
    values_of_ifft values coeffs e inverse = inverse-values K N d values coeffs e (inverse-meanings d values coeffs inverse)
