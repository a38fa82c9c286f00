-- The weights at a point: what they are, that they are the only ones, and their forms at an element and elsewhere.
use Rattle.std.proofs.Common.{◌≡◌, ◌≢◌, ℕ, ◌<◌, List, length, sym, ◌∙◌, ap, ap₂, refl, subst, ⊎_elim}
use Rattle.std.proofs.lemmas.Bool.{cases_eq}
use Rattle.std.proofs.lemmas.List.{ext_get_or}
use Rattle.ark_math.specs.Field.{FieldOn, IsField, power, natural, minus}
use Rattle.ark_math.specs.Module.{itself, sum_below}
use Rattle.ark_math.specs.Root.{HasOrder}
use Rattle.ark_math.specs.Domain.{Domain, element}
use Rattle.ark_math_transforms.proofs.Transforms.Places.{dft_at}
use Rattle.ark_math.specs.Univariate.{IsBelow, IsValue, value_below, of_list, monomial}
use Rattle.ark_math_domains.specs.Points.{AreValues, AreWeights}
use Rattle.ark_math.proofs.Algebra.Groups.{itself_is_module, one_times, zero_scale}
use Rattle.ark_math.proofs.Algebra.Powers.{times_zero, zero_factor, power-times, power_comm, powers_inverse}
use Rattle.ark_math.proofs.Algebra.Sums.{sum_below-same, sum_below-scale}
use Rattle.ark_math.proofs.Algebra.Regrouped.{sum_below-swap, sum_below-single, sum_below-zero}
use Rattle.ark_math_transforms.proofs.Roots.Orthogonal.{returned, quotients_zero, quotients_one, geometric}
use Rattle.ark_math.proofs.Algebra.Solve.{◌⊕◌, ◌⊖◌, ◌⊗◌, unit}
use Rattle.ark_math.proofs.Algebra.Ring.{ring3, ring3_by, ring4, ring5, ring6}
use Rattle.ark_math_polynomials.proofs.Polynomials.UnivariateValues.{value_below-monomial, value_is}
use Rattle.ark_math_polynomials.proofs.Polynomials.UnivariateLoops.{cut, cut-inside, cut-outside}
use Rattle.ark_math_domains.proofs.OverDomains.PlaceValues.{values-item}
use Rattle.ark_math_domains.proofs.Domains.Elements.{Inverses, element-power}
use Rattle.ark_math.proofs.Algebra.NonZero.{positive, minus_not_zero, times_not_zero, factor_not_zero, power_not_zero, cancel_factor}

-- the inverse of element k
abbrev pub over : {F : Type 0} (K : FieldOn F) (d : Domain F) → Inverses K d → ℕ → F
over K d v k = K.times v.of_offset (power K v.of_root k)

-- 1 / n * (1 + y + .. + y ^ (n - 1)) with y = tau / element i
abbrev pub weight : {F : Type 0} (K : FieldOn F) (d : Domain F) → Inverses K d → F → ℕ → F
weight K d v tau i = K.times v.of_size (sum_below (itself K) d.size (power K (K.times tau (over K d v i))))

module _ {F : Type 0} (K : FieldOn F) (N : IsField K) (d : Domain F) (o : HasOrder K d.root d.size) (v : Inverses K d) where
  -- element i over element k is a quotient of powers of the root
  quotient : (i k : ℕ) → K.times (element K d i) (over K d v k) ≡ K.times (power K d.root i) (power K v.of_root k)
  quotient i k =
      ring4 K N (λ h w p u. ((h ⊗ w) ⊗ (p ⊗ u), (h ⊗ p) ⊗ (w ⊗ u))) refl d.offset (power K d.root i) v.of_offset (power K v.of_root k)
      ∙ ap (λ t. K.times t (K.times (power K d.root i) (power K v.of_root k))) v.offset
      ∙ one_times K N (K.times (power K d.root i) (power K v.of_root k))

  weight-same : (k : ℕ) → weight K d v (element K d k) k ≡ K.one
  weight-same k =
      ap (λ t. K.times v.of_size (sum_below (itself K) d.size (power K t))) (quotient k k)
      ∙ ap (K.times v.of_size) (quotients_one K N d.root v.of_root d.size o v.root k)
      ∙ N.times_comm v.of_size (natural K d.size)
      ∙ v.size

  weight-other : (i k : ℕ) → i < d.size → k < d.size → i ≢ k → weight K d v (element K d i) k ≡ K.zero
  weight-other i k a b ne =
      ap (λ t. K.times v.of_size (sum_below (itself K) d.size (power K t))) (quotient i k)
      ∙ ap (K.times v.of_size) (quotients_zero K N d.root v.of_root d.size o v.root i k a b ne)
      ∙ times_zero K N v.of_size

  -- the values at the elements are sums at the root
  value-element : (a : ℕ → F) (i : ℕ) → value_below K d.size a (element K d i) ≡ dft_at K (itself K) d.size d.root (λ j. K.times (power K d.offset j) (a j)) i
  value-element a i =
      sum_below-same (itself K) d.size (λ j. K.times (power K (element K d i) j) (a j)) (λ j. K.times (power K (power K d.root i) j) (K.times (power K d.offset j) (a j)))
      (λ j l.
      ap (λ t. K.times t (a j)) (power-times K N d.offset (power K d.root i) j)
      ∙ ring3 K N (λ h w a. ((h ⊗ w) ⊗ a, w ⊗ (h ⊗ a))) refl _ _ _)

  weights_give : (tau : F) (a : ℕ → F) → sum_below (itself K) d.size (λ i. K.times (weight K d v tau i) (value_below K d.size a (element K d i))) ≡ value_below K d.size a tau
  weights_give tau a =
      let n = d.size in
      let c = v.of_size in
      let f : ℕ → F = λ j. K.times (power K d.offset j) (a j) in
      let s : ℕ → F = dft_at K (itself K) n d.root f in
      let t : ℕ → ℕ → F = λ i k. K.times (K.times c (K.times (power K tau k) (power K v.of_offset k))) (K.times (power K (power K v.of_root k) i) (s i)) in
      sum_below-same (itself K) n (λ i. K.times (weight K d v tau i) (value_below K n a (element K d i))) (λ i. sum_below (itself K) n (t i))
      (λ i _.
      ap (K.times (weight K d v tau i)) (value-element a i)
      ∙ ring3 K N (λ c x s. ((c ⊗ x) ⊗ s, (c ⊗ s) ⊗ x)) refl c _ (s i)
      ∙ sym (sum_below-scale (itself_is_module K N) n (K.times c (s i)) (power K (K.times tau (over K d v i))))
      ∙ sum_below-same (itself K) n (λ k. K.times (K.times c (s i)) (power K (K.times tau (over K d v i)) k)) (t i)
      (λ k _.
      ap (K.times (K.times c (s i)))
      (power-times K N tau (over K d v i) k
      ∙ ap (K.times (power K tau k)) (power-times K N v.of_offset (power K v.of_root i) k ∙ ap (K.times (power K v.of_offset k)) (power_comm K N v.of_root i k)))
      ∙ ring5 K N (λ c s t p u. ((c ⊗ s) ⊗ (t ⊗ (p ⊗ u)), (c ⊗ (t ⊗ p)) ⊗ (u ⊗ s))) refl c (s i) _ _ _))
      ∙ sum_below-swap (itself_is_module K N) n n t
      ∙ sum_below-same (itself K) n (λ k. sum_below (itself K) n (λ i. t i k)) (λ k. K.times (power K tau k) (a k))
      (λ k b.
      sum_below-scale (itself_is_module K N) n (K.times c (K.times (power K tau k) (power K v.of_offset k))) (λ i. K.times (power K (power K v.of_root k) i) (s i))
      ∙ ap (K.times (K.times c (K.times (power K tau k) (power K v.of_offset k)))) (returned N (itself_is_module K N) d.root v.of_root n o v.root f k b)
      ∙ ring6 K N (λ c t p m h a. ((c ⊗ (t ⊗ p)) ⊗ (m ⊗ (h ⊗ a)), (m ⊗ c) ⊗ ((h ⊗ p) ⊗ (t ⊗ a)))) refl c (power K tau k) (power K v.of_offset k) (natural K n) (power K d.offset k) (a k)
      ∙ ap₂ (λ x y. K.times x (K.times y (K.times (power K tau k) (a k)))) v.size (powers_inverse K N d.offset v.of_offset k v.offset)
      ∙ one_times K N _
      ∙ one_times K N _)

  pub weights_are : (tau : F) (l : List F) → length l ≡ d.size → ((i : ℕ) → i < d.size → of_list K l i ≡ weight K d v tau i) → AreWeights K d tau l
  weights_are tau l e h = record {
    count = e;
    give = λ a b.
        sum_below-same (itself K) d.size (λ i. K.times (of_list K l i) (value_below K d.size a (element K d i))) (λ i. K.times (weight K d v tau i) (value_below K d.size a (element K d i)))
        (λ i b. ap (λ t. K.times t (value_below K d.size a (element K d i))) (h i b))
        ∙ weights_give tau a;
  }

  -- the polynomial that is one at element k, and zero at the others
  abbrev basis : ℕ → ℕ → F
  basis k = cut K d.size (λ j. K.times v.of_size (power K (over K d v k) j))

  basis-value : (k : ℕ) (x : F) → value_below K d.size (basis k) x ≡ weight K d v x k
  basis-value k x =
      sum_below-same (itself K) d.size (λ j. K.times (power K x j) (basis k j)) (λ j. K.times v.of_size (power K (K.times x (over K d v k)) j))
      (λ j b.
      ap (K.times (power K x j)) (cut-inside K d.size (λ i. K.times v.of_size (power K (over K d v k) i)) j b)
      ∙ ring3 K N (λ x c e. (x ⊗ (c ⊗ e), c ⊗ (x ⊗ e))) refl _ _ _
      ∙ ap (K.times v.of_size) (sym (power-times K N x (over K d v k) j)))
      ∙ sum_below-scale (itself_is_module K N) d.size v.of_size (power K (K.times x (over K d v k)))

  -- weights have no other items
  weight_is : (tau : F) (l : List F) → AreWeights K d tau l → (k : ℕ) → k < d.size → of_list K l k ≡ weight K d v tau k
  weight_is tau l W k b =
      sym
      (sym (basis-value k tau)
      ∙ sym (W.give (basis k) (cut-outside K d.size (λ j. K.times v.of_size (power K (over K d v k) j))))
      ∙ sum_below-single (itself_is_module K N) d.size k (λ i. K.times (of_list K l i) (value_below K d.size (basis k) (element K d i))) b
      (λ i c ne. ap (K.times (of_list K l i)) (basis-value k (element K d i) ∙ weight-other i k c b ne) ∙ times_zero K N (of_list K l i))
      ∙ ap (K.times (of_list K l k)) (basis-value k (element K d k) ∙ weight-same k)
      ∙ N.times_one (of_list K l k))

  pub one_list_of_weights : (tau : F) (l m : List F) → AreWeights K d tau l → AreWeights K d tau m → l ≡ m
  one_list_of_weights tau l m A B =
      ext_get_or K.zero l m (A.count ∙ sym B.count)
      (λ i b. let c : i < d.size = rw A.count at b in weight_is tau l A i c ∙ sym (weight_is tau m B i c))

  -- at element k: one there, and zero elsewhere
  pub weights_at_element : (k : ℕ) (tau : F) (l : List F) → k < d.size → tau ≡ element K d k → length l ≡ d.size → of_list K l k ≡ K.one → ((i : ℕ) → i < d.size → i ≢ k → of_list K l i ≡ K.zero) → AreWeights K d tau l
  weights_at_element k tau l b e count here there =
      weights_are tau l count
      (λ i c. ⊎_elim
      (λ (f : i ≡ k). subst (λ t. of_list K l t ≡ weight K d v tau t) (sym f) (here ∙ sym (ap (λ t. weight K d v t k) e ∙ weight-same k)))
      (λ (ne : i ≢ k). there i c ne ∙ sym (ap (λ t. weight K d v t i) e ∙ weight-other k i b c (λ f. ne (sym f))))
      (cases_eq i k))

  -- n * offset ^ n * (tau - element i)
  abbrev divisor : F → ℕ → F
  divisor tau i = K.times (K.times (natural K d.size) (power K d.offset d.size)) (minus K tau (element K d i))

  divisor_not_zero : (tau : F) (i : ℕ) → tau ≢ element K d i → divisor tau i ≢ K.zero
  divisor_not_zero tau i ne =
      times_not_zero K N _ _
      (times_not_zero K N _ _ (factor_not_zero K N _ _ v.size) (power_not_zero K N d.offset d.size (factor_not_zero K N _ _ v.offset)))
      (minus_not_zero K N tau (element K d i) ne)

  -- elsewhere: (tau ^ n - offset ^ n) * element i / (n * offset ^ n * (tau - element i))
  weight-formula : (tau : F) (i : ℕ) → K.times (weight K d v tau i) (K.times (K.times (natural K d.size) (power K d.offset d.size)) (minus K tau (element K d i))) ≡ K.times (minus K (power K tau d.size) (power K d.offset d.size)) (element K d i)
  weight-formula tau i =
      let n = d.size in
      let h = power K d.offset n in
      let e = element K d i in
      let y = K.times tau (over K d v i) in
      let s = sum_below (itself K) n (power K y) in
      let unit_quotient : K.times e (over K d v i) ≡ K.one = quotient i i ∙ powers_inverse K N d.root v.of_root i v.root in
      let times_back : tau ≡ K.times y e =
      ring3_by K N (λ t e o. (t, (t ⊗ o) ⊗ e, t ⊗ unit, t ⊗ (e ⊗ o))) refl tau e (over K d v i) (ap (K.times tau) (sym unit_quotient)) in
      let power_back : K.times (power K y n) h ≡ power K tau n =
      ap (K.times (power K y n)) (sym (element-power K N d o i)) ∙ sym (power-times K N y e n) ∙ ap (λ t. power K t n) (sym times_back) in
      ap (λ t. K.times (weight K d v tau i) (K.times (K.times (natural K n) h) (minus K t e))) times_back
      ∙ ring6 K N (λ c s m h y e. ((c ⊗ s) ⊗ ((m ⊗ h) ⊗ (y ⊗ e ⊖ e)), (m ⊗ c) ⊗ (((y ⊗ s ⊕ unit) ⊖ (s ⊕ unit)) ⊗ (h ⊗ e)))) refl v.of_size s (natural K n) h y e
      ∙ ap₂ (λ a b. K.times a (K.times (minus K b (K.plus s K.one)) (K.times h e))) v.size (geometric K N y n)
      ∙ ring4 K N (λ s q h e. (unit ⊗ (((s ⊕ q) ⊖ (s ⊕ unit)) ⊗ (h ⊗ e)), (q ⊗ h ⊖ h) ⊗ e)) refl s (power K y n) h e
      ∙ ap (λ t. K.times (minus K t h) e) power_back

  -- where tau is no element x ^ n - offset ^ n isn't zero
  pub outside : (tau : F) → ((i : ℕ) → i < d.size → tau ≢ element K d i) → minus K (power K tau d.size) (power K d.offset d.size) ≢ K.zero
  outside tau ne e =
      N.one_not_zero
      (sym (N.times_one K.one)
      ∙ sym (value_below-monomial K N d.size 0 K.one tau (positive K N d.size (factor_not_zero K N _ _ v.size)))
      ∙ sym (weights_give tau (monomial K 0 K.one))
      ∙ sum_below-zero (itself_is_module K N) d.size (λ i. K.times (weight K d v tau i) (value_below K d.size (monomial K 0 K.one) (element K d i)))
      (λ i b.
      ap (λ t. K.times t (value_below K d.size (monomial K 0 K.one) (element K d i)))
      (zero_factor K N (divisor tau i) (weight K d v tau i) (divisor_not_zero tau i (ne i b))
      (N.times_comm (divisor tau i) (weight K d v tau i) ∙ weight-formula tau i ∙ ap (λ t. K.times t (element K d i)) e ∙ zero_scale N (itself_is_module K N) (element K d i)))
      ∙ zero_scale N (itself_is_module K N) (value_below K d.size (monomial K 0 K.one) (element K d i))))

  pub weights_elsewhere : (tau : F) (l : List F) → ((i : ℕ) → i < d.size → tau ≢ element K d i) → length l ≡ d.size → ((i : ℕ) → i < d.size → K.times (of_list K l i) (K.times (K.times (natural K d.size) (power K d.offset d.size)) (minus K tau (element K d i))) ≡ K.times (minus K (power K tau d.size) (power K d.offset d.size)) (element K d i)) → AreWeights K d tau l
  weights_elsewhere tau l ne count h =
      weights_are tau l count
      (λ i b. cancel_factor K N (divisor tau i) (of_list K l i) (weight K d v tau i) (divisor_not_zero tau i (ne i b)) (h i b ∙ sym (weight-formula tau i)))

-- with the values of a polynomial below the size they give its value
pub weighted_values : {F : Type 0} (K : FieldOn F) (N : IsField K) (d : Domain F) (tau : F) (l : List F) → AreWeights K d tau l → (a : ℕ → F) (v : List F) → IsBelow K d.size a → AreValues K d a v → IsValue K a tau (sum_below (itself K) d.size (λ i. K.times (of_list K l i) (of_list K v i)))
weighted_values K N d tau l W a v b A = (
  d.size,
  b,
  sum_below-same (itself K) d.size (λ i. K.times (of_list K l i) (of_list K v i)) (λ i. K.times (of_list K l i) (value_below K d.size a (element K d i)))
      (λ i h. ap (K.times (of_list K l i)) (value_is K N d.size a (element K d i) (of_list K v i) b (values-item K N d a v A i h)))
      ∙ W.give a b,
)
