-- What the steps of Euclid's algorithm keep, and what the last one gives.
use Rattle.std.proofs.Common.{◌≡◌, ◌≢◌, ℕ, zero, suc, ◌+◌, ◌*◌, ◌%◌, ◌^◌, ◌<◌, ◌≤◌, sym, ap, subst, ◌∙◌, refl, arith, inl, inr, mul_assoc, mul_comm, pow-suc, pow-add, add-mul, mul-one, one-mul, zero-mul, mul-pos, mod-eq_of_lt}
use Rattle.std.specs.Prelude.{Bool, true, false, not}
use Rattle.std.proofs.Math.Nat.{pow-zero, mod_self, add-mod, add-mul-mod_self_right, mul-le-mul_left, mul-le-mul_right}
use Rattle.std.proofs.lemmas.Nat.{pow_below, pow_pos, mul-le}
use Rattle.std.proofs.lemmas.Bool.{cases_lt}
use Rattle.ark_math.specs.Field.{FieldOn, IsField, power, natural}
use Rattle.ark_math.proofs.Algebra.Powers.{natural-add, natural-mul, zero_factor, powers_inverse}
use Rattle.ark_math.proofs.Algebra.Solve.{◌⊕◌, ◌⊖◌, ◌⊗◌, unit, nought, negative}
use Rattle.ark_math.proofs.Algebra.Ring.{ring1, ring1_by, ring2, ring2_by, ring3, ring4}
use Rattle.ark_base.specs.Residues.{Numbering}
use Rattle.ark_base.specs.ResiduesLaws.{number_of_residue, number_of_zero, number_of_one, natural_number, natural_residue, residues_laws}
use Rattle.ark_prime256.specs.Words.{integer}
use Rattle.ark_prime256.specs.Euclid.{IsHalved, IsLessened, IsTurned, IsAlmostInverse, signed}
use Rattle.ark_prime256.specs.Element.{Shown, number, numbering, field_of}
use Rattle.ark_prime256.specs.declared.euclid.Step.{Step}
use Rattle.ark_prime256.specs.declared.prime_field.PrimeField256.{PrimeField256}
use Rattle.ark_prime256.specs.declared.prime_field.PrimeModulus256.{Ghosts}

-- ---- numbers: u and v on the left and the right, b and c what belongs to them

-- the sum of u * c and v * b stays as it is
whole_halved : (u v b c u' d p : ℕ) → u' * d ≡ u → u * c + v * b ≡ p → u' * (c * d) + v * b ≡ p
whole_halved u v b c u' d p e whole =
    let f : u' * d * c ≡ u * c = ap (λ y. y * c) e in
    omega (arith, f, whole)

whole_lessened : (u v b c u' b' p : ℕ) → u' + v ≡ u → b' ≡ b + c → u * c + v * b ≡ p → u' * c + v * b' ≡ p
whole_lessened u v b c u' b' p e f whole =
    let g : (u' + v) * c ≡ u * c = ap (λ y. y * c) e in
    let h : v * b' ≡ v * (b + c) = ap (λ y. v * y) f in
    omega (arith, g, h, whole)

whole_turned : (u v b c u' b' p : ℕ) → u' + u ≡ v → b' ≡ b + c → u * c + v * b ≡ p → u' * b + u * b' ≡ p
whole_turned u v b c u' b' p e f whole =
    let g : (u' + u) * b ≡ v * b = ap (λ y. y * b) e in
    let h : u * b' ≡ u * (b + c) = ap (λ y. u * y) f in
    omega (arith, g, h, whole)

-- so b and c stay small
right_below : (u v b c p : ℕ) → 0 < u → 0 < v → 0 < b → u * c + v * b ≡ p → c < p
right_below zero v b c p lu lv lb e = absurd (omega (arith, lu))
right_below (suc u) zero b c p lu lv lb e = absurd (omega (arith, lv))
right_below (suc u) (suc v) b c p lu lv lb e = omega (arith, e, lb)

left_most : (u v b c p : ℕ) → 0 < v → u * c + v * b ≡ p → b ≤ p
left_most u zero b c p lv e = absurd (omega (arith, lv))
left_most u (suc v) b c p lv e = omega (arith, e)

still_some : (u u' d : ℕ) → 0 < u → u' * d ≡ u → 0 < u'
still_some u zero d some e = absurd (omega (arith, some, e))
still_some u (suc u') d some e = omega arith

-- and the halvings few
few_halvings : (k n m : ℕ) → 0 < m → 2 ^ k * m ≤ 2 ^ n → k ≤ n
few_halvings k n zero some h = absurd (omega (arith, some))
few_halvings k n (suc m) some h =
    elim (cases_lt n k) [
      | inl many ↦ let l = pow_below n k many in absurd (omega (arith, l, h))
      | inr few ↦ few
    ]

product_halved : (u v u' k z : ℕ) → u' * 2 ^ z ≡ u → 2 ^ (k + z) * (u' * v) ≡ 2 ^ k * (u * v)
product_halved u v u' k z e =
    ap (λ y. y * (u' * v)) (pow-add 2 k z)
    ∙ mul_assoc (2 ^ k) (2 ^ z) (u' * v)
    ∙ ap (λ y. 2 ^ k * y) (sym (mul_assoc (2 ^ z) u' v) ∙ ap (λ y. y * v) (mul_comm (2 ^ z) u' ∙ e))

product_less : (u v w k n : ℕ) → w ≤ u → 2 ^ k * (u * v) ≤ n → 2 ^ k * (w * v) ≤ n
product_less u v w k n le h =
    let g : w * v ≤ u * v = mul-le-mul_right v le in
    let f : 2 ^ k * (w * v) ≤ 2 ^ k * (u * v) = mul-le-mul_left (2 ^ k) g in
    omega (arith, f, h)

-- at the end the right number is one: it divides the prime, and what belongs to zero is a multiple of the prime
last_is_one : (v b c p : ℕ) → 0 < p → 0 < b → b % p ≡ 0 → 0 * c + v * b ≡ p → v ≡ 1
last_is_one zero b c p lp lb e whole = absurd (omega (arith, whole, lp))
last_is_one (suc zero) b c p lp lb e whole = refl
last_is_one (suc (suc v)) b c p lp lb e whole =
    let less : b < p = omega (arith, whole, lb) in
    let none : b ≡ 0 = sym (mod-eq_of_lt less) ∙ e in
    absurd (omega (arith, none, lb))

-- ---- the two numbers' sum falls

less_by_even : (u u' m : ℕ) → 0 < u → 0 < m → u' * (m * 2) ≡ u → u' < u
less_by_even u zero m some sm e = absurd (omega (arith, some, e))
less_by_even u (suc u') zero some sm e = absurd (omega (arith, sm))
less_by_even u (suc u') (suc m) some sm e = omega (arith, e)

less_by_halves : (u u' z : ℕ) → 0 < u → 0 < z → u' * 2 ^ z ≡ u → u' < u
less_by_halves u u' zero some sz e = absurd (omega (arith, sz))
less_by_halves u u' (suc z) some sz e = less_by_even u u' (2 ^ z) some (pow_pos z) (ap (λ m. u' * m) (sym (pow-suc 2 z)) ∙ e)

pub halved_falls : (s r : Step) → 0 < integer s.left → IsHalved s r → integer r.left + integer r.right < integer s.left + integer s.right
halved_falls s r some e =
    let less = less_by_halves (integer s.left) (integer r.left) e.zeros some e.some e.left in
    let same : integer r.right ≡ integer s.right = ap integer e.right in
    omega (arith, less, same)

pub lessened_falls : (s r : Step) → 0 < integer s.right → IsLessened s r → integer r.left + integer r.right < integer s.left + integer s.right
lessened_falls s r some e =
    let same : integer r.right ≡ integer s.right = ap integer e.right in
    omega (arith, e.left, same, some)

pub turned_falls : (s r : Step) → 0 < integer s.left → IsTurned s r → integer r.left + integer r.right < integer s.left + integer s.right
turned_falls s r some e =
    let same : integer r.right ≡ integer s.left = ap integer e.right in
    omega (arith, e.left, same, some)

-- ---- what all steps keep

module _ {F : Type 0} (K : FieldOn F) where
  -- with y for x or minus x
  pub record AreKept (y : F) (p u v b c k : ℕ) : Type 0 where
    pub left : K.times y (natural K b) ≡ natural K (u * 2 ^ k)
    pub right : K.plus (K.times y (natural K c)) (natural K (v * 2 ^ k)) ≡ K.zero
    pub whole : u * c + v * b ≡ p
    pub some : 0 < v
    pub some_of : 0 < b
    pub below : c < p
    pub bounded : 2 ^ k * (u * v) ≤ 2 ^ 510
    pub few : k ≤ 510

  abbrev pub IsKept : F → ℕ → Step → Type 0
  IsKept x p s = AreKept (signed K s.turned x) p (integer s.left) (integer s.right) (integer s.of_left) (integer s.of_right) s.halvings

-- ---- values of a field

module _ {F : Type 0} (K : FieldOn F) (L : IsField K) where
  pub signed_not : (t : Bool) (x : F) → signed K (not t) x ≡ K.negated (signed K t x)
  signed_not false x = refl
  signed_not true x = ring1 K L (λ a. (a, negative (negative a))) refl x

  signed_some : (t : Bool) (x : F) → x ≢ K.zero → signed K t x ≢ K.zero
  signed_some false x ne e = ne e
  signed_some true x ne e = ne (ring1_by K L (λ a. (a, nought, nought, negative a)) refl x (sym e))

  -- what b and c are, with y for x or minus x, and u and v for the numbers times the power of two
  right_halved : (y c v d : F) → K.plus (K.times y c) v ≡ K.zero → K.plus (K.times y (K.times c d)) (K.times v d) ≡ K.zero
  right_halved y c v d e =
      ring4 K L (λ y c v d. (y ⊗ (c ⊗ d) ⊕ v ⊗ d, (y ⊗ c ⊕ v) ⊗ d)) refl y c v d
      ∙ ap (λ z. K.times z d) e
      ∙ ring1 K L (λ d. (nought ⊗ d, nought)) refl d

  right_is_minus : (y c v : F) → K.plus (K.times y c) v ≡ K.zero → K.times y c ≡ K.negated v
  right_is_minus y c v e = ring2_by K L (λ w v. (w, negative v, w ⊕ v, nought)) refl (K.times y c) v e

  left_lessened : (y b c u v d : F) → K.times y b ≡ u → K.plus (K.times y c) v ≡ K.zero → K.plus d v ≡ u → K.times y (K.plus b c) ≡ d
  left_lessened y b c u v d e f h =
      L.times_plus y b c
      ∙ ap (λ z. K.plus z (K.times y c)) (e ∙ sym h)
      ∙ ap (λ z. K.plus (K.plus d v) z) (right_is_minus y c v f)
      ∙ ring2 K L (λ d v. ((d ⊕ v) ⊖ v, d)) refl d v

  left_turned : (y b c u v d : F) → K.times y b ≡ u → K.plus (K.times y c) v ≡ K.zero → K.plus d u ≡ v → K.times (K.negated y) (K.plus b c) ≡ d
  left_turned y b c u v d e f h =
      ring3 K L (λ y b c. (negative y ⊗ (b ⊕ c), negative (y ⊗ b) ⊖ (y ⊗ c))) refl y b c
      ∙ ap (λ z. K.plus (K.negated z) (K.negated (K.times y c))) e
      ∙ ap (λ z. K.plus (K.negated u) (K.negated z)) (right_is_minus y c v f ∙ ap K.negated (sym h))
      ∙ ring2 K L (λ u d. (negative u ⊖ negative (d ⊕ u), d)) refl u d

  right_turned : (y b u : F) → K.times y b ≡ u → K.plus (K.times (K.negated y) b) u ≡ K.zero
  right_turned y b u e =
      ap (λ z. K.plus (K.times (K.negated y) b) z) (sym e) ∙ ring2 K L (λ y b. (negative y ⊗ b ⊕ y ⊗ b, nought)) refl y b

  natural_sum : (m n s d : ℕ) → m + n ≡ s → K.plus (natural K (m * d)) (natural K (n * d)) ≡ natural K (s * d)
  natural_sum m n s d e = sym (natural-add K L (m * d) (n * d)) ∙ ap (natural K) (sym (add-mul m n d) ∙ ap (λ z. z * d) e)

  kept_same : (y y' : F) (p u v b c k u' v' b' c' k' : ℕ) → y' ≡ y → u' ≡ u → v' ≡ v → b' ≡ b → c' ≡ c → k' ≡ k → AreKept K y p u v b c k → AreKept K y' p u' v' b' c' k'
  kept_same y y' p u v b c k u' v' b' c' k' ey eu ev eb ec ek h =
      subst (λ z. AreKept K z p u' v' b' c' k') (sym ey)
      (subst (λ n. AreKept K y p n v' b' c' k') (sym eu)
      (subst (λ n. AreKept K y p u n b' c' k') (sym ev)
      (subst (λ n. AreKept K y p u v n c' k') (sym eb)
      (subst (λ n. AreKept K y p u v b n k') (sym ec)
      (subst (λ n. AreKept K y p u v b c n) (sym ek) h)))))

  kept_at_first : (x : F) (p u : ℕ) → x ≡ natural K u → natural K p ≡ K.zero → u < p → p < 2 ^ 255 → AreKept K x p u p 1 0 0
  kept_at_first x p u is none below small =
      let alone : (n : ℕ) → n * 2 ^ 0 ≡ n = λ n. ap (λ m. n * m) (pow-zero 2) ∙ mul-one n in
      let most : u * p ≤ 2 ^ 255 * 2 ^ 255 = mul-le u p (2 ^ 255) (2 ^ 255) (omega (arith, below, small)) (omega (arith, small)) in
      let one : 2 ^ 0 ≡ 1 = pow-zero 2 in
      record {
        left = ring1 K L (λ x. (x ⊗ (nought ⊕ unit), x)) refl x ∙ is ∙ ap (natural K) (sym (alone u));
        right = ap (λ z. K.plus (K.times x K.zero) z) (ap (natural K) (alone p) ∙ none) ∙ ring1 K L (λ x. (x ⊗ nought ⊕ nought, nought)) refl x;
        whole = omega arith;
        some = omega (arith, below);
        some_of = omega arith;
        below = omega (arith, below);
        bounded = subst (λ m. m * (u * p) ≤ 2 ^ 510) (sym one) (omega (arith, most));
        few = omega arith;
      }

  kept_halved : (y : F) (p u v b c k u' z : ℕ) → 0 < u → u' * 2 ^ z ≡ u → AreKept K y p u v b c k → AreKept K y p u' v b (c * 2 ^ z) (k + z)
  kept_halved y p u v b c k u' z some e h =
      let d = 2 ^ z in
      let same : (n : ℕ) → n * 2 ^ (k + z) ≡ n * 2 ^ k * d = λ n. ap (λ m. n * m) (pow-add 2 k z) ∙ sym (mul_assoc n (2 ^ k) d) in
      let left_same : u' * 2 ^ (k + z) ≡ u * 2 ^ k = ap (λ m. u' * m) (pow-add 2 k z ∙ mul_comm (2 ^ k) d) ∙ sym (mul_assoc u' d (2 ^ k)) ∙ ap (λ m. m * 2 ^ k) e in
      let some' : 0 < u' = still_some u u' d some e in
      let whole' = whole_halved u v b c u' d p e h.whole in
      let bounded' : 2 ^ (k + z) * (u' * v) ≤ 2 ^ 510 = subst (λ m. m ≤ 2 ^ 510) (sym (product_halved u v u' k z e)) h.bounded in
      record {
        left = h.left ∙ ap (natural K) (sym left_same);
        right = ap (λ m. K.plus (K.times y m) (natural K (v * 2 ^ (k + z)))) (natural-mul K L c d)
            ∙ ap (λ m. K.plus (K.times y (K.times (natural K c) (natural K d))) m) (ap (natural K) (same v) ∙ natural-mul K L (v * 2 ^ k) d)
            ∙ right_halved y (natural K c) (natural K (v * 2 ^ k)) (natural K d) h.right;
        whole = whole';
        some = h.some;
        some_of = h.some_of;
        below = right_below u' v b (c * d) p some' h.some h.some_of whole';
        bounded = bounded';
        few = few_halvings (k + z) 510 (u' * v) (mul-pos some' h.some) bounded';
      }

  kept_lessened : (y : F) (p u v b c k u' b' : ℕ) → u' + v ≡ u → b' ≡ b + c → AreKept K y p u v b c k → AreKept K y p u' v b' c k
  kept_lessened y p u v b c k u' b' e f h =
      record {
        left = ap (λ m. K.times y m) (ap (natural K) f ∙ natural-add K L b c)
            ∙ left_lessened y (natural K b) (natural K c) _ _ _ h.left h.right (natural_sum u' v u (2 ^ k) e);
        right = h.right;
        whole = whole_lessened u v b c u' b' p e f h.whole;
        some = h.some;
        some_of = (let l = h.some_of in omega arith);
        below = h.below;
        bounded = product_less u v u' k (2 ^ 510) (omega (arith, e)) h.bounded;
        few = h.few;
      }

  kept_turned : (y : F) (p u v b c k u' b' : ℕ) → 0 < u → 0 < u' → u' + u ≡ v → b' ≡ b + c → AreKept K y p u v b c k → AreKept K (K.negated y) p u' u b' b k
  kept_turned y p u v b c k u' b' some some' e f h =
      let whole' = whole_turned u v b c u' b' p e f h.whole in
      let some_of' : 0 < b' = (let l = h.some_of in omega arith) in
      record {
        left = ap (λ m. K.times (K.negated y) m) (ap (natural K) f ∙ natural-add K L b c)
            ∙ left_turned y (natural K b) (natural K c) _ _ _ h.left h.right (natural_sum u' u v (2 ^ k) e);
        right = right_turned y (natural K b) (natural K (u * 2 ^ k)) h.left;
        whole = whole';
        some = some;
        some_of = some_of';
        below = right_below u' u b' b p some' some some_of' whole';
        bounded = product_less v u u' k (2 ^ 510) (omega (arith, e)) (subst (λ m. 2 ^ k * m ≤ 2 ^ 510) (mul_comm u v) h.bounded);
        few = h.few;
      }

  -- ---- a step

  pub first_is_kept : (x : F) (p : ℕ) (s : Step) → x ≡ natural K (integer s.left) → natural K p ≡ K.zero → integer s.left < p → p < 2 ^ 255 →
      integer s.right ≡ p → integer s.of_left ≡ 1 → integer s.of_right ≡ 0 → s.halvings ≡ 0 → s.turned ≡ false → IsKept K x p s
  first_is_kept x p s is none below small right of_left of_right halvings turned =
      kept_same x _ p (integer s.left) p 1 0 0 _ _ _ _ _ (ap (λ t. signed K t x) turned) refl right of_left of_right halvings (kept_at_first x p (integer s.left) is none below small)

  pub halved_is_kept : (x : F) (p : ℕ) (s r : Step) → 0 < integer s.left → IsHalved s r → IsKept K x p s → IsKept K x p r
  halved_is_kept x p s r some e h =
      kept_same _ _ p (integer r.left) (integer s.right) (integer s.of_left) (integer s.of_right * 2 ^ e.zeros) (s.halvings + e.zeros) _ _ _ _ _
      (ap (λ t. signed K t x) e.turned) refl (ap integer e.right) (ap integer e.of_left) e.of_right e.halvings
      (kept_halved (signed K s.turned x) p (integer s.left) (integer s.right) (integer s.of_left) (integer s.of_right) s.halvings (integer r.left) e.zeros some e.left h)

  pub lessened_is_kept : (x : F) (p : ℕ) (s r : Step) → IsLessened s r → IsKept K x p s → IsKept K x p r
  lessened_is_kept x p s r e h =
      kept_same _ _ p (integer r.left) (integer s.right) (integer r.of_left) (integer s.of_right) s.halvings _ _ _ _ _
      (ap (λ t. signed K t x) e.turned) refl (ap integer e.right) refl (ap integer e.of_right) e.halvings
      (kept_lessened (signed K s.turned x) p (integer s.left) (integer s.right) (integer s.of_left) (integer s.of_right) s.halvings (integer r.left) (integer r.of_left) e.left e.of_left h)

  pub turned_is_kept : (x : F) (p : ℕ) (s r : Step) → 0 < integer s.left → integer s.left < integer s.right → IsTurned s r → IsKept K x p s → IsKept K x p r
  turned_is_kept x p s r some less e h =
      kept_same _ _ p (integer r.left) (integer s.left) (integer r.of_left) (integer s.of_left) s.halvings _ _ _ _ _
      (ap (λ t. signed K t x) e.turned ∙ signed_not s.turned x) refl (ap integer e.right) refl (ap integer e.of_right) e.halvings
      (kept_turned (signed K s.turned x) p (integer s.left) (integer s.right) (integer s.of_left) (integer s.of_right) s.halvings (integer r.left) (integer r.of_left) some (omega (arith, e.left, less)) e.left e.of_left h)

  -- what a step asks
  pub right_fits : (x : F) (p : ℕ) (s : Step) → p < 2 ^ 255 → IsKept K x p s → integer s.left * integer s.of_right < 2 ^ 256
  right_fits x p s small h = let e = h.whole in omega (arith, e, small)

  pub left_fits : (x : F) (p : ℕ) (s : Step) → p < 2 ^ 255 → IsKept K x p s → integer s.of_left + integer s.of_right < 2 ^ 256
  left_fits x p s small h =
      let most = left_most (integer s.left) (integer s.right) (integer s.of_left) (integer s.of_right) p h.some h.whole in
      let below = h.below in
      omega (arith, most, below, small)

  -- the last step
  pub last_is_inverse : (x : F) (p : ℕ) (s : Step) → x ≢ K.zero → ((n : ℕ) → natural K n ≡ K.zero → n % p ≡ 0) → integer s.left ≡ 0 → IsKept K x p s → IsAlmostInverse K x s
  last_is_inverse x p s ne multiples none h =
      let b = integer s.of_left in
      let c = integer s.of_right in
      let v = integer s.right in
      let nothing : integer s.left * 2 ^ s.halvings ≡ 0 = ap (λ u. u * 2 ^ s.halvings) none ∙ zero-mul _ in
      let zero_times : K.times (signed K s.turned x) (natural K b) ≡ K.zero = h.left ∙ ap (natural K) nothing in
      let multiple = multiples b (zero_factor K L _ _ (signed_some s.turned x ne) zero_times) in
      let below = h.below in
      let one : v ≡ 1 = last_is_one v b c p (omega (arith, below)) h.some_of multiple (ap (λ u. u * c + v * b) (sym none) ∙ h.whole) in
      let alone : v * 2 ^ s.halvings ≡ 2 ^ s.halvings = ap (λ m. m * 2 ^ s.halvings) one ∙ one-mul _ in
      record { product = ap (λ m. K.plus (K.times (signed K s.turned x) (natural K c)) (natural K m)) (sym alone) ∙ h.right }

  -- ---- the halvings made up for

  power_of_two : (k : ℕ) → natural K (2 ^ k) ≡ power K (natural K 2) k
  power_of_two zero = ap (natural K) (pow-zero 2) ∙ ring1 K L (λ x. (nought ⊕ unit, unit)) refl K.one
  power_of_two (suc k) =
      ap (natural K) (pow-suc 2 k) ∙ natural-mul K L (2 ^ k) 2 ∙ ap (λ z. K.times z (natural K 2)) (power_of_two k) ∙ L.times_comm _ _

  -- h is one half, and f what is almost the inverse
  pub negative_inverse : (x f h : F) (s : Step) → f ≡ natural K (integer s.of_right) → K.plus h h ≡ K.one → IsAlmostInverse K x s →
      K.times (signed K s.turned x) (K.times f (power K h s.halvings)) ≡ K.negated K.one
  negative_inverse x f h s is half e =
      let y = signed K s.turned x in
      let c = natural K (integer s.of_right) in
      let k = s.halvings in
      let two : K.times (natural K 2) h ≡ K.one = ring1 K L (λ h. (((nought ⊕ unit) ⊕ unit) ⊗ h, h ⊕ h)) refl h ∙ half in
      let undone : K.times (natural K (2 ^ k)) (power K h k) ≡ K.one = ap (λ z. K.times z (power K h k)) (power_of_two k) ∙ powers_inverse K L (natural K 2) h k two in
      let minus_power : K.times y c ≡ K.negated (natural K (2 ^ k)) = right_is_minus y c _ e.product in
      ap (λ z. K.times y (K.times z (power K h k))) is
      ∙ sym (L.times_assoc y c (power K h k))
      ∙ ap (λ z. K.times z (power K h k)) minus_power
      ∙ ring2 K L (λ a b. (negative a ⊗ b, negative (a ⊗ b))) refl (natural K (2 ^ k)) (power K h k)
      ∙ ap K.negated undone

  pub turned_inverse : (x r : F) → K.times (K.negated x) r ≡ K.negated K.one → K.times x r ≡ K.one
  turned_inverse x r e = ring2_by K L (λ x r. (x ⊗ r, unit, negative unit, negative x ⊗ r)) refl x r (sym e)

  pub negated_inverse : (x r : F) → K.times x r ≡ K.negated K.one → K.times x (K.negated r) ≡ K.one
  negated_inverse x r e = ring2_by K L (λ x r. (x ⊗ negative r, unit, negative unit, x ⊗ r)) refl x r (sym e)

-- ---- elements

module _ {M : Type 0} {g : Ghosts M} (S : Shown g) where
  abbrev N : Numbering (PrimeField256 M g) g.MODULUS
  N = numbering {M = M} {g = g} S

  pub modulus_is_zero : natural (field_of {M = M} {g = g} S) g.MODULUS ≡ (field_of {M = M} {g = g} S).zero
  modulus_is_zero =
      (N).same _ _ (natural_number N S.numbers.prime g.MODULUS ∙ mod_self g.MODULUS ∙ sym (number_of_zero N S.numbers.prime))

  pub multiple_of_modulus : (n : ℕ) → natural (field_of {M = M} {g = g} S) n ≡ (field_of {M = M} {g = g} S).zero → n % g.MODULUS ≡ 0
  multiple_of_modulus n e = sym (natural_number N S.numbers.prime n) ∙ ap (number {M = M} {g = g}) e ∙ number_of_zero N S.numbers.prime

  pub half_is : (x : PrimeField256 M g) (q v m one over : ℕ) → number x ≡ q % g.MODULUS → q * 2 ≡ v → v + 2 ^ 256 * over ≡ m + one → m ≡ g.MODULUS → one ≡ 1 →
      (field_of {M = M} {g = g} S).plus x x ≡ (field_of {M = M} {g = g} S).one
  half_is x q v m one over e twice sum read alone =
      let p = g.MODULUS in
      let P = S.numbers.prime in
      let small = S.numbers.small in
      let more : q + q ≡ 1 + 1 * p = omega (arith, twice, sum, read, alone, small) in
      (N).same _ _ (number_of_residue N P (number x + number x)
      ∙ ap (λ n. (n + n) % p) e ∙ sym (add-mod q q p) ∙ ap (λ n. n % p) more ∙ add-mul-mod_self_right 1 1 p ∙ mod-eq_of_lt P.above_one
      ∙ sym (number_of_one N P))

-- the number after an odd one ends in an even word
pub even_word : (w high v over m one p : ℕ) → v ≡ w + 18446744073709551616 * high → v + 2 ^ 256 * over ≡ m + one → m ≡ p → one ≡ 1 → p % 2 ≡ 1 → w % 2 ≡ 0
even_word w high v over m one p split sum read alone odd = omega (arith, split, sum, read, alone, odd)

-- what the last step gives, with f for the element of what belongs to the right number, h for one half, and q for its power
module _ {M : Type 0} {g : Ghosts M} (S : Shown g) (x f h q w : PrimeField256 M g) (s : Step) where
  abbrev E : FieldOn (PrimeField256 M g)
  E = field_of {M = M} {g = g} S

  abbrev laws : IsField E
  laws = residues_laws (numbering {M = M} {g = g} S) S.numbers.prime

  negative_of_steps : number f ≡ integer s.of_right % g.MODULUS → E.plus h h ≡ E.one → q ≡ power E h s.halvings → w ≡ E.times f q →
      IsAlmostInverse E x s → E.times (signed E s.turned x) w ≡ E.negated E.one
  negative_of_steps is half power_is product_is almost =
      ap (E.times (signed E s.turned x)) (product_is ∙ ap (E.times f) power_is)
      ∙ negative_inverse E laws x f h s (natural_residue (numbering {M = M} {g = g} S) S.numbers.prime (integer s.of_right) f is) half almost

  pub inverse_where_turned : number f ≡ integer s.of_right % g.MODULUS → E.plus h h ≡ E.one → q ≡ power E h s.halvings → w ≡ E.times f q →
      IsAlmostInverse E x s → s.turned ≡ true → E.times x w ≡ E.one
  inverse_where_turned is half power_is product_is almost turned =
      turned_inverse E laws x w (ap (λ t. E.times (signed E t x) w) (sym turned) ∙ negative_of_steps is half power_is product_is almost)

  pub inverse_where_not : (r : PrimeField256 M g) → number f ≡ integer s.of_right % g.MODULUS → E.plus h h ≡ E.one → q ≡ power E h s.halvings → w ≡ E.times f q →
      IsAlmostInverse E x s → s.turned ≡ false → r ≡ E.negated w → E.times x r ≡ E.one
  inverse_where_not r is half power_is product_is almost turned negated_is =
      ap (E.times x) negated_is ∙ negated_inverse E laws x w (ap (λ t. E.times (signed E t x) w) (sym turned) ∙ negative_of_steps is half power_is product_is almost)
