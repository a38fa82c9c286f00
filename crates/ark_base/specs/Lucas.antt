-- Lucas' test: a number is prime, and g a generator of its units, where g to the number less one leaves one, and g to
-- each part of that by a prime does not.
use Rattle.std.proofs.Common.{◌≡◌, ◌≢◌, ℕ, zero, suc, ◌+◌, ◌-◌, ◌*◌, ◌/◌, ◌%◌, ◌^◌, ◌<◌, ◌≤◌, Bool, true, not, ◌==◌, List, [], ◌∷◌, sym, ap, subst, ◌∙◌, inl, inr, arith, mod-eq_of_lt, mod-lt, mul_assoc, mul_right_comm, one-mul, mul-one, zero-mul, mul-zero, lt_trans, lt_of_le_of_lt, div-le_self, suc-ne-zero, nat_le, if◌then◌else◌, le_of_lt}
use Rattle.std.specs.Prelude.{◌&&◌, nat_lt}
use Rattle.std.proofs.Math.Nat.{mod-add-div, mod-add-div', mul-mod_right, pow-zero, eq_of_mul-eq-mul_right, zero-mod, mod-mod_of_dvd, div-eq_of_eq-mul_left, mul-le-mul_left, mul-le-mul_right, mul-suc}
use Rattle.std.proofs.lemmas.Nat.{pow-add, mul-mod_first}
use Rattle.std.proofs.lemmas.Nat.Gcd.{dvd_of_mod-eq-zero}
use Rattle.std.proofs.lemmas.Bool.{and_parts, not-true, eqb-true, eqb-false, ltb-true, cases_lt, cases_eq, cond-true, cond-false, eq-eqb, ne_eqb}
use Rattle.ark_math.specs.Prime.{IsPrime, power_mod}
use Rattle.ark_math.proofs.Numbers.Prime.{is_prime_by, prime_from_test, divides_one}
use Rattle.ark_base.specs.PowerMod.{power_mod-is}
use Rattle.ark_math.proofs.Numbers.Search.{search_below}
use Rattle.ark_base.specs.Modulus.{IsGenerator, power_below}

-- ---- the test

-- the whole part of the root of an n below 4 ^ k
abbrev pub next_root : ℕ → ℕ → ℕ
next_root r n = if nat_le ((r + 1) * (r + 1)) n then r + 1 else r

abbrev pub root_below : ℕ → ℕ → ℕ
root_below zero n = 0
root_below (suc k) n = next_root (2 * root_below k (n / 4)) n

-- trial division up to the root
abbrev pub is_small_prime : ℕ → Bool
is_small_prime q = is_prime_by (root_below 32 q - 1) q

-- n divided by q as often as it can be, at most k times
abbrev pub without_factor : ℕ → ℕ → ℕ → ℕ
without_factor zero q n = n
without_factor (suc k) q n = if n % q == 0 then without_factor k q (n / q) else n

-- n divided by each number of a list as often as it can be, at most b times each
abbrev pub without_factors : ℕ → List ℕ → ℕ → ℕ
without_factors b [] n = n
without_factors b (q ∷ qs) n = without_factors b qs (without_factor b q n)

-- at each one's part of n - 1 the power isn't one
abbrev pub are_parts : ℕ → ℕ → ℕ → List ℕ → Bool
are_parts b n g [] = true
are_parts b n g (q ∷ qs) = not (power_mod n b g ((n - 1) / q) == 1) && are_parts b n g qs

-- each is a prime
abbrev pub Primes : List ℕ → Type 0
Primes [] = Unit {0}
Primes (q ∷ qs) = IsPrime q × Primes qs

-- the test of n, of at most b bits, and g, with the primes of n - 1
abbrev pub passes : ℕ → ℕ → ℕ → List ℕ → Bool
passes b n g qs =
    nat_lt 1 n
    && (nat_lt n (2 ^ b)
    && (nat_lt 0 g
    && (nat_lt g n
    && (power_mod n b g (n - 1) == 1
    && (without_factors b qs (n - 1) == 1
    && are_parts b n g qs)))))

-- ---- no n + 1 different numbers are below n

-- x, and t in place of n
in_place : ℕ → ℕ → ℕ → ℕ
in_place n t x = if x == n then t else x

in_place-same : (n t x : ℕ) → x ≡ n → in_place n t x ≡ t
unfolding in_place
in_place-same n t x e = cond-true (x == n) t x (eq-eqb x n e)

in_place-other : (n t x : ℕ) → x ≢ n → in_place n t x ≡ x
unfolding in_place
in_place-other n t x ne = cond-false (x == n) t x (ne_eqb x n ne)

pigeonhole : (n : ℕ) (f : ℕ → ℕ) → ((i : ℕ) → i ≤ n → f i < n) → ((i j : ℕ) → i < j → j ≤ n → f i ≢ f j) → ⊥
pigeonhole zero f below differ = absurd (omega (arith, below 0 (omega arith)))
pigeonhole (suc n) f below differ =
    let t = f (suc n) in
    pigeonhole n (λ i. in_place n t (f i))
    (λ i l. elim (cases_eq (f i) n) [
      | inl e ↦
          let ne : f i ≢ t = differ i (suc n) (omega arith) (omega arith) in
          let same = in_place-same n t (f i) e in
          let lt : t < suc n = below (suc n) (omega arith) in
          let other : t ≢ n = λ z. ne (e ∙ sym z) in
          subst (λ y. y < n) (sym same) (omega arith)
      | inr ne ↦
          let same = in_place-other n t (f i) ne in
          let lt : f i < suc n = below i (omega arith) in
          subst (λ y. y < n) (sym same) (omega arith)
    ])
    (λ i j l h same. elim (cases_eq (f i) n) [
      | inl e ↦ elim (cases_eq (f j) n) [
        | inl e' ↦ differ i j l (omega arith) (e ∙ sym e')
        | inr ne' ↦ differ j (suc n) (omega arith) (omega arith) (sym (in_place-other n t (f j) ne') ∙ sym same ∙ in_place-same n t (f i) e)
      ]
      | inr ne ↦ elim (cases_eq (f j) n) [
        | inl e' ↦ differ i (suc n) (omega arith) (omega arith) (sym (in_place-other n t (f i) ne) ∙ same ∙ in_place-same n t (f j) e')
        | inr ne' ↦ differ i j l (omega arith) (sym (in_place-other n t (f i) ne) ∙ same ∙ in_place-other n t (f j) ne')
      ]
    ])

-- ---- primes of a product

-- a factor of n that q doesn't divide stays when n is divided by q
stays : (k q c n d : ℕ) → IsPrime q → c % q ≢ 0 → d * c ≡ n → (d' : ℕ) × (d' * c ≡ without_factor k q n)
stays zero q c n d P ne e = (d, e)
stays (suc k) q c n d P ne e =
    elim (cases_eq (n % q) 0) [
      | inl z ↦ elim (divides_one q P d c (ap (λ y. y % q) e ∙ z)) [
        | inl h ↦
            let some : 0 < q = le_of_lt P.above_one in
            let f : d / q * q ≡ d = omega (arith, mod-add-div' d q) in
            let whole : n / q * q ≡ n = omega (arith, mod-add-div' n q) in
            let g : d / q * c ≡ n / q = eq_of_mul-eq-mul_right q some (d / q * c) (n / q) (mul_right_comm (d / q) c q ∙ ap (λ y. y * c) f ∙ e ∙ sym whole) in
            let rest = stays k q c (n / q) (d / q) P ne g in
            (rest.0, rest.1 ∙ sym (cond-true (n % q == 0) (without_factor k q (n / q)) n (eq-eqb (n % q) 0 z)))
        | inr h ↦ absurd (ne h)
      ]
      | inr other ↦ (d, e ∙ sym (cond-false (n % q == 0) (without_factor k q (n / q)) n (ne_eqb (n % q) 0 other)))
    ]

one_has_no_part : (d c : ℕ) → d * c ≡ 1 → 1 < c → ⊥
one_has_no_part d c e above =
    elim (cases_lt 0 d) [
      | inl some ↦ let h : 1 * c ≤ d * c = mul-le-mul_right c some in omega arith
      | inr none ↦ let h : d * c ≤ 0 * c = mul-le-mul_right c none in omega arith
    ]

-- one of the primes divides a factor above one
has_part : (b n g c : ℕ) → 1 < c → ((q : ℕ) → IsPrime q → c % q ≡ 0 → power_mod n b g ((n - 1) / q) ≢ 1 → ⊥) →
    (qs : List ℕ) → Primes qs → (m d : ℕ) → are_parts b n g qs ≡ true → without_factors b qs m ≡ 1 → d * c ≡ m → ⊥
has_part b n g c above none [] ps m d t e f = one_has_no_part d c (f ∙ e) above
has_part b n g c above none (q ∷ qs) ps m d t e f =
    let inner = and_parts (not (power_mod n b g ((n - 1) / q) == 1)) (are_parts b n g qs) t in
    let P : IsPrime q = ps.0 in
    let there : power_mod n b g ((n - 1) / q) ≢ 1 = eqb-false (power_mod n b g ((n - 1) / q)) 1 (not-true _ inner.0) in
    elim (cases_eq (c % q) 0) [
      | inl z ↦ none q P z there
      | inr ne ↦
          let left = stays b q c m d P ne f in
          has_part b n g c above none qs ps.1 (without_factor b q m) left.0 inner.1 e left.1
    ]

-- ---- powers under n

module _ (n g : ℕ) (above : 1 < n) where
  leaves_one : (a b : ℕ) → a % n ≡ 1 → b % n ≡ 1 → (a * b) % n ≡ 1
  leaves_one a b e f =
      sym (mul-mod_first a b n) ∙ ap (λ y. (y * b) % n) e ∙ ap (λ y. y % n) (one-mul b) ∙ f

  multiple_leaves_one : (k c : ℕ) → g ^ k % n ≡ 1 → g ^ (k * c) % n ≡ 1
  multiple_leaves_one k zero e = ap (λ y. g ^ y % n) (mul-zero k) ∙ ap (λ y. y % n) (pow-zero g) ∙ mod-eq_of_lt above
  multiple_leaves_one k (suc c) e =
      let s : k * suc c ≡ k * c + k = mul-suc k c in
      ap (λ y. g ^ y % n) s ∙ ap (λ y. y % n) (pow-add g (k * c) k) ∙ leaves_one (g ^ (k * c)) (g ^ k) (multiple_leaves_one k c e) e

  -- where the sum of two exponents leaves one, and one of them does, the other does
  other_leaves_one : (a b : ℕ) → g ^ (a + b) % n ≡ 1 → g ^ a % n ≡ 1 → g ^ b % n ≡ 1
  other_leaves_one a b e f =
      sym (ap (λ y. y % n) (one-mul (g ^ b))) ∙ ap (λ y. (y * g ^ b) % n) (sym f) ∙ mul-mod_first (g ^ a) (g ^ b) n ∙ ap (λ y. y % n) (sym (pow-add g a b)) ∙ e

  -- a common divisor of two exponents that leave one
  record Common (k m : ℕ) : Type 0 where
    d : ℕ
    u : ℕ
    v : ℕ
    left : k ≡ d * u
    right : m ≡ d * v
    one : g ^ d % n ≡ 1

  regroup : (d u v k m q r : ℕ) → r ≡ d * u → k ≡ d * v → k * q + r ≡ m → m ≡ d * (v * q + u)
  regroup d u v k m q r e f h = let i : k * q ≡ d * v * q = ap (λ y. y * q) f in omega arith

  common : (b k m : ℕ) → k < b → g ^ k % n ≡ 1 → g ^ m % n ≡ 1 → Common k m
  common zero k m l e f = absurd (omega arith)
  common (suc b) k m l e f =
      elim (cases_eq k 0) [
        | inl z ↦ record { d = m; u = 0; v = 1; left = z ∙ sym (mul-zero m); right = sym (mul-one m); one = f }
        | inr ne ↦
            let below : m % k < k = mod-lt m (omega arith) in
            let split : k * (m / k) + m % k ≡ m = omega (arith, mod-add-div m k) in
            let c = common b (m % k) k (omega arith) (other_leaves_one (k * (m / k)) (m % k) (ap (λ y. g ^ y % n) split ∙ f) (multiple_leaves_one k (m / k) e)) e in
            record {
              d = c.d;
              u = c.v;
              v = c.v * (m / k) + c.u;
              left = c.right;
              right = regroup c.d c.u c.v k m (m / k) (m % k) c.left c.right split;
              one = c.one;
            }
      ]

  more_than_one : (d u v k m : ℕ) → k ≡ d * u → m ≡ d * v → 0 < k → k < m → 1 < v
  more_than_one d u v k m e f lo hi =
      elim (cases_lt 1 v) [
        | inl h ↦ h
        | inr few ↦
            let h : d * v ≤ d * 1 = mul-le-mul_left d few in
            elim (cases_lt 0 u) [
              | inl some ↦ let i : d * 1 ≤ d * u = mul-le-mul_left d some in absurd (omega arith)
              | inr none ↦ let i : d * u ≤ d * 0 = mul-le-mul_left d none in absurd (omega arith)
            ]
      ]

  -- ---- a generator

  -- one at n - 1, and at none of its parts by a prime of each of its factors above one
  module _ (whole : g ^ (n - 1) % n ≡ 1) (parts : (c d : ℕ) → 1 < c → d * c ≡ n - 1 → ((q : ℕ) → IsPrime q → c % q ≡ 0 → g ^ ((n - 1) / q) % n ≢ 1 → ⊥) → ⊥) where
    order : (k : ℕ) → 0 < k → k < n - 1 → g ^ k % n ≢ 1
    order k lo hi e =
        let c = common (suc k) k (n - 1) (omega arith) e whole in
        let many : 1 < c.v = more_than_one c.d c.u c.v k (n - 1) c.left c.right lo hi in
        parts c.v c.d many (sym c.right)
        (λ q P z ne.
        let some : 0 < q = le_of_lt P.above_one in
        let f : c.v / q * q ≡ c.v = omega (arith, mod-add-div' c.v q) in
        let part : (n - 1) / q ≡ c.d * (c.v / q) = div-eq_of_eq-mul_left some (c.right ∙ ap (λ y. c.d * y) (sym f) ∙ sym (mul_assoc c.d (c.v / q) q)) in
        ne (ap (λ y. g ^ y % n) part ∙ multiple_leaves_one c.d (c.v / q) c.one))

    -- times the power of the rest the power leaves one
    unit : (k : ℕ) → k ≤ n - 1 → (g ^ k * g ^ (n - 1 - k)) % n ≡ 1
    unit k l =
        let s : k + (n - 1 - k) ≡ n - 1 = omega arith in
        ap (λ y. y % n) (sym (pow-add g k (n - 1 - k))) ∙ ap (λ y. g ^ y % n) s ∙ whole

    differ : (i j : ℕ) → i < j → j < n - 1 → g ^ i % n ≢ g ^ j % n
    differ i j l h e =
        let r = n - 1 - i in
        let t : j + r ≡ n - 1 + (j - i) = omega arith in
        let there : g ^ (n - 1 + (j - i)) % n ≡ 1 =
        ap (λ y. g ^ y % n) (sym t) ∙ ap (λ y. y % n) (pow-add g j r) ∙ sym (mul-mod_first (g ^ j) (g ^ r) n)
        ∙ ap (λ y. (y * g ^ r) % n) (sym e) ∙ mul-mod_first (g ^ i) (g ^ r) n ∙ unit i (omega arith) in
        order (j - i) (omega arith) (omega arith) (other_leaves_one (n - 1) (j - i) there whole)

    not_zero : (k : ℕ) → k ≤ n - 1 → g ^ k % n ≢ 0
    not_zero k l z =
        let r = g ^ (n - 1 - k) in
        suc-ne-zero 0
        (sym (unit k l) ∙ sym (mul-mod_first (g ^ k) r n) ∙ ap (λ y. (y * r) % n) z ∙ ap (λ y. y % n) (zero-mul r) ∙ zero-mod n)

    -- 0, a, and then the powers
    listed : ℕ → ℕ → ℕ
    listed a zero = 0
    listed a (suc zero) = a
    listed a (suc (suc k)) = g ^ k % n

    listed_below : (a : ℕ) → a < n → (i : ℕ) → i ≤ n → listed a i < n
    unfolding listed
    listed_below a l zero h = omega arith
    listed_below a l (suc zero) h = l
    listed_below a l (suc (suc k)) h = mod-lt (g ^ k) (omega arith)

    listed_differ : (a : ℕ) → 0 < a → ((k : ℕ) → k < n - 1 → g ^ k % n ≡ a → ⊥) → (i j : ℕ) → i < j → j ≤ n → listed a i ≢ listed a j
    unfolding listed
    listed_differ a some none i zero l h e = omega arith
    listed_differ a some none zero (suc zero) l h e = omega arith
    listed_differ a some none (suc i) (suc zero) l h e = omega arith
    listed_differ a some none zero (suc (suc k)) l h e = not_zero k (omega arith) (sym e)
    listed_differ a some none (suc zero) (suc (suc k)) l h e = none k (omega arith) (sym e)
    listed_differ a some none (suc (suc i)) (suc (suc k)) l h e = differ i k (omega arith) (omega arith) e

    every : (a : ℕ) → 0 < a → a < n → (k : ℕ) × (k < n - 1) × (g ^ k % n ≡ a)
    every a lo hi = elim (search_below (λ k. g ^ k % n ≡ a) (n - 1) (λ k l. cases_eq (g ^ k % n) a)) [
      | inl h ↦ h
      | inr none ↦ absurd (pigeonhole n (listed a) (listed_below a hi) (listed_differ a lo none))
    ]

    prime : IsPrime n
    prime = record {
      above_one = above;
      undivided = λ d lo hi z.
          let h = every d (omega arith) hi in
          let y = g ^ (n - 1 - h.0) in
          let one : (d * y) % n ≡ 1 = ap (λ x. (x * y) % n) (sym h.2) ∙ mul-mod_first (g ^ h.0) y n ∙ unit h.0 (omega (arith, h.1)) in
          let none : (d * y) % n % d ≡ 0 = mod-mod_of_dvd d (d * y) (dvd_of_mod-eq-zero d z) ∙ mul-mod_right d y in
          let e : 1 ≡ 0 = sym (mod-eq_of_lt lo) ∙ ap (λ x. x % d) (sym one) ∙ none in
          omega arith;
    }

-- ---- what the test tells

record Told (b n g : ℕ) (qs : List ℕ) : Type 0 where
  above : 1 < n
  small : n < 2 ^ b
  positive : 0 < g
  below : g < n
  whole : power_mod n b g (n - 1) ≡ 1
  left : without_factors b qs (n - 1) ≡ 1
  parts : are_parts b n g qs ≡ true

told : (b n g : ℕ) (qs : List ℕ) → passes b n g qs ≡ true → Told b n g qs
told b n g qs t =
    let t₁ = and_parts _ _ t in
    let t₂ = and_parts _ _ t₁.1 in
    let t₃ = and_parts _ _ t₂.1 in
    let t₄ = and_parts _ _ t₃.1 in
    let t₅ = and_parts _ _ t₄.1 in
    let t₆ = and_parts _ _ t₅.1 in
    record {
      above = ltb-true 1 n t₁.0;
      small = ltb-true n (2 ^ b) t₂.0;
      positive = ltb-true 0 g t₃.0;
      below = ltb-true g n t₄.0;
      whole = eqb-true _ _ t₅.0;
      left = eqb-true _ _ t₆.0;
      parts = t₆.1;
    }

fast : (b n g k : ℕ) → n < 2 ^ b → k < n → g ^ k % n ≡ power_mod n b g k
fast b n g k small l = sym (power_mod-is n b g k (lt_trans l small))

one_less : (n : ℕ) → 1 < n → n - 1 < n
one_less n above = omega arith

told_whole : (b n g : ℕ) (qs : List ℕ) → Told b n g qs → g ^ (n - 1) % n ≡ 1
told_whole b n g qs h = fast b n g (n - 1) h.small (one_less n h.above) ∙ h.whole

told_parts : (b n g : ℕ) (qs : List ℕ) → Primes qs → Told b n g qs → (c d : ℕ) → 1 < c → d * c ≡ n - 1 → ((q : ℕ) → IsPrime q → c % q ≡ 0 → g ^ ((n - 1) / q) % n ≢ 1 → ⊥) → ⊥
told_parts b n g qs ps h c d many e none =
    has_part b n g c many
    (λ q P z ne. none q P z (λ same. ne (sym (fast b n g ((n - 1) / q) h.small (lt_of_le_of_lt (div-le_self (n - 1) q) (one_less n h.above))) ∙ same)))
    qs ps (n - 1) d h.parts h.left e

pub prime_by_lucas : (b n g : ℕ) (qs : List ℕ) → Primes qs → passes b n g qs ≡ true → IsPrime n
prime_by_lucas b n g qs ps t =
    let h = told b n g qs t in
    prime n g h.above (told_whole b n g qs h) (told_parts b n g qs ps h)

pub generator_by_lucas : (b n g : ℕ) (qs : List ℕ) → Primes qs → passes b n g qs ≡ true → IsGenerator b n g
unfolding power_below
generator_by_lucas b n g qs ps t =
    let h = told b n g qs t in
    let whole = told_whole b n g qs h in
    let parts = told_parts b n g qs ps h in
    record {
      positive = h.positive;
      below = h.below;
      whole = h.whole;
      order = order n g h.above whole parts;
      every = every n g h.above whole parts;
    }

-- ---- a certificate: the primes of n - 1, each small, or with a certificate of its own

pub data Parts : Type 0 where
  done : Parts
  small : ℕ → Parts → Parts
  large : ℕ → ℕ → Parts → Parts → Parts

abbrev pub primes_of : Parts → List ℕ
primes_of done = []
primes_of (small q rest) = q ∷ primes_of rest
primes_of (large q g inside rest) = q ∷ primes_of rest

abbrev pub are_primes : ℕ → Parts → Bool
are_primes b done = true
are_primes b (small q rest) = is_small_prime q && are_primes b rest
are_primes b (large q g inside rest) = passes b q g (primes_of inside) && (are_primes b inside && are_primes b rest)

pub primes_by_parts : (b : ℕ) (c : Parts) → are_primes b c ≡ true → Primes (primes_of c)
primes_by_parts b done t = tt
primes_by_parts b (small q rest) t =
    let parts = and_parts (is_small_prime q) (are_primes b rest) t in
    (prime_from_test (root_below 32 q - 1) q parts.0, primes_by_parts b rest parts.1)
primes_by_parts b (large q g inside rest) t =
    let outer = and_parts (passes b q g (primes_of inside)) (are_primes b inside && are_primes b rest) t in
    let inner = and_parts (are_primes b inside) (are_primes b rest) outer.1 in
    (prime_by_lucas b q g (primes_of inside) (primes_by_parts b inside inner.0) outer.0, primes_by_parts b rest inner.1)

-- p is prime, by the powers of g and a certificate of the primes of p - 1
pub prime_from_parts : (b p g : ℕ) (c : Parts) → (passes b p g (primes_of c) && are_primes b c) ≡ true → IsPrime p
prime_from_parts b p g c t =
    let parts = and_parts (passes b p g (primes_of c)) (are_primes b c) t in
    prime_by_lucas b p g (primes_of c) (primes_by_parts b c parts.1) parts.0

pub small_from_parts : (b p g : ℕ) (c : Parts) → (passes b p g (primes_of c) && are_primes b c) ≡ true → p < 2 ^ b
small_from_parts b p g c t = (told b p g (primes_of c) (and_parts (passes b p g (primes_of c)) (are_primes b c) t).0).small

pub generator_from_parts : (b p g : ℕ) (c : Parts) → (passes b p g (primes_of c) && are_primes b c) ≡ true → IsGenerator b p g
generator_from_parts b p g c t =
    let parts = and_parts (passes b p g (primes_of c)) (are_primes b c) t in
    generator_by_lucas b p g (primes_of c) (primes_by_parts b c parts.1) parts.0
