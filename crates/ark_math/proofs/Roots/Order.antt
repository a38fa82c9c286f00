-- The order of a root of unity, from its powers at the prime parts of the order.
use Rattle.std.proofs.Common.{◌≡◌, ◌≢◌, ℕ, zero, suc, ◌+◌, ◌-◌, ◌*◌, ◌/◌, ◌%◌, ◌^◌, ◌<◌, ◌≤◌, ◌⊎◌, refl, sym, ap, ◌∙◌, inl, inr, arith, mul_comm, mul_assoc, one-mul, zero-mul, mod-lt, pow-suc, mul_right_comm, le_trans, suc-le-suc}
use Rattle.std.proofs.Math.Nat.{mod-add-div, mul-mod_left, pow-zero, mod-add-div', eq_of_mul-eq-mul_right, mul-le-mul_left, mul-le-mul_right, le_of_lt}
use Rattle.std.proofs.lemmas.Bool.{cases_lt, cases_eq}
use Rattle.ark_math.specs.Field.{FieldOn, IsField, power}
use Rattle.ark_math.specs.Root.{HasOrder}
use Rattle.ark_math.specs.Prime.{IsPrime}
use Rattle.ark_math.proofs.Algebra.Groups.{one_times, itself_is_module, zero_scale}
use Rattle.ark_math.proofs.Algebra.Powers.{power-one, power-add, power-mul}
use Rattle.ark_math.proofs.Numbers.Prime.{divides_one, prime_from_test}

-- ---- numbers

regroup : (d u v k n q r : ℕ) → r ≡ d * u → k ≡ d * v → k * q + r ≡ n → n ≡ d * (v * q + u)
regroup d u v k n q r e f g = let h : k * q ≡ d * v * q = ap (λ y. y * q) f in omega arith

two_is_prime : IsPrime 2
two_is_prime = prime_from_test 0 2 refl

without : (q d c t : ℕ) → 0 < q → d % q ≡ 0 → d * c ≡ t * q → d / q * c ≡ t
without q d c t some e f =
    let g : d / q * q ≡ d = omega (arith, mod-add-div' d q) in
    eq_of_mul-eq-mul_right q some (d / q * c) t (mul_right_comm (d / q) c q ∙ ap (λ y. y * c) g ∙ f)

times_leaves : (q d c t : ℕ) → d * c ≡ t * q → (d * c) % q ≡ 0
times_leaves q d c t e = ap (λ y. y % q) e ∙ mul-mod_left t q

quotient : (c q : ℕ) → c % q ≡ 0 → c / q * q ≡ c
quotient c q e = omega (arith, mod-add-div' c q)

-- a factor above one of 2 ^ a * q ^ b has a factor 2 or q, of which there is one
abbrev Part : ℕ → ℕ → ℕ → ℕ → Type 0
Part a b q c = ((0 < a) × (c % 2 ≡ 0)) ⊎ ((0 < b) × (c % q ≡ 0))

more_than_one : (d u v k n : ℕ) → k ≡ d * u → n ≡ d * v → 0 < k → k < n → 1 < v
more_than_one d u v k n e f lo hi =
    elim (cases_lt 1 v) [
      | inl h ↦ h
      | inr few ↦
          let g : d * v ≤ d * 1 = mul-le-mul_left d few in
          elim (cases_lt 0 u) [
            | inl some ↦ let h : d * 1 ≤ d * u = mul-le-mul_left d some in absurd (omega arith)
            | inr none ↦ let h : d * u ≤ d * 0 = mul-le-mul_left d none in absurd (omega arith)
          ]
    ]

one_has_no_part : (d c : ℕ) → d * c ≡ 1 → 1 < c → ⊥
one_has_no_part d c e above =
    elim (cases_lt 0 d) [
      | inl some ↦ let h : 1 * c ≤ d * c = mul-le-mul_right c some in omega arith
      | inr none ↦ let h : d * c ≤ 0 * c = mul-le-mul_right c none in omega arith
    ]

odd_part : (b q c d : ℕ) → (b ≡ 0) ⊎ IsPrime q → d * c ≡ q ^ b → 1 < c → (0 < b) × (c % q ≡ 0)
odd_part zero q c d P e above = absurd (one_has_no_part d c (e ∙ pow-zero q) above)
odd_part (suc b) q c d P e above =
    elim P [
      | inl z ↦ absurd (omega arith)
      | inr prime ↦
          let some : 0 < q = le_of_lt prime.above_one in
          let f : d * c ≡ q ^ b * q = e ∙ pow-suc q b in
          elim (divides_one q prime d c (times_leaves q d c (q ^ b) f)) [
            | inl z ↦ (omega arith, (odd_part b q c (d / q) (inr prime) (without q d c (q ^ b) some z f) above).1)
            | inr z ↦ (omega arith, z)
          ]
    ]

prime_part : (a b q c d : ℕ) → (b ≡ 0) ⊎ IsPrime q → d * c ≡ 2 ^ a * q ^ b → 1 < c → ((0 < a) × (c % 2 ≡ 0)) ⊎ ((0 < b) × (c % q ≡ 0))
prime_part zero b q c d P e above = inr (odd_part b q c d P (e ∙ ap (λ y. y * q ^ b) (pow-zero 2) ∙ one-mul (q ^ b)) above)
prime_part (suc a) b q c d P e above =
    let f : d * c ≡ 2 ^ a * q ^ b * 2 = e ∙ ap (λ y. y * q ^ b) (pow-suc 2 a) ∙ mul_right_comm (2 ^ a) 2 (q ^ b) in
    elim (divides_one 2 two_is_prime d c (times_leaves 2 d c (2 ^ a * q ^ b) f)) [
      | inl z ↦ elim (prime_part a b q c (d / 2) P (without 2 d c (2 ^ a * q ^ b) (omega arith) z f) above) [
        | inl h ↦ inl (omega arith, h.1)
        | inr h ↦ inr h
      ]
      | inr z ↦ inl (omega arith, z)
    ]

-- ---- powers

module _ {F : Type 0} (K : FieldOn F) (laws : IsField K) where
  -- a multiple of an exponent that gives one gives one
  pub multiple_gives_one : (x : F) (m c : ℕ) → power K x m ≡ K.one → power K x (m * c) ≡ K.one
  multiple_gives_one x m c e = power-mul K laws x m c ∙ ap (λ y. power K y c) e ∙ power-one K laws c

  pub rest_gives_one : (x : F) (k n : ℕ) → power K x k ≡ K.one → power K x n ≡ K.one → power K x (n % k) ≡ K.one
  rest_gives_one x k n e f =
      let split : k * (n / k) + n % k ≡ n = omega (arith, mod-add-div n k) in
      sym (one_times K laws (power K x (n % k)))
      ∙ ap (λ y. K.times y (power K x (n % k))) (sym (multiple_gives_one x k (n / k) e))
      ∙ sym (power-add K laws x (k * (n / k)) (n % k))
      ∙ ap (power K x) split
      ∙ f

  -- a common divisor of two exponents that give one
  pub record Common (x : F) (k n : ℕ) : Type 0 where
    pub d : ℕ
    pub u : ℕ
    pub v : ℕ
    pub left : k ≡ d * u
    pub right : n ≡ d * v
    pub one : power K x d ≡ K.one

  common_step : (x : F) (k n : ℕ) → Common x (n % k) k → Common x k n
  common_step x k n c =
      record {
        d = c.d;
        u = c.v;
        v = c.v * (n / k) + c.u;
        left = c.right;
        right = regroup c.d c.u c.v k n (n / k) (n % k) c.left c.right (omega (arith, mod-add-div n k));
        one = c.one;
      }

  common_within : (x : F) (b k n : ℕ) → k < b → power K x k ≡ K.one → power K x n ≡ K.one → Common x k n
  common_within x zero k n f e g = absurd (omega arith)
  common_within x (suc b) k n f e g =
      elim (cases_eq k 0) [
        | inl z ↦ record { d = n; u = 0; v = 1; left = omega arith; right = omega arith; one = g }
        | inr ne ↦
            let below : n % k < k = mod-lt n (omega arith) in
            common_step x k n (common_within x b (n % k) k (omega arith) (rest_gives_one x k n e g) e)
      ]

  -- ---- the order

  breaks : (x : F) (a b q n : ℕ) → 0 < n → n ≡ 2 ^ a * q ^ b → (b ≡ 0) ⊎ IsPrime q →
      (0 < a → (m : ℕ) → m * 2 ≡ n → power K x m ≢ K.one) → (0 < b → (m : ℕ) → m * q ≡ n → power K x m ≢ K.one) →
      (k : ℕ) → 0 < k → k < n → Common x k n → ⊥
  breaks x a b q n some e P half part k lo hi c =
      let many : 1 < c.v = more_than_one c.d c.u c.v k n c.left c.right lo hi in
      elim (prime_part a b q c.v c.d P (sym c.right ∙ e) many) [
        | inl z ↦ half z.0 (c.d * (c.v / 2)) (mul_assoc c.d (c.v / 2) 2 ∙ ap (λ y. c.d * y) (quotient c.v 2 z.1) ∙ sym c.right) (multiple_gives_one x c.d (c.v / 2) c.one)
        | inr z ↦ part z.0 (c.d * (c.v / q)) (mul_assoc c.d (c.v / q) q ∙ ap (λ y. c.d * y) (quotient c.v q z.1) ∙ sym c.right) (multiple_gives_one x c.d (c.v / q) c.one)
      ]

  -- enough for the order n: one at n, and not one at n over each prime that divides n
  pub order_from_primes : (x : F) (a b q n : ℕ) → 0 < n → n ≡ 2 ^ a * q ^ b → (b ≡ 0) ⊎ IsPrime q → power K x n ≡ K.one →
      (0 < a → (m : ℕ) → m * 2 ≡ n → power K x m ≢ K.one) → (0 < b → (m : ℕ) → m * q ≡ n → power K x m ≢ K.one) → HasOrder K x n
  order_from_primes x a b q n some e P one half part =
      record {
        one = one;
        least = λ k lo hi g.
            let c = common_within x (suc k) k n (omega arith) g one in
            breaks x a b q n some e P half part k lo hi c;
      }

-- ---- the divisors of 2 ^ a * q ^ b

pub record Divisor (a b q d : ℕ) : Type 0 where
  pub twos : ℕ
  pub odds : ℕ
  pub twos_within : twos ≤ a
  pub odds_within : odds ≤ b
  pub product : d ≡ 2 ^ twos * q ^ odds

within : (a b q d a' b' : ℕ) → a ≤ a' → b ≤ b' → Divisor a b q d → Divisor a' b' q d
within a b q d a' b' f g h = record {
  twos = h.twos;
  odds = h.odds;
  product = h.product;
  twos_within = le_trans h.twos_within f;
  odds_within = le_trans h.odds_within g;
}

one_more_odd : (a b q d : ℕ) → d % q ≡ 0 → Divisor a b q (d / q) → Divisor a (suc b) q d
one_more_odd a b q d z h = record {
  twos = h.twos;
  odds = suc h.odds;
  twos_within = h.twos_within;
  odds_within = suc-le-suc h.odds_within;
  product =
      sym (quotient d q z) ∙ ap (λ y. y * q) h.product ∙ mul_assoc (2 ^ h.twos) (q ^ h.odds) q
      ∙ ap (λ y. 2 ^ h.twos * y) (sym (pow-suc q h.odds));
}

one_more_two : (a b q d : ℕ) → d % 2 ≡ 0 → Divisor a b q (d / 2) → Divisor (suc a) b q d
one_more_two a b q d z h = record {
  twos = suc h.twos;
  odds = h.odds;
  twos_within = suc-le-suc h.twos_within;
  odds_within = h.odds_within;
  product =
      sym (quotient d 2 z) ∙ ap (λ y. y * 2) h.product ∙ mul_right_comm (2 ^ h.twos) (q ^ h.odds) 2
      ∙ ap (λ y. y * q ^ h.odds) (sym (pow-suc 2 h.twos));
}

-- the other factor without its q
other : (q d c t : ℕ) → 0 < q → c % q ≡ 0 → d * c ≡ t * q → d * (c / q) ≡ t
other q d c t some z e = mul_comm d (c / q) ∙ without q c d t some z (mul_comm c d ∙ e)

divides_unit : (c d : ℕ) → d * c ≡ 1 → d ≡ 1
divides_unit c d e = elim (cases_lt 1 d) [
  | inl above ↦ absurd (one_has_no_part c d (mul_comm c d ∙ e) above)
  | inr few ↦ elim (cases_eq d 0) [
    | inl z ↦ let h : d * c ≡ 0 = ap (λ y. y * c) z ∙ zero-mul c in absurd (omega arith)
    | inr ne ↦ omega arith
  ]
]

odd_divisor : (b q c d : ℕ) → (b ≡ 0) ⊎ IsPrime q → d * c ≡ q ^ b → Divisor 0 b q d
odd_divisor zero q c d P e = record {
  twos = 0;
  odds = 0;
  twos_within = omega arith;
  odds_within = omega arith;
  product = divides_unit c d (e ∙ pow-zero q) ∙ sym (ap (λ y. 1 * y) (pow-zero q));
}
odd_divisor (suc b) q c d P e =
    elim P [
      | inl z ↦ absurd (omega arith)
      | inr prime ↦
          let some : 0 < q = le_of_lt prime.above_one in
          let f : d * c ≡ q ^ b * q = e ∙ pow-suc q b in
          elim (divides_one q prime d c (times_leaves q d c (q ^ b) f)) [
            | inl z ↦ one_more_odd 0 b q d z (odd_divisor b q c (d / q) (inr prime) (without q d c (q ^ b) some z f))
            | inr z ↦ within 0 b q d 0 (suc b) (omega arith) (omega arith) (odd_divisor b q (c / q) d (inr prime) (other q d c (q ^ b) some z f))
          ]
    ]

pub divisor : (a b q c d : ℕ) → (b ≡ 0) ⊎ IsPrime q → d * c ≡ 2 ^ a * q ^ b → Divisor a b q d
divisor zero b q c d P e = odd_divisor b q c d P (e ∙ ap (λ y. y * q ^ b) (pow-zero 2) ∙ one-mul (q ^ b))
divisor (suc a) b q c d P e =
    let t = 2 ^ a * q ^ b in
    let f : d * c ≡ t * 2 = e ∙ ap (λ y. y * q ^ b) (pow-suc 2 a) ∙ mul_right_comm (2 ^ a) 2 (q ^ b) in
    elim (divides_one 2 two_is_prime d c (times_leaves 2 d c t f)) [
      | inl z ↦ one_more_two a b q d z (divisor a b q c (d / 2) P (without 2 d c t (omega arith) z f))
      | inr z ↦ within a b q d (suc a) b (omega arith) (omega arith) (divisor a b q (c / 2) d P (other 2 d c t (omega arith) z f))
    ]

-- a root of unity of a positive order isn't zero
pub root_not_zero : {F : Type 0} (K : FieldOn F) → IsField K → (w : F) (n : ℕ) → HasOrder K w n → 0 < n → w ≢ K.zero
root_not_zero K N w n o some z =
    let m = n - 1 in
    let k : n ≡ suc m = omega (arith, some) in
    N.one_not_zero
    (sym o.one ∙ ap (power K w) k ∙ ap (λ t. K.times t (power K w m)) z ∙ zero_scale N (itself_is_module K N) (power K w m))
