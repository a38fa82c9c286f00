-- The roots that a generator gives.
use Rattle.std.proofs.Common.{◌≡◌, ◌≢◌, ℕ, ◌-◌, ◌*◌, ◌/◌, ◌%◌, ◌^◌, ◌<◌, ◌≤◌, ◌⊎◌, sym, ap, ◌∙◌, subst, inl, inr, arith, mul_assoc, mul_comm, mul-zero, zero-mul, le_trans, le_of_lt, ap₂}
use Rattle.std.proofs.Math.Nat.{mod-add-div', div-eq_of_eq-mul_left, mul-mul-mul_comm, mul-le-mul_right, mod-add-div, mod_self, mul-mod_left}
use Rattle.std.proofs.lemmas.Nat.{pow-add}
use Rattle.std.proofs.lemmas.Bool.{cases_eq}
use Rattle.ark_math.specs.Field.{FieldOn, IsField, power, natural}
use Rattle.ark_math.specs.Root.{Adicity, IsSupported, HasOrder, AreRoots, odd_base, odd_most, greatest_size}
use Rattle.ark_base.specs.Generator.{Generates, root_by}
use Rattle.ark_math.specs.Prime.{IsPrime}
use Rattle.ark_math.proofs.Algebra.Powers.{power-mul}
use Rattle.ark_math.proofs.Roots.Order.{order_from_primes, divisor}

-- a supported size divides t
cofactor : (t a b q A B : ℕ) → t % (2 ^ A * q ^ B) ≡ 0 → a ≤ A → b ≤ B → (w : ℕ) × (w * (2 ^ a * q ^ b) ≡ t)
cofactor t a b q A B e f g =
    let two : 2 ^ A ≡ 2 ^ (A - a) * 2 ^ a = ap (λ k. 2 ^ k) (omega arith) ∙ pow-add 2 (A - a) a in
    let odd : q ^ B ≡ q ^ (B - b) * q ^ b = ap (λ k. q ^ k) (omega arith) ∙ pow-add q (B - b) b in
    let c = 2 ^ (A - a) * q ^ (B - b) in
    let n = 2 ^ a * q ^ b in
    let most = 2 ^ A * q ^ B in
    let whole : most ≡ c * n = ap₂ (λ x y. x * y) two odd ∙ mul-mul-mul_comm (2 ^ (A - a)) (2 ^ a) (q ^ (B - b)) (q ^ b) in
    let times : t / most * most ≡ t = omega (arith, mod-add-div' t most) in
    (t / most * c, mul_assoc (t / most) c n ∙ ap (λ y. t / most * y) (sym whole) ∙ times)

positive_part : (w n : ℕ) → 0 < w * n → 0 < n
positive_part w n h = elim (cases_eq n 0) [
  | inl e ↦ let z : w * n ≡ 0 = ap (λ y. w * y) e ∙ mul-zero w in absurd (omega arith)
  | inr ne ↦ omega arith
]

at_most : (w n t : ℕ) → w * n ≡ t → 0 < t → n ≤ t
at_most w n t e h = elim (cases_eq w 0) [
  | inl z ↦ let f : w * n ≡ 0 = ap (λ y. y * n) z ∙ zero-mul n in absurd (omega arith)
  | inr ne ↦ let f : 1 * n ≤ w * n = mul-le-mul_right n (omega arith) in omega arith
]

over : (w n t : ℕ) → w * n ≡ t → 0 < n → t / n ≡ w
over w n t e h = div-eq_of_eq-mul_left h (sym e)

module _ {F : Type 0} (K : FieldOn F) (laws : IsField K) (s : Adicity) (t : ℕ) (g : F) (G : Generates K s t g) where
  record Divides (n : ℕ) : Type 0 where
    a : ℕ
    b : ℕ
    w : ℕ
    whole : w * n ≡ t
    product : n ≡ 2 ^ a * odd_base s.odd ^ b
    a_within : a ≤ s.two
    b_within : b ≤ odd_most s.odd
    some : 0 < n
    most : n ≤ t

  divides : (n : ℕ) → IsSupported s n → Divides n
  divides n h =
      let a = h.0 in
      let b = h.1 in
      let splits = h.2 in
      let c = cofactor t a b (odd_base s.odd) s.two (odd_most s.odd) G.divided splits.twos_within splits.odds_within in
      let w = c.0 in
      let e : w * n ≡ t = ap (λ y. w * y) splits.product ∙ c.1 in
      record {
        a = a;
        b = b;
        w = w;
        whole = e;
        product = splits.product;
        a_within = splits.twos_within;
        b_within = splits.odds_within;
        some = positive_part w n (subst (λ y. 0 < y) (sym e) G.positive);
        most = at_most w n t e G.positive;
      }

  -- a power of the root of order n that is one at m, where m * r ≡ n
  part_of : (n w r m : ℕ) → w * n ≡ t → 0 < n → 0 < r → m * r ≡ n → power K (root_by K t g n) m ≡ power K g (t / r)
  part_of n w r m e some above f =
      let h : w * m * r ≡ t = mul_assoc w m r ∙ ap (λ y. w * y) f ∙ e in
      sym (power-mul K laws g (t / n) m)
      ∙ ap (λ y. power K g (y * m)) (over w n t e some)
      ∙ ap (power K g) (sym (over (w * m) r t h above))

  base_some : {b : ℕ} → 0 < b → b ≤ odd_most s.odd → 0 < odd_base s.odd
  base_some lo hi = elim G.base [
    | inl z ↦ absurd (omega arith)
    | inr P ↦ le_of_lt P.above_one
  ]

  base_at : (b : ℕ) → b ≤ odd_most s.odd → (b ≡ 0) ⊎ IsPrime (odd_base s.odd)
  base_at b hi = elim G.base [
    | inl z ↦ inl (omega arith)
    | inr P ↦ inr P
  ]

  has_order : (n : ℕ) → IsSupported s n → HasOrder K (root_by K t g n) n
  has_order n h =
      let d = divides n h in
      let q = odd_base s.odd in
      order_from_primes K laws (root_by K t g n) d.a d.b q n d.some d.product (base_at d.b d.b_within)
      (sym (power-mul K laws g (t / n) n) ∙ ap (λ y. power K g (y * n)) (over d.w n t d.whole d.some) ∙ ap (power K g) d.whole ∙ G.whole)
      (λ lo m f e. G.half (le_trans lo d.a_within) (sym (part_of n d.w 2 m d.whole d.some (omega arith) f) ∙ e))
      (λ lo m f e. G.part (le_trans lo d.b_within) (sym (part_of n d.w q m d.whole d.some (base_some lo d.b_within) f) ∙ e))

  tower : (m k : ℕ) → IsSupported s m → IsSupported s (m * k) → root_by K t g m ≡ power K (root_by K t g (m * k)) k
  tower m k h h' =
      let d = divides m h in
      let d' = divides (m * k) h' in
      let e : d'.w * k * m ≡ t = mul_assoc d'.w k m ∙ ap (λ y. d'.w * y) (mul_comm k m) ∙ d'.whole in
      ap (power K g) (over (d'.w * k) m t e d.some)
      ∙ ap (λ y. power K g (y * k)) (sym (over d'.w (m * k) t d'.whole d'.some))
      ∙ power-mul K laws g (t / (m * k)) k

  pub roots_from_generator : ((n : ℕ) → 0 < n → n ≤ t → natural K n ≢ K.zero) → AreRoots K s (root_by K t g)
  roots_from_generator some = record {
    base = G.odd;
    order = has_order;
    tower = tower;
    invertible = λ n h. let d = divides n h in some n d.some d.most;
  }

-- the supported sizes are the divisors of the greatest
pub supported_from_divisor : (s : Adicity) (n : ℕ) → (odd_most s.odd ≡ 0) ⊎ IsPrime (odd_base s.odd) → n < 2 ^ 64 → greatest_size s % n ≡ 0 → IsSupported s n
supported_from_divisor s n P fits z =
    let e : n * (greatest_size s / n) ≡ greatest_size s = omega (arith, mod-add-div (greatest_size s) n) in
    let h = divisor s.two (odd_most s.odd) (odd_base s.odd) (greatest_size s / n) n P e in
    (h.twos, h.odds, record { product = h.product; twos_within = h.twos_within; odds_within = h.odds_within; fits = fits })

pub divisor_from_supported : (s : Adicity) (n : ℕ) → IsSupported s n → greatest_size s % n ≡ 0
divisor_from_supported s n h =
    let splits = h.2 in
    let c = cofactor (greatest_size s) h.0 h.1 (odd_base s.odd) s.two (odd_most s.odd) (mod_self (greatest_size s)) splits.twos_within splits.odds_within in
    let e : c.0 * n ≡ greatest_size s = ap (λ y. c.0 * y) splits.product ∙ c.1 in
    ap (λ y. y % n) (sym e) ∙ mul-mod_left c.0 n
