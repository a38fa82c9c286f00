-- Bits of an index, corners of the cube, and how much each corner counts at a point.
use Rattle.std.proofs.Common.{◌≡◌, ℕ, zero, suc, ◌+◌, ◌*◌, ◌/◌, ◌%◌, ◌^◌, ◌<◌, Bool, true, false, if◌then◌else◌, List, [], ◌∷◌, ◌++◌, length, sym, ◌∙◌, ap, ap₂, refl, arith, shr-shr, pow_pos, div-add-mod', ⊎_elim, ◌≤◌, ◌-◌, eqb, eq-eqb, ne_eqb}
use Rattle.std.proofs.lemmas.Bool.{cases_Bool, eqb-true, eqb-false}
use Rattle.std.proofs.lemmas.Nat.{div-mul-add, mod_below, pow-add}
use Rattle.ark_math.specs.Field.{FieldOn, IsField, minus}
use Rattle.ark_math.specs.Module.{ModuleOn, IsModule, itself, sum_below, item}
use Rattle.ark_math_variables.specs.Multilinear.{bit, corner, weight}
use Rattle.ark_math.proofs.Algebra.Groups.{one_times}
use Rattle.ark_math.proofs.Algebra.Products.{product_below-same, product_below-first}
pub use Rattle.ark_math.proofs.Numbers.PowersOfTwo.{pow_twice}
use Rattle.ark_math.proofs.Lists.Tabulated.{tabulate-suc, tabulate-same}

-- ---- bits

-- the exponents of a product that is a power of two
pub pow_rest : (m j : ℕ) → j ≤ m → 2 ^ (m - j) * 2 ^ j ≡ 2 ^ m
pow_rest m j l = let e : (m - j) + j ≡ m = omega arith in sym (pow-add 2 (m - j) j) ∙ ap (λ k. 2 ^ k) e

pub bit-suc : (b i : ℕ) → bit b (suc i) ≡ bit (b / 2) i
bit-suc b i =
    let e : suc i ≡ 1 + i = omega arith in
    ap (λ n. eqb ((b / 2 ^ n) % 2) 1) e ∙ ap (λ n. eqb (n % 2) 1) (sym (shr-shr b 1 i))

pub bit-even : (c : ℕ) → bit (2 * c) 0 ≡ false
bit-even c = ne_eqb ((2 * c / 1) % 2) 1 (λ h. omega arith)

pub bit-odd : (c : ℕ) → bit (2 * c + 1) 0 ≡ true
bit-odd c = eq-eqb (((2 * c + 1) / 1) % 2) 1 (omega arith)

-- the n low bits, and those above them
pub bit-low : (n i hi lo : ℕ) → i < n → bit (hi * 2 ^ n + lo) i ≡ bit lo i
bit-low zero i hi lo l = absurd (omega arith)
bit-low (suc n) zero hi lo l =
    let twice = pow_twice n in
    let m : hi * 2 ^ suc n ≡ 2 * (hi * 2 ^ n) = ap (λ k. hi * k) twice ∙ grind arith in
    let e : ((hi * 2 ^ suc n + lo) / 1) % 2 ≡ (lo / 1) % 2 = omega arith in
    ap (λ k. eqb k 1) e
bit-low (suc n) (suc i) hi lo l =
    let twice = pow_twice n in
    let m : hi * 2 ^ suc n ≡ 2 * (hi * 2 ^ n) = ap (λ k. hi * k) twice ∙ grind arith in
    let e : (hi * 2 ^ suc n + lo) / 2 ≡ hi * 2 ^ n + lo / 2 = omega arith in
    bit-suc (hi * 2 ^ suc n + lo) i ∙ ap (λ b. bit b i) e ∙ bit-low n i hi (lo / 2) (omega arith) ∙ sym (bit-suc lo i)

pub bit-high : (n i hi lo : ℕ) → lo < 2 ^ n → bit (hi * 2 ^ n + lo) (n + i) ≡ bit hi i
bit-high zero i hi lo l =
    let e : hi * 2 ^ 0 + lo ≡ hi = omega arith in
    let f : 0 + i ≡ i = omega arith in
    ap₂ bit e f
bit-high (suc n) i hi lo l =
    let twice = pow_twice n in
    let m : hi * 2 ^ suc n ≡ 2 * (hi * 2 ^ n) = ap (λ k. hi * k) twice ∙ grind arith in
    let e : (hi * 2 ^ suc n + lo) / 2 ≡ hi * 2 ^ n + lo / 2 = omega arith in
    let f : suc n + i ≡ suc (n + i) = omega arith in
    ap (bit (hi * 2 ^ suc n + lo)) f ∙ bit-suc (hi * 2 ^ suc n + lo) (n + i) ∙ ap (λ b. bit b (n + i)) e ∙ bit-high n i hi (lo / 2) (omega arith)

bit-zero : (i : ℕ) → bit 0 i ≡ false
bit-zero zero = refl
bit-zero (suc i) = bit-suc 0 i ∙ bit-zero i

-- bits past the end of a number
pub bit-past : (n i b : ℕ) → b < 2 ^ n → n ≤ i → bit b i ≡ false
bit-past n i b l m =
    let e : b ≡ 0 * 2 ^ n + b = omega arith in
    let f : i ≡ n + (i - n) = omega arith in
    ap₂ bit e f ∙ bit-high n (i - n) 0 b l ∙ bit-zero (i - n)

bit-half : (b c : ℕ) → bit b 0 ≡ bit c 0 → b % 2 ≡ c % 2
bit-half b c e = ⊎_elim
    (λ (f : bit b 0 ≡ true). let r = eqb-true ((b / 1) % 2) 1 f in let s = eqb-true ((c / 1) % 2) 1 (sym e ∙ f) in omega arith)
    (λ (f : bit b 0 ≡ false). let r = eqb-false ((b / 1) % 2) 1 f in let s = eqb-false ((c / 1) % 2) 1 (sym e ∙ f) in omega arith)
    (cases_Bool (bit b 0))

-- a number below 2 ^ n is known by its n bits
same_bits : (n b c : ℕ) → b < 2 ^ n → c < 2 ^ n → ((i : ℕ) → i < n → bit b i ≡ bit c i) → b ≡ c
same_bits zero b c l m h = omega arith
same_bits (suc n) b c l m h =
    let twice = pow_twice n in
    let e = bit-half b c (h 0 (omega arith)) in
    let f = same_bits n (b / 2) (c / 2) (omega arith) (omega arith) (λ i k. sym (bit-suc b i) ∙ h (suc i) (omega arith) ∙ bit-suc c i) in
    omega arith

below_power : (n : ℕ) → n < 2 ^ n
below_power zero = omega arith
below_power (suc n) = let twice = pow_twice n in let h = below_power n in omega arith

-- numbers are equal by all their bits
pub equal_bits : (b c : ℕ) → ((i : ℕ) → bit b i ≡ bit c i) → b ≡ c
equal_bits b c h =
    let l = below_power (b + c) in
    same_bits (b + c) b c (omega arith) (omega arith) (λ i k. h i)

-- a number with no bits from n on
pub below_by_bits : (n b : ℕ) → ((i : ℕ) → n ≤ i → bit b i ≡ false) → b < 2 ^ n
below_by_bits n b h =
    let low = mod_below b (2 ^ n) (pow_pos n) in
    let none : b / 2 ^ n ≡ 0 =
    equal_bits (b / 2 ^ n) 0
    (λ i.
    sym (bit-high n i (b / 2 ^ n) (b % 2 ^ n) low)
    ∙ ap (λ k. bit k (n + i)) (div-add-mod' b (2 ^ n))
    ∙ h (n + i) (omega arith)
    ∙ sym (bit-zero i)) in
    let e : b ≡ 0 * 2 ^ n + b % 2 ^ n = sym (div-add-mod' b (2 ^ n)) ∙ ap (λ k. k * 2 ^ n + b % 2 ^ n) none in
    omega arith

-- ---- sums and products

-- two after two
pub sum_below-pairs : {F M : Type 0} {K : FieldOn F} {V : ModuleOn F M} → IsModule K V → (n : ℕ) (f : ℕ → M) → sum_below V (2 * n) f ≡ sum_below V n (λ c. V.plus (f (2 * c)) (f (2 * c + 1)))
sum_below-pairs {V = V} L zero f = refl
sum_below-pairs {V = V} L (suc n) f =
    let e : 2 * suc n ≡ suc (suc (2 * n)) = omega arith in
    let o : suc (2 * n) ≡ 2 * n + 1 = omega arith in
    ap (λ k. sum_below V k f) e
    ∙ ap (λ k. V.plus (V.plus (sum_below V (2 * n) f) (f (2 * n))) (f k)) o
    ∙ L.plus_assoc (sum_below V (2 * n) f) (f (2 * n)) (f (2 * n + 1))
    ∙ ap (λ s. V.plus s (V.plus (f (2 * n)) (f (2 * n + 1)))) (sum_below-pairs L n f)

-- what an item counts where its bit is s
abbrev pub side : {F : Type 0} → FieldOn F → Bool → F → F
side K s x = if s then x else minus K K.one x

module _ {F : Type 0} (K : FieldOn F) (N : IsField K) where
  -- ---- weights

  weight-cons : (x : F) (p : List F) (b : ℕ) → weight K (x ∷ p) b ≡ K.times (side K (bit b 0) x) (weight K p (b / 2))
  weight-cons x p b =
      product_below-first K N (length p) (λ i. side K (bit b i) (item (itself K) (x ∷ p) i))
      ∙ ap (K.times (side K (bit b 0) x))
      (product_below-same K (length p) (λ i. side K (bit b (suc i)) (item (itself K) p i)) (λ i. side K (bit (b / 2) i) (item (itself K) p i))
      (λ i l. ap (λ s. side K s (item (itself K) p i)) (bit-suc b i)))

  pub weight-even : (x : F) (p : List F) (c : ℕ) → weight K (x ∷ p) (2 * c) ≡ K.times (minus K K.one x) (weight K p c)
  weight-even x p c =
      let e : 2 * c / 2 ≡ c = omega arith in
      weight-cons x p (2 * c) ∙ ap₂ (λ s b. K.times (side K s x) (weight K p b)) (bit-even c) e

  pub weight-odd : (x : F) (p : List F) (c : ℕ) → weight K (x ∷ p) (2 * c + 1) ≡ K.times x (weight K p c)
  weight-odd x p c =
      let e : (2 * c + 1) / 2 ≡ c = omega arith in
      weight-cons x p (2 * c + 1) ∙ ap₂ (λ s b. K.times (side K s x) (weight K p b)) (bit-odd c) e

  -- the items of one list, and those of another one
  weight-append : (p q : List F) (b : ℕ) → weight K (p ++ q) b ≡ K.times (weight K p b) (weight K q (b / 2 ^ length p))
  weight-append [] q b = let e : b ≡ b / 2 ^ 0 = omega arith in ap (weight K q) e ∙ sym (one_times K N (weight K q (b / 2 ^ 0)))
  weight-append (x ∷ p) q b =
      let e : suc (length p) ≡ 1 + length p = omega arith in
      weight-cons x (p ++ q) b
      ∙ ap (K.times (side K (bit b 0) x)) (weight-append p q (b / 2))
      ∙ sym (N.times_assoc (side K (bit b 0) x) (weight K p (b / 2)) (weight K q (b / 2 / 2 ^ length p)))
      ∙ ap₂ K.times (sym (weight-cons x p b)) (ap (weight K q) (shr-shr b 1 (length p) ∙ ap (λ n. b / 2 ^ n) (sym e)))

  -- only the low bits of a corner count
  weight-low : (p : List F) (hi lo : ℕ) → weight K p (hi * 2 ^ length p + lo) ≡ weight K p lo
  weight-low p hi lo =
      product_below-same K (length p) (λ i. side K (bit (hi * 2 ^ length p + lo) i) (item (itself K) p i)) (λ i. side K (bit lo i) (item (itself K) p i))
      (λ i l. ap (λ s. side K s (item (itself K) p i)) (bit-low (length p) i hi lo l))

  weight_one : (x : F) (b : ℕ) → weight K (x ∷ []) b ≡ side K (bit b 0) x
  weight_one x b = one_times K N (side K (bit b 0) x)

  -- one item more: the corners where it is zero, and those where it is one
  pub weight-push_low : (p : List F) (x : F) (b : ℕ) → b < 2 ^ length p → weight K (p ++ x ∷ []) b ≡ K.times (weight K p b) (minus K K.one x)
  weight-push_low p x b l =
      let e : b ≡ 0 * 2 ^ length p + b = omega arith in
      let f : b / 2 ^ length p ≡ 0 = ap (λ k. k / 2 ^ length p) e ∙ div-mul-add 0 (2 ^ length p) b l in
      weight-append p (x ∷ []) b ∙ ap (K.times (weight K p b)) (ap (weight K (x ∷ [])) f ∙ weight_one x 0)

  pub weight-push_high : (p : List F) (x : F) (c : ℕ) → c < 2 ^ length p → weight K (p ++ x ∷ []) (2 ^ length p + c) ≡ K.times (weight K p c) x
  weight-push_high p x c l =
      let e : 2 ^ length p + c ≡ 1 * 2 ^ length p + c = omega arith in
      let f : (2 ^ length p + c) / 2 ^ length p ≡ 1 = ap (λ k. k / 2 ^ length p) e ∙ div-mul-add 1 (2 ^ length p) c l in
      weight-append p (x ∷ []) (2 ^ length p + c)
      ∙ ap₂ K.times (ap (weight K p) e ∙ weight-low p 1 c) (ap (weight K (x ∷ [])) f ∙ weight_one x 1)

  -- ---- corners

  pub corner-suc : (m b : ℕ) → corner K (suc m) b ≡ (if bit b 0 then K.one else K.zero) ∷ corner K m (b / 2)
  corner-suc m b =
      tabulate-suc m (λ i. if bit b i then K.one else K.zero)
      ∙ ap (λ xs. (if bit b 0 then K.one else K.zero) ∷ xs)
      (tabulate-same m (λ i. if bit b (suc i) then K.one else K.zero) (λ i. if bit (b / 2) i then K.one else K.zero)
      (λ i l. ap (λ s. if s then K.one else K.zero) (bit-suc b i)))
