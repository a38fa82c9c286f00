-- Reading an index's bits backwards, the bit-reversal permutation: bit by bit from either end, and that it is its own inverse.
use Rattle.std.proofs.Common.{◌≡◌, ℕ, zero, suc, ◌+◌, ◌-◌, ◌*◌, ◌/◌, ◌%◌, ◌^◌, ◌<◌, ◌≤◌, sym, ◌∙◌, ap, subst, ⊎_elim, refl, arith}
use Rattle.std.proofs.lemmas.Bool.{cases_lt}
use Rattle.std.proofs.lemmas.Nat.{pow_pos}
use Rattle.std.proofs.lemmas.Bool.Decides.{nat_tests}
use Rattle.ark_math_transforms.specs.BitReversal.{reversed}
use Rattle.ark_math.proofs.Numbers.PowersOfTwo.{pow_twice}

pub reversed_low : (k p : ℕ) → p < 2 ^ k → reversed (suc k) p ≡ 2 * reversed k p
reversed_low k p l = grind (arith, nat_tests)

pub reversed_high : (k p q : ℕ) → q ≡ 2 ^ k + p → reversed (suc k) q ≡ 2 * reversed k p + 1
reversed_high k p q e =
    let l : 2 ^ k ≤ q = omega arith in
    let s : q - 2 ^ k ≡ p = omega arith in
    let h : reversed (suc k) q ≡ 2 * reversed k (q - 2 ^ k) + 1 = grind (arith, nat_tests) in
    h ∙ ap (λ t. 2 * reversed k t + 1) s

pub reversed_none : (k : ℕ) → reversed k 0 ≡ 0
reversed_none zero = refl
reversed_none (suc k) = reversed_low k 0 (pow_pos k) ∙ (let h = reversed_none k in omega arith)

-- an index below 2 ^ suc k is p, or 2 ^ k + p, for a p below 2 ^ k
pub data Half (k : ℕ) : ℕ → Type 0 where
  low : (p : ℕ) → p < 2 ^ k → Half k p
  high : (p : ℕ) → p < 2 ^ k → Half k (2 ^ k + p)

pub half_of : (k q : ℕ) → q < 2 ^ suc k → Half k q
half_of k q l =
    ⊎_elim (λ a. low q a)
    (λ b.
    let p : q - 2 ^ k < 2 ^ k = omega (arith, pow_twice k) in
    let e : 2 ^ k + (q - 2 ^ k) ≡ q = omega arith in
    subst (Half k) e (high (q - 2 ^ k) p))
    (cases_lt q (2 ^ k))

below_step : (k q : ℕ) → Half k q → ((p : ℕ) → p < 2 ^ k → reversed k p < 2 ^ k) → reversed (suc k) q < 2 ^ suc k
below_step k _ (low p l) h = omega (arith, reversed_low k p l, h p l, pow_twice k)
below_step k _ (high p l) h = omega (arith, reversed_high k p (2 ^ k + p) refl, h p l, pow_twice k)

pub reversed_below : (k p : ℕ) → p < 2 ^ k → reversed k p < 2 ^ k
reversed_below zero p l = omega arith
reversed_below (suc k) q l = below_step k q (half_of k q l) (λ p b. reversed_below k p b)

even_step : (k q : ℕ) → Half k q → ((p : ℕ) → p < 2 ^ k → reversed (suc k) (2 * p) ≡ reversed k p) → reversed (suc (suc k)) (2 * q) ≡ reversed (suc k) q
even_step k _ (low p l) h =
    let b : 2 * p < 2 ^ suc k = omega (arith, pow_twice k) in
    reversed_low (suc k) (2 * p) b ∙ (ap (λ t. 2 * t) (h p l) ∙ sym (reversed_low k p l))
even_step k _ (high p l) h =
    let e : 2 * (2 ^ k + p) ≡ 2 ^ suc k + 2 * p = omega (arith, pow_twice k) in
    reversed_high (suc k) (2 * p) (2 * (2 ^ k + p)) e ∙ (ap (λ t. 2 * t + 1) (h p l) ∙ sym (reversed_high k p (2 ^ k + p) refl))

pub reversed_even : (k p : ℕ) → p < 2 ^ k → reversed (suc k) (2 * p) ≡ reversed k p
reversed_even zero p l =
    let b : 2 * p < 2 ^ 0 = omega arith in
    reversed_low 0 (2 * p) b
reversed_even (suc k) q l = even_step k q (half_of k q l) (λ p b. reversed_even k p b)

odd_step : (k q : ℕ) → Half k q → ((p : ℕ) → p < 2 ^ k → reversed (suc k) (2 * p + 1) ≡ 2 ^ k + reversed k p) → reversed (suc (suc k)) (2 * q + 1) ≡ 2 ^ suc k + reversed (suc k) q
odd_step k _ (low p l) h =
    let b : 2 * p + 1 < 2 ^ suc k = omega (arith, pow_twice k) in
    omega (arith, reversed_low (suc k) (2 * p + 1) b, h p l, reversed_low k p l, pow_twice k)
odd_step k _ (high p l) h =
    let e : 2 * (2 ^ k + p) + 1 ≡ 2 ^ suc k + (2 * p + 1) = omega (arith, pow_twice k) in
    omega (arith, reversed_high (suc k) (2 * p + 1) (2 * (2 ^ k + p) + 1) e, h p l, reversed_high k p (2 ^ k + p) refl, pow_twice k)

pub reversed_odd : (k p : ℕ) → p < 2 ^ k → reversed (suc k) (2 * p + 1) ≡ 2 ^ k + reversed k p
reversed_odd zero p l =
    let e : 2 * p + 1 ≡ 2 ^ 0 + 0 = omega arith in
    omega (arith, reversed_high 0 0 (2 * p + 1) e)
reversed_odd (suc k) q l = odd_step k q (half_of k q l) (λ p b. reversed_odd k p b)

twice_step : (k q : ℕ) → Half k q → ((p : ℕ) → p < 2 ^ k → reversed k (reversed k p) ≡ p) → reversed (suc k) (reversed (suc k) q) ≡ q
twice_step k _ (low p l) h =
    ap (reversed (suc k)) (reversed_low k p l)
    ∙ (reversed_even k (reversed k p) (reversed_below k p l) ∙ h p l)
twice_step k _ (high p l) h =
    ap (reversed (suc k)) (reversed_high k p (2 ^ k + p) refl)
    ∙ (reversed_odd k (reversed k p) (reversed_below k p l) ∙ ap (λ t. 2 ^ k + t) (h p l))

-- a second reversal undoes the first
pub reversed_twice : (k p : ℕ) → p < 2 ^ k → reversed k (reversed k p) ≡ p
reversed_twice zero p l = omega arith
reversed_twice (suc k) q l = twice_step k q (half_of k q l) (λ p b. reversed_twice k p b)

-- the lowest bit becomes the highest
pub reversed_lowest : (k q : ℕ) → q < 2 ^ suc k → reversed (suc k) q ≡ q % 2 * 2 ^ k + reversed k (q / 2)
reversed_lowest k q l =
    let b : q / 2 < 2 ^ k = omega (arith, pow_twice k) in
    ⊎_elim
    (λ (z : q % 2 < 1).
    let e : q ≡ 2 * (q / 2) = omega arith in
    let r : q % 2 ≡ 0 = omega arith in
    ap (reversed (suc k)) e ∙ (reversed_even k (q / 2) b ∙ rw r (omega arith)))
    (λ (o : 1 ≤ q % 2).
    let e : q ≡ 2 * (q / 2) + 1 = omega arith in
    let r : q % 2 ≡ 1 = omega arith in
    ap (reversed (suc k)) e ∙ (reversed_odd k (q / 2) b ∙ rw r (omega arith)))
    (cases_lt (q % 2) 1)
