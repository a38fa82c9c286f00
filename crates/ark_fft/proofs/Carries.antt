-- One more than an index whose bits are read backwards: the ones before its first zero are carried.
use Rattle.std.proofs.Common.{◌≡◌, ℕ, zero, suc, ◌+◌, ◌-◌, ◌*◌, ◌/◌, ◌%◌, ◌^◌, ◌<◌, ◌≤◌, ◌∙◌, ap, ⊎_elim, arith}
use Rattle.std.proofs.lemmas.Bool.{cases_lt}
use Rattle.ark_math_transforms.specs.BitReversal.{reversed}
use Rattle.ark_math_transforms.proofs.Numbers.BitReversal.{reversed_below, reversed_even, reversed_odd}
use Rattle.ark_math.proofs.Numbers.PowersOfTwo.{pow_twice}

-- what is left to find reversed n (i + 1) from, and the bit that a one is added to
pub record IsCarried (n i left bit : ℕ) : Type 0 where
  pub k : ℕ
  pub p : ℕ
  pub fits : p + 1 < 2 ^ suc k
  pub bit_is : bit ≡ 2 ^ k
  pub left_is : left ≡ reversed (suc k) p
  pub same : reversed n (i + 1) ≡ reversed (suc k) (p + 1)

more : (n i left bit k p : ℕ) → p + 1 < 2 ^ k → bit ≡ 2 ^ k → left ≡ 2 ^ k + reversed k p → reversed n (i + 1) ≡ reversed k (p + 1) → IsCarried n i (left - bit) (bit / 2)
more n i left bit zero p h b l s = absurd (omega arith)
more n i left bit (suc k) p h b l s =
    record { k = k; p = p; fits = h; bit_is = omega (arith, pow_twice k); left_is = omega arith; same = s }

-- an even index has no highest bit when it is read backwards, and an odd one has
even_left : (k p : ℕ) → p + 1 < 2 ^ suc k → p % 2 < 1 → reversed (suc k) p ≡ reversed k (p / 2)
even_left k p h z =
    let e : p ≡ 2 * (p / 2) = omega arith in
    ap (reversed (suc k)) e ∙ reversed_even k (p / 2) (omega (arith, pow_twice k))

odd_left : (k p : ℕ) → p + 1 < 2 ^ suc k → 1 ≤ p % 2 → reversed (suc k) p ≡ 2 ^ k + reversed k (p / 2)
odd_left k p h o =
    let e : p ≡ 2 * (p / 2) + 1 = omega arith in
    ap (reversed (suc k)) e ∙ reversed_odd k (p / 2) (omega (arith, pow_twice k))

pub carried_more : (n i left bit : ℕ) → IsCarried n i left bit → bit ≤ left → IsCarried n i (left - bit) (bit / 2)
carried_more n i left bit c above =
    let k = c.k in
    let p = c.p in
    let h : p + 1 < 2 ^ suc k = c.fits in
    ⊎_elim
    (λ (z : p % 2 < 1).
    let b : p / 2 < 2 ^ k = omega (arith, pow_twice k) in
    absurd (omega (arith, c.bit_is, c.left_is, even_left k p h z, reversed_below k (p / 2) b, above)))
    (λ (o : 1 ≤ p % 2).
    let e : p + 1 ≡ 2 * (p / 2 + 1) = omega arith in
    let b : p / 2 + 1 < 2 ^ k = omega (arith, pow_twice k) in
    more n i left bit k (p / 2) b c.bit_is (c.left_is ∙ odd_left k p h o)
    (c.same ∙ ap (reversed (suc k)) e ∙ reversed_even k (p / 2 + 1) b))
    (cases_lt (p % 2) 1)

pub carried_last : (n i left bit : ℕ) → IsCarried n i left bit → left < bit → left + bit ≡ reversed n (i + 1)
carried_last n i left bit c below =
    let k = c.k in
    let p = c.p in
    let h : p + 1 < 2 ^ suc k = c.fits in
    ⊎_elim
    (λ (z : p % 2 < 1).
    let e : p + 1 ≡ 2 * (p / 2) + 1 = omega arith in
    let b : p / 2 < 2 ^ k = omega (arith, pow_twice k) in
    let l : left ≡ reversed k (p / 2) = c.left_is ∙ even_left k p h z in
    let r : reversed n (i + 1) ≡ 2 ^ k + reversed k (p / 2) = c.same ∙ ap (reversed (suc k)) e ∙ reversed_odd k (p / 2) b in
    omega (arith, l, r, c.bit_is))
    (λ (o : 1 ≤ p % 2). absurd (omega (arith, c.bit_is, c.left_is, odd_left k p h o, below)))
    (cases_lt (p % 2) 1)
