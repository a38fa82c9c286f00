-- Numbers 2 ^ l * q ^ o, and their q parts.
use Rattle.std.proofs.Common.{◌≡◌, ℕ, zero, suc, ◌+◌, ◌*◌, ◌-◌, ◌/◌, ◌^◌, ◌<◌, sym, ◌∙◌, ap, arith}
use Rattle.std.proofs.lemmas.Nat.{div-mul-add, mul-lt}
use Rattle.std.proofs.Math.Nat.{pow-suc, pow-zero}

-- the size of a part
pub part_size : (l q o n : ℕ) → 0 < q → 0 < o → n ≡ 2 ^ l * q ^ o → n / q ≡ 2 ^ l * q ^ (o - 1)
part_size l q o n pos some e =
    let s : o ≡ suc (o - 1) = omega arith in
    let p : q ^ o ≡ q ^ (o - 1) * q = ap (λ t. q ^ t) s ∙ pow-suc q (o - 1) in
    let f : n ≡ 2 ^ l * q ^ (o - 1) * q + 0 = e ∙ (ap (λ t. 2 ^ l * t) p ∙ omega arith) in
    ap (λ t. t / q) f ∙ div-mul-add (2 ^ l * q ^ (o - 1)) q 0 pos

pub parts_whole : (l q o n : ℕ) → 0 < q → 0 < o → n ≡ 2 ^ l * q ^ o → n ≡ q * (n / q)
parts_whole l q o n pos some e =
    let s : o ≡ suc (o - 1) = omega arith in
    let p : q ^ o ≡ q ^ (o - 1) * q = ap (λ t. q ^ t) s ∙ pow-suc q (o - 1) in
    let f : n ≡ q * (2 ^ l * q ^ (o - 1)) = e ∙ (ap (λ t. 2 ^ l * t) p ∙ omega arith) in
    f ∙ ap (λ t. q * t) (sym (part_size l q o n pos some e))

pub power_positive : (q n : ℕ) → 0 < q → 0 < q ^ n
power_positive q zero pos = omega (arith, pow-zero q)
power_positive q (suc n) pos = let h = power_positive q n pos in omega (arith, pow-suc q n, mul-lt 0 0 (q ^ n) q h pos)

pub part_positive : (l q o n : ℕ) → 0 < q → 0 < o → n ≡ 2 ^ l * q ^ o → 0 < n / q
part_positive l q o n pos some e =
    let two : 0 < 2 ^ l = power_positive 2 l (omega arith) in
    let odd : 0 < q ^ (o - 1) = power_positive q (o - 1) pos in
    omega (arith, part_size l q o n pos some e, mul-lt 0 0 (2 ^ l) (q ^ (o - 1)) two odd)

-- the steps of all places, counted base by base
pub steps_of_size : (l q o size : ℕ) → 0 < q → size ≡ 2 ^ l * q ^ o → o * (size / q) ≡ o * size / q
steps_of_size l q zero size pos e =
    let a : 0 * (size / q) ≡ 0 = omega arith in
    let b : 0 * size ≡ 0 * q + 0 = omega arith in
    a ∙ sym (ap (λ t. t / q) b ∙ div-mul-add 0 q 0 pos)
steps_of_size l q (suc k) size pos e =
    let some : 0 < suc k = omega arith in
    let w : size ≡ q * (size / q) = parts_whole l q (suc k) size pos some e in
    let d : suc k * size ≡ suc k * (size / q) * q + 0 = ap (λ t. suc k * t) w ∙ (let f : suc k * (q * (size / q)) ≡ suc k * (size / q) * q + 0 = omega arith in f) in
    sym (ap (λ t. t / q) d ∙ div-mul-add (suc k * (size / q)) q 0 pos)
