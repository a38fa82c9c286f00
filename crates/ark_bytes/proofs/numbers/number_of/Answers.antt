use Rattle.std.proofs.Common.{◌≡◌, ℕ, ◌-◌, ◌≤◌, List, length, drop, ap, ◌∙◌, zero, suc, arith}
use Rattle.ark_math_formats.specs.Format.{number_of, little_endian}
use Rattle.ark_bytes.proofs.NumberBytes.{rest_below, number_below, spelled_number}
use Rattle.ark_bytes.proofs.numbers.number_of.Goals as goal

whole : (bytes : List ℕ) (i value : ℕ) → i ≤ 0 → value ≡ number_of (drop i bytes) → value ≡ number_of bytes
whole bytes zero value h e = e
whole bytes (suc i) value h e = absurd (omega (arith, h))

pub overflow_mul-value : goal.overflow_mul-value
overflow_mul-value c =
    let small = rest_below c.args.bytes.now c.loop-i.i (λ k. omega (arith, c.type_inv.bytes k)) c.requires c.loop-i-test.true c.loop-i.invariant.within in
    omega (arith, small, c.loop-i.invariant.value)

pub overflow_add-value : goal.overflow_add-value
overflow_add-value c =
    let small = rest_below c.args.bytes.now c.loop-i.i (λ k. omega (arith, c.type_inv.bytes k)) c.requires c.loop-i-test.true c.loop-i.invariant.within in
    omega (arith, small, c.loop-i.invariant.value, c.type_inv.bytes (c.loop-i.i - 1))

pub returns-clause-spelled : goal.returns-clause-spelled
returns-clause-spelled c =
    ap (little_endian (length c.args.bytes.now)) (whole c.args.bytes.now c.loop-i.i c.loop-i.value c.loop-i-test.false c.loop-i.invariant.value)
    ∙ spelled_number c.args.bytes.now (λ k. omega (arith, c.type_inv.bytes k))

pub returns-clause-below : goal.returns-clause-below
returns-clause-below c =
    let same = whole c.args.bytes.now c.loop-i.i c.loop-i.value c.loop-i-test.false c.loop-i.invariant.value in
    omega (arith, same, number_below c.args.bytes.now (λ k. omega (arith, c.type_inv.bytes k)))
