-- What the constants of a field on words of 32 bits show.
use Rattle.std.proofs.Common.{◌≡◌, ℕ, ◌*◌, ◌/◌, ◌%◌, ◌<◌, ◌^◌, Option, arith, ap, ◌∙◌, inl, inr, mul_assoc, lt_trans, lit<}
use Rattle.std.proofs.lemmas.Bool.{cases_eq}
use Rattle.ark_math.specs.Root.{Adicity}
use Rattle.ark_base.specs.Modulus32.{IsModulus32}

even_leaves_one : (k i p : ℕ) → p ≡ 2 * k → (p * i) % 2 ≡ 0
even_leaves_one k i p e =
    let f : p * i ≡ 2 * (k * i) = ap (λ y. y * i) e ∙ mul_assoc 2 k i in
    omega (arith, f)

pub small_word : {p : ℕ} {s : Adicity} {g two_adic : ℕ} {large : Option ℕ} {greatest i : ℕ} → IsModulus32 p s g two_adic large greatest i → p < 2 ^ 64
small_word S = lt_trans S.numbers.small (lit< tt)

pub is_odd : {p : ℕ} {s : Adicity} {g two_adic : ℕ} {large : Option ℕ} {greatest i : ℕ} → IsModulus32 p s g two_adic large greatest i → p % 2 ≡ 1
is_odd {p = p} {i = i} S =
    let e = S.inverse in
    elim (cases_eq (p % 2) 1) [
      | inl odd ↦ odd
      | inr ne ↦
          let half : p ≡ 2 * (p / 2) = omega arith in
          let even = even_leaves_one (p / 2) i p half in
          absurd (omega (arith, e, even))
    ]
