-- What the words of a modulus tell.
use Rattle.std.proofs.Common.{◌≡◌, ℕ, ◌+◌, ◌*◌, ◌/◌, ◌%◌, ◌<◌, ◌^◌, Option, arith, sym, ap, subst, ◌∙◌, inl, inr, mul_assoc}
use Rattle.std.proofs.lemmas.Bool.{cases_eq}
use Rattle.std.proofs.Math.Nat.{mod-add-mod}
use Rattle.std.proofs.lemmas.Nat.{mul-mod_first}
use Rattle.ark_math.specs.Root.{Adicity}
use Rattle.ark_prime256.specs.Modulus256.{IsModulus256}
use Rattle.ark_prime256.specs.Words.{integer, IsMontgomery}
use Rattle.ark_prime256.specs.WordsLaws.{integer_of_words}
use Rattle.ark_prime256.specs.declared.words.BigInteger256.{BigInteger256}

even_leaves_one : (k i p : ℕ) → p ≡ 2 * k → (p * i) % 2 ≡ 0
even_leaves_one k i p e =
    let f : p * i ≡ 2 * (k * i) = ap (λ y. y * i) e ∙ mul_assoc 2 k i in
    omega (arith, f)

pub odd_by_inverse : (p i : ℕ) → (p * i + 1) % 18446744073709551616 ≡ 0 → p % 2 ≡ 1
odd_by_inverse p i e =
    elim (cases_eq (p % 2) 1) [
      | inl odd ↦ odd
      | inr ne ↦
          let half : p ≡ 2 * (p / 2) = omega arith in
          let even = even_leaves_one (p / 2) i p half in
          absurd (omega (arith, e, even))
    ]

low_inverse : (p i : ℕ) → (p * i + 1) % 18446744073709551616 ≡ 0 → (p % 18446744073709551616 * i + 1) % 18446744073709551616 ≡ 0
low_inverse p i e =
    sym (mod-add-mod (p % 18446744073709551616 * i) 18446744073709551616 1)
    ∙ ap (λ y. (y + 1) % 18446744073709551616) (mul-mod_first p i 18446744073709551616)
    ∙ mod-add-mod (p * i) 18446744073709551616 1
    ∙ e

module _ {p : ℕ} {s : Adicity} {g two_adic : ℕ} {large : Option ℕ} {greatest : ℕ} {modulus : BigInteger256} {negated_inverse : ℕ}
    {r r_squared generator two_adic_root : BigInteger256} {large_root : Option BigInteger256}
    (S : IsModulus256 p s g two_adic large greatest modulus negated_inverse r r_squared generator two_adic_root large_root) where
  pub integer_of_modulus : integer modulus ≡ p
  integer_of_modulus = ap integer S.words.modulus_is ∙ integer_of_words p

  pub integer_of_r : integer r ≡ 2 ^ 256 % p
  integer_of_r = ap integer S.words.r_is ∙ integer_of_words (2 ^ 256 % p)

  pub integer_of_r_squared : integer r_squared ≡ (2 ^ 256 * 2 ^ 256) % p
  integer_of_r_squared = ap integer S.words.r_squared_is ∙ integer_of_words ((2 ^ 256 * 2 ^ 256) % p)

  pub is_odd : p % 2 ≡ 1
  is_odd = odd_by_inverse p negated_inverse S.words.inverse_is

  pub montgomery : IsMontgomery modulus negated_inverse
  montgomery = record {
    above_one = subst (λ v. 1 < v) (sym integer_of_modulus) S.numbers.prime.above_one;
    small = subst (λ v. v < 2 ^ 255) (sym integer_of_modulus) S.numbers.small;
    inverse = ap (λ w. (w.w0 * negated_inverse + 1) % 2 ^ 64) S.words.modulus_is ∙ low_inverse p negated_inverse S.words.inverse_is;
  }
