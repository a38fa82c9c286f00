-- An element that is drawn: the residue of eight words.
use Rattle.std.proofs.Common.{◌≡◌, ℕ, ◌+◌, ◌*◌, ◌%◌, ◌^◌, arith, sym, ap, ◌∙◌, mul_comm}
use Rattle.std.proofs.Math.Nat.{add-mod}
use Rattle.std.proofs.lemmas.Nat.{mul-mod_first, mul-mod_second}
use Rattle.rand_core.specs.Stream.{Stream}
use Rattle.rand.specs.Draw.{Gives, draw_map}
use Rattle.ark_prime256.specs.Words.{integer}
use Rattle.ark_prime256.specs.Draws.{next_words}
use Rattle.ark_prime256.specs.Modulus256Laws.{integer_of_r}
use Rattle.ark_base.specs.ResiduesLaws.{number_of_residue}
use Rattle.ark_prime256.specs.Element.{Shown, number, numbering, field_of}
use Rattle.ark_prime256.specs.declared.words.BigInteger256.{BigInteger256}
use Rattle.ark_prime256.specs.declared.prime_field.PrimeField256.{PrimeField256}
use Rattle.ark_prime256.specs.declared.prime_field.PrimeModulus256.{Ghosts}

-- eight words are four, and four after them
eight_words : (s : Stream) → (next_words 4 s).0 + 2 ^ 256 * (next_words 4 (next_words 4 s).1).0 ≡ (next_words 8 s).0
eight_words s = omega arith

two_draws : (s t u : Stream) (low high : ℕ) → Gives (next_words 4) s low t → Gives (next_words 4) t high u → Gives (next_words 8) s (low + 2 ^ 256 * high) u
two_draws s t u low high e f =
    let rest : t ≡ (next_words 4 s).1 = ap (λ p. p.1) e in
    let first : low ≡ (next_words 4 s).0 = ap (λ p. p.0) e in
    let second : high ≡ (next_words 4 (next_words 4 s).1).0 = ap (λ p. p.0) f ∙ ap (λ v. (next_words 4 v).0) rest in
    let number_is : low + 2 ^ 256 * high ≡ (next_words 8 s).0 = ap (λ n. n + 2 ^ 256 * high) first ∙ ap (λ n. (next_words 4 s).0 + 2 ^ 256 * n) second ∙ eight_words s in
    let rest_is : u ≡ (next_words 8 s).1 = ap (λ p. p.1) f ∙ ap (λ v. (next_words 4 v).1) rest in
    λ i. (number_is i, rest_is i)

shifted : (p low high s : ℕ) → s ≡ 2 ^ 256 % p → (low % p + (high % p * (s % p)) % p) % p ≡ (low + 2 ^ 256 * high) % p
shifted p low high s e =
    let high_is : (high % p * (s % p)) % p ≡ (2 ^ 256 * high) % p =
    mul-mod_first high (s % p) p ∙ mul-mod_second high s p ∙ ap (λ y. (high * y) % p) e ∙ mul-mod_second high (2 ^ 256) p ∙ ap (λ y. y % p) (mul_comm high (2 ^ 256)) in
    ap (λ y. (low % p + y) % p) high_is ∙ sym (add-mod low (2 ^ 256 * high) p)

pub drawn_element : {M : Type 0} {g : Ghosts M} (S : Shown g) (s t u : Stream) (low high r : BigInteger256) (x y z product sum : PrimeField256 M g) →
    Gives (next_words 4) s (integer low) t → Gives (next_words 4) t (integer high) u → r ≡ g.R →
    number x ≡ integer low % g.MODULUS → number y ≡ integer high % g.MODULUS → number z ≡ integer r % g.MODULUS →
    product ≡ (field_of {M = M} {g = g} S).times y z → sum ≡ (field_of {M = M} {g = g} S).plus x product →
    Gives (draw_map (λ v. v % g.MODULUS) (next_words 8)) s (number sum) u
drawn_element {M} {g} S s t u low high r x y z product sum d e is_r is_x is_y is_z is_product is_sum =
    let p = g.MODULUS in
    let N = numbering {M = M} {g = g} S in
    let P = S.numbers.prime in
    let both = two_draws s t u (integer low) (integer high) d e in
    let product_is : number product ≡ (integer high % p * (integer r % p)) % p =
    ap number is_product ∙ number_of_residue N P (number y * number z) ∙ ap (λ v. (v * number z) % p) is_y ∙ ap (λ v. (integer high % p * v) % p) is_z in
    let sum_is : number sum ≡ (integer low + 2 ^ 256 * integer high) % p =
    ap number is_sum ∙ number_of_residue N P (number x + number product) ∙ ap (λ v. (v + number product) % p) is_x
    ∙ ap (λ v. (integer low % p + v) % p) product_is ∙ shifted p (integer low) (integer high) (integer r) (ap integer is_r ∙ integer_of_r S) in
    let number_is : number sum ≡ (next_words 8 s).0 % p = sum_is ∙ ap (λ pair. pair.0 % p) both in
    let rest_is : u ≡ (next_words 8 s).1 = ap (λ pair. pair.1) both in
    λ i. (number_is i, rest_is i)
