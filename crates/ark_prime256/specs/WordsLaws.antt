-- Four words are one number below 2 ^ 256, and the other way round.
use Rattle.std.proofs.Common.{◌≡◌, ℕ, ◌+◌, ◌*◌, ◌/◌, ◌%◌, ◌<◌, ◌^◌, arith, mod-lt, lit<}
use Rattle.std.proofs.Math.Nat.{mod-add-div}
use Rattle.ark_prime256.specs.Words.{integer, AreWords, words_of}
use Rattle.ark_prime256.specs.declared.words.BigInteger256.{BigInteger256}

low_same : (a b m n : ℕ) → a < 18446744073709551616 → b < 18446744073709551616 →
    a + 18446744073709551616 * m ≡ b + 18446744073709551616 * n → a ≡ b
low_same a b m n la lb e = omega (arith, la, lb, e)

high_same : (a b m n : ℕ) → a < 18446744073709551616 → b < 18446744073709551616 →
    a + 18446744073709551616 * m ≡ b + 18446744073709551616 * n → m ≡ n
high_same a b m n la lb e = omega (arith, la, lb, e)

pub same_words : (a b : BigInteger256) → AreWords a → AreWords b → integer a ≡ integer b → a ≡ b
same_words a b f g e =
    let nested : a.w0 + 18446744073709551616 * (a.w1 + 18446744073709551616 * (a.w2 + 18446744073709551616 * a.w3))
    ≡ b.w0 + 18446744073709551616 * (b.w1 + 18446744073709551616 * (b.w2 + 18446744073709551616 * b.w3)) =
    omega (arith, e) in
    let rest = high_same a.w0 b.w0 _ _ f.w0 g.w0 nested in
    let top = high_same a.w1 b.w1 _ _ f.w1 g.w1 rest in
    let s0 = low_same a.w0 b.w0 _ _ f.w0 g.w0 nested in
    let s1 = low_same a.w1 b.w1 _ _ f.w1 g.w1 rest in
    let s2 = low_same a.w2 b.w2 _ _ f.w2 g.w2 top in
    let s3 = high_same a.w2 b.w2 _ _ f.w2 g.w2 top in
    λ i. record { w0 = s0 i; w1 = s1 i; w2 = s2 i; w3 = s3 i }

joined : (v a q b r c s : ℕ) → a + 18446744073709551616 * q ≡ v → b + 18446744073709551616 * r ≡ q →
    c + 18446744073709551616 * s ≡ r → a + 2 ^ 64 * b + 2 ^ 128 * c + 2 ^ 192 * s ≡ v
joined v a q b r c s e f g = omega (arith, e, f, g)

pub integer_of_words : (v : ℕ) → integer (words_of v) ≡ v
integer_of_words v =
    let q = v / 18446744073709551616 in
    let r = q / 18446744073709551616 in
    joined v (v % 18446744073709551616) q (q % 18446744073709551616) r (r % 18446744073709551616)
    (r / 18446744073709551616) (mod-add-div v 18446744073709551616) (mod-add-div q 18446744073709551616)
    (mod-add-div r 18446744073709551616)

last_fits : (v q r s a b c : ℕ) → a + 18446744073709551616 * q ≡ v → b + 18446744073709551616 * r ≡ q →
    c + 18446744073709551616 * s ≡ r → v < 2 ^ 256 → s < 2 ^ 64
last_fits v q r s a b c e f g h = omega (arith, e, f, g, h)

pub are_words_of : (v : ℕ) → v < 2 ^ 256 → AreWords (words_of v)
are_words_of v h =
    let q = v / 18446744073709551616 in
    let r = q / 18446744073709551616 in
    record {
      w0 = mod-lt v (lit< tt);
      w1 = mod-lt q (lit< tt);
      w2 = mod-lt r (lit< tt);
      w3 = last_fits v q r (r / 18446744073709551616) (v % 18446744073709551616) (q % 18446744073709551616)
          (r % 18446744073709551616) (mod-add-div v 18446744073709551616) (mod-add-div q 18446744073709551616)
          (mod-add-div r 18446744073709551616) h;
    }
