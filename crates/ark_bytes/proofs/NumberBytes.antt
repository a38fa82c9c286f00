-- Numbers and the bytes that spell them.
use Rattle.std.proofs.Common.{◌≡◌, ℕ, suc, zero, ◌+◌, ◌*◌, ◌/◌, ◌%◌, ◌^◌, ◌<◌, ◌≤◌, List, [], ◌∷◌, length, take, drop, get_or, refl, sym, ap, ◌∙◌, length-drop, arith, lit<}
use Rattle.std.proofs.lemmas.List.{get_or-drop}
use Rattle.std.proofs.Math.Nat.{pow-zero, pow-succ', div-div-eq-div-mul, pow-le-pow_right}
use Rattle.std.specs.Int.{w64, to_le_bytes, bytes_low_first, byte_at}
use Rattle.ark_math_formats.specs.Format.{little_endian, number_of}

abbrev pub AreBytes : List ℕ → Type 0
AreBytes bytes = (i : ℕ) → get_or bytes i 0 < 256

pub number_below : (bytes : List ℕ) → AreBytes bytes → number_of bytes < 256 ^ length bytes
number_below [] h = omega (arith, pow-zero 256)
number_below (b ∷ bytes) h =
    omega (arith, number_below bytes (λ i. h (suc i)), h 0, pow-succ' 256 (length bytes))

pub spelled_number : (bytes : List ℕ) → AreBytes bytes → little_endian (length bytes) (number_of bytes) ≡ bytes
spelled_number [] h = refl
spelled_number (b ∷ bytes) h =
    let low : (b + 256 * number_of bytes) % 256 ≡ b = omega (arith, h 0) in
    let high : (b + 256 * number_of bytes) / 256 ≡ number_of bytes = omega (arith, h 0) in
    ap (λ n. n ∷ little_endian (length bytes) ((b + 256 * number_of bytes) / 256)) low
    ∙ ap (λ n. b ∷ little_endian (length bytes) n) high ∙ ap (λ l. b ∷ l) (spelled_number bytes (λ i. h (suc i)))

byte_of : (i n : ℕ) → byte_at i n ≡ n / 256 ^ i % 256
byte_of zero n = ap (λ m. m % 256) (omega (arith, pow-zero 256))
byte_of (suc i) n = refl

one_more : (i n : ℕ) → n / 256 ^ suc i ≡ n / 256 ^ i / 256
one_more i n = ap (λ m. n / m) (omega (arith, pow-succ' 256 i)) ∙ sym (div-div-eq-div-mul n (256 ^ i) 256)

low_first : (k i n : ℕ) → bytes_low_first i k n ≡ little_endian k (n / 256 ^ i)
low_first zero i n = refl
low_first (suc k) i n =
    ap (λ b. b ∷ bytes_low_first (suc i) k n) (byte_of i n)
    ∙ ap (λ l. (n / 256 ^ i % 256) ∷ l) (low_first k (suc i) n ∙ ap (little_endian k) (one_more i n))

take_low : (w k i n : ℕ) → w ≤ k → take w (bytes_low_first i k n) ≡ bytes_low_first i w n
take_low zero k i n h = refl
take_low (suc w) zero i n h = absurd (omega (arith, h))
take_low (suc w) (suc k) i n h = ap (λ l. byte_at i n ∷ l) (take_low w k (suc i) n (omega (arith, h)))

pub written_number : (w n : ℕ) → w ≤ 8 → take w (to_le_bytes w64 n) ≡ little_endian w n
written_number w n h = take_low w 8 0 n h ∙ low_first w 0 n ∙ ap (little_endian w) (omega (arith, pow-zero 256))

-- so many bytes but the first fit seven
pub rest_below : (bytes : List ℕ) (i : ℕ) → AreBytes bytes → length bytes ≤ 8 → 0 < i → i ≤ length bytes → number_of (drop i bytes) < 256 ^ 7
rest_below bytes i h few positive within =
    let below = number_below (drop i bytes) (λ k. rw (get_or-drop i bytes k 0) (h (i + k))) in
    let seven : length (drop i bytes) ≤ 7 = omega (arith, length-drop i bytes) in
    let power = pow-le-pow_right {n = 256} (lit< tt) seven in
    omega (arith, below, power)
