-- Four words in bytes: as pairs of words, and as one number of 32 bytes.
use Rattle.std.proofs.Common.{◌≡◌, ℕ, zero, suc, ◌+◌, ◌*◌, ◌/◌, ◌%◌, ◌^◌, ◌<◌, List, ◌∷◌, ◌++◌, ◌⊎◌, Result, Ok, Err, arith, inl, inr, sym, ap, subst, ◌∙◌, pow-suc}
use Rattle.std.proofs.Math.Nat.{pow-zero}
use Rattle.std.specs.Io.KnownBytes.{Appends}
use Rattle.ark_math_formats.specs.Format.{Format, IsSpelled, IsUnfinished, little_endian, number, word, ◌⊗◌}
use Rattle.ark_bytes.specs.Reading.{SourceState, Takes, TakesSpelling, Refuses}
use Rattle.ark_bytes.specs.Writing.{SinkState, Writes, Stops}
use Rattle.ark_bytes.specs.declared.error.SerializationError.{SerializationError}
use Rattle.ark_bytes.specs.declared.error.SerializationError.TheVariants.{IoError, InvalidData, Memory}
use Rattle.ark_prime256.specs.Words.{integer, AreWords, words_of}
use Rattle.ark_prime256.specs.WordsLaws.{integer_of_words, are_words_of}
use Rattle.ark_prime256.specs.declared.words.BigInteger256.{BigInteger256}

-- the words as nested pairs
abbrev pub Pairs : Type 0
Pairs = ℕ × (ℕ × (ℕ × ℕ))

abbrev pub pairs : Format Pairs
pairs = word ⊗ (word ⊗ (word ⊗ word))

abbrev pub paired : BigInteger256 → Pairs
paired w = (w.w0, (w.w1, (w.w2, w.w3)))

-- ---- the same bytes

low_byte : (w m q : ℕ) → (w + (256 * m) * q) % 256 ≡ w % 256
low_byte w m q = omega arith

rest_bytes : (w m q : ℕ) → (w + (256 * m) * q) / 256 ≡ w / 256 + m * q
rest_bytes w m q = omega arith

-- the bytes of a number below 256 ^ m, and then those of another
pub joined_bytes : (m k w q : ℕ) → w < 256 ^ m → little_endian (m + k) (w + 256 ^ m * q) ≡ little_endian m w ++ little_endian k q
joined_bytes zero k w q h =
    let one : 256 ^ 0 ≡ 1 = pow-zero 256 in
    let none : w + 256 ^ 0 * q ≡ q = ap (λ p. w + p * q) one ∙ omega (arith, h, one) in
    let width : 0 + k ≡ k = omega arith in
    ap (λ n. little_endian n (w + 256 ^ 0 * q)) width ∙ ap (little_endian k) none
joined_bytes (suc m) k w q h =
    let power : 256 ^ suc m ≡ 256 * 256 ^ m = pow-suc 256 m ∙ omega arith in
    let width : suc m + k ≡ suc (m + k) = omega arith in
    let whole : w + 256 ^ suc m * q ≡ w + (256 * 256 ^ m) * q = ap (λ p. w + p * q) power in
    let below : w / 256 < 256 ^ m = omega (arith, h, power) in
    ap (λ n. little_endian n (w + 256 ^ suc m * q)) width
    ∙ ap (little_endian (suc (m + k))) whole
    ∙ ap (λ b. b ∷ little_endian (m + k) ((w + (256 * 256 ^ m) * q) / 256)) (low_byte w (256 ^ m) q)
    ∙ ap (λ n. w % 256 ∷ little_endian (m + k) n) (rest_bytes w (256 ^ m) q)
    ∙ ap (λ l. w % 256 ∷ l) (joined_bytes m k (w / 256) q below)

nested : (w : BigInteger256) → integer w ≡ w.w0 + 18446744073709551616 * (w.w1 + 18446744073709551616 * (w.w2 + 18446744073709551616 * w.w3))
nested w = omega arith

pub same_bytes : (w : BigInteger256) → AreWords w → pairs.spelling (paired w) ≡ little_endian 32 (integer w)
same_bytes w h =
    let high = joined_bytes 8 8 w.w2 w.w3 h.w2 in
    let middle = joined_bytes 8 16 w.w1 (w.w2 + 18446744073709551616 * w.w3) h.w1 in
    let all = joined_bytes 8 24 w.w0 (w.w1 + 18446744073709551616 * (w.w2 + 18446744073709551616 * w.w3)) h.w0 in
    sym (ap (little_endian 32) (nested w) ∙ all ∙ ap (λ l. little_endian 8 w.w0 ++ l) (middle ∙ ap (λ l. little_endian 8 w.w1 ++ l) high))

pub integer_fits : (w : BigInteger256) → AreWords w → integer w < 256 ^ 32
integer_fits w h = omega (arith, h.w0, h.w1, h.w2, h.w3)

-- ---- writing

pub written_as_number : {A : Type 0} (a b : SinkState) (w : BigInteger256) (r : Result A SerializationError) → AreWords w →
    Writes pairs (paired w) a b r → Writes (number 32) (integer w) a b r
written_as_number a b w (Ok u) h p = record {
  has = integer_fits w h;
  puts = record {
    appends = subst (λ l. Appends a.contents b.contents l) (same_bytes w h) p.puts.appends;
    failures = p.puts.failures;
  };
}
written_as_number a b w (Err e) h p = subst (λ l. Stops l a b e) (same_bytes w h) p

-- ---- reading

words_have : (w : BigInteger256) → AreWords w → pairs.HasSpelling (paired w)
words_have w h = (h.w0, (h.w1, (h.w2, h.w3)))

-- a spelling of a number is one of its words
as_pairs : (bytes : List ℕ) → IsSpelled (number 32) bytes → IsSpelled pairs bytes
as_pairs bytes s =
    let w = words_of s.value in
    let h = are_words_of s.value s.has in
    record {
      value = paired w;
      has = words_have w h;
      is = s.is ∙ ap (little_endian 32) (sym (integer_of_words s.value)) ∙ sym (same_bytes w h);
    }

unfinished_number : (bytes : List ℕ) → IsUnfinished pairs bytes → IsUnfinished (number 32) bytes
unfinished_number bytes u front rest e (inl s) = u front rest e (inl (as_pairs front s))
unfinished_number bytes u front rest e (inr f) = absurd f

pub read_as_number : (a b : SourceState) (w : BigInteger256) → TakesSpelling pairs a b (paired w) → TakesSpelling (number 32) a b (integer w)
read_as_number a b w t =
    let h : AreWords w = record { w0 = t.has.0; w1 = t.has.1.0; w2 = t.has.1.1.0; w3 = t.has.1.1.1 } in
    record { has = integer_fits w h; takes = subst (Takes a b) (same_bytes w h) t.takes }

no_fault : (bytes : List ℕ) → pairs.IsFault bytes → ⊥
no_fault bytes (inl f) = f
no_fault bytes (inr l) = elim l.faulty [
  | inl f ↦ f
  | inr m ↦ elim m.faulty [ inl f ↦ f | inr n ↦ n.faulty ]
]

pub refused_as_number : {M : Type 0} (a b : SourceState) (e : SerializationError) → (M → ⊥) → Refuses pairs M a b e → Refuses (number 32) ⊥ a b e
refused_as_number a b IoError none r = record {
  taken = r.taken;
  consumes = r.consumes;
  unfinished = unfinished_number r.taken r.unfinished;
  stopped = r.stopped;
}
refused_as_number a b InvalidData none r = absurd (no_fault r.taken r.fault)
refused_as_number a b Memory none r = none r

-- reading words takes no memory
pub no_memory : ⊥ ⊎ (⊥ ⊎ (⊥ ⊎ ⊥)) → ⊥
no_memory (inl m) = m
no_memory (inr (inl m)) = m
no_memory (inr (inr (inl m))) = m
no_memory (inr (inr (inr m))) = m
