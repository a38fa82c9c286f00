-- Numbers of four words, the low word first, and what Montgomery's rows leave.
use Rattle.std.specs.Prelude.{◌≡◌, ℕ, ◌+◌, ◌*◌, ◌/◌, ◌%◌, ◌<◌, ◌^◌}
use Rattle.ark_prime256.specs.declared.words.BigInteger256.{BigInteger256}

-- the number that the words spell
abbrev pub integer : BigInteger256 → ℕ
integer w = w.w0 + 2 ^ 64 * w.w1 + 2 ^ 128 * w.w2 + 2 ^ 192 * w.w3

-- each word is one. In the logic a word may be any number, so a type that is told by its words has to say so
pub record AreWords (w : BigInteger256) : Type 0 where
  pub w0 : w.w0 < 2 ^ 64
  pub w1 : w.w1 < 2 ^ 64
  pub w2 : w.w2 < 2 ^ 64
  pub w3 : w.w3 < 2 ^ 64

-- the words of a number
abbrev pub words_of : ℕ → BigInteger256
words_of v = record {
  w0 = v % 18446744073709551616;
  w1 = v / 18446744073709551616 % 18446744073709551616;
  w2 = v / 18446744073709551616 / 18446744073709551616 % 18446744073709551616;
  w3 = v / 18446744073709551616 / 18446744073709551616 / 18446744073709551616;
}

-- a number p above one and below 2 ^ 255, and i, of which p's low word times leaves minus one
pub record IsMontgomery (p : BigInteger256) (i : ℕ) : Type 0 where
  pub above_one : 1 < integer p
  pub small : integer p < 2 ^ 255
  pub inverse : (p.w0 * i + 1) % 2 ^ 64 ≡ 0

-- r is the sum of t and some times p, without its low word, which is zero
pub record IsReduced (t p r : ℕ) : Type 0 where
  pub times : ℕ
  pub few : times < 2 ^ 64
  pub whole : 2 ^ 64 * r ≡ t + times * p
