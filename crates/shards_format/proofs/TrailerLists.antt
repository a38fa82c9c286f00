-- The parts of a trailer.
use Rattle.std.proofs.Common.{◌≡◌, ◌⊎◌, ℕ, ◌+◌, ◌<◌, ◌^◌, List, length, take, drop, arith, sym, ◌∙◌, ap, refl, inl, inr, eqb, true, false, Bool}
use Rattle.std.specs.Int.{w64, to_le_bytes, from_le_bytes}
use Rattle.std.specs.Cmp.Lexicographic.{pointwise, pointwise_decides}
use Rattle.std.proofs.lemmas.Bool.Decides.{Decides-eqb}
use Rattle.std.proofs.lemmas.List.{length-append, take_at, drop_at}
use Rattle.std.proofs.lemmas.Nat.{from_le_bytes-to_le_bytes_8}
use Rattle.sha2.specs.Sha256.{sha256}
use Rattle.sha2.proofs.Facts256.{length-sha256}
use Rattle.shards_format.specs.Files.{Collide}
use Rattle.shards_format.specs.Trailers.{listing, set_name, trailer_bytes}

-- ---- numbers of eight bytes

pub one_number : (m n : ℕ) → m < 2 ^ 62 → n < 2 ^ 62 → to_le_bytes w64 m ≡ to_le_bytes w64 n → m ≡ n
one_number m n a b same =
    sym (from_le_bytes-to_le_bytes_8 m (omega (arith, a))) ∙ ap (λ xs. from_le_bytes w64 xs) same ∙ from_le_bytes-to_le_bytes_8 n (omega (arith, b))

-- ---- listings

pub listing_len : (digests : List ℕ) (len : ℕ) → length (listing digests len) ≡ length digests + 8
listing_len digests len = length-append digests (to_le_bytes w64 len)

pub trailer_len : (digests : List ℕ) (len : ℕ) → length (trailer_bytes digests len) ≡ length digests + 40
trailer_len digests len =
    let all = length-append (listing digests len) (set_name digests len) in
    omega (arith, all, listing_len digests len, length-sha256 (listing digests len))

-- equal listings are of equal digests and lengths
pub one_listing : (digests others : List ℕ) (len other : ℕ) → len < 2 ^ 62 → other < 2 ^ 62 → listing digests len ≡ listing others other → (digests ≡ others) × (len ≡ other)
one_listing digests others len other few less same =
    let size : length digests ≡ length others =
    let lens = ap length same in omega (arith, lens, listing_len digests len, listing_len others other) in
    let first : digests ≡ others =
    sym (take_at digests (to_le_bytes w64 len) (length digests) refl) ∙ ap (take (length digests)) same ∙ take_at others (to_le_bytes w64 other) (length digests) (sym size) in
    let second : to_le_bytes w64 len ≡ to_le_bytes w64 other =
    sym (drop_at digests (to_le_bytes w64 len) (length digests) refl) ∙ ap (drop (length digests)) same ∙ drop_at others (to_le_bytes w64 other) (length digests) (sym size) in
    (first, one_number len other few less second)

-- texts with one digest are one text, or they collide
by_test : (xs ys : List ℕ) (b : Bool) → pointwise eqb xs ys ≡ b → (xs ≡ ys) ⊎ (xs ≡ ys → ⊥)
by_test xs ys true e = inl ((pointwise_decides Decides-eqb xs ys).0 e)
by_test xs ys false e = inr (λ same. let yes = (pointwise_decides Decides-eqb xs ys).1 same in cc (yes, e))

same_or_not : (xs ys : List ℕ) → (xs ≡ ys) ⊎ (xs ≡ ys → ⊥)
same_or_not xs ys = by_test xs ys (pointwise eqb xs ys) refl

pub same_text : (xs ys : List ℕ) → sha256 xs ≡ sha256 ys → (xs ≡ ys) ⊎ Collide xs ys
same_text xs ys same = elim (same_or_not xs ys) [
  | inl one ↦ inl one
  | inr differ ↦ inr (record { differ = differ; same = same })
]

pub one_set : (digests others : List ℕ) (len other : ℕ) → len < 2 ^ 62 → other < 2 ^ 62 → set_name digests len ≡ set_name others other
    → ((digests ≡ others) × (len ≡ other)) ⊎ Collide (listing digests len) (listing others other)
one_set digests others len other few less same = elim (same_text (listing digests len) (listing others other) same) [
  | inl one ↦ inl (one_listing digests others len other few less one)
  | inr collision ↦ inr collision
]
