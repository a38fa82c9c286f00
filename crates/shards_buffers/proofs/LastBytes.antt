-- What lists begin and end with, and the length of a file in a trailer.
use Rattle.std.proofs.Common.{◌≡◌, ℕ, ◌<◌, ◌≤◌, ◌^◌, List, ◌++◌, length, take, drop, arith, sym, ◌∙◌, ap, ap₂, refl, length-append, length-take-le, append_assoc}
use Rattle.std.specs.Int.{w64, to_le_bytes, from_le_bytes}
use Rattle.std.proofs.lemmas.List.{take_at, drop_at, take-append-drop}
use Rattle.std.proofs.lemmas.Nat.{from_le_bytes-to_le_bytes_8}
use Rattle.sha2.proofs.Facts256.{length-sha256}
use Rattle.shards_format.specs.Trailers.{listing, set_name, trailer_bytes}

pub both_parts : (n : ℕ) (bytes front back : List ℕ) → front ≡ take n bytes → back ≡ drop n bytes → bytes ≡ front ++ back
both_parts n bytes front back first second = sym (take-append-drop n bytes) ∙ ap₂ (λ (xs ys : List ℕ). xs ++ ys) (sym first) (sym second)

module _ (a b x y : List ℕ) (same : a ++ x ≡ b ++ y) where
  -- of equal lists the beginnings of one length are equal
  pub same_starts : length a ≡ length b → (a ≡ b) × (x ≡ y)
  same_starts len = (
    sym (take_at a x (length a) refl) ∙ ap (take (length a)) same ∙ take_at b y (length a) (sym len),
    sym (drop_at a x (length a) refl) ∙ ap (drop (length a)) same ∙ drop_at b y (length a) (sym len),
  )

  -- and so are the ends
  pub same_ends : length x ≡ length y → (a ≡ b) × (x ≡ y)
  same_ends size = same_starts (omega (arith, ap length same, length-append a x, length-append b y, size))

-- a list that begins as another one does, and is no shorter, begins with it
pub front_of : (head xs behind rest : List ℕ) → length head ≤ length xs → xs ++ behind ≡ head ++ rest → xs ≡ head ++ drop (length head) xs
front_of head xs behind rest long same =
    let n = length head in
    let parts : take n xs ++ (drop n xs ++ behind) ≡ head ++ rest =
    sym (append_assoc (take n xs) (drop n xs) behind) ∙ ap (λ ys. ys ++ behind) (take-append-drop n xs) ∙ same in
    sym (take-append-drop n xs) ∙ ap (λ ys. ys ++ drop n xs) (same_starts (take n xs) head (drop n xs ++ behind) rest parts (length-take-le n xs long)).0

-- the length that eight bytes spell, forty before the end, is the one of the trailer
pub one_length : (pieces before end number name front digests : List ℕ) (len m : ℕ) → pieces ≡ before ++ end → end ≡ number ++ name → length number ≡ 8 → length end ≡ 40
    → number ≡ to_le_bytes w64 m → m < 2 ^ 64 → pieces ≡ front ++ trailer_bytes digests len → len < 2 ^ 62 → m ≡ len
one_length pieces before end number name front digests len m parts ends eight forty spelled fits is few =
    let whole : (before ++ number) ++ name ≡ (front ++ listing digests len) ++ set_name digests len =
    append_assoc before number name ∙ ap (λ xs. before ++ xs) (sym ends) ∙ sym parts ∙ is ∙ sym (append_assoc front (listing digests len) (set_name digests len)) in
    let size : length name ≡ length (set_name digests len) =
    omega (arith, ap length ends, length-append number name, eight, forty, length-sha256 (listing digests len)) in
    let listed : before ++ number ≡ (front ++ digests) ++ to_le_bytes w64 len =
    (same_ends (before ++ number) (front ++ listing digests len) name (set_name digests len) whole size).0 ∙ sym (append_assoc front digests (to_le_bytes w64 len)) in
    let one : number ≡ to_le_bytes w64 len =
    (same_ends before (front ++ digests) number (to_le_bytes w64 len) listed eight).1 in
    sym (from_le_bytes-to_le_bytes_8 m fits) ∙ ap (λ xs. from_le_bytes w64 xs) (sym spelled ∙ one) ∙ from_le_bytes-to_le_bytes_8 len (omega (arith, few))
