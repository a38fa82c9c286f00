-- The numbers of a header.
use Rattle.std.proofs.Common.{◌≡◌, ℕ, ◌<◌, ◌^◌, List, ◌++◌, length, take, drop, arith, sym, ◌∙◌, ap, ap₂}
use Rattle.std.specs.Int.{w32, to_le_bytes, from_le_bytes}
use Rattle.std.proofs.lemmas.List.{length-append, drop_at, nil_from_length}
use Rattle.std.proofs.lemmas.Nat.{from_le_bytes-to_le_bytes_4}
use Rattle.shards_format.specs.Headers.{header_bytes, head_bytes, magic, version}

-- four bytes are one number
one_number : (m n : ℕ) → m < 2 ^ 32 → n < 2 ^ 32 → to_le_bytes w32 m ≡ to_le_bytes w32 n → m ≡ n
one_number m n a b same = sym (from_le_bytes-to_le_bytes_4 m a) ∙ ap (λ xs. from_le_bytes w32 xs) same ∙ from_le_bytes-to_le_bytes_4 n b

module _ (k n number len k2 n2 number2 len2 : ℕ) (same : header_bytes k n number len ≡ header_bytes k2 n2 number2 len2) where
  pub same_k : k < 2 ^ 32 → k2 < 2 ^ 32 → k ≡ k2
  same_k a b = one_number k k2 a b (ap (λ xs. take 4 (drop 8 xs)) same)

  pub same_n : n < 2 ^ 32 → n2 < 2 ^ 32 → n ≡ n2
  same_n a b = one_number n n2 a b (ap (λ xs. take 4 (drop 12 xs)) same)

  pub same_piece : number < 2 ^ 32 → number2 < 2 ^ 32 → number ≡ number2
  same_piece a b = one_number number number2 a b (ap (λ xs. take 4 (drop 16 xs)) same)

  pub same_len : len < 2 ^ 32 → len2 < 2 ^ 32 → len ≡ len2
  same_len a b = one_number len len2 a b (ap (λ xs. take 4 (drop 20 xs)) same)

-- the texts of two pieces of one number of a set are equal only where their bodies are
pub one_body : (k n i : ℕ) (label other body rest : List ℕ) → length label < 65536 → length other < 65536 → head_bytes k n i label ++ body ≡ head_bytes k n i other ++ rest → body ≡ rest
one_body k n i label other body rest short small same =
    let len : length label ≡ length other =
    one_number (length label) (length other) (omega (arith, short)) (omega (arith, small)) (ap (λ xs. take 4 (drop 20 xs)) same) in
    let behind : label ++ body ≡ other ++ rest = ap (drop 24) same in
    sym (drop_at label body (length label) (let e : length label ≡ length label = omega arith in e)) ∙ ap (drop (length label)) behind ∙ drop_at other rest (length label) (sym len)

-- eight bytes, four numbers of four, and nothing behind
pub four_numbers : (bytes start all a b c d : List ℕ) (k n number len : ℕ) → length bytes ≡ 24 → bytes ≡ start ++ all → start ≡ magic ++ version
    → all ≡ to_le_bytes w32 k ++ a → a ≡ to_le_bytes w32 n ++ b → b ≡ to_le_bytes w32 number ++ c → c ≡ to_le_bytes w32 len ++ d
    → bytes ≡ header_bytes k n number len
four_numbers bytes start all a b c d k n number len size is begins first second third fourth =
    let sizes : length d ≡ 0 =
    omega (arith, size, ap length is, length-append start all, ap length begins, ap length first, ap length second, ap length third, ap length fourth) in
    is ∙ ap₂ (λ (xs ys : List ℕ). xs ++ ys) begins (first ∙ ap (λ xs. to_le_bytes w32 k ++ xs) (second ∙ ap (λ xs. to_le_bytes w32 n ++ xs) (third ∙ ap (λ xs. to_le_bytes w32 number ++ xs)
    (fourth ∙ ap (λ xs. to_le_bytes w32 len ++ xs) (nil_from_length d sizes)))))
