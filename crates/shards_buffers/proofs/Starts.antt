-- Where pieces begin.
use Rattle.std.proofs.Common.{◌≡◌, ℕ, zero, suc, ◌+◌, ◌-◌, ◌*◌, ◌<◌, ◌≤◌, List, length, take, get_or, flat_map, arith, sym, ◌∙◌, ap, inl, inr}
use Rattle.std.proofs.lemmas.Bool.{cases_lt}
use Rattle.std.proofs.lemmas.Bool.Decides.{nat_tests}
use Rattle.shards_format.specs.Pieces.{blocks, mark_size}
use Rattle.shards_buffers.specs.Sizes.{piece_size, piece_start}
use Rattle.shards_buffers.proofs.Concats.{longer}

no_mark : (k i : ℕ) → i < k → mark_size k i ≡ 0
no_mark k i low = grind (arith, nat_tests)

has_mark : (k i : ℕ) → k ≤ i → mark_size k i ≡ 4
has_mark k i high = grind (arith, nat_tests)

module _ (k n label_len len : ℕ) (some : 0 < k) where
  low_size : (i : ℕ) → i < k → piece_size k n i label_len len ≡ piece_size k n 0 label_len len
  low_size i low =
      let here = ap (λ m. m * blocks k len) (no_mark k i low) in
      let first = ap (λ m. m * blocks k len) (no_mark k 0 some) in
      omega (arith, here, first)

  high_size : (i : ℕ) → k ≤ i → piece_size k n i label_len len ≡ piece_size k n 0 label_len len + 4 * blocks k len
  high_size i high =
      let here = ap (λ m. m * blocks k len) (has_mark k i high) in
      let first = ap (λ m. m * blocks k len) (no_mark k 0 some) in
      omega (arith, here, first)

  -- behind piece i is piece i + 1
  pub next_start : (i : ℕ) → piece_start k n label_len len (i + 1) ≡ piece_start k n label_len len i + piece_size k n i label_len len
  next_start i = elim (cases_lt i k) [
    | inl low ↦
        let same = low_size i low in
        let none = ap (λ m. m * (4 * blocks k len)) (let e : i + 1 - k ≡ 0 = omega (arith, low) in e) in
        let before = ap (λ m. m * (4 * blocks k len)) (let e : i - k ≡ 0 = omega (arith, low) in e) in
        omega (arith, same, none, before)
    | inr high ↦
        let more = high_size i (omega (arith, high)) in
        let next = ap (λ m. m * (4 * blocks k len)) (let e : i + 1 - k ≡ (i - k) + 1 = omega (arith, high) in e) in
        omega (arith, more, next)
  ]

  first_start : piece_start k n label_len len 0 ≡ 0
  first_start =
      let none = ap (λ m. m * (4 * blocks k len)) (let e : 0 - k ≡ 0 = omega arith in e) in
      omega (arith, none)

  -- as many bytes are before a piece as the pieces before it have
  pub starts : {X : Type 0} (f : X → List ℕ) (xs : List X) (d : X) → ((i : ℕ) → i < length xs → length (f (get_or xs i d)) ≡ piece_size k n i label_len len)
      → (i : ℕ) → i ≤ length xs → length (flat_map f (take i xs)) ≡ piece_start k n label_len len i
  starts f xs d sizes zero inside = sym first_start
  starts f xs d sizes (suc i) inside =
      let here : i < length xs = omega (arith, inside) in
      let next : suc i ≡ i + 1 = omega arith in
      ap (λ m. length (flat_map f (take m xs))) next
      ∙ omega (arith, longer f xs i d here, starts f xs d sizes i (omega (arith, here)), sizes i here, next_start i)
      ∙ ap (λ m. piece_start k n label_len len m) (sym next)
