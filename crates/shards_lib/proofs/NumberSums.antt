-- Numbers as elements of a field of 65537: so many ones are zero, and 2^16 is minus one.
use Rattle.std.proofs.Common.{◌≡◌, ℕ, ◌+◌, ◌-◌, ◌*◌, ◌/◌, ◌%◌, ◌<◌, ◌≤◌, inl, inr, arith, sym, ap, ap₂, ◌∙◌}
use Rattle.std.proofs.Math.Nat.{mul-le-mul}
use Rattle.std.proofs.lemmas.Bool.{cases_lt}
use Rattle.ark_math.specs.Field.{FieldOn, IsField, natural}
use Rattle.ark_math.proofs.Algebra.Groups.{cancel_left, itself_is_module, zero_scale}
use Rattle.ark_math.proofs.Algebra.Powers.{natural-add, natural-mul}
use Rattle.shards_lib.specs.Products.{halves}

module _ {F : Type 0} (K : FieldOn F) (N : IsField K) (number : F → ℕ)
    (fits : (x : F) → number x ≤ 65536)
    (number_natural : (n : ℕ) → n ≤ 65536 → number (natural K n) ≡ n)
    (natural_number : (x : F) → natural K (number x) ≡ x) where
  natural-prime : (p : ℕ) → p ≡ 65537 → natural K p ≡ K.zero
  natural-prime p is =
      let m = number (natural K p) in
      let rest = p - m in
      elim (cases_lt 0 m) [
        | inl some ↦
            let bound = fits (natural K p) in
            let whole : p ≡ m + rest = omega (arith, bound, is) in
            let again : K.plus (natural K p) (natural K rest) ≡ K.plus (natural K p) K.zero =
            ap (λ x. K.plus x (natural K rest)) (sym (natural_number (natural K p)))
            ∙ sym (ap (natural K) whole ∙ natural-add K N m rest)
            ∙ sym (N.plus_zero (natural K p)) in
            let none : natural K rest ≡ K.zero = cancel_left (itself_is_module K N) (natural K p) (natural K rest) K.zero again in
            let left : rest ≡ 0 = sym (number_natural rest (omega (arith, some, is))) ∙ ap number none ∙ number_natural 0 (omega arith) in
            absurd (omega (arith, left, bound, is))
        | inr none ↦
            let zero : m ≡ 0 = omega (arith, none) in
            sym (natural_number (natural K p)) ∙ ap (natural K) zero
      ]

  natural-more : (p m q : ℕ) → p ≡ 65537 → natural K (m + p * q) ≡ natural K m
  natural-more p m q is =
      natural-add K N m (p * q)
      ∙ ap (K.plus (natural K m)) (natural-mul K N p q ∙ ap (λ x. K.times x (natural K q)) (natural-prime p is) ∙ zero_scale N (itself_is_module K N) (natural K q))
      ∙ N.plus_zero (natural K m)

  natural-same : (m n a b : ℕ) → m + 65537 * a ≡ n + 65537 * b → natural K m ≡ natural K n
  natural-same m n a b e =
      let p : ℕ = 65537 in
      sym (natural-more p m a (omega arith)) ∙ ap (natural K) e ∙ natural-more p n b (omega arith)

  -- the halves of a product stand for it
  natural-halves : (old x : ℕ) → x < 65536 * 65537 → natural K (old + halves x) ≡ natural K (old + x)
  natural-halves old x small =
      natural-same (old + halves x) (old + x) (x / 65536) 1 (omega (arith, small))

  plus-product : (old w x : ℕ) → natural K (old + w * x) ≡ K.plus (natural K old) (K.times (natural K w) (natural K x))
  plus-product old w x = natural-add K N old (w * x) ∙ ap (K.plus (natural K old)) (natural-mul K N w x)

  pub added : (new old w x : ℕ) → w < 65536 → x ≤ 65536 → new ≡ old + halves (w * x) → natural K new ≡ K.plus (natural K old) (K.times (natural K w) (natural K x))
  added new old w x small few is =
      let least : w ≤ 65535 = omega (arith, small) in
      let bound : w * x ≤ 65535 * 65536 = mul-le-mul least few in
      ap (natural K) is ∙ natural-halves old (w * x) (omega (arith, bound)) ∙ plus-product old w x

  -- 2^16 times a number is taken away
  pub subtracted : (new old w x : ℕ) → w ≡ 65536 → new + x ≡ old + 65537 → natural K new ≡ K.plus (natural K old) (K.times (natural K w) (natural K x))
  subtracted new old w x top is =
      natural-same new (old + w * x) x 1 (omega (arith, is, ap (λ m. m * x) top))
      ∙ plus-product old w x

  -- what is left by the prime is the number
  pub reduced : (m : ℕ) (y : F) → natural K m ≡ y → m % 65537 ≡ number y
  reduced m y is =
      let less : m % 65537 < 65537 = omega arith in
      sym (number_natural (m % 65537) (omega (arith, less)))
      ∙ ap number (natural-same (m % 65537) m (m / 65537) 0 (omega arith) ∙ is)
