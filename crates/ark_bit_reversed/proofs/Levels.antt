-- The steps of the transform: butterflies of two items, of halves and of blocks, and levels over what the levels above leave.
use Rattle.std.proofs.Common.{◌≡◌, ◌≢◌, ℕ, zero, suc, ◌+◌, ◌*◌, ◌-◌, ◌^◌, ◌<◌, ◌≤◌, ◌++◌, List, length, inl, ap, ap₂, sym, ◌∙◌, refl, subst, arith, ⊎_elim}
use Rattle.std.proofs.lemmas.Bool.{cases_eq}
use Rattle.std.proofs.lemmas.Nat.{mul-le, pow_pos}
use Rattle.ark_math.specs.Field.{FieldOn, IsField, minus, power}
use Rattle.ark_math.specs.Univariate.{of_list, value_below}
use Rattle.ark_math.proofs.Algebra.Groups.{one_times}
use Rattle.ark_math.proofs.Algebra.Solve.{◌⊗◌, ◌⊕◌, ◌⊖◌, negative, nought, raised}
use Rattle.ark_math.proofs.Algebra.Ring.{ring3}
use Rattle.ark_bit_reversed.specs.Blocks.{AreReversed}
use Rattle.ark_bit_reversed.proofs.Elements.{power_of_block}
use Rattle.ark_bit_reversed.proofs.Joined.{back_item, by_blocks, front_item, outside_item, own_item, pow_half}
use Rattle.ark_bit_reversed.proofs.Callers.Splits.{value_by_strides, value_of_same}

module _ {F : Type 0} (K : FieldOn F) (N : IsField K) (n : ℕ) (x : ℕ → F) (R : AreReversed K n x) (b : ℕ) where
  -- two coefficients become the values at a block's two elements
  pub pair_values : 2 * b + 1 < n → (t : F) (a v : ℕ → F) → t ≡ x (b + b) → v 0 ≡ K.plus (a 0) (K.times t (a 1)) → v 1 ≡ minus K (a 0) (K.times t (a 1)) → (i : ℕ) → i < 2 → v i ≡ value_below K 2 a (x (2 * b + i))
  pair_values within t a v is_t sum difference = at
    where
      at : (i : ℕ) → i < 2 → v i ≡ value_below K 2 a (x (2 * b + i))
      at zero l =
          let there : b + b ≡ 2 * b + 0 = omega arith in
          sum
          ∙ ring3 K N (λ t p q. (p ⊕ t ⊗ q, nought ⊕ raised t 0 ⊗ p ⊕ raised t 1 ⊗ q)) refl t (a 0) (a 1)
          ∙ ap (value_below K 2 a) (is_t ∙ ap x there)
      at (suc zero) l =
          let there : suc (b + b) ≡ 2 * b + 1 = omega arith in
          difference
          ∙ ring3 K N (λ t p q. (p ⊖ t ⊗ q, nought ⊕ raised (negative t) 0 ⊗ p ⊕ raised (negative t) 1 ⊗ q)) refl t (a 0) (a 1)
          ∙ ap (value_below K 2 a) (ap K.negated is_t ∙ sym (R.opposites b (omega (arith, within))) ∙ ap x there)
      at (suc (suc i)) l = absurd (omega arith)

  -- butterflies across two halves: each two items that are half apart
  pub halves_turned : 2 * b + 1 < n → (t : F) → t ≡ x (b + b) → (h : ℕ) (low high low1 high1 old new : List F)
      → old ≡ low ++ high → new ≡ low1 ++ high1 → length low ≡ h → length low1 ≡ h
      → ((j : ℕ) → j < h → of_list K low1 j ≡ K.plus (of_list K low j) (K.times t (of_list K high j)))
      → ((j : ℕ) → j < h → of_list K high1 j ≡ minus K (of_list K low j) (K.times t (of_list K high j)))
      → (i j : ℕ) → i < 2 → j < h → of_list K new (h * i + j) ≡ value_below K 2 (λ k. of_list K old (h * k + j)) (x (2 * b + i))
  halves_turned within t is_t h low high low1 high1 old new joins joined len len1 sums differences i j two few =
      let first : h * 0 + j ≡ j = omega arith in
      let second : h * 1 + j ≡ h + j = omega arith in
      let own : of_list K old (h * 0 + j) ≡ of_list K low j = ap₂ (of_list K) joins first ∙ front_item K.zero low high h j len few in
      let other : of_list K old (h * 1 + j) ≡ of_list K high j = ap₂ (of_list K) joins second ∙ back_item K.zero low high h j len in
      pair_values within t (λ k. of_list K old (h * k + j)) (λ k. of_list K new (h * k + j)) is_t
      (ap₂ (of_list K) joined first ∙ front_item K.zero low1 high1 h j len1 few ∙ sums j few ∙ sym (ap₂ (λ p q. K.plus p (K.times t q)) own other))
      (ap₂ (of_list K) joined second ∙ back_item K.zero low1 high1 h j len1 ∙ differences j few ∙ sym (ap₂ (λ p q. minus K p (K.times t q)) own other))
      i two

  -- the same in the first block, whose root is one
  pub halves_summed : 2 * b + 1 < n → b ≡ 0 → (h : ℕ) (low high low1 high1 old new : List F)
      → old ≡ low ++ high → new ≡ low1 ++ high1 → length low ≡ h → length low1 ≡ h
      → ((j : ℕ) → j < h → of_list K low1 j ≡ K.plus (of_list K low j) (of_list K high j))
      → ((j : ℕ) → j < h → of_list K high1 j ≡ minus K (of_list K low j) (of_list K high j))
      → (i j : ℕ) → i < 2 → j < h → of_list K new (h * i + j) ≡ value_below K 2 (λ k. of_list K old (h * k + j)) (x (2 * b + i))
  halves_summed within first h low high low1 high1 old new joins joined len len1 sums differences =
      let here : 0 ≡ b + b = omega (arith, first) in
      halves_turned within K.one (sym R.first ∙ ap x here) h low high low1 high1 old new joins joined len len1
      (λ j l. sums j l ∙ ap (K.plus (of_list K low j)) (sym (one_times K N (of_list K high j))))
      (λ j l. differences j l ∙ ap (minus K (of_list K low j)) (sym (one_times K N (of_list K high j))))

  -- one block more of a level, where the blocks before are done
  pub block_more : (h q : ℕ) (old before own after own1 : List F) → length before ≡ 2 * h * q → length own ≡ 2 * h → length own1 ≡ 2 * h
      → ((k : ℕ) → 2 * h * q ≤ k → of_list K (before ++ (own ++ after)) k ≡ of_list K old k)
      → ((r i j : ℕ) → r < q → i < 2 → j < h → of_list K (before ++ (own ++ after)) (h * (2 * r + i) + j) ≡ value_below K 2 (λ k. of_list K old (h * (2 * r + k) + j)) (x (2 * (b + r) + i)))
      → ((i j : ℕ) → i < 2 → j < h → of_list K own1 (h * i + j) ≡ value_below K 2 (λ k. of_list K own (h * k + j)) (x (2 * (b + q) + i)))
      → (r i j : ℕ) → r < q + 1 → i < 2 → j < h → of_list K (before ++ (own1 ++ after)) (h * (2 * r + i) + j) ≡ value_below K 2 (λ k. of_list K old (h * (2 * r + k) + j)) (x (2 * (b + r) + i))
  block_more h q old before own after own1 len_before len_own len_own1 rest done here r i j less two few = ⊎_elim
      (λ (is : r ≡ q).
      let bound : (k : ℕ) → k < 2 → h * k + j < 2 * h = λ k l. omega (arith, mul-le (suc k) h 2 h l (omega arith), few) in
      let place : (k : ℕ) → h * (2 * q + k) + j ≡ 2 * h * q + (h * k + j) = λ k. omega arith in
      let start : (k : ℕ) → 2 * h * q ≤ 2 * h * q + (h * k + j) = λ k. omega arith in
      let z = x (2 * (b + q) + i) in
      subst (λ t. of_list K (before ++ (own1 ++ after)) (h * (2 * t + i) + j) ≡ value_below K 2 (λ k. of_list K old (h * (2 * t + k) + j)) (x (2 * (b + t) + i))) (sym is)
      (ap (of_list K (before ++ (own1 ++ after))) (place i)
      ∙ own_item K.zero before own1 after (2 * h * q) (2 * h) (h * i + j) len_before len_own1 (bound i two)
      ∙ here i j two few
      ∙ value_of_same K N 2 _ _ z (λ k l.
      sym (own_item K.zero before own after (2 * h * q) (2 * h) (h * k + j) len_before len_own (bound k l))
      ∙ rest (2 * h * q + (h * k + j)) (start k)
      ∙ ap (of_list K old) (sym (place k)))))
      (λ (ne : r ≢ q).
      let earlier : r < q = omega (arith, less, ne) in
      let bound : suc (2 * r + i) * h ≤ 2 * q * h = mul-le (suc (2 * r + i)) h (2 * q) h (omega (arith, earlier, two)) (omega arith) in
      outside_item K.zero before own after own1 (2 * h * q) (2 * h) len_before len_own len_own1 (h * (2 * r + i) + j) (inl (omega (arith, bound, few)))
      ∙ done r i j earlier two few)
      (cases_eq r q)

  -- the values of each block of 2 ^ l items, which the levels above have left
  pub blocks_joined : (l c : ℕ) → suc b * (2 ^ l * c) ≤ n → (old mid new : ℕ → F)
      → ((r j : ℕ) → r < c → j < 2 ^ l → mid (2 ^ l * r + j) ≡ value_below K c (λ k. old (2 ^ l * k + j)) (x (b * c + r)))
      → ((r j : ℕ) → r < c → j < 2 ^ l → new (2 ^ l * r + j) ≡ value_below K (2 ^ l) (λ k. mid (2 ^ l * r + k)) (x (2 ^ l * (b * c + r) + j)))
      → (i : ℕ) → i < 2 ^ l * c → new i ≡ value_below K (2 ^ l * c) old (x (b * (2 ^ l * c) + i))
  blocks_joined l c within old mid new above last = by_blocks (λ i. new i ≡ value_below K (2 ^ l * c) old (x (b * (2 ^ l * c) + i))) (2 ^ l) c (pow_pos l) at
    where
      at : (r j : ℕ) → r < c → j < 2 ^ l → new (2 ^ l * r + j) ≡ value_below K (2 ^ l * c) old (x (b * (2 ^ l * c) + (2 ^ l * r + j)))
      at r j inside few =
          let s = 2 ^ l in
          let p = b * c + r in
          let z = x (s * p + j) in
          let turn : s * p + j ≡ p * s + j = omega arith in
          let place : s * p + j ≡ b * (s * c) + (s * r + j) = omega arith in
          let bound : suc r * s ≤ c * s = mul-le (suc r) s c s inside (omega arith) in
          let there : p * s + j < n = omega (arith, bound, few, within) in
          last r j inside few
          ∙ value_of_same K N s (λ k. mid (s * r + k)) (λ k. value_below K c (λ q. old (s * q + k)) (power K z s)) z
          (λ k l_k. above r k inside l_k ∙ ap (value_below K c (λ q. old (s * q + k))) (sym (ap (λ q. power K (x q) s) turn ∙ power_of_block K N n x R l p j few there)))
          ∙ sym (value_by_strides K N s c old z)
          ∙ ap (λ q. value_below K (s * c) old (x q)) place

  -- one level down: twice as many blocks of half as many items
  pub level_down : (c h : ℕ) → suc b * (2 * c) ≤ n → (old mid new : ℕ → F)
      → ((r j : ℕ) → r < c → j < 2 * h → mid (2 * h * r + j) ≡ value_below K c (λ k. old (2 * h * k + j)) (x (b * c + r)))
      → ((r i j : ℕ) → r < c → i < 2 → j < h → new (h * (2 * r + i) + j) ≡ value_below K 2 (λ k. mid (h * (2 * r + k) + j)) (x (2 * (b * c + r) + i)))
      → (r j : ℕ) → r < 2 * c → j < h → new (h * r + j) ≡ value_below K (2 * c) (λ k. old (h * k + j)) (x (b * (2 * c) + r))
  level_down c h within old mid new above last r j inside few =
      blocks_joined 1 c within (λ k. old (h * k + j)) (λ k. mid (h * k + j)) (λ k. new (h * k + j))
      (λ r i less two.
      let bound : suc i * h ≤ 2 * h = mul-le (suc i) h 2 h two (omega arith) in
      let place : h * (2 * r + i) + j ≡ 2 * h * r + (h * i + j) = omega arith in
      let back : (k : ℕ) → 2 * h * k + (h * i + j) ≡ h * (2 * k + i) + j = λ k. omega arith in
      ap mid place ∙ above r (h * i + j) less (omega (arith, bound, few)) ∙ value_of_same K N c _ _ (x (b * c + r)) (λ k l. ap old (back k)))
      (λ r i less two. last r i j less two few)
      r inside

  -- the values of two halves, each known of its own list
  values_of_halves : (s : ℕ) (mid new low high low1 high1 : List F) → mid ≡ low ++ high → new ≡ low1 ++ high1 → length low ≡ s → length low1 ≡ s
      → ((i : ℕ) → i < s → of_list K low1 i ≡ value_below K s (of_list K low) (x (2 * b * s + i)))
      → ((i : ℕ) → i < s → of_list K high1 i ≡ value_below K s (of_list K high) (x ((2 * b + 1) * s + i)))
      → (i j : ℕ) → i < 2 → j < s → of_list K new (s * i + j) ≡ value_below K s (λ p. of_list K mid (s * i + p)) (x (s * (b * 2 + i) + j))
  values_of_halves s mid new low high low1 high1 joins joined len len1 A B zero j two few =
      let first : (p : ℕ) → s * 0 + p ≡ p = λ p. omega arith in
      let place : 2 * b * s + j ≡ s * (b * 2 + 0) + j = omega arith in
      ap₂ (of_list K) joined (first j) ∙ front_item K.zero low1 high1 s j len1 few ∙ A j few
      ∙ value_of_same K N s _ _ (x (2 * b * s + j)) (λ p l. sym (ap₂ (of_list K) joins (first p) ∙ front_item K.zero low high s p len l))
      ∙ ap (λ q. value_below K s (λ p. of_list K mid (s * 0 + p)) (x q)) place
  values_of_halves s mid new low high low1 high1 joins joined len len1 A B (suc zero) j two few =
      let second : (p : ℕ) → s * 1 + p ≡ s + p = λ p. omega arith in
      let place : (2 * b + 1) * s + j ≡ s * (b * 2 + 1) + j = omega arith in
      ap₂ (of_list K) joined (second j) ∙ back_item K.zero low1 high1 s j len1 ∙ B j few
      ∙ value_of_same K N s _ _ (x ((2 * b + 1) * s + j)) (λ p l. sym (ap₂ (of_list K) joins (second p) ∙ back_item K.zero low high s p len))
      ∙ ap (λ q. value_below K s (λ p. of_list K mid (s * 1 + p)) (x q)) place
  values_of_halves s mid new low high low1 high1 joins joined len len1 A B (suc (suc i)) j two few = absurd (omega arith)

  -- one level of butterflies, and the levels below over each half
  pub halves_joined : (k : ℕ) → 1 ≤ k → suc b * 2 ^ k ≤ n → (old mid new low high low1 high1 : List F)
      → mid ≡ low ++ high → new ≡ low1 ++ high1 → length low ≡ 2 ^ (k - 1) → length low1 ≡ 2 ^ (k - 1)
      → ((i j : ℕ) → i < 2 → j < 2 ^ (k - 1) → of_list K mid (2 ^ (k - 1) * i + j) ≡ value_below K 2 (λ p. of_list K old (2 ^ (k - 1) * p + j)) (x (2 * b + i)))
      → ((i : ℕ) → i < 2 ^ (k - 1) → of_list K low1 i ≡ value_below K (2 ^ (k - 1)) (of_list K low) (x (2 * b * 2 ^ (k - 1) + i)))
      → ((i : ℕ) → i < 2 ^ (k - 1) → of_list K high1 i ≡ value_below K (2 ^ (k - 1)) (of_list K high) (x ((2 * b + 1) * 2 ^ (k - 1) + i)))
      → (i : ℕ) → i < 2 ^ k → of_list K new i ≡ value_below K (2 ^ k) (of_list K old) (x (b * 2 ^ k + i))
  halves_joined k some within old mid new low high low1 high1 joins joined len len1 above A B =
      let s = 2 ^ (k - 1) in
      let size : 2 ^ k ≡ s * 2 = omega (arith, pow_half k some) in
      let twice : 2 * b ≡ b * 2 = omega arith in
      subst (λ q. (i : ℕ) → i < q → of_list K new i ≡ value_below K q (of_list K old) (x (b * q + i))) (sym size)
      (blocks_joined (k - 1) 2 (subst (λ q. suc b * q ≤ n) size within) (of_list K old) (of_list K mid) (of_list K new)
      (λ i j two few. above i j two few ∙ ap (λ q. value_below K 2 (λ p. of_list K old (s * p + j)) (x (q + i))) twice)
      (values_of_halves s mid new low high low1 high1 joins joined len len1 A B))
