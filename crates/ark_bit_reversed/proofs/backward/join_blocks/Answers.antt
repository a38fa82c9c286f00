use Rattle.std.proofs.Common.{◌≡◌, ◌≢◌, ◌+◌, ◌-◌, ◌*◌, ◌<◌, ◌++◌, suc, ℕ, length, sym, ◌∙◌, ap, ap₂, subst, arith, ⊎_elim}
use Rattle.std.proofs.lemmas.Bool.{cases_eq}
use Rattle.std.proofs.lemmas.List.{length-append}
use Rattle.std.proofs.lemmas.Nat.{mul-le}
use Rattle.ark_math.specs.Field.{minus}
use Rattle.ark_math.specs.Univariate.{of_list}
use Rattle.ark_bit_reversed.proofs.Joined.{front_item, back_item, own_item, after_item}
use Rattle.ark_bit_reversed.proofs.backward.join_blocks.Goals as goal

pub loop-r-preserved : goal.loop-r-preserved
loop-r-preserved g c =
    let K = g.F.Field.field in
    let z = K.zero in
    let v = c.loop-r.invariant in
    let r = c.loop-r.r in
    let h = c.args.half in
    let p = 2 * h * r in
    let old = c.args.values.now in
    let inverses = c.args.inverses.now in
    let front = c.split_at_mut-before in
    let middle = c.split_at_mut-own in
    let halves = c.split_at_mut-low in
    let before = front.result.0.now in
    let after = middle.result.1.now in
    let low = c.join_halves.new.low in
    let high = c.join_halves.new.high in
    let new = before ++ ((low ++ high) ++ after) in
    let len_low : length low ≡ h = c.join_halves.ensures.low_len ∙ halves.ensures.front_len in
    let len_own : length (low ++ high) ≡ 2 * h = length-append low high ∙ omega (arith, len_low, c.join_halves.ensures.high_len, halves.ensures.back_len, middle.ensures.front_len) in
    let first : (i : ℕ) → i < h → of_list K halves.result.0.now i ≡ of_list K old (p + i) = λ i l.
    halves.ensures.by_index.0 i z l ∙ middle.ensures.by_index.0 i z (omega (arith, l)) ∙ front.ensures.by_index.1 i z ∙ v.rest (p + i) (omega arith) in
    let second : (i : ℕ) → i < h → of_list K halves.result.1.now i ≡ of_list K old (p + (h + i)) = λ i l.
    halves.ensures.by_index.1 i z ∙ middle.ensures.by_index.0 (h + i) z (omega (arith, l)) ∙ front.ensures.by_index.1 (h + i) z ∙ v.rest (p + (h + i)) (omega arith) in
    let taken : (i : ℕ) → i < h → i < length halves.result.0.now = λ i l. omega (arith, l, halves.ensures.front_len) in
    let earlier : (k : ℕ) → k < p → of_list K new k ≡ of_list K c.loop-r.values k = λ k l.
    front_item z before ((low ++ high) ++ after) p k front.ensures.front_len l ∙ front.ensures.by_index.0 k z l in
    let below : (k i : ℕ) → k < r → i < 2 * h → 2 * h * k + i < p = λ k i lk li. omega (arith, li, mul-le (suc k) (2 * h) r (2 * h) (omega (arith, lk)) (omega arith)) in
    let Sum = λ (k i : ℕ). of_list K new (2 * h * k + i) ≡ K.plus (of_list K old (2 * h * k + i)) (of_list K old (2 * h * k + (h + i))) in
    let Difference = λ (k i : ℕ). of_list K new (2 * h * k + (h + i)) ≡ K.times (of_list K inverses (c.args.start + k)) (minus K (of_list K old (2 * h * k + i)) (of_list K old (2 * h * k + (h + i)))) in
    record {
      sums = λ k i lk li. ⊎_elim {C = Sum k i}
          (λ (e : k ≡ r). subst (λ t. Sum t i) (sym e)
          (own_item z before (low ++ high) after p (2 * h) i front.ensures.front_len len_own (omega (arith, li))
          ∙ front_item z low high h i len_low li
          ∙ c.join_halves.ensures.sums i (taken i li)
          ∙ ap₂ K.plus (first i li) (second i li)))
          (λ (ne : k ≢ r). let less : k < r = omega arith in earlier (2 * h * k + i) (below k i less (omega (arith, li))) ∙ v.sums k i less li)
          (cases_eq k r);
      differences = λ x known k i lk li. ⊎_elim {C = Difference k i}
          (λ (e : k ≡ r). subst (λ t. Difference t i) (sym e)
          (own_item z before (low ++ high) after p (2 * h) (h + i) front.ensures.front_len len_own (omega (arith, li))
          ∙ back_item z low high h i len_low
          ∙ c.join_halves.ensures.differences x known i (taken i li)
          ∙ ap₂ (λ s t. K.times (of_list K inverses (c.args.start + r)) (minus K s t)) (first i li) (second i li)))
          (λ (ne : k ≢ r). let less : k < r = omega arith in earlier (2 * h * k + (h + i)) (below k (h + i) less (omega (arith, li))) ∙ v.differences x known k i less li)
          (cases_eq k r);
      rest = λ k l.
          let i = k - (p + 2 * h) in
          let place : k ≡ p + (2 * h + i) = omega (arith, l) in
          ap (of_list K new) place
          ∙ after_item z before (low ++ high) after p (2 * h) i front.ensures.front_len len_own
          ∙ middle.ensures.by_index.1 i z
          ∙ front.ensures.by_index.1 (2 * h + i) z
          ∙ ap (of_list K c.loop-r.values) (sym place)
          ∙ v.rest k (omega (arith, l));
    }

pub returns-clause-differences : goal.returns-clause-differences
returns-clause-differences g c = λ x known r i lr li. c.loop-r.invariant.differences x known r i (omega arith) li
