use Rattle.std.proofs.Common.{rules, ◌≡◌, ℕ, List, length, get_or, ◌++◌, ◌+◌, ◌-◌, ◌≤◌, ◌<◌, ◌∙◌, ap, ap₂, sym, arith, ⊎_elim}
use Rattle.std.proofs.Math.Nat.{min-le_left, min-le_right, min-eq_left, min-eq_right}
use Rattle.std.proofs.lemmas.Bool.{cases_lt}
use Rattle.std.proofs.lemmas.List.{get_or_append_left, get_or-append_right, length-append}
use Rattle.ark_math.specs.Field.{FieldOn, IsField, power}
use Rattle.ark_math.proofs.Algebra.Powers.{power-add}
use Rattle.ark_fft.proofs.domain.radix2.tables.fill_with_powers.Goals as goal

-- the powers known, and as many of those after them as are these times the next one
continued : {F : Type 0} (K : FieldOn F) (N : IsField K) (w : F) (n m : ℕ) (front back rest : List F) (next : F) → length front ≡ n → m ≤ n → next ≡ power K w n → ((k : ℕ) → k < n → get_or (front ++ back) k K.zero ≡ power K w k) → ((i : ℕ) → i < m → get_or rest i K.zero ≡ K.times (get_or front i K.zero) next) → (k : ℕ) → k < n + m → get_or (front ++ rest) k K.zero ≡ power K w k
continued K N w n m front back rest next len few is known made k l =
    let at : (i : ℕ) → i < n → get_or front i K.zero ≡ power K w i = λ i h. sym (get_or_append_left front back K.zero i (omega (arith, h, len))) ∙ known i h in
    ⊎_elim
    (λ h. get_or_append_left front rest K.zero k (omega (arith, h, len)) ∙ at k h)
    (λ h.
    let i : k - n < m = omega (arith, h, l) in
    let sum : k - n + n ≡ k = omega (arith, h) in
    get_or-append_right front rest n k K.zero len h ∙ made (k - n) i ∙ ap₂ K.times (at (k - n) (omega (arith, i, few))) is ∙ sym (power-add K N w (k - n) n) ∙ ap (power K w) sum)
    (cases_lt k n)

pub double-preserved : goal.double-preserved
double-preserved g c =
    let K = g.F.Field.field in
    let N = g.met.F.Field.field_laws in
    let n = c.double.known in
    let front = c.split_at_mut-front.result.0.now in
    let back = c.split_at_mut-front.result.1.now in
    let rest = c.continue_powers.new.rest in
    let m = c.min-count.result in
    let left : m ≤ n = omega (arith, c.min-count.ensures, min-le_left n (length back)) in
    let right : m ≤ length back = omega (arith, c.min-count.ensures, min-le_right n (length back)) in
    let len : length (front ++ rest) ≡ n + length back = length-append front rest ∙ ap₂ (λ x y. x + y) c.split_at_mut-front.ensures.front_len c.continue_powers.auto.rest in
    let next : c.double.next ≡ power K c.args.root n = c.double.invariant.next c.double-test.true in
    record {
      some = omega (arith, c.double.invariant.some);
      within = λ s. omega (arith, len, right);
      next = λ l.
          let below : m < length back = omega (arith, l, len) in
          let all : m ≡ n = ⊎_elim
          (λ h. omega (arith, c.min-count.ensures, min-eq_right {n = length back} {m = n} (omega (arith, h)), below))
          (λ h. c.min-count.ensures ∙ min-eq_left h)
          (cases_lt (length back) n) in
          let is : c.mul-next.result ≡ K.times c.double.next c.double.next = search rules in
          is ∙ ap₂ K.times next next ∙ sym (power-add K N c.args.root n n) ∙ ap (λ t. power K c.args.root (n + t)) (sym all);
      before = λ k l w. continued K N c.args.root n m front back rest c.double.next c.split_at_mut-front.ensures.front_len left next (λ k h. ap (λ t. get_or t k K.zero) (sym c.split_at_mut-front.ensures.value) ∙ c.double.invariant.before k h (omega (arith, h, c.double-test.true))) c.continue_powers.ensures.products k l;
    }

pub mul-next-requires : goal.mul-next-requires
mul-next-requires g c = g.met.F.Field.can_mul_law _ _
