use Rattle.std.proofs.Common.{◌≡◌, ◌≢◌, ℕ, ◌+◌, ◌-◌, ◌*◌, ◌<◌, ◌≤◌, ◌^◌, List, get_or, ap, ◌∙◌, arith, subst, sym}
use Rattle.ark_math_transforms.specs.BitReversal.{reversed}
use Rattle.ark_fft.proofs.Places.{IsRestored, restored_first, restored_same, restored_swap}
use Rattle.ark_math_transforms.proofs.Numbers.BitReversal.{reversed_below, reversed_none}
use Rattle.ark_fft.proofs.domain.radix2.bit_reversal.bit_reverse_fours.Goals as goal
use Rattle.ark_fft.proofs.domain.radix2.bit_reversal.bit_reverse_fours.Goals.{then-i-j, else-i-j}

pub loop-i-init : goal.loop-i-init
loop-i-init g c = record {
  fours = λ b d l. restored_first c.args.levels (λ r. get_or c.args.xs.now (4 * r + b) d);
  backwards = sym (reversed_none c.args.levels);
}

pub swap_fours-requires-clause-within : goal.swap_fours-requires-clause-within
swap_fours-requires-clause-within g c =
    let i = c.loop-i.i in
    let e : i - 1 + 1 ≡ i = omega arith in
    let inside : i < 2 ^ c.args.levels = omega arith in
    let r = reversed_below c.args.levels i inside in
    let is : c.next_reversed-j.result ≡ reversed c.args.levels i = c.next_reversed-j.ensures ∙ ap (reversed c.args.levels) e in
    omega (arith, r, is)

-- blocks i and j of four items have each the other one's, and the others their own
record AreSwapped {X : Type 0} (now new : List X) (i j : ℕ) : Type 0 where
  pub first : (b : ℕ) (d : X) → b < 4 → get_or new (4 * i + b) d ≡ get_or now (4 * j + b) d
  pub second : (b : ℕ) (d : X) → b < 4 → get_or new (4 * j + b) d ≡ get_or now (4 * i + b) d
  pub others : (k b : ℕ) (d : X) → b < 4 → k ≢ i → k ≢ j → get_or new (4 * k + b) d ≡ get_or now (4 * k + b) d

-- one more block is at its place
swapped : {X : Type 0} (n : ℕ) (old now new : List X) (i j b : ℕ) (d : X) → i < 2 ^ n → j ≡ reversed n i → i < j → b < 4 → AreSwapped now new i j → IsRestored n (λ r. get_or old (4 * r + b) d) (λ r. get_or now (4 * r + b) d) i → IsRestored n (λ r. get_or old (4 * r + b) d) (λ r. get_or new (4 * r + b) d) (i + 1)
swapped n old now new i j b d inside is lt two swap held =
    restored_swap n (λ r. get_or old (4 * r + b) d) (λ r. get_or now (4 * r + b) d) i inside held (λ r. get_or new (4 * r + b) d) (rw is at lt)
    (subst (λ t. get_or new (4 * i + b) d ≡ get_or now (4 * t + b) d) is (swap.first b d two))
    (subst (λ t. get_or new (4 * t + b) d ≡ get_or now (4 * i + b) d) is (swap.second b d two))
    (λ k ni nj. swap.others k b d two ni (subst (λ t. k ≢ t) (sym is) nj))

pub loop-i-preserved : goal.loop-i-preserved
loop-i-preserved g c =
    let n = c.args.levels in
    let i = c.loop-i.i in
    let e : i - 1 + 1 ≡ i = omega arith in
    let inside : i < 2 ^ c.args.levels = omega arith in
    let is : c.next_reversed-j.result ≡ reversed c.args.levels i = c.next_reversed-j.ensures ∙ ap (reversed c.args.levels) e in
    let s : i + 1 - 1 ≡ i = omega arith in
    let held = c.loop-i.invariant in
    record {
      fours = λ b d l. elim c.if-i-j.branch [
        | then-i-j w ↦
            let lt : i < c.next_reversed-j.result = omega (arith, w.if-i-j.true) in
            let f = w.swap_fours.ensures in
            subst (λ t. IsRestored n (λ r. get_or c.args.xs.now (4 * r + b) d) (λ r. get_or t (4 * r + b) d) (i + 1)) (sym w.xs-is)
            (swapped n c.args.xs.now c.loop-i.xs w.swap_fours.new.xs i c.next_reversed-j.result b d inside is lt l (record { first = f.first; second = f.second; others = f.others }) (held.fours b d l))
        | else-i-j w ↦
            let le : reversed n i ≤ i = rw is at w.if-i-j.false in
            subst (λ t. IsRestored n (λ r. get_or c.args.xs.now (4 * r + b) d) (λ r. get_or t (4 * r + b) d) (i + 1)) (sym w.xs-is)
            (restored_same n (λ r. get_or c.args.xs.now (4 * r + b) d) (λ r. get_or c.loop-i.xs (4 * r + b) d) i inside (held.fours b d l) le)
      ];
      backwards = is ∙ ap (reversed n) (sym s);
    }

pub returns : goal.returns
returns g c = λ r b d four l. (c.loop-i.invariant.fours b d four).done r l (omega arith)
