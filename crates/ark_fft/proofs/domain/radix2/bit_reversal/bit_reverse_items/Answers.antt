use Rattle.std.proofs.Common.{◌≡◌, ◌≢◌, ℕ, ◌+◌, ◌-◌, ◌<◌, ◌≤◌, ◌^◌, List, get_or, ap, ◌∙◌, arith, subst, sym}
use Rattle.ark_math_transforms.specs.BitReversal.{reversed}
use Rattle.ark_fft.proofs.Places.{IsRestored, restored_first, restored_same, restored_swap}
use Rattle.ark_math_transforms.proofs.Numbers.BitReversal.{reversed_below, reversed_none}
use Rattle.ark_fft.proofs.domain.radix2.bit_reversal.bit_reverse_items.Goals as goal
use Rattle.ark_fft.proofs.domain.radix2.bit_reversal.bit_reverse_items.Goals.{then-i-j, else-i-j}

pub loop-i-init : goal.loop-i-init
loop-i-init g c = record {
  items = λ d. restored_first c.args.levels (λ r. get_or c.args.xs.now r d);
  backwards = sym (reversed_none c.args.levels);
}

-- the two items change places
swapped : {X : Type 0} (n : ℕ) (old now new : List X) (i j : ℕ) (d : X) → i < 2 ^ n → j ≡ reversed n i → i < j → get_or new i d ≡ get_or now j d → get_or new j d ≡ get_or now i d → ((k : ℕ) → k ≢ i → k ≢ j → get_or new k d ≡ get_or now k d) → IsRestored n (λ r. get_or old r d) (λ r. get_or now r d) i → IsRestored n (λ r. get_or old r d) (λ r. get_or new r d) (i + 1)
swapped n old now new i j d inside is lt first second others held =
    restored_swap n (λ r. get_or old r d) (λ r. get_or now r d) i inside held (λ r. get_or new r d) (rw is at lt)
    (subst (λ t. get_or new i d ≡ get_or now t d) is first)
    (subst (λ t. get_or new t d ≡ get_or now i d) is second)
    (λ k ni nj. others k ni (subst (λ t. k ≢ t) (sym is) nj))

pub loop-i-preserved : goal.loop-i-preserved
loop-i-preserved g c =
    let n = c.args.levels in
    let i = c.loop-i.i in
    let e : i - 1 + 1 ≡ i = omega arith in
    let inside : i < 2 ^ c.args.levels = omega arith in
    let is : c.next_reversed-j.result ≡ reversed c.args.levels i = c.next_reversed-j.ensures ∙ ap (reversed c.args.levels) e in
    let s : i + 1 - 1 ≡ i = omega arith in
    let held = c.loop-i.invariant in
    record {
      items = λ d. elim c.if-i-j.branch [
        | then-i-j w ↦
            let lt : i < c.next_reversed-j.result = omega (arith, w.if-i-j.true) in
            let f = w.exchange.ensures in
            subst (λ t. IsRestored n (λ r. get_or c.args.xs.now r d) (λ r. get_or t r d) (i + 1)) (sym w.xs-is)
            (swapped n c.args.xs.now c.loop-i.xs w.exchange.new.xs i c.next_reversed-j.result d inside is lt (f.first d) (f.second d) (λ k ni nj. f.others k d ni nj) (held.items d))
        | else-i-j w ↦
            let le : reversed n i ≤ i = rw is at w.if-i-j.false in
            subst (λ t. IsRestored n (λ r. get_or c.args.xs.now r d) (λ r. get_or t r d) (i + 1)) (sym w.xs-is)
            (restored_same n (λ r. get_or c.args.xs.now r d) (λ r. get_or c.loop-i.xs r d) i inside (held.items d) le)
      ];
      backwards = is ∙ ap (reversed n) (sym s);
    }

pub returns : goal.returns
returns g c = λ p d l. (c.loop-i.invariant.items d).done p l (omega arith)

pub exchange-requires-clause-within : goal.exchange-requires-clause-within
exchange-requires-clause-within g c =
    let i = c.loop-i.i in
    let e : i - 1 + 1 ≡ i = omega arith in
    let inside : i < 2 ^ c.args.levels = omega arith in
    let r = reversed_below c.args.levels i inside in
    let is : c.next_reversed-j.result ≡ reversed c.args.levels i = c.next_reversed-j.ensures ∙ ap (reversed c.args.levels) e in
    omega (arith, r, is)
