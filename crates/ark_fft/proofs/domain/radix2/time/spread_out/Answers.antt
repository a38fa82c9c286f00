use Rattle.std.proofs.Common.{rules, ◌≡◌, ℕ, length, get_or, ◌+◌, ◌-◌, ◌*◌, ◌<◌, ◌∙◌, ap, sym, arith, ⊎_elim, add-mul, one-mul}
use Rattle.std.proofs.Math.Nat.{div-eq_of_lt-le, le-mul_of_pos_right}
use Rattle.std.proofs.lemmas.Bool.{cases_lt}
use Rattle.std.proofs.lemmas.List.{get_or_read}
use Rattle.ark_fft.proofs.domain.radix2.time.spread_out.Goals as goal

-- a block ends where the next one begins
block_end : (r b : ℕ) → 0 < r → (r - 1) * b + b ≡ r * b
block_end r b some =
    let next : r ≡ r - 1 + 1 = omega (arith, some) in
    sym (ap (λ t. t * b) next ∙ add-mul (r - 1) 1 b ∙ ap (λ t. (r - 1) * b + t) (one-mul b))

pub offset_bounds-xs-r : goal.offset_bounds-xs-r
offset_bounds-xs-r g c =
    let s = le-mul_of_pos_right c.args.items c.requires.not_empty in
    let b : c.loop-r.r - 1 < length c.args.xs.now = omega (arith, s, c.requires.whole, c.loop-r.auto.r, c.loop-r-test.true) in
    search rules

pub loop-r-preserved : goal.loop-r-preserved
loop-r-preserved g c =
    let r = c.loop-r.r in
    let b = c.args.block in
    let end = block_end r b c.loop-r-test.true in
    let start = le-mul_of_pos_right (r - 1) c.requires.not_empty in
    let next : (r - 1 + 1) * b ≡ (r - 1) * b + b = add-mul (r - 1) 1 b ∙ ap (λ t. (r - 1) * b + t) (one-mul b) in
    let before : (r - 1) * b < r * b = omega (arith, end, c.requires.not_empty) in
    let all = le-mul_of_pos_right c.args.items c.requires.not_empty in
    let inside : r - 1 < length c.loop-r.xs = omega (arith, all, c.requires.whole, c.loop-r.auto.r, c.loop-r.auto.xs, c.loop-r-test.true) in
    record {
      done = λ k d low within.
          ⊎_elim
          (λ l. c.fill.ensures.filled k d low l ∙ (get_or_read c.loop-r.xs (r - 1) c.index-xs-r.result inside c.index-xs-r.is d ∙ c.loop-r.invariant.rest (r - 1) d (omega (arith, start, before))) ∙ ap (λ t. get_or c.args.xs.now t d) (sym (div-eq_of_lt-le b low (omega (arith, l, next)))))
          (λ h. c.fill.ensures.after k d h ∙ c.loop-r.invariant.done k d (omega (arith, h, end)) (omega (arith, within, c.fill.auto.xs)))
          (cases_lt k ((r - 1) * b + b));
      rest = λ k d low. c.fill.ensures.before k d low ∙ c.loop-r.invariant.rest k d (omega (arith, low, end));
    }
