use Rattle.std.proofs.Common.{◌≡◌, ◌+◌, ◌*◌, ◌/◌, ◌%◌, ◌<◌, ◌++◌, [], ◌∷◌, get_or, length, sym, ◌∙◌, ap, ap₂, arith, below_more}
use Rattle.std.proofs.lemmas.List.{get_or_append_left, get_or_push, get_or_read, length-append}
use Rattle.ark_math_transforms.specs.BitReversal.{reversed}
use Rattle.ark_math_transforms.proofs.Numbers.BitReversal.{reversed_below, reversed_none}
use Rattle.rs_code.proofs.turns.TableOrder.{reversed_next}
use Rattle.rs_code.proofs.turns.reversed_places.Goals as goal
use Rattle.rs_code.proofs.turns.reversed_places.Goals.{then-i-eq0, else-i-eq0}

pub loop-i-init : goal.loop-i-init
loop-i-init c =
    let empty = c.in_ok-places.ensures.items in
    let new = c.in_ok-push.ensures.items ∙ ap (λ xs. xs ++ 0 ∷ []) empty in
    record {
      len = ap length new;
      done = λ levels k is l. let first : k ≡ 0 = omega (arith, l) in ap₂ (λ xs i. get_or xs i 0) new first ∙ sym (ap (reversed levels) first ∙ reversed_none levels);
    }

pub loop-i-preserved : goal.loop-i-preserved
loop-i-preserved c =
    let v = c.loop-i.invariant in
    let i = c.loop-i.i in
    let xs = c.loop-i.places.items in
    let x = c.if-i-eq0.push in
    let new = c.in_ok-push-2.ensures.items in
    record {
      len = ap length new ∙ length-append xs (x ∷ []) ∙ ap (λ t. t + 1) v.len;
      done = λ levels k is l.
          let within : i / 2 < length xs = omega (arith, v.len, c.loop-i.auto.i) in
          let known = get_or_read xs (i / 2) c.index.result.now within c.index.ensures 0 ∙ v.done levels (i / 2) is (omega (arith, c.loop-i.auto.i)) in
          let next = reversed_next c.args.count levels i is (omega (arith, c.loop-i.auto.i)) c.loop-i-test.true in
          let made : x ≡ reversed levels i = elim c.if-i-eq0.branch [
            | then-i-eq0 w ↦ w.push-is ∙ (let h : i % 2 * (c.args.count / 2) ≡ 0 * (c.args.count / 2) = ap (λ t. t * (c.args.count / 2)) w.if-i-eq0.true in omega (arith, known, next, h))
            | else-i-eq0 w ↦
                let odd : i % 2 ≡ 1 = omega (arith, w.if-i-eq0.false) in
                let h : i % 2 * (c.args.count / 2) ≡ 1 * (c.args.count / 2) = ap (λ t. t * (c.args.count / 2)) odd in
                w.push-is ∙ omega (arith, known, next, h)
          ] in
          below_more (λ n. get_or c.push-in-loop-i.new.self.items n 0 ≡ reversed levels n) i
          (λ n b. ap (λ t. get_or t n 0) new ∙ get_or_append_left xs (x ∷ []) 0 n (omega (arith, b, v.len)) ∙ v.done levels n is b)
          (ap (λ t. get_or t i 0) new ∙ get_or_push xs x 0 i v.len ∙ made)
          k l;
    }

pub overflow_add-count : goal.overflow_add-count
overflow_add-count c =
    let v = c.loop-i.invariant in
    let i = c.loop-i.i in
    let xs = c.loop-i.places.items in
    let levels = c.requires.0 in
    let within : i / 2 < length xs = omega (arith, v.len, c.loop-i.auto.i) in
    let known = get_or_read xs (i / 2) c.index.result.now within c.index.ensures 0 ∙ v.done levels (i / 2) c.requires.1 (omega (arith, c.loop-i.auto.i)) in
    let small = reversed_below levels (i / 2) (omega (arith, c.requires.1, c.loop-i-test.true)) in
    omega (arith, known, small, c.requires.1, c.ranges.count.fits)
