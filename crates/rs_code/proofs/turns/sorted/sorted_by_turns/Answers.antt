use Rattle.std.proofs.Common.{◌≡◌, ℕ, ◌+◌, ◌*◌, ◌^◌, ◌<◌, [], suc, get_or, set, length, length-set, sym, ◌∙◌, ap, subst, arith}
use Rattle.std.proofs.Math.Pow.{pow_pos}
use Rattle.std.proofs.lemmas.List.{get_or-map}
use Rattle.ark_math.specs.Domain.{element}
use Rattle.ark_bit_reversed.specs.Blocks.{element_of}
use Rattle.ark_math_transforms.specs.BitReversal.{reversed}
use Rattle.ark_math_transforms.proofs.Numbers.BitReversal.{reversed_none}
use Rattle.ark_math.proofs.Numbers.PowersOfTwo.{pow_twice}
use Rattle.rs_code.specs.Turns.{AreSorted, AreSortedBelow, finished, finished_from, pushed, roots_of, turn_place, turned}
use Rattle.rs_code.proofs.turns.TurnedPlaces.{four_read}
use Rattle.rs_code.proofs.turns.TableOrder.{four_below, row_element, turn_element}
use Rattle.rs_code.proofs.turns.QuarterTurns.{sorted-all, sorted-more, sorted-none}
use Rattle.rs_code.proofs.turns.SortedRoots.{finished-more, finished_same, other-roots, pushed-length, pushed-roots}
use Rattle.rs_code.proofs.turns.sorted.sorted_by_turns.Goals as goal

pub overflow_mul-fours : goal.overflow_mul-fours
overflow_mul-fours g c =
    omega (arith, four_below c.args.fours.now c.requires.power c.requires.places c.loop-j.j c.loop-j-test.true, c.requires.size, c.requires.len)

pub overflow_add-fours : goal.overflow_add-fours
overflow_add-fours g c =
    omega (arith, four_below c.args.fours.now c.requires.power c.requires.places c.loop-j.j c.loop-j-test.true, c.requires.size, c.requires.len, c.pattern_of-pattern.ensures.place)

pub element-requires : goal.element-requires
element-requires g c =
    omega (arith, four_below c.args.fours.now c.requires.power c.requires.places c.loop-j.j c.loop-j-test.true, c.requires.size, c.pattern_of-pattern.ensures.place)

pub loop-j-init : goal.loop-j-init
loop-j-init g c =
    let K = g.F.Field.field in
    let N = g.met.F.Field.field_laws in
    let q = length c.args.fours.now in
    let l = c.requires.power.0 in
    let none : (p : ℕ) → roots_of c.in_ok-lists.lists p ≡ [] = λ p. c.in_ok-lists.ensures.empty p in
    record {
      len = c.in_ok-lists.ensures.len;
      few = λ p. omega (arith, ap length (none p));
      sorted = λ d one order table.
          let w = element K d q in
          subst (AreSortedBelow K d q c.args.erased.now 0) (sym (finished_same K N w (none 0) (none 1) (none 2) (none 3) (none 4) (none 5)))
          (sorted-none K N d q order one (omega (arith, c.requires.size, table.size)) (omega (arith, c.requires.power.1, pow_pos l)) c.args.erased.now);
    }

pub loop-j-preserved : goal.loop-j-preserved
loop-j-preserved g c =
    let K = g.F.Field.field in
    let N = g.met.F.Field.field_laws in
    let v = c.loop-j.invariant in
    let marks = c.args.erased.now in
    let q = length c.args.fours.now in
    let j = c.loop-j.j in
    let lists = c.loop-j.lists in
    let pushed_to = c.push.new.self in
    let p = c.pattern_of-pattern.result.0 in
    let place = c.pattern_of-pattern.result.1 in
    let r = c.element.result in
    let inside : p < length lists = omega (arith, c.pattern_of-pattern.ensures.pattern, v.len) in
    let old = get_or lists p c.index-lists-pattern.result in
    let old_is : old.items ≡ roots_of lists p = sym (get_or-map (λ v. v.items) lists p c.index-lists-pattern.result [] inside) in
    record {
      len = length-set lists p pushed_to ∙ v.len;
      few = pushed-length lists p pushed_to r inside old.items c.in_ok-push.ensures.items old_is j v.few;
      sorted = λ d one order table.
          let w = element K d q in
          let turn = turn_place place in
          let l = c.requires.power.0 in
          let q_is : q ≡ 2 ^ l = c.requires.power.1 in
          let levels : d.size ≡ 2 ^ suc (suc l) = omega (arith, c.requires.size, table.size, q_is, pow_twice l, pow_twice (suc l)) in
          let whole : d.size ≡ q + (q + (q + q)) = omega (arith, c.requires.size, table.size) in
          let root : r ≡ element K d (j + turn * q) =
          c.element.ensures ∙ ap (λ k. element_of K c.args.table.now (4 * k + place)) (c.requires.places l j q_is c.loop-j-test.true)
          ∙ row_element K N d one c.args.table.now table l levels j (omega (arith, c.loop-j-test.true, q_is)) q place q_is c.pattern_of-pattern.ensures.place in
          let more : finished_from K w (set lists p pushed_to) ≡ pushed K w p (element K d (j + turn * q)) (finished_from K w lists) =
          finished-more K N w r p (roots_of lists) (roots_of (set lists p pushed_to)) c.pattern_of-pattern.ensures.pattern
          (pushed-roots lists p pushed_to r inside old.items c.in_ok-push.ensures.items old_is) (other-roots lists p pushed_to)
          ∙ ap (λ x. pushed K w p x (finished_from K w lists)) root in
          let next : suc j ≡ j + 1 = omega arith in
          subst (λ i. AreSortedBelow K d q marks i (finished_from K w (set lists p pushed_to))) next
          (subst (AreSortedBelow K d q marks (suc j)) (sym more)
          (sorted-more K N d q order one whole (omega (arith, c.loop-j-test.true)) marks j p turn (finished_from K w lists) (v.sorted d one order table)
          (ap (turned turn) (sym (four_read marks q j (omega (arith, c.loop-j-test.true, c.requires.size, c.requires.len)))) ∙ c.pattern_of-pattern.ensures.marked)));
    }

pub returns : goal.returns
returns g c = λ d one order table.
    let K = g.F.Field.field in
    let N = g.met.F.Field.field_laws in
    let marks = c.args.erased.now in
    let lists = c.loop-j.lists in
    let a = c.apart-roots.result in
    let q = length c.args.fours.now in
    let w = element K d q in
    let l = c.requires.power.0 in
    let q_is : q ≡ 2 ^ l = c.requires.power.1 in
    let levels : d.size ≡ 2 ^ suc (suc l) = omega (arith, c.requires.size, table.size, q_is, pow_twice l, pow_twice (suc l)) in
    let whole : d.size ≡ q + (q + (q + q)) = omega (arith, c.requires.size, table.size) in
    let some : 0 < q = omega (arith, q_is, pow_pos l) in
    let end : c.loop-j.j ≡ q = omega (arith, c.loop-j-test.false, c.loop-j.auto.j-end) in
    let second : 2 ≡ 4 * reversed l 0 + turn_place 1 = omega (arith, reversed_none l) in
    let turn : c.element-2.result ≡ w =
    c.element-2.ensures ∙ ap (element_of K c.args.table.now) second
    ∙ turn_element K N d one c.args.table.now table l levels 0 (omega (arith, some, q_is)) 1 (omega arith) q (omega (arith, q_is)) (omega (arith, whole, some)) in
    let same : c.finish.result ≡ finished_from K w lists =
    c.finish.ensures ∙ ap (λ t. finished K t a.none.items a.one.items a.two.items a.three.items a.all.items a.opposite.items) turn
    ∙ finished_same K N w c.apart-roots.ensures.none c.apart-roots.ensures.one c.apart-roots.ensures.two c.apart-roots.ensures.three c.apart-roots.ensures.all c.apart-roots.ensures.opposite in
    subst (AreSorted K d q marks) (sym same)
    (sorted-all K N d q order one whole some marks (finished_from K w lists) (c.requires.len ∙ table.size)
    (subst (λ i. AreSortedBelow K d q marks i (finished_from K w lists)) end (c.loop-j.invariant.sorted d one order table)))
