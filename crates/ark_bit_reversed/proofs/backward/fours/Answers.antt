use Rattle.std.proofs.Common.{◌≡◌, ◌≢◌, ◌+◌, ◌*◌, ◌<◌, ℕ, List, length, refl, sym, ◌∙◌, ap, subst, inl, inr, arith, ⊎_elim}
use Rattle.std.proofs.lemmas.Bool.{cases_eq}
use Rattle.std.proofs.lemmas.List.{get_or_read}
use Rattle.ark_math.specs.Field.{power}
use Rattle.ark_math.specs.Univariate.{of_list, value_below}
use Rattle.ark_bit_reversed.specs.Blocks.{AreTurnedBack}
use Rattle.ark_bit_reversed.proofs.FourItems.{four_written, written_first, written_second, written_third, written_fourth, written_nowhere_else}
use Rattle.ark_bit_reversed.proofs.Undone.{of_four, two, turned_back_same, four_back}
use Rattle.ark_bit_reversed.proofs.backward.fours.Goals as goal

pub loop-r-preserved : goal.loop-r-preserved
loop-r-preserved g c =
    let K = g.F.Field.field in
    let v = c.loop-r.invariant in
    let r = c.loop-r.r in
    let xs = c.loop-r.values in
    let old = c.args.values.now in
    let inverses = c.args.inverses.now in
    let start = c.args.start in
    let four = c.four-a.result in
    let inside : 4 * r + 3 < length xs = omega (arith, c.loop-r-test.true, c.loop-r.auto.values, c.loop-r.auto.r-end, c.requires.whole) in
    let others = written_nowhere_else xs (4 * r) four.0 four.1 four.2 four.3 K.zero inside in
    let here = turned_back_same K _ _ _ _ _ _ _ _ _ _ _
    (of_list K inverses (start + r)) (of_list K inverses (2 * (start + r))) (of_list K inverses (2 * (start + r) + 1))
    (of_list K old (4 * r)) (of_list K old (4 * r + 1)) (of_list K old (4 * r + 2)) (of_list K old (4 * r + 3)) _ _ _ _
    (get_or_read inverses _ _ (omega arith) c.index-inverses-block.is K.zero)
    (get_or_read inverses _ _ (omega arith) c.index-inverses-block-in-loop-r.is K.zero)
    (get_or_read inverses _ _ (omega arith) c.index-inverses-block-in-loop-r-2.is K.zero)
    (get_or_read xs _ _ (omega arith) c.index-values-r.is K.zero ∙ v.rest (4 * r) (omega arith))
    (get_or_read xs _ _ (omega arith) c.index-values-r-in-loop-r.is K.zero ∙ v.rest (4 * r + 1) (omega arith))
    (get_or_read xs _ _ (omega arith) c.index-values-r-in-loop-r-2.is K.zero ∙ v.rest (4 * r + 2) (omega arith))
    (get_or_read xs _ _ (omega arith) c.index-values-r-in-loop-r-3.is K.zero ∙ v.rest (4 * r + 3) (omega arith))
    (sym (written_first xs (4 * r) four.0 four.1 four.2 four.3 K.zero inside))
    (sym (written_second xs (4 * r) four.0 four.1 four.2 four.3 K.zero inside))
    (sym (written_third xs (4 * r) four.0 four.1 four.2 four.3 K.zero inside))
    (sym (written_fourth xs (4 * r) four.0 four.1 four.2 four.3 K.zero inside))
    c.four-a.ensures in
    let at = λ (ys : List g.row.F.Denot) (k : ℕ). AreTurnedBack K (of_list K inverses (start + k)) (of_list K inverses (2 * (start + k))) (of_list K inverses (2 * (start + k) + 1))
    (of_list K old (4 * k)) (of_list K old (4 * k + 1)) (of_list K old (4 * k + 2)) (of_list K old (4 * k + 3))
    (of_list K ys (4 * k)) (of_list K ys (4 * k + 1)) (of_list K ys (4 * k + 2)) (of_list K ys (4 * k + 3)) in
    let new = four_written xs (4 * r) four.0 four.1 four.2 four.3 K.zero inside in
    record {
      turned = λ k l. ⊎_elim {C = at new k}
          (λ (e : k ≡ r). subst (at new) (sym e) here)
          (λ (ne : k ≢ r).
          let before : k < r = omega arith in
          turned_back_same K _ _ _ _ _ _ _ _ _ _ _ _ _ _ _ _ _ _ _ _ _ _ refl refl refl refl refl refl refl
          (sym (others (4 * k) (inl (omega (arith, before))))) (sym (others (4 * k + 1) (inl (omega (arith, before))))) (sym (others (4 * k + 2) (inl (omega (arith, before))))) (sym (others (4 * k + 3) (inl (omega (arith, before)))))
          (v.turned k before))
          (cases_eq k r);
      rest = λ k l. others k (inr (omega arith)) ∙ v.rest k (omega arith);
    }

pub returns-clause-coefficients : goal.returns-clause-coefficients
returns-clause-coefficients g c = λ x a known r l values.
    let K = g.F.Field.field in
    let old = c.args.values.now in
    let new = c.loop-r.values in
    let first : 4 * r + 0 ≡ 4 * r = omega arith in
    let element : 4 * (c.args.start + r) + 0 ≡ 4 * (c.args.start + r) = omega arith in
    let back = four_back K g.met.F.Field.field_laws x c.args.inverses.now known (c.args.start + r) (omega arith) a (of_list K old (4 * r)) _ _ _ _ _ _ _
    (ap (of_list K old) (sym first) ∙ values 0 (omega arith) ∙ ap (λ k. value_below K 4 a (x k)) element) (values 1 (omega arith)) (values 2 (omega arith)) (values 3 (omega arith))
    (c.loop-r.invariant.turned r (omega arith)) in
    of_four (λ j. of_list K new (4 * r + j) ≡ K.times (power K (two K) 2) (a j)) (ap (of_list K new) first ∙ back.0) back.1 back.2 back.3
