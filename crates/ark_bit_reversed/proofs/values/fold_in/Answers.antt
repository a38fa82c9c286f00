use Rattle.std.proofs.Common.{◌≡◌, sym, ap, ◌∙◌, refl, arith}
use Rattle.ark_math.specs.Univariate.{of_list}
use Rattle.ark_math.proofs.Algebra.Ring.{ring2}
use Rattle.ark_math.proofs.Algebra.Solve.{◌⊗◌, ◌⊕◌, ◌⊖◌, negative, unit}
use Rattle.ark_bit_reversed.proofs.values.fold_in.Goals as goal

pub returns-then-block-eq1-clause-sums : goal.returns-then-block-eq1-clause-sums
returns-then-block-eq1-clause-sums g c = λ x R i l.
    let K = g.F.Field.field in
    let item = of_list K c.args.low.now i in
    let other = of_list K c.args.high.now i in
    let second : 1 ≡ c.args.block = omega (arith, c.if-block-eq1.true) in
    let named : K.negated K.one ≡ x c.args.block = ap K.negated (sym R.reversed.first) ∙ sym (R.reversed.opposites 0 (omega (arith, second, c.requires.within))) ∙ ap x second in
    ap (λ t. t i) c.subtract_each.ensures
    ∙ ring2 K g.met.F.Field.field_laws (λ a b. (a ⊖ b, a ⊕ (negative unit ⊗ b))) refl item other
    ∙ ap (λ t. K.plus item (K.times t other)) named

pub returns-else-block-eq1-clause-sums : goal.returns-else-block-eq1-clause-sums
returns-else-block-eq1-clause-sums g c = λ x R i l.
    let K = g.F.Field.field in
    ap (λ t. t i) c.add_scaled.ensures
    ∙ ap (λ t. K.plus (of_list K c.args.low.now i) (K.times t (of_list K c.args.high.now i))) (c.element.ensures x R)
