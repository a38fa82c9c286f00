use Rattle.std.proofs.Common.{◌≡◌, ap, sym, ◌∙◌}
use Rattle.std.specs.Cmp.{unsigned_Decides}
use Rattle.std.specs.Cmp.Lexicographic.{pointwise_decides}
use Rattle.ark_math.specs.Words.{number_of_words}
use Rattle.ark_words.specs.Numbers.{numbers}
use Rattle.examples.proofs.word_sums.is_shown.Goals as goal

pub returns-clause-sum : goal.returns-clause-sum
returns-clause-sum g c = λ shown.
    let same : c.value_at.new.value ≡ c.verify.new.value = (pointwise_decides unsigned_Decides c.value_at.new.value c.verify.new.value).0 (sym c.eq.ensures ∙ shown) in
    let left = c.in_ok-verify.ensures in
    let found = c.in_ok-value_at.ensures in
    let sum = found.taken.1 in
    let ps = sum.1 in
    let is = sum.2 in
    let value = found.value ps is.spelled in (
      ps,
      is.spelled,
      c.shown_or_unlucky.ensures c.args.label.now c.args.statement.now c.args.proof.now c.args.tables.now c.args.addends.now
          c.verify.new.point c.verify.new.value c.args.num_vars c.args.degree (number_of_words c.args.sum.now) ps
          left.taken.0.0.2 left.taken.1 is sum.0 sum.3 left.reduced
          (value.0, value.1, ap (numbers g.F.WordElement.spelled.width) (sym same) ∙ value.2),
    )

pub returns-clause-honest : goal.returns-clause-honest
returns-clause-honest g c = λ ps is proves.
    let left = c.in_ok-verify.ensures in
    let found = c.in_ok-value_at.ensures in
    c.eq.ensures ∙ (pointwise_decides unsigned_Decides c.value_at.new.value c.verify.new.value).1
    (c.honest_is_shown.ensures c.args.label.now c.args.statement.now c.args.proof.now c.args.tables.now c.verify.new.point
    c.verify.new.value c.value_at.new.value c.args.num_vars c.args.degree (number_of_words c.args.sum.now) ps
    left.taken.0.0.2 proves left.reduced (found.value ps is) (c.verify.auto.value ∙ left.taken.0.4) (c.value_at.auto.value ∙ found.taken.0.3) c.are_words-2.ensures c.are_words.ensures)
