use Rattle.std.proofs.Common.{◌∙◌, sym}
use Rattle.std.proofs.lemmas.Result.{IfOk-weaker}
use Rattle.examples.proofs.sum_check.last_value.Goals as goal

pub evaluate-requires : goal.evaluate-requires
evaluate-requires g c =
    let E = g.met.E.MultilinearExtension in
    (E.fits_law _ _).1 (c.requires ∙ sym (E.variables_law c.args.table.now))

pub returns-clause-value : goal.returns-clause-value
returns-clause-value g c = IfOk-weaker c.evaluate.result _ _ (g.met.E.MultilinearExtension.evaluate_is c.args.table.now c.args.drawn.now) c.evaluate.ensures.value
