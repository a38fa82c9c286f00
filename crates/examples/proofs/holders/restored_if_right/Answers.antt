use Rattle.std.proofs.Common.{map}
use Rattle.ark_math.proofs.Outcomes.Results.{IfOk_both}
use Rattle.examples.proofs.holders.restored_if_right.Goals as goal

-- what comes back would be a codeword with all the word's values, and none has them
pub returns-clause-refused : goal.returns-clause-refused
returns-clause-refused g c y x size spare codeword agrees known wrong =
    IfOk_both c.restore.result
    (λ v is has. c.one_wrong_value.ensures x y (map g.T.DomainCoeff.meaning v.items) size spare codeword agrees known wrong is has)
    c.restore.ensures.codeword c.restore.ensures.agrees
