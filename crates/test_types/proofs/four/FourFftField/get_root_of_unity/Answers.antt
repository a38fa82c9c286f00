use Rattle.std.proofs.lemmas.Bool.{false≢true}
use Rattle.test_types.specs.FourLaws.{not_supported}
use Rattle.test_types.proofs.four.FourFftField.get_root_of_unity.Goals as goal

pub returns-else-n-eq3-clause-supported : goal.returns-else-n-eq3-clause-supported
returns-else-n-eq3-clause-supported c =
    (λ some. absurd (false≢true some), λ h. absurd (not_supported c.args.n c.if-n-eq1.false c.if-n-eq3.false h))
