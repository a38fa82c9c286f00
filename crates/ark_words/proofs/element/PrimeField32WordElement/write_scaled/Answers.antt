use Rattle.std.proofs.Common.{◌∙◌}
use Rattle.ark_words.proofs.WordLists.{one_word_set}
use Rattle.ark_words.proofs.element.PrimeField32WordElement.write_scaled.Goals as goal

pub returns : goal.returns
returns g c = one_word_set c.args.words.now c.scaled.result c.requires ∙ c.scaled.ensures
