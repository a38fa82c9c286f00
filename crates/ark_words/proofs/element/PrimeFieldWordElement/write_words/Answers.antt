use Rattle.std.proofs.Common.{◌∙◌}
use Rattle.ark_words.proofs.WordLists.{one_word_set}
use Rattle.ark_words.proofs.element.PrimeFieldWordElement.write_words.Goals as goal

pub returns : goal.returns
returns g c = one_word_set c.args.words.now c.value.result c.requires ∙ c.value.ensures.number
