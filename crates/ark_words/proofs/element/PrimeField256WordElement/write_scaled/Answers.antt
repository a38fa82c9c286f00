use Rattle.std.proofs.Common.{ap, ◌∙◌, rules}
use Rattle.ark_math.specs.Words.{number_of_words}
use Rattle.ark_words.proofs.WordLists.{four_words, four_words_set}
use Rattle.ark_words.proofs.element.PrimeField256WordElement.write_scaled.Goals as goal

pub returns : goal.returns
returns g c =
    ap number_of_words (four_words_set c.args.words.now _ _ _ _ c.requires ∙ four_words c.scaled.result (search rules))
    ∙ c.scaled.ensures
