use Rattle.ark_prime256.specs.Words.{integer}
use Rattle.ark_prime256.proofs.words.numerals.+write_numeral.Given as goal

abbrev pub decreases-write_numeral : goal.decreases-write_numeral
decreases-write_numeral g l = integer l.number
