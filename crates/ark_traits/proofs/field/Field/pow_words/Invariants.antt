use Rattle.std.proofs.Common.{◌≡◌, ◌+◌, ◌-◌, ◌*◌, ◌^◌, drop}
use Rattle.ark_math.specs.Field.{power}
use Rattle.ark_math.specs.Words.{number_of_words}
use Rattle.ark_traits.proofs.WordPowers.{IsWithin}
use Rattle.ark_traits.proofs.field.Field.pow_words.Given as goal

abbrev pub invariant-words : goal.invariant-words
invariant-words g l =
    let K = g.Self.Field.field in
    K.times l.result (power K l.square (number_of_words (drop l.word-index l.exponent))) ≡ power K l.fn.self (number_of_words l.exponent)

abbrev pub invariant-bits : goal.invariant-bits
invariant-bits g l =
    let K = g.Self.Field.field in
    record {
      within : IsWithin l.left l._i;
      powers : K.times l.result (power K l.square (l.left + 2 ^ (64 - l._i) * number_of_words (drop (l.word-index + 1) l.exponent))) ≡ power K l.fn.self (number_of_words l.exponent);
    }
