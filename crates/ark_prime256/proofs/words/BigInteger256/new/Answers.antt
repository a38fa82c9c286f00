use Rattle.std.proofs.Common.{◌≡◌, length, arith, rules}
use Rattle.std.proofs.lemmas.Grind.{common_steps}
use Rattle.ark_prime256.proofs.FourWords.{four_words}
use Rattle.ark_prime256.proofs.words.BigInteger256.new.Goals as goal

pub returns : goal.returns
returns c =
    let four : length c.args.words ≡ 4 = first_of (omega arith, search rules, grind (arith, common_steps)) in
    four_words c.args.words four
