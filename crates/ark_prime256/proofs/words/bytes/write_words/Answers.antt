use Rattle.std.proofs.Common.{rules}
use Rattle.ark_prime256.specs.Words.{AreWords}
use Rattle.ark_prime256.proofs.WordBytes.{written_as_number}
use Rattle.ark_prime256.proofs.words.bytes.write_words.Goals as goal

pub returns : goal.returns
returns g c =
    let fits : AreWords c.args.value = search rules in
    written_as_number _ _ c.args.value c.serialize_with_mode.result fits c.serialize_with_mode.ensures
