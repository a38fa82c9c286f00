use Rattle.std.proofs.Common.{◌≡◌, subst, IfSome}
use Rattle.ark_math.specs.Words.{number_of_words}
use Rattle.ark_prime256.specs.Element.{numbering}
use Rattle.ark_words.proofs.WordLists.{four_words}
use Rattle.ark_words.proofs.element.PrimeField256WordElement.from_words.Goals as goal

pub returns-clause-some : goal.returns-clause-some
returns-clause-some g c =
    let N = numbering {M = g.row.M.Denot} {g = g.M.PrimeModulus256} g.M.PrimeModulus256.modulus in
    subst (λ words. IfSome c.from_words.result (λ x. N.number x ≡ number_of_words words)) (four_words c.args.words.now c.requires)
    c.from_words.ensures.some
