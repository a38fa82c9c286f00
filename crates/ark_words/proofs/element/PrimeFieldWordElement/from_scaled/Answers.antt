use Rattle.ark_base.specs.Element.{number}
use Rattle.ark_words.proofs.Multiples.{once}
use Rattle.ark_words.proofs.element.PrimeFieldWordElement.from_scaled.Goals as goal

pub returns-clause-some : goal.returns-clause-some
returns-clause-some g c = once c.from_words.result (λ x. number x) g.M.PrimeModulus.MODULUS _ (λ x. x.reduced) c.from_words.ensures.some
