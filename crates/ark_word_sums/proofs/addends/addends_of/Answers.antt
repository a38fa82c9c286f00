use Rattle.std.proofs.Common.{◌≡◌, ◌<◌, sym, subst}
use Rattle.ark_word_sums.specs.Read.{numbered}
use Rattle.ark_word_sums.proofs.AddendFronts.{coefficients_below, front_all, none_left, read_more, split_given}
use Rattle.ark_word_sums.proofs.Spelling.{modulus_is}
use Rattle.ark_word_sums.proofs.addends.addends_of.Goals as goal

pub loop-rest-preserved : goal.loop-rest-preserved
loop-rest-preserved g c =
    let f = g.F.WordElement.spelled in
    let number = g.F.PrimeNumbers.numbering.number in
    let is =
    split_given f g.F.WordElement.WIDTH _ g.met.F.WordElement.spelled_law c.WIDTH.result c.WIDTH.ensures c.loop-rest.rest.now
    c.in-Some.coefficient.now c.in-Some.factors.now c.in-Some.next.now c.in-Some.ensures.width c.in-Some.ensures.words in
    read_more number f c.args.words.now c.loop-rest.rest.now c.in-Some.coefficient.now c.in-Some.factors.now c.in-Some.next.now
    c.loop-rest.addends.items c.push.new.self.items (record { coefficient = c.in-Some-from_words.coefficient; factors = c.in_ok-factors.factors })
    c.loop-rest.invariant is c.in_ok-push.ensures.items c.in-Some-from_words.ensures.some c.in_ok-factors.ensures

pub returns-clause-spelled : goal.returns-clause-spelled
returns-clause-spelled g c =
    let end = none_left c.loop-rest.rest.now c.is_empty.result c.is_empty.ensures c.loop-rest-test.false in
    front_all g.F.WordElement.spelled c.args.words.now (numbered g.F.PrimeNumbers.numbering.number c.loop-rest.addends.items) c.loop-rest.rest.now c.loop-rest.invariant end

pub returns-clause-reduced : goal.returns-clause-reduced
returns-clause-reduced g c =
    let f = g.F.WordElement.spelled in
    let number = g.F.PrimeNumbers.numbering.number in
    let modulus : f.known.modulus ≡ g.F.PrimeNumbers.modulus = modulus_is f g.F.WordElement.WIDTH _ g.met.F.WordElement.spelled_law in
    coefficients_below number f (λ x. subst (λ p. number x < p) (sym modulus) (g.F.PrimeNumbers.numbering.below x)) c.loop-rest.addends.items
