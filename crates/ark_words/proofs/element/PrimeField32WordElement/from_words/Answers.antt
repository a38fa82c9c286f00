use Rattle.std.proofs.Common.{◌≡◌, subst, sym, IfSome}
use Rattle.ark_base.specs.Element32.{numbering}
use Rattle.ark_words.proofs.WordLists.{one_word}
use Rattle.ark_words.proofs.element.PrimeField32WordElement.from_words.Goals as goal

pub returns-then-word-MODULUS-clause-some : goal.returns-then-word-MODULUS-clause-some
returns-then-word-MODULUS-clause-some g c =
    let N = numbering {M = g.row.M.Denot} {g = g.M.PrimeModulus32} g.M.PrimeModulus32.modulus in
    subst (λ n. IfSome c.from_value.result (λ x. N.number x ≡ n)) (sym (one_word c.args.words.now c.requires)) c.from_value.ensures.some
