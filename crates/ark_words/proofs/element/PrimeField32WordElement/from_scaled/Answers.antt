use Rattle.std.proofs.Common.{◌≡◌, subst, sym, IfSome}
use Rattle.ark_base.specs.Element32.{numbering, field_of, unit}
use Rattle.ark_words.proofs.WordLists.{one_word}
use Rattle.ark_words.proofs.element.PrimeField32WordElement.from_scaled.Goals as goal

pub returns-then-word-MODULUS-clause-some : goal.returns-then-word-MODULUS-clause-some
returns-then-word-MODULUS-clause-some g c =
    let M = g.M.PrimeModulus32.modulus in
    let N = numbering {M = g.row.M.Denot} {g = g.M.PrimeModulus32} M in
    subst (λ n. IfSome c.from_scaled.result (λ x. N.number ((field_of M).times (unit M) x) ≡ n)) (sym (one_word c.args.words.now c.requires)) c.from_scaled.ensures.some
