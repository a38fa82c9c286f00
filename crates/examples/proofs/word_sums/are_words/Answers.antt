use Rattle.std.proofs.Common.{◌^◌, ◌<◌, subst, sym, arith}
use Rattle.std.proofs.lemmas.List.{get_or_default}
use Rattle.examples.proofs.word_sums.are_words.Goals as goal

pub returns : goal.returns
returns c = λ k d inside.
    subst (λ word. word < 2 ^ 64) (get_or_default c.args.words.now k 0 d inside) (omega (arith, c.type_inv.words k))
