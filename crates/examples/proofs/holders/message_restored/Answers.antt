-- The word is a codeword that agrees with itself, and so the only one: its first places are the message.
use Rattle.std.proofs.Common.{◌≡◌, map, take, sym, ap, ap₂, ◌∙◌, subst}
use Rattle.std.proofs.lemmas.List.{take-map}
use Rattle.ark_math.specs.Module.{item}
use Rattle.rs_code.specs.Codeword.{IsCodeword}
use Rattle.examples.proofs.holders.message_restored.Goals as goal

pub returns : goal.returns
returns g c =
    let K = g.F.Field.field in
    let V = g.T.DomainCoeff.group in
    let m = g.T.DomainCoeff.meaning in
    let word = map m c.in_ok-word.word.items in
    let is = subst (λ r. IsCodeword K V r.domain r.k word) (sym c.in_ok-decoder.ensures.code) c.in_ok-word.ensures.codeword in
    let same : word ≡ map m c.in_ok-items.items.items = c.in_ok-items.ensures.only word is (λ i kept. ap (λ l. item V (map m l) i) (sym c.deref.ensures.value)) in
    record {
      same = ap (map m) c.truncate.ensures.items ∙ sym (take-map m c.k.result c.in_ok-items.items.items) ∙ ap₂ take c.k.ensures (sym same) ∙ c.in_ok-word.ensures.systematic;
    }
