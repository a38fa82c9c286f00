-- The values of the message are a codeword that agrees with themselves, and so the only one.
use Rattle.std.proofs.Common.{◌≡◌, ◌<◌, ◌≤◌, map, length, sym, ap, ◌∙◌, refl, subst, arith}
use Rattle.std.proofs.lemmas.List.{length-map}
use Rattle.ark_math.specs.Module.{item}
use Rattle.ark_math.specs.Transform.{transform}
use Rattle.ark_math.proofs.Outcomes.Results.{IfOk_more}
use Rattle.rs_code.specs.Codeword.{IsCodeword}
use Rattle.examples.proofs.holders.lost_and_restored.Goals as goal

pub returns : goal.returns
returns g c =
    let K = g.F.Field.field in
    let V = g.T.DomainCoeff.group in
    let message = map g.T.DomainCoeff.meaning c.args.message.now in
    let codeword = transform K V c.args.code.now.domain message in
    let values : map g.T.DomainCoeff.meaning c.in_ok-values.values.items ≡ codeword = c.in_ok-values.ensures.codeword in
    let not_more : ¬ (c.args.code.now.k < length c.args.message.now) = λ more. cc (c.in_ok-values.ensures.wrong_length.1 more) in
    let fits : length message ≤ c.args.code.now.k = omega (arith, length-map c.args.message.now g.T.DomainCoeff.meaning, not_more) in
    let is = subst (λ r. IsCodeword K V r.domain r.k codeword) (sym c.in_ok-decoder.ensures.code) (message, fits, refl) in
    record {
      restored = IfOk_more c.restore-2.result (λ restored only. sym (only codeword is (λ i kept. ap (λ l. item V l i) (sym (ap (map g.T.DomainCoeff.meaning) c.deref.ensures.value ∙ values)))))
          c.restore-2.ensures.only;
    }
