use Rattle.std.proofs.Common.{◌<◌, length, map, refl, sym, ap, subst, ◌∙◌}
use Rattle.std.proofs.lemmas.List.{length-map}
use Rattle.std.proofs.lemmas.Result.{on_ok_weaker}
use Rattle.ark_math.specs.Domain.{radix2}
use Rattle.ark_math.specs.Cost.{forward, inverse}
use Rattle.ark_math_domains.proofs.Callers.Transforms.{transform-length}
use Rattle.ark_fft.specs.Cost.{GrowsByCost}
use Rattle.ark_fft.specs.Coset.{coset_domain}
use Rattle.ark_fft_parts.proofs.Counting.{one_transform}
use Rattle.ark_fft_parts.proofs.Domains.{some_items}
use Rattle.ark_fft_parts.proofs.ways.pass.Goals as goal

pub returns-in-Forward-clause-size : goal.returns-in-Forward-clause-size
returns-in-Forward-clause-size g c =
    let V = g.T.DomainCoeff.group in
    let m = g.T.DomainCoeff.meaning in
    on_ok_weaker c.fft_counted.result
    (λ e. sym (length-map c.fft_counted.new.coeffs.items m) ∙ (ap length e ∙ transform-length g.F.Field.field V (coset_domain radix2 c.args.coset.now) (map m c.args.list.now.items)))
    c.fft_counted.ensures.transform

pub returns-in-Forward-clause-counted : goal.returns-in-Forward-clause-counted
returns-in-Forward-clause-counted g c =
    let s = g.F.FftField.adicity in
    let t = c.args.coset.now in
    let d = coset_domain radix2 t in
    let some : 0 < t.size = some_items g.F.Field.field g.met.F.Field.field_laws s g.F.FftField.root g.met.F.FftField.roots_law t.size (t.log_size_of_group, t.odd_exponent, t.splits) in
    on_ok_weaker c.fft_counted.result
    (λ h. one_transform s d forward refl some (subst (λ k. GrowsByCost s d k forward c.args.work.now c.fft_counted.new.work) c.requires.size h))
    c.fft_counted.ensures.cost

pub returns-in-Back-clause-counted : goal.returns-in-Back-clause-counted
returns-in-Back-clause-counted g c =
    let s = g.F.FftField.adicity in
    let t = c.args.coset.now in
    let d = coset_domain radix2 t in
    let some : 0 < t.size = some_items g.F.Field.field g.met.F.Field.field_laws s g.F.FftField.root g.met.F.FftField.roots_law t.size (t.log_size_of_group, t.odd_exponent, t.splits) in
    on_ok_weaker c.ifft_counted.result
    (λ h. one_transform s d inverse refl some (subst (λ k. GrowsByCost s d k inverse c.args.work.now c.ifft_counted.new.work) c.requires.size h))
    c.ifft_counted.ensures.cost
