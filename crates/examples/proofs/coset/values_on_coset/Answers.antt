use Rattle.std.proofs.Common.{◌≡◌, ◌≤◌, ap, arith, subst, length}
use Rattle.std.proofs.lemmas.Result.{IfOk-weaker}
use Rattle.ark_math.specs.Univariate.{of_list}
use Rattle.ark_math_domains.specs.Points.{AreValues}
use Rattle.ark_math_domains.proofs.Callers.Transforms.{values_of_fft, values_of_ifft}
use Rattle.examples.proofs.coset.values_on_coset.Goals as goal

pub returns-clause-values : goal.returns-clause-values
returns-clause-values g c =
    let K = g.F.Field.field in
    let laws = g.met.F.Field.field_laws in
    let same = g.met.F.FftField.itself_law in
    let coeffs = c.in_ok-coeffs.coeffs.items in
    let d = g.D.EvaluationDomain.domain c.args.domain.now in
    let p = values_of_ifft K _ same laws d c.args.values.now coeffs c.requires c.in_ok-coeffs.ensures.inverse in
    let size : length coeffs ≡ d.size = c.in_ok-coeffs.ensures.len in
    let coset = g.D.EvaluationDomain.domain c.in_ok-coset.coset in
    let is : coset ≡ record d { offset = c.args.offset } = rw c.in_ok-coset.ensures.ok_part at c.get_coset.ensures.coset in
    let fits : length coeffs ≤ coset.size = omega (arith, ap (λ x. x.size) is, size) in
    IfOk-weaker c.fft.result _ _
    (λ others h. (of_list K coeffs, p.0, p.1, subst (λ x. AreValues K x (of_list K coeffs) others.items) is (values_of_fft K _ same laws coset coeffs others.items fits (rw c.deref.ensures.value at h))))
    c.fft.ensures.transform
