use Rattle.std.proofs.Common.{◌≡◌, ◌-◌, ◌++◌, length, take, drop, sym, ap, ◌∙◌, arith}
use Rattle.std.proofs.lemmas.List.{length-replicate}
use Rattle.ark_math.specs.Univariate.{added, of_list, of_pairs}
use Rattle.ark_math.proofs.Algebra.Groups.{zero_plus}
use Rattle.ark_math.proofs.Lists.Lists.{written_back}
use Rattle.ark_math_polynomials.proofs.Polynomials.Univariate.{coefficients_are_module}
use Rattle.ark_math_polynomials.proofs.Polynomials.UnivariateLists.{of_list-replicate}
use Rattle.ark_quotients.proofs.conversions.coefficients_of.Goals as goal

pub returns-clause-same : goal.returns-clause-same
returns-clause-same g c =
    let K = g.F.Field.field in
    let a = of_pairs K c.args.terms.now in
    ap (of_list K) (written_back c.add_terms.new.coeffs _ _ (omega (arith, c.add_terms.auto.coeffs, c.as_mut_slice.ensures.len)))
    ∙ c.add_terms.ensures
    ∙ ap (λ t. added K t a) (ap (of_list K) (c.as_mut_slice.ensures.value ∙ c.in_ok-coeffs.ensures) ∙ of_list-replicate K _)
    ∙ zero_plus (coefficients_are_module K g.met.F.Field.field_laws) a

pub returns-clause-trimmed : goal.returns-clause-trimmed
returns-clause-trimmed g c l z =
    let K = g.F.Field.field in
    let n = c.in-Some.len in
    let written = c.add_terms.new.coeffs in
    let room = c.in_ok-coeffs.coeffs in
    let items = take room.len (written ++ drop (length written) room.items) in
    let back : items ≡ written = written_back written (drop (length written) room.items) room.len (omega (arith, c.add_terms.auto.coeffs, c.as_mut_slice.ensures.len)) in
    let whole : length written ≡ n = c.add_terms.auto.coeffs ∙ ap length (c.as_mut_slice.ensures.value ∙ c.in_ok-coeffs.ensures) ∙ length-replicate n K.zero in
    let len = ap length back ∙ whole in
    c.in-Some.ensures.last (omega (arith, l, len)) (sym (ap (λ t. t (n - 1)) (returns-clause-same g c)) ∙ sym (ap (λ m. of_list K items (m - 1)) len) ∙ z)
