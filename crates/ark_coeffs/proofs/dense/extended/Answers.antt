use Rattle.std.proofs.Common.{◌≡◌, ◌≤◌, ◌++◌, length, subst, sym, ap, ◌∙◌}
use Rattle.ark_math.specs.Univariate.{of_list}
use Rattle.ark_math_polynomials.proofs.Polynomials.UnivariateLists.{of_list-padded}
use Rattle.ark_coeffs.proofs.dense.extended.Goals as goal

pub returns-clause-same : goal.returns-clause-same
returns-clause-same g c =
    let K = g.F.Field.field in
    let copy : c.extend_from_slice.new.self.items ≡ c.args.coeffs.now =
    c.in_ok-extend_from_slice.ensures.items ∙ ap (λ t. t ++ c.args.coeffs.now) c.in_ok-copy.ensures.items in
    let within : length c.extend_from_slice.new.self.items ≤ c.args.len = subst (λ t. length t ≤ c.args.len) (sym copy) c.requires in
    ap (of_list K) c.in_ok-resize.ensures.items
    ∙ of_list-padded K c.extend_from_slice.new.self.items c.args.len _ c.zero.result within (c.zero.ensures ∙ g.met.F.Field.zero_law)
    ∙ ap (of_list K) copy
