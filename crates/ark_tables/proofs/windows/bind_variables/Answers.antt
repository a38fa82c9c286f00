use Rattle.std.proofs.Common.{◌≡◌, ◌++◌, length, rules, sym, ap, ap₂, ◌∙◌, arith}
use Rattle.std.proofs.lemmas.List.{nil_from_length, take-append-drop}
use Rattle.ark_math_variables.specs.Multilinear.{fixed}
use Rattle.ark_math.specs.Univariate.{of_pairs}
use Rattle.ark_math_variables.proofs.Polynomials.Multilinear.{fixed-nil, fixed-append}
use Rattle.ark_tables.proofs.windows.bind_variables.Goals as goal

pub bind-preserved : goal.bind-preserved
bind-preserved g c =
    let K = g.F.Field.field in
    let N = g.met.F.Field.field_laws in
    let h = c.bind.invariant in
    let s = c.split_at.ensures in
    let first = c.split_at.result.0.now in
    let others = c.split_at.result.1.now in
    let t = of_pairs K c.bind.bound.items in
    let joined : first ++ others ≡ c.bind.left.now = ap₂ (λ p q. p ++ q) s.front s.back ∙ take-append-drop _ c.bind.left.now in
    let b = c.in_ok-bound-2.ensures in (
      b.sparse,
      omega (arith, s.back_len, h.1),
      ap (λ u. fixed K u others) (b.values ∙ ap (λ es. fixed K (of_pairs K es) first) c.deref.ensures.value)
          ∙ sym (fixed-append K N t first others)
          ∙ ap (fixed K t) joined
          ∙ h.2,
    )

pub returns-clause-values : goal.returns-clause-values
returns-clause-values g c =
    let K = g.F.Field.field in
    let t = of_pairs K c.bind.bound.items in
    let none : length c.bind.left.now ≡ 0 = search rules in
    sym (fixed-nil K g.met.F.Field.field_laws t) ∙ ap (fixed K t) (sym (nil_from_length c.bind.left.now none)) ∙ c.bind.invariant.2
