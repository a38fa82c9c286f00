use Rattle.std.proofs.Common.{◌≡◌, ap, sym, ◌∙◌, true≢false}
use Rattle.ark_extensions.specs.Elements.{element, embedded}
use Rattle.ark_extensions.proofs.quadratic.Quadratic.as_base.Goals as goal

pub returns-then-is_zero-clause-none : goal.returns-then-is_zero-clause-none
returns-then-is_zero-clause-none g c =
    let L = g.met.F.Field in
    let x = c.args.self.now in
    let zero = (L.equality_law _ _).0 (sym c.is_zero.ensures ∙ c.if-is_zero.true) ∙ L.zero_law in
    let here : x ≡ embedded g.F.Field.field x.c0 = ap (λ b. element (x.c0, b)) zero in
    (λ none. absurd (true≢false none), λ outside. absurd (outside x.c0 here))
