use Rattle.std.proofs.Common.{◌≢◌, Ok, sym, ap, ◌∙◌}
use Rattle.ark_math.specs.Univariate.{nothing, of_list}
use Rattle.ark_subproducts.proofs.quotients.remainder.Goals as goal

pub returns-in-Some-clause-remainder : goal.returns-in-Some-clause-remainder
returns-in-Some-clause-remainder g c =
    let K = g.F.Field.field in
    let some : of_list K c.args.divisor.now ≢ nothing K = λ e. g.met.F.Field.field_laws.one_not_zero (sym c.requires.monic.1.leading ∙ ap (λ t. t c.requires.monic.0) e) in
    let division = rw c.in-Some.is at c.in_ok-division.ensures.division in
    (of_list K c.in-Some.division.0, division.quotient some)

pub returns-in-None-clause-memory : goal.returns-in-None-clause-memory
returns-in-None-clause-memory g c =
    absurd (g.met.F.Field.field_laws.one_not_zero (sym c.requires.monic.1.leading ∙ ap (λ t. t c.requires.monic.0) (c.in_ok-division.ensures.none.0 (ap Ok c.in-None.is)).1))
