use Rattle.std.proofs.Common.{Ok, refl, subst}
use Rattle.ark_math.proofs.Outcomes.Results.{ok_none}
use Rattle.ark_math_polynomials.proofs.Polynomials.Quotients.{AnswersDivision, same_division}
use Rattle.ark_univariate.specs.DenseOrSparse.{denoted}
use Rattle.ark_poly.proofs.laws.univariate.divisions_of_all_forms.Goals as goal

pub returns-clause-same : goal.returns-clause-same
returns-clause-same g c =
    let K = g.F.Field.field in
    let a = denoted K c.args.dividend.now in
    let d = denoted K c.args.divisor.now in
    let one = c.in_ok-answer in
    let other = c.in_ok-other in
    same_division K g.met.F.Field.field_laws g.F.PartialEq.eq g.F.Zero.zero g.met.F.Field.equality_law g.met.F.Field.zero_law a d other.other one.answer
    (subst (λ x. AnswersDivision K x d other.other) c.requires.dividends
    (subst (λ x. AnswersDivision K (denoted K c.args.other_dividend.now) x other.other) c.requires.divisors
    (record { pair = other.ensures.division; none = ok_none other.other (Ok other.other) refl other.ensures.none; trimmed = c.see_trimmed-2.ensures })))
    (record { pair = one.ensures.division; none = ok_none one.answer (Ok one.answer) refl one.ensures.none; trimmed = c.see_trimmed.ensures })
