use Rattle.std.proofs.Common.{◌-◌, ◌<◌, ◌≤◌, ⊎_elim, arith, subst}
use Rattle.std.proofs.lemmas.Bool.{cases_lt}
use Rattle.ark_math_domains.proofs.Domains.LawfulDomains.{lawful_domain, order}
use Rattle.rs_code.specs.Code.{IsCode}
use Rattle.rs_code.specs.Codeword.{mark_count}
use Rattle.rs_code.proofs.Distance.{one_codeword}
use Rattle.rs_code.proofs.laws.minimum_distance.Goals as goal

pub returns-clause-one : goal.returns-clause-one
returns-clause-one g c marks a b size few =
    let N = g.met.F.Field.field_laws in
    let code = c.args.code.now in
    let is = subst (IsCode g.F.Field.field g.F.FftField.adicity g.F.FftField.root) c.code.view_is c.code.invariant in
    one_codeword N g.met.T.DomainCoeff.module_laws code.domain (order (lawful_domain N g.met.F.FftField.roots_law is.lawful)) is.lawful.offset_not_zero marks code.k size few a b

pub returns-clause-distance : goal.returns-clause-distance
returns-clause-distance g c marks a b size p q agrees differ =
    let code = c.args.code.now in
    let is = subst (IsCode g.F.Field.field g.F.FftField.adicity g.F.FftField.root) c.code.view_is c.code.invariant in
    ⊎_elim
    (λ (l : code.domain.size - code.k < mark_count marks). l)
    (λ (few : mark_count marks ≤ code.domain.size - code.k). absurd (differ (returns-clause-one g c marks a b size (omega (arith, few, is.fits)) p q agrees)))
    (cases_lt (code.domain.size - code.k) (mark_count marks))
