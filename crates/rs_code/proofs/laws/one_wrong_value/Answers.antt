use Rattle.std.proofs.Common.{subst}
use Rattle.ark_math_domains.proofs.Domains.LawfulDomains.{lawful_domain, order}
use Rattle.rs_code.specs.Code.{IsCode}
use Rattle.rs_code.proofs.Distance.{wrong_value}
use Rattle.rs_code.proofs.laws.one_wrong_value.Goals as goal

pub returns : goal.returns
returns g c x y other size spare codeword agrees known wrong is_too there =
    let N = g.met.F.Field.field_laws in
    let code = c.args.code.now in
    let is = subst (IsCode g.F.Field.field g.F.FftField.adicity g.F.FftField.root) c.code.view_is c.code.invariant in
    wrong_value N g.met.T.DomainCoeff.module_laws code.domain (order (lawful_domain N g.met.F.FftField.roots_law is.lawful)) is.lawful.offset_not_zero g.T.DomainCoeff.meaning code.k
    c.args.place c.args.word.now x y other size spare known wrong agrees codeword is_too there
