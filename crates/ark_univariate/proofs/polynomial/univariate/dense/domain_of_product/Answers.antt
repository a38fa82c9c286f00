use Rattle.std.proofs.Common.{◌≡◌, ◌+◌, ◌-◌, ap, subst, sym, arith}
use Rattle.std.proofs.lemmas.Option.{IfSome_then}
use Rattle.std.specs.Option.{is_some}
use Rattle.ark_math.specs.Domain.{HasNoSize, IsGeneral}
use Rattle.ark_math_transforms.proofs.Domains.GeneralSizes.{general_sizes, general_fits}
use Rattle.ark_univariate.proofs.polynomial.univariate.dense.domain_of_product.Goals as goal

pub returns-in_err-checked_add-clause-none : goal.returns-in_err-checked_add-clause-none
returns-in_err-checked_add-clause-none g c =
    ((λ _ kind n h. let fits = general_fits g.F.FftField.adicity _ kind n h in absurd (c.in_err-checked_add.ensures (omega (arith, c.requires, fits)))), λ _. ap is_some c.from_residual.ensures)

pub returns-clause-room : goal.returns-clause-room
returns-clause-room g c =
    let len : c.in_ok-checked_add.field-0 ≡ c.args.left + c.args.right - 1 = omega (arith, c.in_ok-checked_add.ensures.1, c.requires) in
    IfSome_then c.new.result c.new.ensures.chosen (λ d chosen. rw len at (general_sizes g.F.FftField.adicity _ _ _ chosen).1)

pub returns-clause-none : goal.returns-clause-none
returns-clause-none g c =
    let len : c.in_ok-checked_add.field-0 ≡ c.args.left + c.args.right - 1 = omega (arith, c.in_ok-checked_add.ensures.1, c.requires) in
    let HasNone = HasNoSize (IsGeneral g.F.FftField.adicity) in
    let none = c.new.ensures.none in
    ((λ h. subst HasNone len (none.0 h)), (λ h. none.1 (subst HasNone (sym len) h)))
