use Rattle.std.proofs.Common.{ℕ, Ok, Some, ap, subst}
use Rattle.ark_base.specs.declared.Compress.TheVariants.{Yes}
use Rattle.ark_univariate.specs.Layouts.{dense}
use Rattle.ark_math.specs.Univariate.{of_list, IsValue}
use Rattle.ark_math_formats.proofs.Callers.Bytes.{only_spelled}
use Rattle.ark_univariate.specs.LayoutLaws.{dense_is_format, dense_tells}
use Rattle.ark_base.proofs.ReadBack.{reads_back}
use Rattle.examples.proofs.errors.value_of_saved.Goals as goal

-- what is read is spelled there
pub returns-clause-spelled : goal.returns-clause-spelled
returns-clause-spelled g c =
    let read = c.in_ok-polynomial.ensures in
    (c.in_ok-polynomial.polynomial, _, read.has, read.takes.consumes, c.in_ok-evaluate.ensures.value)

-- as the polynomial whose spelling is there, and no other one is
pub returns-clause-value : goal.returns-clause-value
returns-clause-value g c p more has known =
    let K = g.F.Field.field in
    let e = g.F.Spelled.format Yes in
    let law = g.F.Spelled.format_law Yes in
    let same =
    only_spelled {E = ℕ} (dense K e) (dense_tells K e law (g.met.F.Field.elements_law Yes).one_to_one) p (Ok c.in_ok-polynomial.polynomial)
    (reads_back (dense K e) (dense_is_format K e law) (Unit {0}) _ _ p more (Ok c.in_ok-polynomial.polynomial) has (ap (λ l. Some l) known) c.in_ok-polynomial.ensures) in
    subst (λ q. IsValue K (of_list K q) c.args.point c.in_ok-evaluate.field-0) same c.in_ok-evaluate.ensures.value
