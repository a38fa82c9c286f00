use Rattle.std.proofs.Common.{ℕ, Ok, ap, ◌∙◌}
use Rattle.ark_base.specs.declared.Compress.TheVariants.{Yes}
use Rattle.ark_univariate.specs.Layouts.{dense}
use Rattle.ark_math_formats.proofs.Callers.Bytes.{only_spelled}
use Rattle.ark_univariate.specs.LayoutLaws.{dense_is_format, dense_tells}
use Rattle.ark_base.proofs.ReadBack.{reads_back}
use Rattle.examples.proofs.saving.load.Goals as goal

-- what is read is spelled as the polynomial whose spelling is there, and no other one is
pub returns-clause-same : goal.returns-clause-same
returns-clause-same g c p more has known =
    let K = g.F.Field.field in
    let e = g.F.Spelled.format Yes in
    let law = g.F.Spelled.format_law Yes in
    let held = ap g.R.Read.remaining c.new-source.ensures.inner ∙ known in
    only_spelled {E = ℕ} (dense K e) (dense_tells K e law (g.met.F.Field.elements_law Yes).one_to_one) p (Ok c.in_ok-polynomial.polynomial)
    (reads_back (dense K e) (dense_is_format K e law) (Unit {0}) _ _ p more (Ok c.in_ok-polynomial.polynomial) has held c.in_ok-polynomial.ensures)
