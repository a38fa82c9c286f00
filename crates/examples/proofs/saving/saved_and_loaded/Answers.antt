use Rattle.ark_base.specs.declared.Compress.TheVariants.{Yes}
use Rattle.ark_univariate.specs.Layouts.{dense}
use Rattle.ark_math_formats.proofs.Callers.Bytes.{only_spelled}
use Rattle.ark_univariate.specs.LayoutLaws.{dense_tells}
use Rattle.examples.proofs.saving.saved_and_loaded.Goals as goal

-- no two polynomials have one spelling, since no two elements have
pub returns-clause-same : goal.returns-clause-same
returns-clause-same g c =
    let K = g.F.Field.field in
    let e = g.F.Spelled.format Yes in
    only_spelled (dense K e) (dense_tells K e (g.F.Spelled.format_law Yes) (g.met.F.Field.elements_law Yes).one_to_one) c.args.polynomial.now _ c.written_then_read.ensures.alike
