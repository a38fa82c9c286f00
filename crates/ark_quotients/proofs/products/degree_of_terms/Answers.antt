use Rattle.std.proofs.Common.{sym, ap, ◌∙◌}
use Rattle.std.specs.Option.{option_copied}
use Rattle.ark_math_polynomials.proofs.Polynomials.UnivariatePairs.{sparse_last}
use Rattle.ark_quotients.proofs.products.degree_of_terms.Goals as goal

pub returns-in-Some : goal.returns-in-Some
returns-in-Some g c =
    sparse_last g.F.Field.field g.met.F.Field.field_laws c.args.terms.now c.in-Some.term.now c.requires (sym c.last.ensures.value ∙ ap option_copied c.in-Some.is)
