use Rattle.std.proofs.Common.{arith}
use Rattle.ark_traits.specs.declared.error.PolyError.TheVariants.{Memory, Overflow}
use Rattle.ark_math.specs.Univariate.{of_pairs}
use Rattle.ark_math.proofs.Outcomes.Results.{no_other_error}
use Rattle.ark_math_polynomials.proofs.Polynomials.PairProducts.{exponents_room, no_degrees_past}
use Rattle.ark_quotients.proofs.products.product_of_terms.Goals as goal

pub all_products-requires : goal.all_products-requires
all_products-requires g c =
    exponents_room g.F.Field.field g.met.F.Field.field_laws c.args.left.now c.args.right.now c.degree_of_terms-2.result c.degree_of_terms.result _
    c.requires.left c.requires.right c.degree_of_terms-2.ensures c.degree_of_terms.ensures (omega arith)

pub returns-clause-overflow : goal.returns-clause-overflow
returns-clause-overflow g c =
    let K = g.F.Field.field in (
      λ e. absurd (no_other_error c.gathered_terms.result Memory Overflow c.gathered_terms.ensures.memory (λ same. cc) e),
      λ past. absurd
          (no_degrees_past K g.met.F.Field.field_laws (of_pairs K c.args.left.now) (of_pairs K c.args.right.now) c.degree_of_terms-2.result c.degree_of_terms.result _
          c.degree_of_terms-2.ensures c.degree_of_terms.ensures (omega arith) past),
    )
