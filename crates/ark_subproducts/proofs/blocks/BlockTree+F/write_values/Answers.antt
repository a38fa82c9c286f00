use Rattle.std.proofs.Common.{length, refl, ap, ◌∙◌, arith}
use Rattle.std.proofs.lemmas.Result.{on_ok_weaker}
use Rattle.ark_math.specs.Univariate.{of_list, scaled}
use Rattle.ark_math_polynomials.proofs.Polynomials.UnivariateLists.{of_list-past}
use Rattle.ark_subproducts.proofs.Multiples.{scaled-one}
use Rattle.ark_subproducts.proofs.Nodes.{own_end}
use Rattle.ark_subproducts.proofs.blocks.BlockTree+F.write_values.Goals as goal

pub write_values_from-requires-clause-given : goal.write_values_from-requires-clause-given
write_values_from-requires-clause-given g c =
    let part = c.args.part.now in
    record {
      room = c.in_ok-items.ensures.room (length part.points.now) c.requires.few;
      end = own_end c.args.self.now (length part.points.now) part.count (length part.points.now) refl c.requires.part.room;
    }

pub returns-clause-values : goal.returns-clause-values
returns-clause-values g c =
    let K = g.F.Field.field in
    let coeffs = c.args.coeffs.now in
    on_ok_weaker c.write_values_from.result
    (λ h p.
    h p (of_list K coeffs) (record {
      own = of_list K coeffs;
      below = λ i l. of_list-past K coeffs i (omega (arith, l, c.requires.few));
      represents = c.in_ok-items.ensures.given;
      multiple = ap (λ f. scaled K f (of_list K coeffs)) (c.one.ensures ∙ g.met.F.Field.one_law) ∙ scaled-one K g.met.F.Field.field_laws (of_list K coeffs);
    }))
    c.write_values_from.ensures.values
