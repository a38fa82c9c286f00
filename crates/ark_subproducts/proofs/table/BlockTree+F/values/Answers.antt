use Rattle.std.proofs.Common.{◌≡◌, length, sym, ap, subst, ◌∙◌, arith}
use Rattle.std.proofs.lemmas.List.{length-replicate}
use Rattle.ark_bit_reversed.specs.Blocks.{AreFirstValues, element_of, size_of}
use Rattle.ark_math_polynomials.specs.Nodes.{nodes}
use Rattle.ark_math.specs.Field.{minus}
use Rattle.ark_math.specs.Univariate.{of_list}
use Rattle.ark_math.proofs.Lists.Lists.{written_back}
use Rattle.ark_math_points.specs.AtPoints.{HasValues}
use Rattle.ark_subproducts.proofs.TableQuotients.{AreElements, AreMadeByQuotients, values_by_quotients}
use Rattle.ark_subproducts.proofs.table.BlockTree+F.values.Goals as goal

pub quotients-requires-clause-not_zero : goal.quotients-requires-clause-not_zero
quotients-requires-clause-not_zero g c = λ i l.
    let K = g.F.Field.field in
    let U = (rw c.in-Some.is at c.in_ok-divisors.ensures.values) in
    λ e. c.has_zero.ensures.none c.if-has_zero.false i (omega (arith, l, ap length c.deref.ensures.value, U.len, c.requires.known)) (ap (λ t. of_list K t i) c.deref.ensures.value ∙ e)

pub returns : goal.returns
returns g c =
    let K = g.F.Field.field in
    let N = g.met.F.Field.field_laws in
    let roots = c.args.part.now.blocks.now in
    let x = element_of K roots in
    let points = c.args.part.now.points.now in
    let n = length points in
    let size = size_of roots in
    let elements : AreElements K size x = subst (λ t. AreElements K t x) c.size-size.ensures.size (record {
      reversed = c.size-size.ensures.elements;
      different = c.size-size.ensures.different;
      power = c.size-size.ensures.power;
    }) in
    let U : AreFirstValues K roots size (nodes K points) c.in-Some.divisors.items = rw c.in-Some.is at c.in_ok-divisors.ensures.values in
    let known = c.args.known.now in
    let vs = c.in_ok-quotients.quotients.items in
    let ys = c.write_values_past.new.values in
    let last = c.multiply_by_gaps.new.items in
    let len : length last ≡ n = c.multiply_by_gaps.ensures.len ∙ c.write_values_past.ensures.len ∙ ap length (c.as_mut_slice-items.ensures.value ∙ c.in_ok-values.ensures) ∙ length-replicate n K.zero in
    let back = written_back last _ c.in_ok-values.values.len (omega (arith, c.multiply_by_gaps.ensures.len, c.write_values_past.ensures.len, c.as_mut_slice-items.ensures.len)) in
    let one : c.one.result ≡ K.one = c.one.ensures ∙ g.met.F.Field.one_law in
    let made : AreMadeByQuotients K roots points known c.in-Some.divisors.items vs ys last c.args.powers.now = record {
      room = omega (arith, c.requires.part.room, c.requires.part.within);
      divisors = U;
      len = c.in_ok-quotients.ensures.len ∙ c.requires.known;
      quotients = λ i l. c.in_ok-quotients.ensures.quotients i (omega (arith, l, c.requires.known));
      raised = c.requires.powers;
      past = c.in_ok-write_values_past.ensures.values;
      values = λ i l.
          c.multiply_by_gaps.ensures.products i (omega (arith, l, c.requires.powers.len))
          ∙ ap (λ t. K.times (of_list K ys i) (minus K t (of_list K c.args.powers.now i))) one;
    } in
    record {
      values = λ p short P. record {
        len = ap length back ∙ len;
        values = subst (λ v. HasValues K n (of_list K points) (of_list K v) p) (sym back)
            (values_by_quotients K N roots points known c.in-Some.divisors.items vs ys last c.args.powers.now p elements made short P);
      };
    }
