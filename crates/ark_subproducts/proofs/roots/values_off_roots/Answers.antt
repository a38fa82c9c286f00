use Rattle.std.proofs.Common.{◌≡◌, ◌<◌, length, sym, ap, subst, subst₂, ◌∙◌, arith}
use Rattle.ark_bit_reversed.specs.Blocks.{size_of}
use Rattle.ark_math.specs.Univariate.{of_list}
use Rattle.ark_math.proofs.Lists.Lists.{written_back}
use Rattle.ark_math_points.specs.AtPoints.{AreValuesAt, HasValues}
use Rattle.ark_subproducts.specs.Steps.{AreOffRoots, ArePowers}
use Rattle.ark_subproducts.proofs.roots.values_off_roots.Goals as goal

pub values_of_others-requires : goal.values_of_others-requires
values_of_others-requires g c =
    let size = size_of c.args.known.now.blocks.now in
    let some : 0 < size = omega (arith, c.requires.not_empty, c.requires.room) in
    let off = c.in_ok-others.ensures.others size some c.requires.powers in
    let same = c.deref.ensures.value in
    record {
      not_empty = omega (arith, ap length same, off.len, c.requires.not_empty);
      room = omega (arith, ap length same, off.len, c.requires.room);
      powers = subst₂ (ArePowers g.F.Field.field size) (sym same) (sym c.deref-2.ensures.value) (c.in_ok-others.ensures.powers size some c.requires.powers);
      known = c.requires.known;
    }

pub put_back-requires : goal.put_back-requires
put_back-requires g c =
    let size = size_of c.args.known.now.blocks.now in
    let off = c.in_ok-others.ensures.others size (omega (arith, c.requires.not_empty, c.requires.room)) c.requires.powers in
    record {
      others = subst (AreOffRoots g.F.Field.field size c.args.points.now) (sym c.deref-3.ensures.value) off;
      known = c.requires.known.values.len;
      len = ap length c.as_mut_slice.ensures.value ∙ c.in_ok-values.ensures.values.len ∙ ap length c.deref.ensures.value ∙ off.len;
    }

pub returns-clause-values : goal.returns-clause-values
returns-clause-values g c =
    let K = g.F.Field.field in
    let points = c.args.points.now in
    let p = of_list K c.args.known.now.polynomial.now in
    let off = c.in_ok-others.ensures.others (size_of c.args.known.now.blocks.now) (omega (arith, c.requires.not_empty, c.requires.room)) c.requires.powers in
    let others = c.deref-3.result.now in
    let ys = c.in_ok-values.values.items in
    let given = c.as_mut_slice.ensures.value in
    let H : AreValuesAt K others ys p = subst (λ t. AreValuesAt K t ys p) (c.deref.ensures.value ∙ sym c.deref-3.ensures.value) c.in_ok-values.ensures.values in
    let len : length others ≡ length points = ap length c.deref-3.ensures.value ∙ off.len in
    let last = c.put_back.new.values in
    let all = written_back last _ c.in_ok-values.values.len (omega (arith, c.put_back.ensures.len, c.as_mut_slice.ensures.len)) in
    record {
      len = ap length all ∙ c.put_back.ensures.len ∙ ap length given ∙ H.len ∙ len;
      values = subst (λ v. HasValues K (length points) (of_list K points) (of_list K v) p) (sym all)
          (c.put_back.ensures.values p c.requires.known.values
          (subst₂ (λ n v. HasValues K n (of_list K others) (of_list K v) p) len (sym given) H.values));
    }
