use Rattle.std.proofs.Common.{◌≡◌, ℕ, ◌+◌, ◌-◌, ◌≤◌, length, take, drop, sym, ap, subst, subst₂, ◌∙◌, arith}
use Rattle.std.proofs.lemmas.List.{get_or-drop, length-drop, take_all}
use Rattle.std.proofs.lemmas.Result.{on_ok_weaker}
use Rattle.ark_bit_reversed.specs.Blocks.{AreFirstValues, size_of}
use Rattle.ark_math_polynomials.specs.Nodes.{nodes}
use Rattle.ark_math.proofs.Lists.Lists.{written_back}
use Rattle.ark_math.specs.Univariate.{IsBelow, of_list, product, scaled}
use Rattle.ark_subproducts.specs.Tree.{IsScaledRemainderBefore}
use Rattle.ark_subproducts.proofs.Multiples.{scaled-one}
use Rattle.ark_subproducts.proofs.Nodes.{halved_end, halved_represents, halved_room}
use Rattle.ark_subproducts.proofs.ScaledRemainders.{last_coefficients, past_end}
use Rattle.ark_subproducts.proofs.table.BlockTree+F.write_values_past.Goals as goal

pub write_values_from-requires-clause-given : goal.write_values_from-requires-clause-given
write_values_from-requires-clause-given g c =
    let part = c.args.part.now in
    record {
      room = halved_room c.args.self.now (length part.points.now) part.count (length c.args.factor.items) c.requires.halved (omega (arith, c.requires.factor, c.if-size-part.true, c.size.ensures.size));
      end = halved_end c.args.self.now (length part.points.now) part.count c.requires.halved c.requires.part.room;
    }

pub returns-then-size-part-clause-values : goal.returns-then-size-part-clause-values
returns-then-size-part-clause-values g c =
    let K = g.F.Field.field in
    let N = g.met.F.Field.field_laws in
    let part = c.args.part.now in
    let roots = part.blocks.now in
    let points = part.points.now in
    let n = length points in
    let size = size_of roots in
    let m = nodes K points in
    let is : size ≡ part.count = omega (arith, c.if-size-part.true, c.size.ensures.size) in
    on_ok_weaker c.write_values_from.result
    (λ h q below given.
    let past : ℕ → g.row.F.Denot = λ j. product K m q (j + size) in
    h past q
    (record {
      own = q;
      below = subst (λ k. IsBelow K k q) is below;
      represents = halved_represents K roots c.args.self.now part.count q c.args.factor.items c.requires.halved (subst (λ k. AreFirstValues K roots k q c.args.factor.items) is given);
      multiple = ap (λ f. scaled K f q) (c.one.ensures ∙ g.met.F.Field.one_law) ∙ scaled-one K N q;
    })
    (subst (λ k. IsScaledRemainderBefore K k n m past q) is (past_end K N size n size m q (omega (arith, c.requires.not_empty, c.requires.part.room, is)) below)))
    c.write_values_from.ensures.values

pub returns-clause-values : goal.returns-clause-values
returns-clause-values g c =
    let K = g.F.Field.field in
    let N = g.met.F.Field.field_laws in
    let roots = c.args.part.now.blocks.now in
    let points = c.args.part.now.points.now in
    let n = length points in
    let size = size_of roots in
    let m = nodes K points in
    let given = c.as_mut_slice.result.now in
    let first : given ≡ c.args.factor.items = c.as_mut_slice.ensures.value in
    let len : length given ≡ size = ap length first ∙ c.requires.factor in
    let coeffs = c.deref.result.now in
    let new = c.interpolate.new.values in
    let all : coeffs ≡ new = c.deref.ensures.value ∙ written_back new _ _ (omega (arith, c.interpolate.ensures.len, c.as_mut_slice.ensures.len)) in
    let many : length coeffs ≡ size = ap length all ∙ c.interpolate.ensures.len ∙ len in
    let room : n ≤ size = omega (arith, c.requires.part.room, c.requires.part.within) in
    let start = c.len.result - n in
    let from : start ≡ size - n = omega (arith, c.len.ensures, ap length all, many) in
    let last : take (length coeffs - start) (drop start coeffs) ≡ drop start coeffs = take_all (length coeffs - start) (drop start coeffs) (omega (arith, length-drop start coeffs)) in
    on_ok_weaker c.write_values.result
    (λ h q below given_values.
    let past : ℕ → g.row.F.Denot = λ j. product K m q (j + size) in
    let own : of_list K new ≡ q =
    c.interpolate.ensures.coefficients q (subst (λ k. IsBelow K k q) (sym len) below)
    (subst₂ (λ k v. AreFirstValues K roots k q v) (sym len) (sym first) given_values) in
    h past
    (last_coefficients K N size n m past q (of_list K (take (length coeffs - start) (drop start coeffs))) c.requires.not_empty room
    (λ j l.
    let place : size - n + j ≡ start + j = omega (arith, from) in
    ap q place ∙ ap (λ a. a (start + j)) (sym own ∙ ap (of_list K) (sym all)) ∙ sym (ap (λ t. of_list K t j) last ∙ get_or-drop start coeffs j K.zero))
    (past_end K N size n size m q (omega (arith, c.requires.not_empty, room)) below)))
    c.write_values.ensures.values
