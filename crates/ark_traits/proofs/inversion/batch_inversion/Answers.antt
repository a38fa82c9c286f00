use Rattle.std.proofs.Common.{◌≡◌, ℕ, IfSome, Decides, ◌∙◌, ◌-◌, ◌+◌, ◌<◌, ◌≤◌, Bool, List, length, refl, sym, ap, subst, arith, rules, [], ◌∷◌, ◌++◌, get_or}
use Rattle.std.proofs.lemmas.Bool.{true_from_ne_false}
use Rattle.std.proofs.lemmas.List.{get_or_read}
use borrow.Author.Rules.{scaled_Fits}
use borrow.Author.Count.{falls}
use Rattle.ark_math.specs.Field.{FieldOn, IsField}
use Rattle.ark_math.proofs.Algebra.Solve.{◌⊗◌}
use Rattle.ark_math.proofs.Algebra.Ring.{ring3}
use Rattle.ark_traits.proofs.Inversions.{AreInverted, AreProducts, products_not_zero, products_zero, products_some, inverted_zero, inverted_some}
use Rattle.ark_traits.proofs.inversion.batch_inversion.Goals.{then-not-is_zero, else-not-is_zero}
use Rattle.ark_traits.proofs.inversion.batch_inversion.Goals as goal

-- before the first item the products are those of none
no_products : {F : Type 0} (K : FieldOn F) (t : F → Bool) (xs ps : List F) (p q : F) → ps ≡ [] → p ≡ K.one → q ≡ K.one → AreProducts K t xs ps 0 p q
no_products K t xs ps p q none next after = record {
  count = ap length none;
  before = λ k l. absurd (omega arith);
  next = next;
  after = after;
}

-- after the last item the inverse of the whole product gives those of its two parts
none_inverted : {F : Type 0} (K : FieldOn F) → IsField K → (t : F → Bool) (xs ps : List F) (n : ℕ) (p q u a b : F) → AreProducts K t xs ps n p q → length xs ≤ n → K.times (K.times p q) u ≡ K.one → a ≡ K.times u q → b ≡ K.times u p → AreInverted K t xs xs n a b
none_inverted K N t xs ps n p q u a b h all whole next after = record {
  next = ap (λ v. K.times v a) (sym h.next) ∙ ap (K.times p) next ∙ ring3 K N (λ p q u. (p ⊗ (u ⊗ q), (p ⊗ q) ⊗ u)) refl p q u ∙ whole;
  after = ap (λ v. K.times v b) (sym h.after) ∙ ap (K.times q) after ∙ ring3 K N (λ p q u. (q ⊗ (u ⊗ p), (p ⊗ q) ⊗ u)) refl p q u ∙ whole;
  done = λ k l m. absurd (omega arith);
  rest = λ k l. refl;
}

lower : (i : ℕ) → 0 < i → i - 1 - 0 < i - 0
lower i some = omega arith

pub one-next-requires : goal.one-next-requires
one-next-requires g c κs = λ l. l

pub one-after-requires : goal.one-after-requires
one-after-requires g c κs = λ l. l

pub loop-i-init : goal.loop-i-init
loop-i-init g c = no_products g.F.Field.field _ c.args.items.now c.in_ok-products.products.items c.one-next.result c.one-after.result c.in_ok-products.ensures.items (c.one-next.ensures ∙ g.met.F.Field.one_law) (c.one-after.ensures ∙ g.met.F.Field.one_law)

pub offset_bounds-items-i : goal.offset_bounds-items-i
offset_bounds-items-i g c = let inside : c.loop-i.i < length c.args.items.now = c.loop-i-test.true in search scaled_Fits

pub bounds-items-i : goal.bounds-items-i
bounds-items-i g c = c.loop-i-test.true

pub is_zero-requires : goal.is_zero-requires
is_zero-requires g c κs = λ l. l

pub offset_bounds-items-i-then-not-is_zero : goal.offset_bounds-items-i-then-not-is_zero
offset_bounds-items-i-then-not-is_zero g c = let inside : c.loop-i.i < length c.args.items.now = c.loop-i-test.true in search scaled_Fits

pub bounds-items-i-then-not-is_zero : goal.bounds-items-i-then-not-is_zero
bounds-items-i-then-not-is_zero g c = c.loop-i-test.true

pub mul_assign-requires : goal.mul_assign-requires
mul_assign-requires g c = g.met.F.Field.can_mul_assign_law _ _

pub loop-i-smaller : goal.loop-i-smaller
loop-i-smaller g c = falls (length c.args.items.now) c.loop-i.i c.loop-i-test.true

pub mul-requires : goal.mul-requires
mul-requires g c = g.met.F.Field.can_mul_law _ _

pub inverse-requires : goal.inverse-requires
inverse-requires g c κs = λ l. l

pub mul-next_inverse-requires : goal.mul-next_inverse-requires
mul-next_inverse-requires g c = g.met.F.Field.can_mul_law _ _

pub mul-after_inverse-requires : goal.mul-after_inverse-requires
mul-after_inverse-requires g c = g.met.F.Field.can_mul_law _ _

pub loop-i-2-init : goal.loop-i-2-init
loop-i-2-init g c =
    let K = g.F.Field.field in
    let whole : K.times c.mul.result c.unwrap-inverse.result ≡ K.one = subst (λ r. IfSome r (λ y. K.times c.mul.result y ≡ K.one)) c.unwrap-inverse.ensures c.inverse.ensures.some in
    none_inverted K g.met.F.Field.field_laws _ c.args.items.now c.loop-i.products.items _ c.loop-i.next c.loop-i.after c.unwrap-inverse.result c.mul-next_inverse.result c.mul-after_inverse.result
    (subst (λ n. AreProducts K (λ x. g.F.PartialEq.eq x g.F.Zero.zero) c.args.items.now c.loop-i.products.items n c.loop-i.next c.loop-i.after) (omega arith) c.loop-i.invariant)
    (omega arith)
    (ap (λ v. K.times v c.unwrap-inverse.result) (sym (g.met.F.Field.mul_law _ _ _ c.mul.ensures)) ∙ whole)
    (g.met.F.Field.mul_law _ _ _ c.mul-next_inverse.ensures)
    (g.met.F.Field.mul_law _ _ _ c.mul-after_inverse.ensures)

pub overflow_step-i-in-loop-i-2 : goal.overflow_step-i-in-loop-i-2
overflow_step-i-in-loop-i-2 g c = c.loop-i-2-test.true

pub offset_bounds-items-i-in-loop-i-2 : goal.offset_bounds-items-i-in-loop-i-2
offset_bounds-items-i-in-loop-i-2 g c = let inside : c.loop-i-2.i - 1 < length c.args.items.now = omega arith in search scaled_Fits

pub bounds-items-i-in-loop-i-2 : goal.bounds-items-i-in-loop-i-2
bounds-items-i-in-loop-i-2 g c = omega arith

pub is_zero-requires-in-loop-i-2 : goal.is_zero-requires-in-loop-i-2
is_zero-requires-in-loop-i-2 g c κs = λ l. l

pub index-requires : goal.index-requires
index-requires g c = omega (arith, c.loop-i.invariant.count, c.loop-i.products.ok.0)

pub mul-requires-then-not-is_zero-2 : goal.mul-requires-then-not-is_zero-2
mul-requires-then-not-is_zero-2 g c = g.met.F.Field.can_mul_law _ _

pub offset_bounds-items-i-then-not-is_zero-2 : goal.offset_bounds-items-i-then-not-is_zero-2
offset_bounds-items-i-then-not-is_zero-2 g c = let inside : c.loop-i-2.i - 1 < length c.args.items.now = omega arith in search scaled_Fits

pub bounds-items-i-then-not-is_zero-2 : goal.bounds-items-i-then-not-is_zero-2
bounds-items-i-then-not-is_zero-2 g c = omega arith

pub mul_assign-requires-then-not-is_zero-2 : goal.mul_assign-requires-then-not-is_zero-2
mul_assign-requires-then-not-is_zero-2 g c = g.met.F.Field.can_mul_assign_law _ _

pub loop-i-2-smaller-then-not-is_zero-2 : goal.loop-i-2-smaller-then-not-is_zero-2
loop-i-2-smaller-then-not-is_zero-2 g c = lower c.loop-i-2.i c.loop-i-2-test.true

pub loop-i-2-smaller : goal.loop-i-2-smaller
loop-i-2-smaller g c = lower c.loop-i-2.i c.loop-i-2-test.true

pub returns-clause-inverses : goal.returns-clause-inverses
returns-clause-inverses g c = λ i l. c.loop-i-2.invariant.done i (omega (arith, c.loop-i-2-test.false)) l

pub returns-clause-kept : goal.returns-clause-kept
returns-clause-kept g c = tt

pub unwrap-inverse-requires : goal.unwrap-inverse-requires
unwrap-inverse-requires g c =
    let F = g.row.F.Denot in
    let t = λ (x : F). g.F.PartialEq.eq x g.F.Zero.zero in
    let decides : (x : F) → Decides (t x) (x ≡ g.F.Field.field.zero) = λ x. subst (λ z. Decides (t x) (x ≡ z)) g.met.F.Field.zero_law (g.met.F.Field.equality_law x g.F.Zero.zero) in
    true_from_ne_false _
    (λ none. products_not_zero g.F.Field.field g.met.F.Field.field_laws t decides c.args.items.now c.loop-i.products.items c.loop-i.i c.loop-i.next c.loop-i.after c.loop-i.invariant (sym (g.met.F.Field.mul_law _ _ _ c.mul.ensures) ∙ c.inverse.ensures.none.0 none))

pub loop-i-2-preserved-then-not-is_zero-2 : goal.loop-i-2-preserved-then-not-is_zero-2
loop-i-2-preserved-then-not-is_zero-2 g c =
    let F = g.row.F.Denot in
    let K = g.F.Field.field in
    let t = λ (x : F). g.F.PartialEq.eq x g.F.Zero.zero in
    let decides : (x : F) → Decides (t x) (x ≡ K.zero) = λ x. subst (λ z. Decides (t x) (x ≡ z)) g.met.F.Field.zero_law (g.met.F.Field.equality_law x g.F.Zero.zero) in
    let n = c.loop-i-2.i - 1 in
    let more : c.loop-i-2.i ≡ n + 1 = omega arith in
    let before : AreInverted K t c.args.items.now c.loop-i-2.items (n + 1) c.loop-i-2.next_inverse c.loop-i-2.after_inverse = subst (λ k. AreInverted K t c.args.items.now c.loop-i-2.items k c.loop-i-2.next_inverse c.loop-i-2.after_inverse) more c.loop-i-2.invariant in
    let inside : n < length c.loop-i-2.items = omega arith in
    let filled : n < length c.loop-i.products.items = omega (arith, c.loop-i.invariant.count) in
    inverted_some K g.met.F.Field.field_laws t decides c.args.items.now c.loop-i-2.items n c.loop-i-2.next_inverse c.loop-i-2.after_inverse c.index-items-i-in-loop-i-2.result _ _ c.index.result.now
    inside
    before
    (get_or_read c.loop-i-2.items n c.index-items-i-in-loop-i-2.result inside c.index-items-i-in-loop-i-2.is K.zero)
    (sym (c.is_zero-in-loop-i-2.ensures) ∙ c.if-not-is_zero-2.true)
    (get_or_read c.loop-i.products.items n c.index.result.now filled c.index.ensures K.zero ∙ c.loop-i.invariant.before n (omega arith))
    (g.met.F.Field.mul_law _ _ _ c.mul-then-not-is_zero-2.ensures)
    (g.met.F.Field.mul_assign_law _ _ _ c.mul_assign-then-not-is_zero-2.ensures.after)

pub loop-i-2-preserved : goal.loop-i-2-preserved
loop-i-2-preserved g c =
    let F = g.row.F.Denot in
    let K = g.F.Field.field in
    let t = λ (x : F). g.F.PartialEq.eq x g.F.Zero.zero in
    let decides : (x : F) → Decides (t x) (x ≡ K.zero) = λ x. subst (λ z. Decides (t x) (x ≡ z)) g.met.F.Field.zero_law (g.met.F.Field.equality_law x g.F.Zero.zero) in
    let n = c.loop-i-2.i - 1 in
    let more : c.loop-i-2.i ≡ n + 1 = omega arith in
    let before : AreInverted K t c.args.items.now c.loop-i-2.items (n + 1) c.loop-i-2.next_inverse c.loop-i-2.after_inverse = subst (λ k. AreInverted K t c.args.items.now c.loop-i-2.items k c.loop-i-2.next_inverse c.loop-i-2.after_inverse) more c.loop-i-2.invariant in
    let inside : n < length c.loop-i-2.items = omega arith in
    inverted_zero K g.met.F.Field.field_laws t decides c.args.items.now c.loop-i-2.items n c.loop-i-2.next_inverse c.loop-i-2.after_inverse c.index-items-i-in-loop-i-2.result before
    (get_or_read c.loop-i-2.items n c.index-items-i-in-loop-i-2.result inside c.index-items-i-in-loop-i-2.is K.zero)
    (sym (c.is_zero-in-loop-i-2.ensures) ∙ c.if-not-is_zero-2.false)

pub loop-i-preserved : goal.loop-i-preserved
loop-i-preserved g c =
    let F = g.row.F.Denot in
    let K = g.F.Field.field in
    let t = λ (x : F). g.F.PartialEq.eq x g.F.Zero.zero in
    let decides : (x : F) → Decides (t x) (x ≡ K.zero) = λ x. subst (λ z. Decides (t x) (x ≡ z)) g.met.F.Field.zero_law (g.met.F.Field.equality_law x g.F.Zero.zero) in
    let xs = c.args.items.now in
    let v = c.loop-i in
    let inside : v.i < length xs = omega arith in
    let read = get_or_read xs v.i c.index-items-i.result inside c.index-items-i.is in
    let x = get_or xs v.i c.index-items-i.result in
    let item : x ≡ get_or xs v.i K.zero = sym (read c.index-items-i.result) ∙ read K.zero in
    let pushed : c.push.new.self.items ≡ v.products.items ++ v.next ∷ [] = search rules in
    subst (λ ps. AreProducts K t xs ps (v.i + 1) v.after c.if-not-is_zero.later) (sym pushed)
    (elim c.if-not-is_zero.branch [
      | then-not-is_zero w ↦ products_some K g.met.F.Field.field_laws t decides xs v.products.items v.i v.next v.after x c.if-not-is_zero.later v.invariant item
          (sym c.is_zero.ensures ∙ w.if-not-is_zero.true)
          (w.later-is ∙ g.met.F.Field.mul_assign_law _ _ _ w.mul_assign.ensures.after
          ∙ ap (K.times v.next) (get_or_read xs v.i w.index-items-i-then-not-is_zero.result inside w.index-items-i-then-not-is_zero.is c.index-items-i.result))
      | else-not-is_zero w ↦ subst (AreProducts K t xs (v.products.items ++ v.next ∷ []) (v.i + 1) v.after) (sym w.later-is)
          (products_zero K g.met.F.Field.field_laws t decides xs v.products.items v.i v.next v.after x v.invariant item (sym c.is_zero.ensures ∙ w.if-not-is_zero.false))
    ])
