use Rattle.std.proofs.Common.{◌≡◌, ◌*◌, ◌/◌, ◌<◌, ◌≤◌, [], ◌∷◌, length, get_or, take, refl, sym, subst, ◌∙◌, arith}
use Rattle.std.specs.Prelude.{All}
use Rattle.std.proofs.lemmas.List.Elements.{All-nil}
use Rattle.ark_math.proofs.Lists.Lists.{item_of}
use Rattle.ark_math_variables.proofs.Polynomials.Multilinear.{fixed-nothing}
use Rattle.ark_sum_check.proofs.EntryTables.{behind-more, bound-more, still_there}
use Rattle.ark_sum_check.proofs.entries.bind_in_place.Goals as goal

pub loop-i-init : goal.loop-i-init
loop-i-init g c = record {
  values = sym (fixed-nothing g.F.Field.field g.met.F.Field.field_laws (c.args.x ∷ []));
  below = λ n h. All-nil (λ e. e.0 < n);
  rising = λ r a b d l m. absurd (omega arith);
  behind = λ r j d a b. All-nil (λ p. p.0 ≤ (get_or c.args.entries.now j d).0 / 2);
  rest = λ j l. refl;
  few = omega arith;
}

pub loop-i-preserved : goal.loop-i-preserved
loop-i-preserved g c =
    let old = c.args.entries.now in
    let now = c.loop-i.entries in
    let i = c.loop-i.i in
    let e = c.index-entries-i.result in
    let v = c.loop-i.invariant in
    let inside : i < length old = omega arith in
    let there : e ≡ get_or old i e = still_there old now i e (v.rest i (omega arith)) c.index-entries-i.is in
    record {
      values =
          bound-more g.F.Field.field g.met.F.Field.field_laws old i e c.args.x c.bound_part-part.result _ _ inside there v.values c.bound_part-part.ensures
          c.put-kept.ensures.sum;
      below = λ n h.
          let b : e.0 < 2 * n = item_of (λ p. p.0 < 2 * n) old i e h inside there in
          c.put-kept.ensures.below n (omega arith) (v.below n h);
      rising = λ r.
          c.put-kept.ensures.rising (v.rising r)
          (subst (λ p. All (λ q. q.0 ≤ p.0 / 2) (take c.loop-i.kept now)) (sym there) (v.behind r i e (omega arith) inside));
      behind = λ r.
          behind-more old i e (take c.loop-i.kept now) (take c.put-kept.result c.put-kept.new.entries) r inside there (v.behind r) (λ n l h. c.put-kept.ensures.below n l h);
      rest = λ j l. c.put-kept.ensures.rest j (omega arith) ∙ v.rest j (omega arith);
      few = omega arith;
    }
