use Rattle.std.proofs.Common.{rules, ◌≡◌, ◌≢◌, ℕ, ◌*◌, ◌+◌, ◌<◌, ◌≤◌, List, map, ◌++◌, get_or, length, arith, sym, ◌∙◌, ap, subst, below_more}
use Rattle.ark_math_points.specs.AtPoints.{AreDifferent}
use Rattle.ark_math.specs.Univariate.{of_list}
use Rattle.shards_lib.specs.Numbers.{numbered, place_element}
use Rattle.shards_lib.specs.Weights.{AreWeights, GiveAt}
use Rattle.shards_lib.specs.Systematic.{places_differ}
use Rattle.shards_lib.proofs.Weighted.{added_fit, added_give, added_len, kept_give}
use Rattle.shards_lib.proofs.Windows.{row_end}
use Rattle.shards_lib.proofs.stripes.RowCode.weights.Goals as goal

pub weights_in-requires : goal.weights_in-requires
weights_in-requires g c = (
  search rules,
  λ i j l h e.
      let K = g.F.Field.field in
      let root = g.F.FftField.root in
      let n = c.args.self.now.n in
      let points = c.deref.result.now in
      let value = c.deref.ensures.value in
      let made = c.in_ok-points.ensures in
      let many : length points ≡ length c.args.given.now = ap length value ∙ made.len in
      let at = λ (a : ℕ) (b : a < length c.args.given.now). ap (λ xs. of_list K xs a) value ∙ made.elements a b in
      let li : i < length c.args.given.now = omega (arith, l, h, many) in
      let lj : j < length c.args.given.now = omega (arith, h, many) in
      c.requires.apart i j l lj
      (places_differ K g.met.F.Field.field_laws g.F.FftField.adicity root g.met.F.FftField.roots_law g.met.F.NumberField.has_domains n (get_or c.args.given.now i 0) (get_or c.args.given.now j 0)
      c.args.self.now.few (c.requires.given i li) (c.requires.given j lj)
      (sym (at i li) ∙ e ∙ at j lj)),
)

pub loop-b-preserved : goal.loop-b-preserved
loop-b-preserved g c =
    let K = g.F.Field.field in
    let s = numbered K g.F.FftField.root g.F.NumberField.inverse_of g.F.NumberField.number in
    let n = c.args.self.now.n in
    let given = c.args.given.now in
    let wanted = c.args.wanted.now in
    let points = c.deref.result.now in
    let value = c.deref.ensures.value in
    let made = c.in_ok-points.ensures in
    let many : length points ≡ length given = ap length value ∙ made.len in
    let at = λ (a : ℕ) (l : a < length given). ap (λ xs. of_list K xs a) value ∙ made.elements a l in
    let old = c.loop-b.weights.items in
    let b = c.loop-b.b in
    let added = c.in_ok-added.added.items in
    let W = c.in_ok-added.ensures in
    let new = c.push_numbers.new.numbers.items in
    let new_is : new ≡ old ++ map s.number added = c.in_ok-push_numbers.ensures ∙ ap (λ xs. old ++ map s.number xs) c.deref-in-loop-b.ensures.value in
    let v = c.loop-b.invariant in
    record {
      len = ap length new_is ∙ added_len s.number (length given) b old added v.len (W.count ∙ many);
      fit = λ p. subst (λ xs. get_or xs p 0 ≤ 65536) (sym new_is) (added_fit s.number g.met.F.NumberField.number_fits old added v.fit p);
      give = below_more (λ i. GiveAt s n given new (i * length given) (get_or wanted i 0)) b
          (λ i l.
          let e = row_end i b (length given) l in
          subst (λ xs. GiveAt s n given xs (i * length given) (get_or wanted i 0)) (sym new_is)
          (kept_give s n given old (map s.number added) (i * length given) (get_or wanted i 0) (omega (arith, e, v.len)) (v.give i l)))
          (subst (λ xs. GiveAt s n given xs (b * length given) (get_or wanted b 0)) (sym new_is)
          (subst (λ m. GiveAt s n given (old ++ map s.number added) m (get_or wanted b 0)) v.len
          (added_give s g.met.F.NumberField.number_fits g.met.F.NumberField.natural_number n given points many at old (get_or wanted b 0) added W)));
    }

pub returns : goal.returns
returns g c = λ some.
    let v = c.loop-b.invariant in
    let end : c.loop-b.b ≡ length c.args.wanted.now = omega (arith, c.loop-b-test.false, c.loop-b.auto.b-end) in
    record {
      len = v.len ∙ ap (λ m. m * length c.args.given.now) end;
      few = c.goes_directly.ensures c.if-not-goes_directly.false;
      fit = v.fit;
      give = λ b l. v.give b (subst (λ m. b < m) (sym end) l);
    }
