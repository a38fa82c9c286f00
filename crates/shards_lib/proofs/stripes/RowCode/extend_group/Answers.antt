use Rattle.std.proofs.Common.{◌≡◌, ◌≢◌, ℕ, ◌+◌, ◌*◌, ◌<◌, ◌≤◌, length, map, get_or, arith, rules, sym, ◌∙◌, ap, subst}
use Rattle.std.proofs.lemmas.List.{length-map}
use Rattle.ark_math_points.specs.AtPoints.{AreDifferent}
use Rattle.ark_math.specs.Field.{natural}
use Rattle.ark_math.specs.Univariate.{value_below}
use Rattle.ark_rows.specs.Row.{lanes}
use Rattle.shards_lib.specs.Numbers.{numbered, place_element, value_at_place}
use Rattle.shards_lib.specs.Rows.{entry}
use Rattle.shards_lib.specs.Weights.{IsExtender}
use Rattle.shards_lib.proofs.Extended.{told_elsewhere}
use Rattle.shards_lib.proofs.Room.{last_part}
use Rattle.shards_lib.specs.Systematic.{first_differ, places_differ}
use Rattle.shards_lib.proofs.Values.{lane_polynomial}
use Rattle.shards_lib.proofs.stripes.RowCode.extend_group.Goals as goal

pub returns-clause-written : goal.returns-clause-written
returns-clause-written g c = λ t stripe l are b m.
    let K = g.F.Field.field in
    let N = g.met.F.Field.field_laws in
    let L = g.met.F.NumberField in
    let s = g.F.FftField.adicity in
    let root = g.F.FftField.root in
    let R = g.met.F.FftField.roots_law in
    let number = g.F.NumberField.number in
    let z = numbered K root g.F.NumberField.inverse_of number in
    let self = c.args.self.now in
    let code = self.code in
    let k = code.k in
    let n = self.n in
    let x = place_element K root n in
    let way = c.args.way.now in
    let places = way.given.now.places.now in
    let E : IsExtender z code n way.extender.now.decoder places way.extender.now.wanted.items way.extender.now.weights.items =
    subst (λ ps. IsExtender z code n way.extender.now.decoder ps way.extender.now.wanted.items way.extender.now.weights.items) (sym c.requires.given) c.requires.code in
    let wanted = way.extender.now.wanted.items in
    let values = λ (j : ℕ). natural K (stripe j) in
    let codeword = c.in_ok-codeword.codeword.items in
    let fits = self.fits in
    let room = self.room in
    let lane = lane_polynomial K root n N code.domain self.over k (omega (arith, fits, room)) (map (lanes K) codeword) c.in_ok-codeword.ensures.codeword t in
    let differ : AreDifferent k (λ c. x (get_or places c 0)) = λ i j h h2 e.
    let li : i < length places = omega (arith, h, h2, E.as_many) in
    let lj : j < length places = omega (arith, h2, E.as_many) in
    E.kept.apart i j h lj (places_differ K N s root R L.has_domains n (get_or places i 0) (get_or places j 0) self.few (E.given_below i li) (E.given_below j lj) e) in
    let here : (a : ℕ) → a < k → value_below K k lane.0 (x (get_or places a 0)) ≡ value_at_place z k n values (get_or places a 0) = λ a h.
    let inside : a < length places = omega (arith, h, E.as_many) in
    let below = E.given_below a inside in
    sym (lane.2 (get_or places a 0) (omega (arith, below, room)))
    ∙ ap (λ f. f t) (c.in_ok-codeword.ensures.agrees (get_or places a 0) (E.kept.unmarked a inside))
    ∙ ap (λ xs. entry K xs (get_or places a 0) t) c.deref.ensures.value
    ∙ c.in_ok-word.ensures.entries a t inside l
    ∙ ap (natural K) (are a h)
    ∙ L.natural_number (value_at_place z k n values (get_or places a 0)) in
    let there = told_elsewhere z N L.inverse_law k n (first_differ K N s root R L.has_domains k n fits self.few) places values lane.0 differ lane.1 here (get_or wanted b 0) in
    let ws = c.deref-3.ensures.value in
    let wanted_below = E.wanted_below b m in
    c.put_rows.ensures.written b t (subst (λ xs. b < length xs) (sym ws) m) l
    ∙ ap number
    (ap (λ xs. entry K c.deref-2.result.now (get_or xs b 0) t) ws
    ∙ ap (λ xs. entry K xs (get_or wanted b 0) t) c.deref-2.ensures.value
    ∙ lane.2 (get_or wanted b 0) (omega (arith, wanted_below, room)) ∙ there)

pub returns-clause-kept : goal.returns-clause-kept
returns-clause-kept g c = λ b s m l. c.put_rows.ensures.kept b s (subst (λ xs. b < length xs) (sym c.deref-3.ensures.value) m) l

pub word_rows-requires : goal.word_rows-requires
word_rows-requires g c = (
  search (rules, last_part),
  (
    c.requires.count,
    (
      c.requires.stripes,
      λ a l.
          let self = c.args.self.now in
          let room = self.room in
          let below = c.requires.code.given_below a (subst (λ ps. a < length ps) c.requires.given l) in
          let same = ap (λ ps. get_or ps a 0) c.requires.given in
          omega (arith, below, same, room, c.n.ensures),
    ),
  ),
)

pub put_rows-requires : goal.put_rows-requires
put_rows-requires g c = (
  search (rules, last_part),
  (
    c.requires.count,
    (
      λ b l.
          let self = c.args.self.now in
          let room = self.room in
          let ws = c.deref-3.ensures.value in
          let below = c.requires.code.wanted_below b (subst (λ xs. b < length xs) ws l) in
          let same = ap (λ xs. get_or xs b 0) ws in
          let size = ap length c.deref-2.ensures.value in
          let len = c.in_ok-codeword.ensures.len in
          omega (arith, below, same, room, size, len),
      c.requires.wanted ∙ ap (λ xs. length xs * c.args.group.all) (sym c.deref-3.ensures.value),
    ),
  ),
)
