use Rattle.std.proofs.Common.{◌≡◌, ℕ, ◌*◌, ◌+◌, ◌<◌, ◌≤◌, get_or, length, arith, sym, ◌∙◌, ap, subst}
use Rattle.shards_lib.specs.Numbers.{number_at_place, numbered}
use Rattle.shards_lib.specs.Products.{weighted_row}
use Rattle.shards_lib.specs.Systematic.{first_differ}
use Rattle.shards_lib.proofs.Weighted.{weighted_number}
use Rattle.shards_lib.proofs.stripes.RowCode.extend_directly.Goals as goal

pub write_rows-requires-clause-weights : goal.write_rows-requires-clause-weights
write_rows-requires-clause-weights g c =
    let W = c.requires.code.weighted c.requires.weights in
    ap length c.deref.ensures.value ∙ W.len ∙ ap (λ ps. length ps * length c.args.extender.now.given.items) (sym c.deref-places.ensures.value) ∙ ap (λ m. length c.deref-places.result.now * m) (sym (ap length c.requires.given))

pub write_rows-requires-clause-fit : goal.write_rows-requires-clause-fit
write_rows-requires-clause-fit g c = λ p.
    let W = c.requires.code.weighted c.requires.weights in
    subst (λ ws. get_or ws p 0 ≤ 65536) (sym c.deref.ensures.value) (W.fit p)

pub returns : goal.returns
returns g c = λ s stripe l are b m.
    let K = g.F.Field.field in
    let N = g.met.F.Field.field_laws in
    let L = g.met.F.NumberField in
    let z = numbered K g.F.FftField.root g.F.NumberField.inverse_of g.F.NumberField.number in
    let self = c.args.self.now in
    let E = c.requires.code in
    let given = c.args.given.now in
    let places = c.args.extender.now.given.items in
    let wanted = c.args.extender.now.wanted.items in
    let weights = c.args.extender.now.weights.items in
    let numbers = given.numbers.now in
    let k = self.code.k in
    let k_is : length given.places.now ≡ k = ap length c.requires.given ∙ E.as_many in
    c.write_rows.ensures b s (subst (λ ps. b < length ps) (sym c.deref-places.ensures.value) m) l
    ∙ ap g.F.NumberField.number
    (ap (λ ws. weighted_row K ws numbers given.stripes (length given.places.now) b s) c.deref.ensures.value
    ∙ ap (λ j. weighted_row K weights numbers given.stripes j b s) k_is
    ∙ weighted_number z N L.inverse_law L.natural_number k self.n (first_differ K N g.F.FftField.adicity g.F.FftField.root g.met.F.FftField.roots_law L.has_domains k self.n self.fits self.few)
    places wanted weights (E.weighted c.requires.weights) E.as_many stripe (λ a. get_or numbers (a * given.stripes + s) 0)
    (λ a h. are a h ∙ ap (λ ps. number_at_place z k self.n stripe (get_or ps a 0)) c.requires.given) b m)
