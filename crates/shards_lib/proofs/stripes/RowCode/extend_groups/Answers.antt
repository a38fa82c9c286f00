use Rattle.std.proofs.Common.{◌≡◌, ℕ, ◌+◌, ◌*◌, ◌<◌, get_or, inl, inr, length, refl, rules, arith, sym, ◌∙◌, subst}
use Rattle.shards_lib.specs.Numbers.{number_at_place, numbered}
use Rattle.shards_lib.proofs.Windows.{below_rows, in_group}
use Rattle.shards_lib.proofs.stripes.RowCode.extend_groups.Goals as goal

pub loop-index-preserved : goal.loop-index-preserved
loop-index-preserved g c = λ s stripe l h.
    let z = numbered g.F.Field.field g.F.FftField.root g.F.NumberField.inverse_of g.F.NumberField.number in
    let self = c.args.self.now in
    let k = self.code.k in
    let group = c.loop-index.index in
    let given = c.args.given.now in
    let stripes = given.stripes in
    let wanted = c.args.extender.now.wanted.items in
    let number = number_at_place z k self.n stripe in
    elim (in_group group g.row.N s l) [
      | inl before ↦ λ numbered b m. c.in_ok-extend_group.ensures.kept b s m before ∙ c.loop-index.invariant s stripe before h numbered b m
      | inr here ↦
          let width = c.min.ensures in
          let within = here.1 in
          let is = here.2 in
          let less : here.0 < c.min.result = omega (arith, width, within, is, h) in
          subst (λ s. ((a : ℕ) → a < k → get_or given.numbers.now (a * stripes + s) 0 ≡ number (get_or given.places.now a 0)) → (b : ℕ) → b < length wanted
          → get_or c.extend_group.new.wanted (b * stripes + s) 0 ≡ number (get_or wanted b 0)) (sym is)
          (c.in_ok-extend_group.ensures.written here.0 stripe less)
    ]

pub returns : goal.returns
returns g c = λ s stripe h numbered b m.
    let all = c.groups-index-end.ensures.all in
    let e = below_rows c.groups-index-end.result c.loop-index.index g.row.N c.loop-index-test.false in
    c.loop-index.invariant s stripe (omega (arith, all, e, h)) h numbered b m

pub overflow_sub-given : goal.overflow_sub-given
overflow_sub-given g c = let e = c.groups-index-end.ensures.each c.loop-index.index c.loop-index-test.true in omega (arith, e)

pub extend_group-requires : goal.extend_group-requires
extend_group-requires g c = (
  search rules,
  (
    search rules,
    (
      c.requires.code,
      (
        c.requires.given,
        (
          search rules,
          (
            refl,
            c.loop-index.auto.wanted ∙ c.requires.wanted,
          ),
        ),
      ),
    ),
  ),
)

pub invariant_of-group : goal.invariant_of-group
invariant_of-group g c =
    let e = c.groups-index-end.ensures.each c.loop-index.index c.loop-index-test.true in
    let m = c.min.ensures in
    record { within = omega (arith, e, m) }
