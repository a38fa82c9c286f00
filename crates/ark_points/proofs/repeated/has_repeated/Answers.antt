use Rattle.std.proofs.Common.{◌≡◌, ◌≢◌, refl, sym, ap, ◌∙◌, arith, ⊎_elim}
use Rattle.std.proofs.lemmas.Bool.{cases_eq, false≢true}
use Rattle.std.proofs.lemmas.List.{get_or_read}
use Rattle.ark_math.specs.Univariate.{of_list}
use Rattle.ark_points.proofs.repeated.has_repeated.Goals as goal

pub loop-i-init : goal.loop-i-init
loop-i-init g c = λ i j l b e. absurd (omega (arith, l, b))

pub loop-i-preserved : goal.loop-i-preserved
loop-i-preserved g c =
    let K = g.F.Field.field in
    let points = c.args.points.now in
    let i = c.loop-i.i in
    let read : c.index-points-i.result ≡ of_list K points i = get_or_read points i c.index-points-i.result c.loop-i-test.true c.index-points-i.is K.zero in
    λ j k l b e.
    ⊎_elim
    (λ (same : k ≡ i). false≢true (sym c.if-is_among_first.false ∙ c.is_among_first.ensures.1 (j, omega (arith, l, same), e ∙ ap (of_list K points) same ∙ sym read)))
    (λ (ne : k ≢ i). c.loop-i.invariant j k l (omega (arith, b, ne)) e)
    (cases_eq k i)

pub returns-then-is_among_first : goal.returns-then-is_among_first
returns-then-is_among_first g c =
    let K = g.F.Field.field in
    let points = c.args.points.now in
    let i = c.loop-i.i in
    let read : c.index-points-i.result ≡ of_list K points i = get_or_read points i c.index-points-i.result c.loop-i-test.true c.index-points-i.is K.zero in
    let found = c.is_among_first.ensures.0 c.if-is_among_first.true in (
      (λ h. (found.0, i, found.1, c.loop-i-test.true, found.2 ∙ read)),
      (λ h. refl),
    )

pub returns : goal.returns
returns g c = (
  (λ h. absurd (false≢true h)),
  (λ h. absurd (c.loop-i.invariant h.0 h.1 h.2 (omega (arith, h.3, c.loop-i-test.false)) h.4)),
)
