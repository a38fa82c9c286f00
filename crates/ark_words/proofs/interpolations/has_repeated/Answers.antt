use Rattle.std.proofs.Common.{◌≡◌, ◌≢◌, refl, sym, ap, ◌∙◌, arith, ⊎_elim}
use Rattle.std.proofs.lemmas.Bool.{cases_eq, false≢true}
use Rattle.ark_words.specs.Numbers.{number_at}
use Rattle.ark_words.proofs.interpolations.has_repeated.Goals as goal

pub loop-i-init : goal.loop-i-init
loop-i-init g c = λ i j l b e. absurd (omega (arith, l, b))

pub loop-i-preserved : goal.loop-i-preserved
loop-i-preserved g c =
    let at = number_at g.F.WordElement.WIDTH c.args.words.now in
    let i = c.loop-i.i in
    λ j k l b e.
    ⊎_elim
    (λ (same : k ≡ i). false≢true (sym c.if-is_among_first.false ∙ c.is_among_first.ensures.1 (j, omega (arith, l, same), e ∙ ap at same ∙ sym c.item_at.ensures)))
    (λ (ne : k ≢ i). c.loop-i.invariant j k l (omega (arith, b, ne)) e)
    (cases_eq k i)

pub returns-then-is_among_first : goal.returns-then-is_among_first
returns-then-is_among_first g c =
    let within = rw c.WIDTH-width.ensures at c.loop-i-test.true in
    let found = c.is_among_first.ensures.0 c.if-is_among_first.true in (
      (λ h. (found.0, c.loop-i.i, found.1, within, found.2 ∙ c.item_at.ensures)),
      (λ h. refl),
    )

pub returns : goal.returns
returns g c =
    let end = rw c.WIDTH-width.ensures at c.loop-i-test.false in (
      (λ h. absurd (false≢true h)),
      (λ h. absurd (c.loop-i.invariant h.0 h.1 h.2 (omega (arith, h.3, end)) h.4)),
    )
