use Rattle.std.proofs.Common.{◌≢◌, refl, sym, ap, ◌∙◌, arith, below_more}
use Rattle.std.proofs.lemmas.Bool.{false≢true}
use Rattle.ark_words.specs.Numbers.{number_at}
use Rattle.ark_words.proofs.interpolations.is_among_first.Goals as goal

pub loop-i-preserved : goal.loop-i-preserved
loop-i-preserved g c =
    let N = g.F.PrimeNumbers.numbering in
    below_more (λ k. number_at g.F.WordElement.WIDTH c.args.words.now k ≢ N.number c.args.item) c.loop-i.i c.loop-i.invariant
    (λ e. false≢true (sym c.if-eq.false ∙ c.eq.ensures ∙ (g.met.F.Field.equality_law _ _).1 (N.same _ _ (c.item_at.ensures ∙ e))))

pub returns-then-eq : goal.returns-then-eq
returns-then-eq g c = (
  (λ h. (c.loop-i.i, c.loop-i-test.true, sym c.item_at.ensures ∙ ap g.F.PrimeNumbers.numbering.number ((g.met.F.Field.equality_law _ _).0 (sym c.eq.ensures ∙ c.if-eq.true)))),
  (λ h. refl),
)

pub returns : goal.returns
returns g c = (
  (λ h. absurd (false≢true h)),
  (λ h. absurd (c.loop-i.invariant h.0 (omega (arith, h.1, c.loop-i-test.false)) h.2)),
)
