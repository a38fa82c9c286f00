use Rattle.std.proofs.Common.{[], ◌∷◌, ◌++◌, map, sym, ap, ap₂, ◌∙◌, arith}
use Rattle.std.proofs.lemmas.List.{map-append, take_more, take_all}
use Rattle.ark_points.proofs.pairs.paired.Goals as goal

pub loop-i-preserved : goal.loop-i-preserved
loop-i-preserved g c =
    let v = c.loop-i.invariant in
    let i = c.loop-i.i in
    let points = c.args.points.now in
    let values = c.args.values.now in
    let x = c.index-points-i.result in
    let y = c.index-values-i.result in
    let new = c.in_ok-push.ensures.items in
    record {
      first =
          ap (map (λ p. p.0)) new
          ∙ map-append (λ p. p.0) c.loop-i.pairs.items ((x, y) ∷ [])
          ∙ ap₂ (λ s t. s ++ t ∷ []) v.first c.index-points-i.is
          ∙ sym (take_more points i x c.loop-i-test.true);
      second =
          ap (map (λ p. p.1)) new
          ∙ map-append (λ p. p.1) c.loop-i.pairs.items ((x, y) ∷ [])
          ∙ ap₂ (λ s t. s ++ t ∷ []) v.second c.index-values-i.is
          ∙ sym (take_more values i y (omega (arith, c.loop-i-test.true, c.requires)));
    }

pub returns-clause-points : goal.returns-clause-points
returns-clause-points g c =
    let v = c.loop-i.invariant in
    v.first ∙ take_all c.loop-i.i c.args.points.now (omega (arith, c.loop-i-test.false))

pub returns-clause-values : goal.returns-clause-values
returns-clause-values g c =
    let v = c.loop-i.invariant in
    v.second ∙ take_all c.loop-i.i c.args.values.now (omega (arith, c.loop-i-test.false, c.requires))
