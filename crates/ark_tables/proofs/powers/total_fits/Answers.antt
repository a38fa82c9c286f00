use Rattle.std.proofs.Common.{◌≡◌, ap, ◌∙◌, arith, refl}
use Rattle.std.proofs.lemmas.List.{take_all}
use Rattle.ark_math_variables.specs.Term.{total_degree}
use Rattle.ark_tables.proofs.powers.total_fits.Goals as goal

pub returns : goal.returns
returns c =
    let pairs = c.args.pairs.now in
    let all : c.loop-pair.total ≡ total_degree pairs = c.loop-pair.invariant.0 ∙ ap total_degree (take_all c.loop-pair.pair-index pairs c.loop-pair-test.false) in
    let fits = c.loop-pair.invariant.1 in
    (λ _. omega (arith, all, fits), λ _. refl)
