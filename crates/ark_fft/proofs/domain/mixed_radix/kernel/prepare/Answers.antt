use Rattle.std.proofs.Common.{map, ap, ◌∙◌}
use Rattle.ark_math.specs.Module.{item}
use Rattle.ark_math.proofs.Lists.Lists.{read_fitted}
use Rattle.ark_fft.proofs.domain.mixed_radix.kernel.prepare.Goals as goal

pub returns-clause-fitted : goal.returns-clause-fitted
returns-clause-fitted g c = λ j l.
    let V = g.T.Summand.group in
    let m = g.T.Summand.meaning in
    ap (λ t. item V (map m t) j) c.in_ok-resize-2.ensures.items
    ∙ read_fitted m V.zero c.args.coeffs.now.items c.args.n _ c.zero-2.result (ap m c.zero-2.ensures ∙ g.met.T.Summand.zero_meaning) j l
