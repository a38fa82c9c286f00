use Rattle.std.proofs.Common.{map, ap, ◌∙◌}
use Rattle.ark_math.specs.Module.{item}
use Rattle.ark_math.proofs.Lists.Lists.{read_fitted}
use Rattle.ark_fft.proofs.domain.radix2.fft.prepare.Goals as goal

pub returns-clause-fitted : goal.returns-clause-fitted
returns-clause-fitted g c = λ j l.
    let V = g.T.Summand.group in
    let m = g.T.Summand.meaning in
    ap (λ t. item V (map m t) j) c.in_ok-resize.ensures.items
    ∙ read_fitted m V.zero c.args.coeffs.now.items c.args.n _ c.zero.result (ap m c.zero.ensures ∙ g.met.T.Summand.zero_meaning) j l

pub returns-clause-table : goal.returns-clause-table
returns-clause-table g c = c.in_ok-table.ensures

pub returns-clause-len : goal.returns-clause-len
returns-clause-len g c = c.in_ok-resize.ensures.len

pub returns-clause-kept : goal.returns-clause-kept
returns-clause-kept g c = tt
