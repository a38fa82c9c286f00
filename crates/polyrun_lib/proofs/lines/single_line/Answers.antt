use Rattle.polyrun_lib.proofs.lines.single_line.Goals as goal

pub returns : goal.returns
returns g c = rw (g.met.F.PrimeNumbers.display_law c.args.element) at c.format.ensures.ok
