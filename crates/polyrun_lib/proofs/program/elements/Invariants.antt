use Rattle.std.proofs.Common.{◌≡◌, map}
use Rattle.std.specs.List.{filter_map}
use Rattle.polyrun_lib.proofs.Reading.{element_in}
use Rattle.polyrun_lib.proofs.program.elements.Given as goal

abbrev pub invariant-parts : goal.invariant-parts
invariant-parts g l =
    let F = g.F.PrimeNumbers in
    l.elements.items ≡ filter_map (element_in F.numbering F.prime) (map (λ part. part.now) l.yielded)
