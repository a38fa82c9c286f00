use Rattle.std.proofs.Common.{◌≡◌, take}
use Rattle.ark_math.specs.Domain.{element}
use Rattle.rs_code.specs.Locator.{lost}
use Rattle.rs_code.proofs.locator.lost_elements.Given as goal

abbrev pub invariant-loop-place : goal.invariant-loop-place
invariant-loop-place g l =
    let K = g.F.Field.field in
    let d = g.D.EvaluationDomain.domain l.domain in
    record {
      list : l.elements.items ≡ lost K d (take l.place-index l.erased);
      next_is : l.element ≡ element K d l.place-index;
    }
