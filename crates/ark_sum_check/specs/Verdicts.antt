-- What a verifier says, as a value and a point of the rounds' variables.
use Rattle.std.specs.Prelude.{◌≡◌, ◌≢◌, Result, IfOk, Vec}
use Rattle.std.specs.declared.alloc.Global.{Global}
use Rattle.ark_sum_check.specs.declared.error.SumCheckError.{SumCheckError}
use Rattle.ark_sum_check.specs.declared.verifier.Verdict.{Verdict}

-- where the claim is reduced to a value at a point, they are so
abbrev pub IfReduced : {F : Type 0} → Result (Verdict F) SumCheckError → (F → Vec F Global → Type 0) → Type 0
IfReduced {F} result Are = IfOk result (λ verdict. (value : F) (point : Vec F Global) → verdict ≡ Verdict.Reduced value point → Are value point)
