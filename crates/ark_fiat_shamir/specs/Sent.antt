-- What a proof has.
use Rattle.std.specs.Prelude.{List, map}
use Rattle.ark_fiat_shamir.specs.declared.proof.SumCheckProof.{SumCheckProof}

-- each round's values
abbrev pub sent : {F : Type 0} → SumCheckProof F → List (List F)
sent p = map (λ v. v.items) p.rounds.items
