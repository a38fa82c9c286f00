use Rattle.std.proofs.Common.{◌≡◌, [], ◌∷◌, refl, subst}
use Rattle.ark_bytes.specs.declared.compress.Compress.TheVariants.{Yes}
use Rattle.ark_transcript.specs.Challenges.{IsChallenge}
use Rattle.ark_transcript.proofs.Tries.{one_challenge}
use Rattle.examples.proofs.transcript.opening_points.Goals as goal

pub returns : goal.returns
returns g c =
    let K = g.F.Field.field in
    let e = g.F.Spelled.format Yes in
    let size = g.F.Field.element_size in
    let point = 112 ∷ 111 ∷ 105 ∷ 110 ∷ 116 ∷ [] in
    let same : c.absorb.new.self ≡ c.absorb-2.new.self =
    rw (c.in_ok-absorb.ensures.ok, c.in_ok-absorb-2.ensures.ok, c.absorb_bytes.ensures, c.absorb_bytes-2.ensures, c.new-prover.ensures, c.new-verifier.ensures) refl in
    (one_challenge K e size point (g.met.F.Field.elements_law Yes) 4096 c.absorb-2.new.self c.in_ok-sent.sent c.in_ok-own.own c.challenge.new.self c.challenge-2.new.self
    (subst (λ cs. IsChallenge K e size point 4096 cs c.in_ok-sent.sent c.challenge.new.self) same c.in_ok-sent.ensures.element)
    c.in_ok-own.ensures.element).0
