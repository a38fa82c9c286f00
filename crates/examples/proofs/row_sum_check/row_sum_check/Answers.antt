use Rattle.std.proofs.Common.{◌≡◌, ◌++◌, ◌∷◌, [], List, length, map, max, refl, sym, ap, subst, subst₂, ◌∙◌}
use Rattle.std.proofs.lemmas.List.{length-map}
use Rattle.ark_bytes.specs.declared.compress.Compress.TheVariants.{Yes}
use Rattle.ark_transcript.specs.Calls.{Absorbed, Call}
use Rattle.ark_sum_check.specs.Cube.{cube_sum, degree_of, sum_value}
use Rattle.ark_sum_check.specs.Provers.{sum_of, variables_of}
use Rattle.ark_sum_check.specs.Rounds.{AreAccepted, AreChallenged, rounds_at}
use Rattle.ark_sum_check.specs.declared.verifier.Claim.{Claim}
use Rattle.ark_sum_check.specs.declared.verifier.Verdict.TheVariants.{Reduced}
use Rattle.ark_fiat_shamir.specs.Derived.{IsRoundChallenge, after_claim, claim_of}
use Rattle.ark_fiat_shamir.specs.ProofBytes.{values_told}
use Rattle.ark_fiat_shamir.proofs.SentAlike.{same_rounds}
use Rattle.examples.proofs.row_sum_check.row_sum_check.Goals as goal

pub returns : goal.returns
returns g c = λ none.
    let K = g.F.Field.field in
    let e = g.F.Spelled.format Yes in
    let size = g.F.Field.element_size in
    let p = c.args.prover in
    let s = sum_of K p in
    let proof = c.in_ok-made.made.proof in
    let made = c.in_ok-made.ensures in
    let xs = c.in_ok-made.made.point.items in
    let value = sum_value K s xs in
    let us = c.in_ok-proof.proof.rounds.items in
    let vs = proof.rounds.items in
    let alike = c.in_ok-proof.ensures.alike in
    let told = values_told e (g.F.Spelled.format_law Yes) (g.met.F.Field.elements_law Yes).one_to_one c.in_ok-proof.proof proof alike.has alike.other alike.same in
    let rounds : rounds_at us xs ≡ rounds_at vs xs = same_rounds us vs xs told in
    let count : length us ≡ length vs = sym (length-map us (λ v. v.items)) ∙ ap length told ∙ length-map vs (λ v. v.items) in
    let claim : claim_of K p c.zero-2.result ≡ record { num_vars = c.num_vars.result; degree = c.degree.result; sum = c.zero.result } =
    rw (c.num_vars.ensures, c.degree.ensures.degree, c.zero.ensures, c.zero-2.ensures) refl in
    let absorbed = λ (cs : List Call). cs ++ Absorbed (116 ∷ 97 ∷ 98 ∷ 108 ∷ 101 ∷ 115 ∷ []) c.args.commitment.now ∷ [] in
    let begun : c.absorb_bytes.new.self ≡ c.absorb_bytes-2.new.self =
    c.absorb_bytes.ensures ∙ ap absorbed (c.new-transcript.ensures ∙ sym c.new-again.ensures) ∙ sym c.absorb_bytes-2.ensures in
    let h = c.in_ok-verdict.ensures.complete xs c.prove_transcript.new.transcript value (made.point ∙ sym c.num_vars.ensures) (count ∙ made.rounds ∙ sym c.num_vars.ensures)
    (subst (λ rs. AreChallenged (IsRoundChallenge K e size) (after_claim e (record { num_vars = c.num_vars.result; degree = c.degree.result; sum = c.zero.result }) c.absorb_bytes-2.new.self) rs c.prove_transcript.new.transcript) (sym rounds)
    (subst₂ (λ (one : Claim g.row.F.Denot) cs. AreChallenged (IsRoundChallenge K e size) (after_claim e one cs) (rounds_at vs xs) c.prove_transcript.new.transcript) claim begun made.derived))
    (subst₂ (λ d y. AreAccepted K d y (rounds_at us xs) value) (sym c.degree.ensures.degree) (none ∙ sym (g.met.F.Field.zero_law) ∙ sym c.zero.ensures)
    (subst (λ rs. AreAccepted K (max 1 (degree_of s)) (cube_sum K (variables_of p) s) rs value) (sym rounds) made.accepted)) in
    (h.0, h.2 ∙ ap (λ ys. Reduced (sum_value K s ys) h.0) (sym h.1))
