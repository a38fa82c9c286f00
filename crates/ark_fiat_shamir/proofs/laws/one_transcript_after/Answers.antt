use Rattle.ark_bytes.specs.declared.compress.Compress.TheVariants.{Yes}
use Rattle.ark_fiat_shamir.specs.Derived.{IsRoundChallenge, after_claim}
use Rattle.ark_fiat_shamir.proofs.Determined.{determined, one_end}
use Rattle.ark_fiat_shamir.proofs.laws.one_transcript_after.Goals as goal

pub returns : goal.returns
returns g c claim calls rounds after other h k =
    let K = g.F.Field.field in
    let e = g.F.Spelled.format Yes in
    let size = g.F.Field.element_size in
    one_end (IsRoundChallenge K e size) (determined K e size (g.met.F.Field.elements_law Yes)) (after_claim e claim calls) after other rounds h k
