use Rattle.ark_fiat_shamir.proofs.Absorbed.{three_more}
use Rattle.ark_fiat_shamir.proofs.challenger.TranscriptChallenger.absorb_claim.Goals as goal

pub returns : goal.returns
returns g c =
    rw (c.absorb_element.ensures, c.absorb_number-2.ensures, c.absorb_number.ensures) (three_more c.args.self.now _ _ _)
