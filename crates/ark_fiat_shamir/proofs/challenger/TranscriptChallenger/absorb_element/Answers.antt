use Rattle.std.proofs.Common.{arith}
use Rattle.ark_bytes.specs.declared.compress.Compress.TheVariants.{Yes}
use Rattle.ark_fiat_shamir.proofs.challenger.TranscriptChallenger.absorb_element.Goals as goal

pub unreachable-requires : goal.unreachable-requires
unreachable-requires g c =
    omega (arith, c.in-Err.ensures.long, (g.met.F.Field.elements_law Yes).lengths c.args.element.now, c.self.invariant.1)
