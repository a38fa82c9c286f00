-- The values so far are absorbed.
use Rattle.std.proofs.Common.{◌≡◌, take}
use Rattle.ark_bytes.specs.declared.compress.Compress.TheVariants.{Yes}
use Rattle.ark_fiat_shamir.specs.Derived.{after_values}
use Rattle.ark_fiat_shamir.proofs.challenger.TranscriptChallenger.absorb_values.Given as goal

abbrev pub invariant-loop-value : goal.invariant-loop-value
invariant-loop-value g l = l.self ≡ after_values (g.F.Spelled.format Yes) (take l.value-index l.values) l.fn.self
