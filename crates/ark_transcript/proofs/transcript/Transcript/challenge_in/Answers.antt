use Rattle.std.proofs.Common.{refl, arith, rules}
use Rattle.ark_bytes.specs.declared.compress.Compress.TheVariants.{Yes}
use Rattle.ark_transcript.proofs.Tries.{good_try, failed_try, last_try}
use Rattle.ark_transcript.proofs.transcript.Transcript.challenge_in.Goals as goal

pub returns-in-Some : goal.returns-in-Some
returns-in-Some g c =
    c.tries.invariant c.in-Some.element c.try_once.new.self
    (good_try g.F.Field.field (g.F.Spelled.format Yes) g.F.Field.element_size c.args.label.now c.tries._i c.tries.self c.in-Some.element c.try_once.new.self
    (search rules) c.in-Some.ensures.some c.in-Some.ensures.calls)

pub tries-preserved : goal.tries-preserved
tries-preserved g c = λ x after h.
    c.tries.invariant x after
    (failed_try g.F.Field.field (g.F.Spelled.format Yes) g.F.Field.element_size c.args.label.now c.tries._i c.tries.self c.try_once.new.self x after
    (search rules) (c.in_default.ensures.none refl) c.in_default.ensures.calls h)

pub returns : goal.returns
returns g c =
    c.tries.invariant c.from.result c.ask_number.new.self
    (last_try g.F.Field.field (g.F.Spelled.format Yes) g.F.Field.element_size c.args.label.now c.tries._i c.ask_number.result c.tries.self c.from.result c.ask_number.new.self
    (omega (arith, c.tries-test.false)) (g.met.F.Field.from_law c.ask_number.result c.from.result c.ask_number.type_inv c.from.ensures) c.ask_number.ensures.number c.ask_number.ensures.calls)
