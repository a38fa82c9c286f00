use Rattle.std.proofs.Common.{◌∙◌}
use Rattle.ark_bytes.specs.declared.compress.Compress.TheVariants.{Yes}
use Rattle.ark_transcript.proofs.elements.element_buffer.Goals as goal

pub returns : goal.returns
returns g c =
    c.in_ok-bytes.ensures ∙ c.in-Some.ensures.some ∙ (g.met.F.Field.elements_law Yes).lengths c.zero.result
