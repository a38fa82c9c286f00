use Rattle.std.proofs.Common.{refl}
use Rattle.ark_bytes.specs.declared.compress.Compress.TheVariants.{Yes}
use Rattle.ark_transcript.proofs.WholeElements.{read_whole, refused_whole}
use Rattle.ark_transcript.proofs.elements.element_of.Goals as goal

pub returns-in-Ok-clause-some : goal.returns-in-Ok-clause-some
returns-in-Ok-clause-some g c =
    read_whole (g.F.Spelled.format Yes) g.F.Field.element_size (g.met.F.Field.elements_law Yes) (g.F.Spelled.format_law Yes)
    c.args.bytes.now _ c.in-Ok.element c.requires c.in-Ok.ensures

pub returns-in-Err-clause-none : goal.returns-in-Err-clause-none
returns-in-Err-clause-none g c = λ none x.
    refused_whole (g.F.Spelled.format Yes) g.F.Field.element_size (g.met.F.Field.elements_law Yes) (g.F.Spelled.format_law Yes)
    c.args.bytes.now _ _ _ g.met.F.Field.memory_law refl c.in-Err.ensures x
