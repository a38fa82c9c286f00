use Rattle.ark_bytes.specs.declared.compress.Compress.TheVariants.{Yes}
use Rattle.ark_transcript.proofs.Tries.{one_challenge}
use Rattle.ark_transcript.proofs.laws.one_challenge.Goals as goal

pub returns : goal.returns
returns g c label tries calls x y after other a b =
    one_challenge g.F.Field.field (g.F.Spelled.format Yes) g.F.Field.element_size label (g.met.F.Field.elements_law Yes) tries calls x y after other a b
