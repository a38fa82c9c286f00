use Rattle.ark_math_formats.specs.Format.{list}
use Rattle.ark_bytes.proofs.Reading.{reads_fields}
use Rattle.ark_bytes.proofs.lists.VecCanonicalDeserialize.deserialize_with_mode.Goals as goal

pub returns : goal.returns
returns g c = reads_fields (list (g.T.Spelled.format c.args.mode)) (λ v. v.items) (Unit {0}) _ _ _ c.read_list.ensures
