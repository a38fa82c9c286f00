use Rattle.ark_bytes.proofs.Writing.{write_pair}
use Rattle.ark_bytes.proofs.pairs.Tuple2CanonicalSerialize.serialize_with_mode.Goals as goal

pub returns : goal.returns
returns g c =
    write_pair (g.A.Spelled.format c.args.mode) (g.B.Spelled.format c.args.mode) _ _ _ _ _ _ c.in_ok-serialize_with_mode.ensures c.serialize_with_mode-2.ensures
