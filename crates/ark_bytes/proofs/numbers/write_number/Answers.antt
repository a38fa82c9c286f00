use Rattle.std.proofs.Common.{ap, take, subst, ◌∙◌}
use Rattle.std.specs.Io.KnownBytes.{Appends}
use Rattle.ark_bytes.specs.Transfer.{AppendsBeginning}
use Rattle.ark_bytes.proofs.NumberBytes.{written_number}
use Rattle.ark_bytes.proofs.numbers.write_number.Goals as goal

pub returns-in-Ok : goal.returns-in-Ok
returns-in-Ok g c =
    let same = ap (take c.args.width) c.to_le_bytes-bytes.ensures ∙ written_number c.args.width c.args.value c.requires.width in
    record {
      has = c.requires.fits;
      puts = record {
        appends = subst (Appends (g.W.Sink.contents c.args.writer.now) (g.W.Sink.contents c.put.new.self)) same c.in-Ok.ensures.ok;
        failures = c.in-Ok.ensures.counted;
      };
    }

pub returns-in-Err : goal.returns-in-Err
returns-in-Err g c =
    let same = ap (take c.args.width) c.to_le_bytes-bytes.ensures ∙ written_number c.args.width c.args.value c.requires.width in
    record {
      appends = subst (AppendsBeginning (g.W.Sink.contents c.args.writer.now) (g.W.Sink.contents c.put.new.self)) same c.in-Err.ensures.failed;
      failures = c.in-Err.ensures.counted;
    }
