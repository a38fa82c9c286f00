use Rattle.std.proofs.Common.{◌/◌, length, arith}
use Rattle.std.proofs.lemmas.List.{length-take-le}
use Rattle.ark_bit_reversed.proofs.Callers.PowersOfTwo.{half_is_power}
use Rattle.ark_subproducts.proofs.halves.Part.low.Goals as goal

pub returns-clause-part : goal.returns-clause-part
returns-clause-part g c =
    let part = c.args.self.now in
    let half = length part.points.now / 2 in
    record {
      power = half_is_power part.count (omega (arith, c.requires.many, c.requires.part.room)) c.requires.part.power;
      within = omega (arith, c.requires.part.within);
      room = omega (arith, c.requires.part.room, length-take-le half part.points.now (omega arith));
    }
