use Rattle.std.proofs.Common.{◌-◌, ◌/◌, ◌<◌, length, drop, arith}
use Rattle.std.proofs.lemmas.List.{length-drop, length-take-le}
use Rattle.ark_bit_reversed.proofs.Callers.PowersOfTwo.{half_is_power, two_halves}
use Rattle.ark_subproducts.proofs.halves.Part.high.Goals as goal

pub returns-clause-part : goal.returns-clause-part
returns-clause-part g c =
    let part = c.args.self.now in
    let points = part.points.now in
    let n = length points in
    let many : 1 < part.count = omega (arith, c.requires.many, c.requires.part.room) in
    record {
      power = half_is_power part.count many c.requires.part.power;
      within = omega (arith, c.requires.part.within);
      room = omega (arith, two_halves part.count many c.requires.part.power, c.requires.part.room, length-take-le (n - n / 2) (drop (n / 2) points) (omega (arith, length-drop (n / 2) points)));
    }
