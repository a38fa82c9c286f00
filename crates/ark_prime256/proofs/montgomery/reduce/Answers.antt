use Rattle.std.proofs.Common.{◌*◌, ◌%◌, ◌<◌, arith, refl, rules, mod-lt, lit<}
use Rattle.std.proofs.lemmas.Grind.{common_steps}
use Rattle.ark_prime256.proofs.Rows.{low_is_zero, reduce_is}
use Rattle.ark_prime256.proofs.montgomery.reduce.Goals as goal

pub returns : goal.returns
returns c =
    let t = c.args.t in
    let p = c.args.p in
    let m = (t.w0 * c.args.i) % 18446744073709551616 in
    let zero = c.carrying_mul_add-zero.result in
    let below : zero.0 < 18446744073709551616 = first_of (omega arith, search rules, grind (arith, common_steps)) in
    let z = low_is_zero t.w0 c.args.i p.w0 m zero.0 zero.1 c.requires.wide.inverse refl below c.carrying_mul_add-zero.ensures in
    record {
      times = m;
      few = mod-lt (t.w0 * c.args.i) (lit< tt);
      whole = reduce_is t.w0 t.w1 t.w2 t.w3 c.args.top p.w0 p.w1 p.w2 p.w3 m _ _ _ _ _ _ _ _ z c.carrying_mul_add-zero.ensures c.carrying_mul_add-w0.ensures c.carrying_mul_add-w1.ensures c.carrying_mul_add-w2.ensures;
    }
