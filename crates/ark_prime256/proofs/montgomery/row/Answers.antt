use Rattle.std.proofs.Common.{◌+◌, ◌*◌, ◌<◌, arith, ap, ◌∙◌, rules}
use Rattle.ark_prime256.specs.Words.{integer}
use Rattle.ark_prime256.proofs.Rows.{row_below}
use Rattle.ark_prime256.proofs.montgomery.row.Goals as goal

pub returns-clause-below : goal.returns-clause-below
returns-clause-below c =
    let below : c.args.x < 18446744073709551616 = first_of (omega arith, search rules) in
    row_below (integer c.args.t) c.args.x (integer c.args.a) (integer c.args.p) c.reduce.ensures.times (integer c.reduce.result)
    c.requires.t_in below c.requires.a_in c.reduce.ensures.few
    (c.reduce.ensures.whole ∙ ap (λ y. y + c.reduce.ensures.times * integer c.args.p) c.add_multiple-top.ensures)
