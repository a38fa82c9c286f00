use Rattle.std.proofs.Common.{◌+◌, ◌*◌, subst}
use Rattle.ark_prime256.specs.Words.{integer, IsReduced}
use Rattle.ark_prime256.proofs.Rows.{four_rows, residue_of_product}
use Rattle.ark_prime256.proofs.montgomery.product.Goals as goal

pub returns-clause-residue : goal.returns-clause-residue
returns-clause-residue c =
    let a = integer c.args.a in
    let b = c.args.b in
    let p = integer c.args.p in
    let t1 = integer c.row-t1.result in
    let first : IsReduced (0 + b.w0 * a) p t1 =
    subst (λ t. IsReduced (t + b.w0 * a) p t1) c.of_word-t.ensures c.row-t1.ensures.reduced in
    residue_of_product a (integer b) p (integer c.row-t4.result) (integer c.less_once.result)
    (four_rows a p b.w0 b.w1 b.w2 b.w3 t1 (integer c.row-t2.result) (integer c.row-t3.result) (integer c.row-t4.result)
    first c.row-t2.ensures.reduced c.row-t3.ensures.reduced c.row-t4.ensures.reduced)
    c.less_once.ensures.residue
