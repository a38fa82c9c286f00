use Rattle.std.proofs.Common.{◌≡◌, Decides, sym, subst, ap, arith}
use Rattle.std.proofs.lemmas.Bool.{false≢true}
use Rattle.ark_tables.proofs.DenseTables.{decides_zero}
use Rattle.ark_multi.proofs.multilinear.dense.DenseMultilinearExtensionPolynomial.is_zero.Goals as goal

pub returns-then-self-gt0 : goal.returns-then-self-gt0
returns-then-self-gt0 g c = (λ e. absurd (false≢true e), λ e. absurd (omega (arith, c.if-self-gt0.true, ap (λ t. t.variables) e)))

pub returns : goal.returns
returns g c =
    let K = g.F.Field.field in
    let F = g.met.F.Field in
    let v = c.args.self.now in
    let x = c.index.result.now in
    let decides : Decides c.is_zero.result (x ≡ K.zero) =
    subst (λ b. Decides b (x ≡ K.zero)) (sym c.is_zero.ensures)
    (subst (λ z. Decides (g.F.PartialEq.eq x z) (x ≡ K.zero)) (sym F.zero_law) (F.equality_law x K.zero)) in
    decides_zero K v.evaluations.items v.num_vars x c.is_zero.result v.whole (omega (arith, c.if-self-gt0.false)) c.index.ensures decides
