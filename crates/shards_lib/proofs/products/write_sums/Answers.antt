use Rattle.std.proofs.Common.{◌≡◌, ℕ, ◌*◌, ◌<◌, get_or, length, sym, ◌∙◌, ap, subst, arith}
use Rattle.shards_lib.specs.Products.{weighted_sum}
use Rattle.shards_lib.proofs.NumberSums.{reduced}
use Rattle.shards_lib.proofs.products.write_sums.Goals as goal

pub returns : goal.returns
returns g c = λ s l.
    let K = g.F.Field.field in
    let L = g.met.F.NumberField in
    let n = length c.args.sums.now in
    let cleared : length c.clear.new.sums ≡ n = c.clear.auto.sums in
    c.reduce.ensures s
    ∙ reduced K g.met.F.Field.field_laws g.F.NumberField.number L.number_fits L.number_natural L.natural_number (get_or c.add_rows.new.sums s 0)
    (weighted_sum K c.args.weights.now c.args.numbers.now n s (length c.args.weights.now))
    (c.add_rows.ensures s (subst (λ m. s < m) (sym cleared) l) ∙ ap (λ m. weighted_sum K c.args.weights.now c.args.numbers.now m s (length c.args.weights.now)) cleared)
