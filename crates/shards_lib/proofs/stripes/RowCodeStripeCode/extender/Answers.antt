use Rattle.std.proofs.Common.{◌≡◌, ℕ, length, get_or, sym, ◌∙◌, ap, subst}
use Rattle.shards_lib.specs.Numbers.{numbered}
use Rattle.shards_lib.specs.Weights.{IsExtender}
use Rattle.shards_lib.proofs.stripes.RowCodeStripeCode.extender.Goals as goal

pub returns-clause-code : goal.returns-clause-code
returns-clause-code g c =
    let s = numbered g.F.Field.field g.F.FftField.root g.F.NumberField.inverse_of g.F.NumberField.number in
    let code = c.args.self.now.code in
    let n = c.args.self.now.n in
    let own : IsExtender s code n c.in_ok-decoder.decoder c.args.given.now c.args.wanted.now c.in_ok-weights.weights.items = record {
      code_is = c.in_ok-decoder.ensures.code;
      kept = c.in_ok-decoder.ensures.kept;
      as_many = c.requires.given;
      given_below = c.requires.given_below;
      wanted_below = c.requires.wanted_below;
      weighted = c.in_ok-weights.ensures;
    } in
    subst (λ xs. IsExtender s code n c.in_ok-decoder.decoder xs c.in_ok-wanted.wanted.items c.in_ok-weights.weights.items) (sym c.in_ok-given.ensures.items)
    (subst (λ xs. IsExtender s code n c.in_ok-decoder.decoder c.args.given.now xs c.in_ok-weights.weights.items) (sym c.in_ok-wanted.ensures.items) own)
