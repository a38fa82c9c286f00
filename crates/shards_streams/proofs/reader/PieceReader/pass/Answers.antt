use Rattle.std.proofs.Common.{◌≤◌, ◌+◌, ◌++◌, arith, rules, length, length-append, ap₂, ◌∙◌}
use Rattle.shards_streams.specs.Readers.{reader_state}
use Rattle.shards_streams.proofs.Taken.{gave_both, fewer_more, fewer_within}
use Rattle.shards_streams.proofs.reader.PieceReader.pass.Goals as goal

pub loop-left-preserved : goal.loop-left-preserved
loop-left-preserved g c =
    let inv = c.loop-left.invariant in
    let more = c.in_ok-take.field-0.items in
    let few : c.min-want.result ≤ c.loop-left.left = omega (arith, c.min-want.ensures) in
    record {
      bound = omega (arith, inv.bound);
      bytes = inv.bytes ++ more;
      len = length-append inv.bytes more ∙ ap₂ (λ x y. x + y) inv.len c.in_ok-take.ensures.len ∙ omega (arith, inv.bound, few);
      gave = gave_both g.R.Source c.args.self.now c.loop-left.self c.take.new.self inv.bytes more inv.gave c.in_ok-take.ensures.gave;
    }

pub returns-in_err-take-clause-fewer : goal.returns-in_err-take-clause-fewer
returns-in_err-take-clause-fewer g c = λ same.
    let inv = c.loop-left.invariant in
    let few : c.min-want.result ≤ c.loop-left.left = omega (arith, c.min-want.ensures) in
    fewer_within (reader_state g.R.Source c.args.self.now) (reader_state g.R.Source c.take.new.self) (length inv.bytes + c.min-want.result) c.args.size (omega (arith, inv.len, inv.bound, few))
    (fewer_more (reader_state g.R.Source c.args.self.now) (reader_state g.R.Source c.loop-left.self) (reader_state g.R.Source c.take.new.self) inv.bytes c.min-want.result inv.gave.takes
    (c.take.ensures.fewer (search rules)))
