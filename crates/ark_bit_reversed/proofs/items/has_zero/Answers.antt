use Rattle.std.proofs.Common.{◌≡◌, sym, ◌∙◌}
use Rattle.std.proofs.lemmas.List.{get_or_read}
use Rattle.ark_math.specs.Univariate.{of_list}
use Rattle.ark_bit_reversed.proofs.items.has_zero.Goals as goal

pub returns-then-is_zero-clause-some : goal.returns-then-is_zero-clause-some
returns-then-is_zero-clause-some g c =
    let K = g.F.Field.field in
    let items = c.args.items.now in
    let i = c.loop-i.i in
    let read : c.index-items-i.result ≡ of_list K items i = get_or_read items i c.index-items-i.result c.loop-i-test.true c.index-items-i.is K.zero in
    λ h. (i, c.loop-i-test.true, sym read ∙ (g.met.F.Field.equality_law _ _).0 (sym c.is_zero.ensures ∙ c.if-is_zero.true) ∙ g.met.F.Field.zero_law)
