use Rattle.std.proofs.Common.{rules, ◌<◌, ◌∙◌, subst, sym, length}
use Rattle.std.specs.Result.{OnOk}
use Rattle.shards_lib.proofs.OnlyMemory.{on_ok_more, some_rows}
use Rattle.shards_lib.proofs.stripes.RowCodeStripeCode.extend.Goals as goal

pub returns-then-is_empty : goal.returns-then-is_empty
returns-then-is_empty g c = on_ok_more c.extend_groups.result (λ h s stripe l small are b m. h s stripe l are b m) c.extend_groups.ensures

pub extend_directly-requires : goal.extend_directly-requires
extend_directly-requires g c = (search rules, (search rules, (c.requires.code, (subst (λ ws. 0 < length ws) c.deref-weights.ensures.value (some_rows (length c.deref-weights.result.now) (sym c.is_empty.ensures ∙ c.if-is_empty.false)), (c.requires.given, (c.requires.small, c.requires.wanted))))))

pub returns : goal.returns
returns g c = λ s stripe l small are b m. c.extend_directly.ensures s stripe l are b m
