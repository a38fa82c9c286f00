use Rattle.ark_tables.proofs.TableLists.{exchanged_sums}
use Rattle.ark_tables.proofs.tables.exchanged_bits.Goals as goal

pub overflow_sub-result : goal.overflow_sub-result
overflow_sub-result c = (exchanged_sums c.args.index c.args.by.first c.args.by.second c.args.by.count c.requires.windows c.requires.below).0

pub overflow_add-result-2 : goal.overflow_add-result-2
overflow_add-result-2 c = record { fits = (exchanged_sums c.args.index c.args.by.first c.args.by.second c.args.by.count c.requires.windows c.requires.below).1 }

pub overflow_add-result-3 : goal.overflow_add-result-3
overflow_add-result-3 c = record { fits = (exchanged_sums c.args.index c.args.by.first c.args.by.second c.args.by.count c.requires.windows c.requires.below).3 }

pub returns : goal.returns
returns c = (exchanged_sums c.args.index c.args.by.first c.args.by.second c.args.by.count c.requires.windows c.requires.below).2
