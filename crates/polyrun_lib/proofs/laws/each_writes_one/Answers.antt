use Rattle.polyrun_lib.proofs.OneAnswer.{each_by_name}
use Rattle.polyrun_lib.proofs.laws.each_writes_one.Goals as goal

pub returns : goal.returns
returns c =
    each_by_name c.one_writing.ensures c.one_writing-2.ensures c.one_writing-3.ensures c.one_writing-4.ensures c.one_writing-5.ensures
    c.one_writing-6.ensures c.one_writing-7.ensures c.one_writing-8.ensures
