use Rattle.ark_word_sums.specs.declared.error.SumsError.TheVariants.{Length, Addends, NotReduced}
use Rattle.ark_c.proofs.OverSums.{by_error, never_unnamed, of_sums, when_done, when_not}
use Rattle.ark_c.proofs.sums.proved.Goals as goal

pub returns : goal.returns
returns g c =
    let s = c.sum_status.result in
    let r = c.prove.result in
    let is = c.sum_status.ensures in
    let e = c.prove.ensures in
    record {
      sum = when_done s r is e.sum;
      proof = when_done s r is e.proof;
      kept = when_not s r is e.kept;
      taken = when_done s r is e.taken;
      named = never_unnamed s r is;
      length = by_error s r is Length e.length;
      addends = by_error s r is Addends e.addends;
      not_reduced = by_error s r is NotReduced e.not_reduced;
      no_other = of_sums s r is e.no_other;
    }
