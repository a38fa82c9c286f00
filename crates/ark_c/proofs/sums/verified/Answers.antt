use Rattle.ark_word_sums.specs.declared.error.SumsError.TheVariants.{Length, NotReduced, Refused}
use Rattle.ark_c.proofs.OverSums.{by_error, never_unnamed, of_proofs, when_done, when_error, when_not}
use Rattle.ark_c.proofs.sums.verified.Goals as goal

pub returns : goal.returns
returns g c =
    let s = c.sum_status.result in
    let r = c.verify.result in
    let is = c.sum_status.ensures in
    let e = c.verify.ensures in
    record {
      reduced = when_done s r is e.reduced;
      refused = when_error s r is Refused e.refused;
      kept = when_not s r is e.kept;
      taken = when_done s r is e.taken;
      named = never_unnamed s r is;
      length = by_error s r is Length e.length;
      not_reduced = by_error s r is NotReduced e.not_reduced;
      no_other = of_proofs s r is e.no_other;
    }
