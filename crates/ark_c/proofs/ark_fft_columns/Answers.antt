use Rattle.std.proofs.Common.{ℕ, List, refl, rules}
use Rattle.ark_words.specs.Numbers.{Spelled, HaveReduced}
use Rattle.ark_words.specs.Parts.{FitColumns, HaveParts, AreColumnsTransformed}
use Rattle.ark_c.specs.Names.{field_named}
use Rattle.ark_c.proofs.Outcomes.{IsOver, over_one, over_no_field}
use Rattle.ark_c.proofs.OfDomains.{TellsOfDomains, domain_call}
use Rattle.ark_c.proofs.ark_fft_columns.Goals as goal
use Rattle.ark_c.proofs.ark_fft_columns.Goals.{in-5, in-433, in-65537, in-2013265921, in-2130706433, in-18446744069414584321, in-254, in-12381, in_default}

pub returns : goal.returns
returns c =
    let old = c.args.words.now in
    let offset = c.args.offset.now in
    let new = c.match-field.words in
    let Done = λ (f : Spelled) (after : List ℕ). AreColumnsTransformed f c.args.log_rows c.args.log_columns old offset after in
    let Fit = λ (f : Spelled). FitColumns f c.args.log_rows c.args.log_columns old offset in
    let Reduced = λ (f : Spelled). HaveReduced f old offset in
    let Domain = λ (f : Spelled). HaveParts f c.args.log_rows c.args.log_columns offset in
    let is : IsOver (TellsOfDomains Done Fit Reduced Domain old) old new (field_named c.args.field) c.match-field.status = elim c.match-field.branch [
      | in-5 w ↦ over_one w.in-5.is refl w.status-is w.words-is (let e = w.fft_columns.ensures in record { done = e.values; kept = e.kept; taken = e.taken; length = e.length; not_reduced = e.not_reduced; no_domain = e.no_domain; no_other = e.no_other })
      | in-433 w ↦ over_one w.in-433.is refl w.status-is w.words-is (let e = w.fft_columns-in-433.ensures in record { done = e.values; kept = e.kept; taken = e.taken; length = e.length; not_reduced = e.not_reduced; no_domain = e.no_domain; no_other = e.no_other })
      | in-65537 w ↦ over_one w.in-65537.is refl w.status-is w.words-is (let e = w.fft_columns-in-65537.ensures in record { done = e.values; kept = e.kept; taken = e.taken; length = e.length; not_reduced = e.not_reduced; no_domain = e.no_domain; no_other = e.no_other })
      | in-2013265921 w ↦ over_one w.in-2013265921.is refl w.status-is w.words-is (let e = w.fft_columns-in-2013265921.ensures in record { done = e.values; kept = e.kept; taken = e.taken; length = e.length; not_reduced = e.not_reduced; no_domain = e.no_domain; no_other = e.no_other })
      | in-2130706433 w ↦ over_one w.in-2130706433.is refl w.status-is w.words-is (let e = w.fft_columns-in-2130706433.ensures in record { done = e.values; kept = e.kept; taken = e.taken; length = e.length; not_reduced = e.not_reduced; no_domain = e.no_domain; no_other = e.no_other })
      | in-18446744069414584321 w ↦ over_one w.in-18446744069414584321.is refl w.status-is w.words-is (let e = w.fft_columns-in-18446744069414584321.ensures in record { done = e.values; kept = e.kept; taken = e.taken; length = e.length; not_reduced = e.not_reduced; no_domain = e.no_domain; no_other = e.no_other })
      | in-254 w ↦ over_one w.in-254.is refl w.status-is w.words-is (let e = w.fft_columns-in-254.ensures in record { done = e.values; kept = e.kept; taken = e.taken; length = e.length; not_reduced = e.not_reduced; no_domain = e.no_domain; no_other = e.no_other })
      | in-12381 w ↦ over_one w.in-12381.is refl w.status-is w.words-is (let e = w.fft_columns-in-12381.ensures in record { done = e.values; kept = e.kept; taken = e.taken; length = e.length; not_reduced = e.not_reduced; no_domain = e.no_domain; no_other = e.no_other })
      | in_default w ↦ over_no_field (search rules) w.status-is w.words-is
    ] in
    let t = domain_call Done Fit Reduced Domain old new (field_named c.args.field) c.status.ensures is in
    record {
      values = t.done;
      kept = t.kept;
      taken = t.taken;
      no_field = t.no_field;
      length = t.length;
      not_reduced = t.not_reduced;
      no_domain = t.no_domain;
      no_other = t.no_other;
    }
