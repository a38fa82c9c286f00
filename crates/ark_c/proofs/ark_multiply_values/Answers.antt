use Rattle.std.proofs.Common.{ℕ, List, refl, rules}
use Rattle.ark_words.specs.Numbers.{Spelled, BothReduced}
use Rattle.ark_words.specs.Values.{FitPairs, AreProducts}
use Rattle.ark_c.specs.Names.{field_named}
use Rattle.ark_c.proofs.Outcomes.{IsOver, over_one, over_no_field}
use Rattle.ark_c.proofs.Plain.{TellsPlain, plain_call}
use Rattle.ark_c.proofs.ark_multiply_values.Goals as goal
use Rattle.ark_c.proofs.ark_multiply_values.Goals.{in-5, in-433, in-65537, in-2013265921, in-2130706433, in-18446744069414584321, in-254, in-12381, in_default}

pub returns : goal.returns
returns c =
    let old = c.args.values.now in
    let others = c.args.others.now in
    let new = c.match-field.values in
    let Done = λ (f : Spelled) (after : List ℕ). AreProducts f old others after in
    let Fit = λ (f : Spelled). FitPairs f old others in
    let Reduced = λ (f : Spelled). BothReduced f old others in
    let is : IsOver (TellsPlain Done Fit Reduced old) old new (field_named c.args.field) c.match-field.status = elim c.match-field.branch [
      | in-5 w ↦ over_one w.in-5.is refl w.status-is w.values-is (let e = w.multiply_values.ensures in record { done = e.products; kept = e.kept; taken = e.taken; length = e.length; not_reduced = e.not_reduced; no_other = e.no_other })
      | in-433 w ↦ over_one w.in-433.is refl w.status-is w.values-is (let e = w.multiply_values-in-433.ensures in record { done = e.products; kept = e.kept; taken = e.taken; length = e.length; not_reduced = e.not_reduced; no_other = e.no_other })
      | in-65537 w ↦ over_one w.in-65537.is refl w.status-is w.values-is (let e = w.multiply_values-in-65537.ensures in record { done = e.products; kept = e.kept; taken = e.taken; length = e.length; not_reduced = e.not_reduced; no_other = e.no_other })
      | in-2013265921 w ↦ over_one w.in-2013265921.is refl w.status-is w.values-is (let e = w.multiply_values-in-2013265921.ensures in record { done = e.products; kept = e.kept; taken = e.taken; length = e.length; not_reduced = e.not_reduced; no_other = e.no_other })
      | in-2130706433 w ↦ over_one w.in-2130706433.is refl w.status-is w.values-is (let e = w.multiply_values-in-2130706433.ensures in record { done = e.products; kept = e.kept; taken = e.taken; length = e.length; not_reduced = e.not_reduced; no_other = e.no_other })
      | in-18446744069414584321 w ↦ over_one w.in-18446744069414584321.is refl w.status-is w.values-is (let e = w.multiply_values-in-18446744069414584321.ensures in record { done = e.products; kept = e.kept; taken = e.taken; length = e.length; not_reduced = e.not_reduced; no_other = e.no_other })
      | in-254 w ↦ over_one w.in-254.is refl w.status-is w.values-is (let e = w.multiply_values-in-254.ensures in record { done = e.products; kept = e.kept; taken = e.taken; length = e.length; not_reduced = e.not_reduced; no_other = e.no_other })
      | in-12381 w ↦ over_one w.in-12381.is refl w.status-is w.values-is (let e = w.multiply_values-in-12381.ensures in record { done = e.products; kept = e.kept; taken = e.taken; length = e.length; not_reduced = e.not_reduced; no_other = e.no_other })
      | in_default w ↦ over_no_field (search rules) w.status-is w.values-is
    ] in
    let t = plain_call Done Fit Reduced old new (field_named c.args.field) c.status.ensures is in
    record {
      products = t.done;
      kept = t.kept;
      taken = t.taken;
      no_field = t.no_field;
      length = t.length;
      not_reduced = t.not_reduced;
      no_other = t.no_other;
    }
