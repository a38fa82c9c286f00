use Rattle.std.proofs.Common.{◌≤◌, ℕ, List, length, refl, rules}
use Rattle.ark_words.specs.Numbers.{Spelled, AreReduced}
use Rattle.ark_words.specs.Codes.{FitMessages, HasCode, HaveCodewords, AreFound, message_size, left_count}
use Rattle.ark_c.specs.Names.{field_named}
use Rattle.ark_c.proofs.Outcomes.{IsOver, over_one, over_no_field}
use Rattle.ark_c.proofs.OfCodes.{TellsOfCodes, code_call}
use Rattle.ark_c.proofs.ark_code_message.Goals as goal
use Rattle.ark_c.proofs.ark_code_message.Goals.{in-5, in-433, in-65537, in-2013265921, in-2130706433, in-18446744069414584321, in-254, in-12381, in_default}

pub returns : goal.returns
returns c =
    let words = c.args.words.now in
    let erased = c.args.erased.now in
    let old = c.args.messages.now in
    let new = c.match-field.messages in
    let Done = λ (f : Spelled) (after : List ℕ). AreFound f words erased (message_size f words erased old) after in
    let Fit = λ (f : Spelled). FitMessages f words erased old in
    let Reduced = λ (f : Spelled). AreReduced f words in
    let Code = λ (f : Spelled). HasCode f (length erased) in
    let Enough = λ (f : Spelled). message_size f words erased old ≤ left_count erased in
    let Codewords = λ (f : Spelled). HaveCodewords f words erased (message_size f words erased old) in
    let is : IsOver (TellsOfCodes Done Fit Reduced Code Enough Codewords old) old new (field_named c.args.field) c.match-field.status = elim c.match-field.branch [
      | in-5 w ↦ over_one w.in-5.is refl w.status-is w.messages-is (let e = w.message.ensures in record { done = e.found; kept = e.kept; taken = e.taken; fault = e.fault })
      | in-433 w ↦ over_one w.in-433.is refl w.status-is w.messages-is (let e = w.message-in-433.ensures in record { done = e.found; kept = e.kept; taken = e.taken; fault = e.fault })
      | in-65537 w ↦ over_one w.in-65537.is refl w.status-is w.messages-is (let e = w.message-in-65537.ensures in record { done = e.found; kept = e.kept; taken = e.taken; fault = e.fault })
      | in-2013265921 w ↦ over_one w.in-2013265921.is refl w.status-is w.messages-is (let e = w.message-in-2013265921.ensures in record { done = e.found; kept = e.kept; taken = e.taken; fault = e.fault })
      | in-2130706433 w ↦ over_one w.in-2130706433.is refl w.status-is w.messages-is (let e = w.message-in-2130706433.ensures in record { done = e.found; kept = e.kept; taken = e.taken; fault = e.fault })
      | in-18446744069414584321 w ↦ over_one w.in-18446744069414584321.is refl w.status-is w.messages-is (let e = w.message-in-18446744069414584321.ensures in record { done = e.found; kept = e.kept; taken = e.taken; fault = e.fault })
      | in-254 w ↦ over_one w.in-254.is refl w.status-is w.messages-is (let e = w.message-in-254.ensures in record { done = e.found; kept = e.kept; taken = e.taken; fault = e.fault })
      | in-12381 w ↦ over_one w.in-12381.is refl w.status-is w.messages-is (let e = w.message-in-12381.ensures in record { done = e.found; kept = e.kept; taken = e.taken; fault = e.fault })
      | in_default w ↦ over_no_field (search rules) w.status-is w.messages-is
    ] in
    let t = code_call Done Fit Reduced Code Enough Codewords old new (field_named c.args.field) c.status.ensures is in
    record {
      found = t.done;
      kept = t.kept;
      taken = t.taken;
      no_field = t.no_field;
      length = t.length;
      not_reduced = t.not_reduced;
      no_domain = t.no_domain;
      too_few = t.too_few;
      no_codeword = t.no_codeword;
      no_other = t.no_other;
    }
