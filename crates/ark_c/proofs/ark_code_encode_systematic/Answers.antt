use Rattle.std.proofs.Common.{ℕ, List, refl, rules}
use Rattle.ark_words.specs.Numbers.{Spelled, AreReduced}
use Rattle.ark_words.specs.Codes.{FitCode, HasCodeFor, IsExtendedToCodeword}
use Rattle.ark_c.specs.Names.{field_named}
use Rattle.ark_c.proofs.Outcomes.{IsOver, over_one, over_no_field}
use Rattle.ark_c.proofs.OfDomains.{TellsOfDomains, domain_call}
use Rattle.ark_c.proofs.ark_code_encode_systematic.Goals as goal
use Rattle.ark_c.proofs.ark_code_encode_systematic.Goals.{in-5, in-433, in-65537, in-2013265921, in-2130706433, in-18446744069414584321, in-254, in-12381, in_default}

pub returns : goal.returns
returns c =
    let message = c.args.message.now in
    let old = c.args.word.now in
    let new = c.match-field.word in
    let Done = λ (f : Spelled) (after : List ℕ). IsExtendedToCodeword f message after in
    let Fit = λ (f : Spelled). FitCode f message old in
    let Reduced = λ (f : Spelled). AreReduced f message in
    let Domain = λ (f : Spelled). HasCodeFor f old in
    let is : IsOver (TellsOfDomains Done Fit Reduced Domain old) old new (field_named c.args.field) c.match-field.status = elim c.match-field.branch [
      | in-5 w ↦ over_one w.in-5.is refl w.status-is w.word-is (let e = w.encode_systematic.ensures in record { done = e.codeword; kept = e.kept; taken = e.taken; length = e.length; not_reduced = e.not_reduced; no_domain = e.no_domain; no_other = e.no_other })
      | in-433 w ↦ over_one w.in-433.is refl w.status-is w.word-is (let e = w.encode_systematic-in-433.ensures in record { done = e.codeword; kept = e.kept; taken = e.taken; length = e.length; not_reduced = e.not_reduced; no_domain = e.no_domain; no_other = e.no_other })
      | in-65537 w ↦ over_one w.in-65537.is refl w.status-is w.word-is (let e = w.encode_systematic-in-65537.ensures in record { done = e.codeword; kept = e.kept; taken = e.taken; length = e.length; not_reduced = e.not_reduced; no_domain = e.no_domain; no_other = e.no_other })
      | in-2013265921 w ↦ over_one w.in-2013265921.is refl w.status-is w.word-is (let e = w.encode_systematic-in-2013265921.ensures in record { done = e.codeword; kept = e.kept; taken = e.taken; length = e.length; not_reduced = e.not_reduced; no_domain = e.no_domain; no_other = e.no_other })
      | in-2130706433 w ↦ over_one w.in-2130706433.is refl w.status-is w.word-is (let e = w.encode_systematic-in-2130706433.ensures in record { done = e.codeword; kept = e.kept; taken = e.taken; length = e.length; not_reduced = e.not_reduced; no_domain = e.no_domain; no_other = e.no_other })
      | in-18446744069414584321 w ↦ over_one w.in-18446744069414584321.is refl w.status-is w.word-is (let e = w.encode_systematic-in-18446744069414584321.ensures in record { done = e.codeword; kept = e.kept; taken = e.taken; length = e.length; not_reduced = e.not_reduced; no_domain = e.no_domain; no_other = e.no_other })
      | in-254 w ↦ over_one w.in-254.is refl w.status-is w.word-is (let e = w.encode_systematic-in-254.ensures in record { done = e.codeword; kept = e.kept; taken = e.taken; length = e.length; not_reduced = e.not_reduced; no_domain = e.no_domain; no_other = e.no_other })
      | in-12381 w ↦ over_one w.in-12381.is refl w.status-is w.word-is (let e = w.encode_systematic-in-12381.ensures in record { done = e.codeword; kept = e.kept; taken = e.taken; length = e.length; not_reduced = e.not_reduced; no_domain = e.no_domain; no_other = e.no_other })
      | in_default w ↦ over_no_field (search rules) w.status-is w.word-is
    ] in
    let t = domain_call Done Fit Reduced Domain old new (field_named c.args.field) c.status.ensures is in
    record {
      codeword = t.done;
      kept = t.kept;
      taken = t.taken;
      no_field = t.no_field;
      length = t.length;
      not_reduced = t.not_reduced;
      no_domain = t.no_domain;
      no_other = t.no_other;
    }
