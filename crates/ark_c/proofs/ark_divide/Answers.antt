use Rattle.std.proofs.Common.{ℕ, List, ap, ap₂, refl, rules, arith}
use Rattle.ark_words.specs.declared.error.WordsError.TheVariants.{Length, NotReduced, NoDomain, ZeroDivisor}
use Rattle.ark_words.specs.Numbers.{BothReduced}
use Rattle.ark_words.specs.Products.{FitQuotient, AreZeros, IsDivisible, AreDivided}
use Rattle.ark_c.specs.Names.{field_named}
use Rattle.ark_c.proofs.Outcomes.{IsOver, over_one, over_no_field, told_done, told_kept, told_no_field, told_error, told_never, told_most}
use Rattle.ark_c.proofs.Division.{TellsQuotient, division_number, no_domain_wanted}
use Rattle.ark_c.proofs.ark_divide.Goals as goal
use Rattle.ark_c.proofs.ark_divide.Goals.{in-5, in-433, in-65537, in-2013265921, in-2130706433, in-18446744069414584321, in-254, in-12381, in_default}

pub returns : goal.returns
returns c =
    let a = c.args.dividend.now in
    let b = c.args.divisor.now in
    let q = c.args.quotient.now in
    let r = c.args.remainder.now in
    let P = TellsQuotient a b q r in
    let old : List ℕ × List ℕ = (q, r) in
    let new : List ℕ × List ℕ = (c.match-field.quotient, c.match-field.remainder) in
    let field = field_named c.args.field in
    let answer : IsOver (TellsQuotient a b q r) old new (field_named c.args.field) c.match-field.status = elim c.match-field.branch [
      | in-5 w ↦ let e = w.divide.ensures in over_one w.in-5.is refl w.status-is (ap₂ (λ q r. (q, r)) w.quotient-is w.remainder-is) (record { quotient = e.quotient; kept = e.kept; taken = e.taken; length = e.length; not_reduced = e.not_reduced; zero_divisor = e.zero_divisor; no_other = e.no_other })
      | in-433 w ↦ let e = w.divide-in-433.ensures in over_one w.in-433.is refl w.status-is (ap₂ (λ q r. (q, r)) w.quotient-is w.remainder-is) (record { quotient = e.quotient; kept = e.kept; taken = e.taken; length = e.length; not_reduced = e.not_reduced; zero_divisor = e.zero_divisor; no_other = e.no_other })
      | in-65537 w ↦ let e = w.divide-in-65537.ensures in over_one w.in-65537.is refl w.status-is (ap₂ (λ q r. (q, r)) w.quotient-is w.remainder-is) (record { quotient = e.quotient; kept = e.kept; taken = e.taken; length = e.length; not_reduced = e.not_reduced; zero_divisor = e.zero_divisor; no_other = e.no_other })
      | in-2013265921 w ↦ let e = w.divide-in-2013265921.ensures in over_one w.in-2013265921.is refl w.status-is (ap₂ (λ q r. (q, r)) w.quotient-is w.remainder-is) (record { quotient = e.quotient; kept = e.kept; taken = e.taken; length = e.length; not_reduced = e.not_reduced; zero_divisor = e.zero_divisor; no_other = e.no_other })
      | in-2130706433 w ↦ let e = w.divide-in-2130706433.ensures in over_one w.in-2130706433.is refl w.status-is (ap₂ (λ q r. (q, r)) w.quotient-is w.remainder-is) (record { quotient = e.quotient; kept = e.kept; taken = e.taken; length = e.length; not_reduced = e.not_reduced; zero_divisor = e.zero_divisor; no_other = e.no_other })
      | in-18446744069414584321 w ↦ let e = w.divide-in-18446744069414584321.ensures in over_one w.in-18446744069414584321.is refl w.status-is (ap₂ (λ q r. (q, r)) w.quotient-is w.remainder-is) (record { quotient = e.quotient; kept = e.kept; taken = e.taken; length = e.length; not_reduced = e.not_reduced; zero_divisor = e.zero_divisor; no_other = e.no_other })
      | in-254 w ↦ let e = w.divide-in-254.ensures in over_one w.in-254.is refl w.status-is (ap₂ (λ q r. (q, r)) w.quotient-is w.remainder-is) (record { quotient = e.quotient; kept = e.kept; taken = e.taken; length = e.length; not_reduced = e.not_reduced; zero_divisor = e.zero_divisor; no_other = e.no_other })
      | in-12381 w ↦ let e = w.divide-in-12381.ensures in over_one w.in-12381.is refl w.status-is (ap₂ (λ q r. (q, r)) w.quotient-is w.remainder-is) (record { quotient = e.quotient; kept = e.kept; taken = e.taken; length = e.length; not_reduced = e.not_reduced; zero_divisor = e.zero_divisor; no_other = e.no_other })
      | in_default w ↦ over_no_field (search rules) w.status-is (ap₂ (λ q r. (q, r)) w.quotient-is w.remainder-is)
    ] in
    let is = c.status.ensures in
    record {
      quotient = told_done P old new is (λ f. AreDivided f a b new.0 new.1) (λ f s says. says.quotient) field answer;
      kept = told_kept P old new is (λ same. (ap (λ p. p.0) same, ap (λ p. p.1) same)) (λ f s says. says.kept) field answer;
      taken = told_done P old new is (λ f. IsDivisible f a b q r) (λ f s says. says.taken) field answer;
      no_field = told_no_field P old new is field answer;
      length = told_error P old new is Length (λ f. ¬ FitQuotient f a b q r) (λ f s says. says.length) field answer;
      not_reduced = told_error P old new is NotReduced (λ f. FitQuotient f a b q r × (¬ BothReduced f a b)) (λ f s says. says.not_reduced) field answer;
      zero_divisor = told_error P old new is ZeroDivisor (λ f. FitQuotient f a b q r × BothReduced f a b × AreZeros f b) (λ f s says. says.zero_divisor) field answer;
      no_other = (told_most P old new is 6 (omega arith) (λ f s says. division_number s says.no_other) field answer, told_never P old new is NoDomain (λ f s says. no_domain_wanted s says.no_other) field answer);
    }
