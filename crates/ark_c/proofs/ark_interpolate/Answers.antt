use Rattle.std.proofs.Common.{ℕ, List, refl, rules, arith}
use Rattle.ark_words.specs.declared.error.WordsError.TheVariants.{Length, NotReduced, NoDomain, ZeroDivisor, EqualPoints}
use Rattle.ark_words.specs.Interpolations.{FitInterpolation, ArePointsDifferent, HasEqualPoints, AreInterpolating}
use Rattle.ark_words.specs.Numbers.{BothReduced}
use Rattle.ark_c.specs.Names.{field_named}
use Rattle.ark_c.proofs.Outcomes.{IsOver, over_one, over_no_field, told_done, told_kept, told_no_field, told_error, told_never, told_most}
use Rattle.ark_c.proofs.Interpolation.{TellsInterpolation, interpolation_number, no_domain_wanted, no_divisor}
use Rattle.ark_c.proofs.ark_interpolate.Goals as goal
use Rattle.ark_c.proofs.ark_interpolate.Goals.{in-5, in-433, in-65537, in-2013265921, in-2130706433, in-18446744069414584321, in-254, in-12381, in_default}

pub returns : goal.returns
returns c =
    let x = c.args.points.now in
    let y = c.args.values.now in
    let old = c.args.coefficients.now in
    let P = TellsInterpolation x y old in
    let new = c.match-field.coefficients in
    let field = field_named c.args.field in
    let answer : IsOver (TellsInterpolation x y old) old new (field_named c.args.field) c.match-field.status = elim c.match-field.branch [
      | in-5 w ↦ let e = w.interpolate.ensures in over_one w.in-5.is refl w.status-is w.coefficients-is (record { coefficients = e.coefficients; kept = e.kept; taken = e.taken; length = e.length; not_reduced = e.not_reduced; equal_points = e.equal_points; no_other = e.no_other })
      | in-433 w ↦ let e = w.interpolate-in-433.ensures in over_one w.in-433.is refl w.status-is w.coefficients-is (record { coefficients = e.coefficients; kept = e.kept; taken = e.taken; length = e.length; not_reduced = e.not_reduced; equal_points = e.equal_points; no_other = e.no_other })
      | in-65537 w ↦ let e = w.interpolate-in-65537.ensures in over_one w.in-65537.is refl w.status-is w.coefficients-is (record { coefficients = e.coefficients; kept = e.kept; taken = e.taken; length = e.length; not_reduced = e.not_reduced; equal_points = e.equal_points; no_other = e.no_other })
      | in-2013265921 w ↦ let e = w.interpolate-in-2013265921.ensures in over_one w.in-2013265921.is refl w.status-is w.coefficients-is (record { coefficients = e.coefficients; kept = e.kept; taken = e.taken; length = e.length; not_reduced = e.not_reduced; equal_points = e.equal_points; no_other = e.no_other })
      | in-2130706433 w ↦ let e = w.interpolate-in-2130706433.ensures in over_one w.in-2130706433.is refl w.status-is w.coefficients-is (record { coefficients = e.coefficients; kept = e.kept; taken = e.taken; length = e.length; not_reduced = e.not_reduced; equal_points = e.equal_points; no_other = e.no_other })
      | in-18446744069414584321 w ↦ let e = w.interpolate-in-18446744069414584321.ensures in over_one w.in-18446744069414584321.is refl w.status-is w.coefficients-is (record { coefficients = e.coefficients; kept = e.kept; taken = e.taken; length = e.length; not_reduced = e.not_reduced; equal_points = e.equal_points; no_other = e.no_other })
      | in-254 w ↦ let e = w.interpolate-in-254.ensures in over_one w.in-254.is refl w.status-is w.coefficients-is (record { coefficients = e.coefficients; kept = e.kept; taken = e.taken; length = e.length; not_reduced = e.not_reduced; equal_points = e.equal_points; no_other = e.no_other })
      | in-12381 w ↦ let e = w.interpolate-in-12381.ensures in over_one w.in-12381.is refl w.status-is w.coefficients-is (record { coefficients = e.coefficients; kept = e.kept; taken = e.taken; length = e.length; not_reduced = e.not_reduced; equal_points = e.equal_points; no_other = e.no_other })
      | in_default w ↦ over_no_field (search rules) w.status-is w.coefficients-is
    ] in
    let is = c.status.ensures in
    record {
      coefficients = told_done P old new is (λ f. AreInterpolating f x y new) (λ f s says. says.coefficients) field answer;
      kept = told_kept P old new is (λ same. same) (λ f s says. says.kept) field answer;
      taken = told_done P old new is (λ f. FitInterpolation f x y old × BothReduced f x y × ArePointsDifferent f x) (λ f s says. says.taken) field answer;
      no_field = told_no_field P old new is field answer;
      length = told_error P old new is Length (λ f. ¬ FitInterpolation f x y old) (λ f s says. says.length) field answer;
      not_reduced = told_error P old new is NotReduced (λ f. FitInterpolation f x y old × (¬ BothReduced f x y)) (λ f s says. says.not_reduced) field answer;
      equal_points = told_error P old new is EqualPoints (λ f. FitInterpolation f x y old × BothReduced f x y × HasEqualPoints f x) (λ f s says. says.equal_points) field answer;
      no_other = (
        told_most P old new is 7 (omega arith) (λ f s says. interpolation_number s says.no_other) field answer,
        told_never P old new is NoDomain (λ f s says. no_domain_wanted s says.no_other) field answer,
        told_never P old new is ZeroDivisor (λ f s says. no_divisor s says.no_other) field answer,
      );
    }
