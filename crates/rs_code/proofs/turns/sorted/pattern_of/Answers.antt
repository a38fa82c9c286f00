use Rattle.std.proofs.Common.{◌≡◌, ℕ, ◌+◌, ◌*◌, ◌<◌, Bool, true, false, get_or, if◌then◌else◌, sym, ap₂, refl, subst, arith}
use Rattle.rs_code.specs.declared.turns.sorted.TheConstants.{PATTERNS}
use Rattle.rs_code.specs.Turns.{Four, marked_first, turn_place, turned}
use Rattle.rs_code.proofs.turns.sorted.pattern_of.Goals as goal

record IsPattern (m : Four) (r : ℕ × ℕ) : Type 0 where
  marked : turned (turn_place r.1) m ≡ marked_first r.0
  pattern : r.0 < 6
  place : r.1 < 4

abbrev bit : Bool → ℕ
bit mark = if mark then 1 else 0

abbrev read : ℕ → ℕ × ℕ
read i = get_or PATTERNS i (0, 0)

pattern_at : (s t u v : Bool) → IsPattern (record { first = s; second = t; third = u; fourth = v }) (read (bit s + 2 * bit t + 4 * bit u + 8 * bit v))
pattern_at false false false false = record { marked = refl; pattern = omega arith; place = omega arith }
pattern_at false false false true = record { marked = refl; pattern = omega arith; place = omega arith }
pattern_at false false true false = record { marked = refl; pattern = omega arith; place = omega arith }
pattern_at false false true true = record { marked = refl; pattern = omega arith; place = omega arith }
pattern_at false true false false = record { marked = refl; pattern = omega arith; place = omega arith }
pattern_at false true false true = record { marked = refl; pattern = omega arith; place = omega arith }
pattern_at false true true false = record { marked = refl; pattern = omega arith; place = omega arith }
pattern_at false true true true = record { marked = refl; pattern = omega arith; place = omega arith }
pattern_at true false false false = record { marked = refl; pattern = omega arith; place = omega arith }
pattern_at true false false true = record { marked = refl; pattern = omega arith; place = omega arith }
pattern_at true false true false = record { marked = refl; pattern = omega arith; place = omega arith }
pattern_at true false true true = record { marked = refl; pattern = omega arith; place = omega arith }
pattern_at true true false false = record { marked = refl; pattern = omega arith; place = omega arith }
pattern_at true true false true = record { marked = refl; pattern = omega arith; place = omega arith }
pattern_at true true true false = record { marked = refl; pattern = omega arith; place = omega arith }
pattern_at true true true true = record { marked = refl; pattern = omega arith; place = omega arith }

pattern_by_bits : (s t u v : Bool) (i j k l : ℕ) → i ≡ bit s → j ≡ bit t → k ≡ bit u → l ≡ bit v → IsPattern (record { first = s; second = t; third = u; fourth = v }) (read (i + 2 * j + 4 * k + 8 * l))
pattern_by_bits s t u v i j k l e f g h =
    subst (λ n. IsPattern (record { first = s; second = t; third = u; fourth = v }) (read n))
    (sym (ap₂ (λ m n. m + 8 * n) (ap₂ (λ m n. m + 4 * n) (ap₂ (λ m n. m + 2 * n) e f) g) h)) (pattern_at s t u v)

pub returns-clause-marked : goal.returns-clause-marked
returns-clause-marked c = (pattern_by_bits _ _ _ _ _ _ _ _ c.bit.ensures c.bit-2.ensures c.bit-3.ensures c.bit-4.ensures).marked

pub returns-clause-pattern : goal.returns-clause-pattern
returns-clause-pattern c = (pattern_by_bits _ _ _ _ _ _ _ _ c.bit.ensures c.bit-2.ensures c.bit-3.ensures c.bit-4.ensures).pattern

pub returns-clause-place : goal.returns-clause-place
returns-clause-place c = (pattern_by_bits _ _ _ _ _ _ _ _ c.bit.ensures c.bit-2.ensures c.bit-3.ensures c.bit-4.ensures).place
