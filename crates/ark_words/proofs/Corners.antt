-- The corners that are left of a cube with some variables bound, and the values there.
use Rattle.std.proofs.Common.{◌≡◌, ◌↔◌, ◌+◌, ◌-◌, ◌*◌, ◌^◌, ◌<◌, ◌≤◌, ℕ, Bool, IsTrue, List, length, map, sym, ap, ap₂, ◌∙◌, arith}
use Rattle.std.proofs.lemmas.Nat.{pow_pos, pow-add}
use Rattle.std.proofs.Math.Nat.{eq_of_mul-eq-mul_left, pow-le-pow_right}
use Rattle.std.proofs.lemmas.List.{length-map, get_or-map}
use mathlib.Core.Path.{fun_ext}
use Rattle.ark_math.specs.Cost.{IsLog2Up}
use Rattle.ark_math.specs.Module.{tabulate}
use Rattle.ark_math_variables.specs.Multilinear.{extension, fixed}
use Rattle.ark_math.specs.Univariate.{of_list}
use Rattle.ark_math.proofs.Numbers.GreatestPowers.{one_log2}
use Rattle.ark_math.proofs.Domains.Sizes.{log_of_power}
use Rattle.ark_math.proofs.Lists.Tabulated.{is_tabulated}
use Rattle.ark_math_transforms.proofs.Transforms.Carried.{of_list-carried}
use Rattle.ark_numbers.proofs.CarriedExtensions.{extension-carried}
use Rattle.ark_numbers.specs.Fields.{operations}
use Rattle.ark_numbers.proofs.Values.{NumberField, shown_field, number_carries, negated_kept}
use Rattle.ark_words.specs.Extensions.{AreLeft}

-- no word tells so many corners
pub too_many : (count variables : ℕ) → count < 2 ^ 64 → 64 ≤ variables → count ≡ 2 ^ variables → ⊥
too_many count variables fits many e =
    let big : 2 ^ 64 ≤ 2 ^ variables = pow-le-pow_right (omega arith) many in
    omega arith

-- the cube is that of the logarithm
pub variables_of : (count k left v : ℕ) → IsLog2Up count v → (h : AreLeft count k left) → v ≡ h.0
variables_of count k left v log h = one_log2 count v h.0 log (log_of_power count h.0 h.2)

pub left_told : (count k left v : ℕ) (r : Bool) → IsLog2Up count v → k ≤ v → count ≡ 2 ^ v → (IsTrue r ↔ (left ≡ 2 ^ (v - k))) → IsTrue r ↔ AreLeft count k left
left_told count k left v r log within e told = (
  (λ t. (v, within, e, told.0 t)),
  (λ h. told.1 (h.3 ∙ ap (λ m. 2 ^ (m - k)) (sym (variables_of count k left v log h)))),
)

pub too_few : (count k left v : ℕ) → IsLog2Up count v → v < k → AreLeft count k left → ⊥
too_few count k left v log below h = let same = variables_of count k left v log h in let l : k ≤ h.0 = h.1 in omega arith

pub no_cube : (count k left v : ℕ) → IsLog2Up count v → (count ≡ 2 ^ v → ⊥) → AreLeft count k left → ⊥
no_cube count k left v log none h = none (h.2 ∙ ap (λ m. 2 ^ m) (sym (variables_of count k left v log h)))

-- each corner that is left stands for so many
pub left_times : (count k left t p : ℕ) → AreLeft count k left → t ≡ count → p ≡ k → left * 2 ^ p ≡ t
left_times count k left t p (m, within, e, f) same bound =
    let back : (m - k) + k ≡ m = omega arith in
    ap₂ (λ a b. a * 2 ^ b) f bound ∙ sym (pow-add 2 (m - k) k) ∙ ap (λ n. 2 ^ n) back ∙ sym e ∙ sym same

pub one_left : (n left p t : ℕ) → n * 2 ^ p ≡ t → left * 2 ^ p ≡ t → n ≡ left
one_left n left p t e f =
    let turned : 2 ^ p * n ≡ 2 ^ p * left = omega (arith, e, f) in
    eq_of_mul-eq-mul_left (2 ^ p) (pow_pos p) n left turned

-- the values at the corners that are left, by their numbers
module _ {F : Type 0} (S : NumberField F) (xs x : List ℕ) (items point left : List F) (same : map S.numbering.number items ≡ xs) (same_point : map S.numbering.number point ≡ x) where
  corner_carried : (c : ℕ) → S.numbering.number (fixed S.field (of_list S.field items) point c) ≡ fixed (operations (shown_field S)) (of_list (operations (shown_field S)) xs) x c
  corner_carried c =
      let L = operations (shown_field S) in
      let len : length point ≡ length x = sym (length-map point S.numbering.number) ∙ ap length same_point in
      extension-carried (number_carries S) (negated_kept S) (λ b. of_list S.field items (c * 2 ^ length point + b)) point
      ∙ ap₂ (extension L)
      (fun_ext (λ b. of_list-carried (number_carries S) items (c * 2 ^ length point + b) ∙ ap₂ (λ v n. of_list L v (c * 2 ^ n + b)) same len))
      same_point

  pub fixed_carried : of_list S.field left ≡ fixed S.field (of_list S.field items) point
      → map S.numbering.number left ≡ tabulate (length left) (fixed (operations (shown_field S)) (of_list (operations (shown_field S)) xs) x)
  fixed_carried e =
      let number = S.numbering.number in
      is_tabulated 0 (map number left) (length left) (fixed (operations (shown_field S)) (of_list (operations (shown_field S)) xs) x) (length-map left number)
      (λ c l. get_or-map number left c S.field.zero 0 l ∙ ap (λ h. number (h c)) e ∙ corner_carried c)
