-- Examples, computed from the definitions.
use Rattle.std.specs.Prelude.{◌≡◌, ℕ, ◌+◌, ◌-◌, ◌*◌, ◌%◌, List, [], ◌∷◌, ◌++◌, length, ◌==◌, refl}
use Rattle.std.proofs.Common.{inl}
use Rattle.ark_math.specs.Field.{FieldOn}
use Rattle.ark_math.specs.Module.{itself, tabulate, sum_below}
use Rattle.ark_math.specs.Domain.{Domain, element, radix2, mixed_radix}
use Rattle.ark_math.specs.Transform.{transform}
use Rattle.ark_math.specs.Cost.{forward, inverse, counted_items}
use Rattle.ark_math.specs.Univariate.{added, product, of_list, of_pairs, value_below}
use Rattle.ark_math_variables.specs.Term.{power_of, total_degree}
use Rattle.ark_math_variables.specs.Multivariate.{of_terms, sum_at}
use Rattle.ark_math_domains.specs.Points.{vanishing, reindexed}
use Rattle.ark_math_variables.specs.Multilinear.{corner, weight, extension, fixed, exchanged, written}
use Rattle.ark_math_polynomials.specs.NormalForms.{trim, gather}
use Rattle.ark_math_formats.specs.Format.{number}
use Rattle.ark_multi.specs.Layouts.{term, multivariate, dense_extension, sparse_extension}
use Rattle.ark_univariate.specs.Layouts.{dense, sparse, general_domain, evaluations}
use Rattle.ark_fft.specs.Layouts.{long_domain, short_domain}

abbrev modulo : ℕ → FieldOn ℕ
modulo p = record { zero = 0; one = 1; plus = λ x y. (x + y) % p; times = λ x y. (x * y) % p; negated = λ x. (p - x) % p }

abbrev four : Domain ℕ
four = record { kind = radix2; size = 4; root = 2; offset = 1 }

abbrev two : Domain ℕ
two = record { kind = radix2; size = 2; root = 4; offset = 2 }

over_four : transform (modulo 5) (itself (modulo 5)) four (1 ∷ 2 ∷ 3 ∷ 4 ∷ []) ≡ 0 ∷ 4 ∷ 3 ∷ 2 ∷ []
over_four = refl

back_over_four : transform (modulo 5) (itself (modulo 5)) four (0 ∷ 3 ∷ 2 ∷ 1 ∷ []) ≡ 1 ∷ 2 ∷ 3 ∷ 4 ∷ []
back_over_four = refl

over_coset : transform (modulo 5) (itself (modulo 5)) two (1 ∷ 1 ∷ []) ≡ 3 ∷ 4 ∷ []
over_coset = refl

coset_places : tabulate 2 (element (modulo 5) two) ≡ 2 ∷ 3 ∷ []
coset_places = refl

short_list : transform (modulo 65537) (itself (modulo 65537)) (record { kind = radix2; size = 8; root = 4096; offset = 1 }) (1 ∷ 2 ∷ []) ≡ 3 ∷ 8193 ∷ 65026 ∷ 33 ∷ 65536 ∷ 57346 ∷ 513 ∷ 65506 ∷ []
short_list = refl

long_list_is_cut : transform (modulo 5) (itself (modulo 5)) four (1 ∷ 0 ∷ 0 ∷ 0 ∷ 1 ∷ []) ≡ 1 ∷ 1 ∷ 1 ∷ 1 ∷ []
long_list_is_cut = refl

over_six : transform (modulo 433) (itself (modulo 433)) (record { kind = mixed_radix; size = 6; root = 199; offset = 1 }) (0 ∷ 1 ∷ []) ≡ 1 ∷ 199 ∷ 198 ∷ 432 ∷ 234 ∷ 235 ∷ []
over_six = refl

product_without_domain : tabulate 5 (product (modulo 5) (of_list (modulo 5) (1 ∷ 0 ∷ 1 ∷ [])) (of_list (modulo 5) (1 ∷ 0 ∷ 1 ∷ []))) ≡ 1 ∷ 0 ∷ 2 ∷ 0 ∷ 1 ∷ []
product_without_domain = refl

sum_that_cancels : tabulate 3 (added (modulo 5) (of_list (modulo 5) (1 ∷ 2 ∷ [])) (of_list (modulo 5) (4 ∷ 3 ∷ []))) ≡ 0 ∷ 0 ∷ 0 ∷ []
sum_that_cancels = refl

pairs_add_up : tabulate 3 (of_pairs (modulo 5) ((2, 0) ∷ (1, 1) ∷ (1, 4) ∷ (0, 3) ∷ [])) ≡ 3 ∷ 0 ∷ 0 ∷ []
pairs_add_up = refl

zeros_trimmed : trim (λ x. x == 0) (1 ∷ 0 ∷ 2 ∷ 0 ∷ 0 ∷ []) ≡ 1 ∷ 0 ∷ 2 ∷ []
zeros_trimmed = refl

pairs_gathered : gather (λ x. x == 0) (modulo 5).plus ((2, 0) ∷ (3, 1) ∷ (1, 1) ∷ (3, 1) ∷ (1, 4) ∷ (0, 3) ∷ []) ≡ (0, 3) ∷ (3, 2) ∷ []
pairs_gathered = refl

value_at_three : value_below (modulo 5) 2 (of_list (modulo 5) (1 ∷ 2 ∷ [])) 3 ≡ 2
value_at_three = refl

coset_vanishing : tabulate 3 (vanishing (modulo 5) two) ≡ 1 ∷ 0 ∷ 1 ∷ []
coset_vanishing = refl

-- the values of 1 + 2x + 3x^2, weighted by 4, 4, 4, 4, give its value at zero
weights_at_zero : sum_below (itself (modulo 5)) 4 (λ i. (modulo 5).times 4 (value_below (modulo 5) 3 (of_list (modulo 5) (1 ∷ 2 ∷ 3 ∷ [])) (element (modulo 5) four i))) ≡ 1
weights_at_zero = refl

-- one at 2 and 3, zero at 1 and 4
filter_of_coset : tabulate 4 (λ i. value_below (modulo 5) 3 (of_list (modulo 5) (3 ∷ 0 ∷ 2 ∷ [])) (element (modulo 5) four i)) ≡ 0 ∷ 1 ∷ 0 ∷ 1 ∷ []
filter_of_coset = refl

reindexed_eight : reindexed 8 2 ≡ 0 ∷ 4 ∷ 1 ∷ 2 ∷ 3 ∷ 5 ∷ 6 ∷ 7 ∷ []
reindexed_eight = refl

-- sixteen places: four items take 8 * 2 butterflies, and five take 8 * 4
four_of_sixteen : counted_items 16 4 forward ≡ 4
four_of_sixteen = refl

five_of_sixteen : counted_items 16 5 forward ≡ 16
five_of_sixteen = refl

four_of_sixteen_back : counted_items 16 4 inverse ≡ 16
four_of_sixteen_back = refl

-- ---- several variables

-- 2x0^3 + x0x2 + x1x2 + 5 at (2, 3, 6)
value_at_three_items : sum_at (modulo 65537) ((2, (0, 3) ∷ []) ∷ (1, (0, 1) ∷ (2, 1) ∷ []) ∷ (1, (1, 1) ∷ (2, 1) ∷ []) ∷ (5, []) ∷ []) (2 ∷ 3 ∷ 6 ∷ []) ≡ 51
value_at_three_items = refl

-- x0 - x0
difference_that_cancels : of_terms (modulo 5) ((1, (0, 1) ∷ []) ∷ (4, (0, 1) ∷ []) ∷ []) ((0, 1) ∷ []) ≡ 0
difference_that_cancels = refl

like_terms_add_up : of_terms (modulo 5) ((1, (0, 1) ∷ []) ∷ (4, (1, 1) ∷ []) ∷ (2, (0, 1) ∷ []) ∷ []) ((0, 1) ∷ []) ≡ 3
like_terms_add_up = refl

powers_of_one_variable : tabulate 4 (power_of ((2, 1) ∷ (0, 2) ∷ (2, 3) ∷ (1, 0) ∷ [])) ≡ 2 ∷ 0 ∷ 4 ∷ 0 ∷ []
powers_of_one_variable = refl

sum_of_powers : total_degree ((2, 1) ∷ (0, 2) ∷ (2, 3) ∷ (1, 0) ∷ []) ≡ 6
sum_of_powers = refl

-- ---- multilinear extensions

-- x1 (1 - x0) at (-2, 17)
extension_of_one_corner : extension (modulo 65537) (of_list (modulo 65537) (0 ∷ 0 ∷ 1 ∷ 0 ∷ [])) (65535 ∷ 17 ∷ []) ≡ 51
extension_of_one_corner = refl

extension_of_four_corners : extension (modulo 65537) (of_list (modulo 65537) (2 ∷ 3 ∷ 2 ∷ 6 ∷ [])) (1 ∷ 17 ∷ []) ≡ 54
extension_of_four_corners = refl

first_variable_fixed : tabulate 2 (fixed (modulo 65537) (of_list (modulo 65537) (0 ∷ 1 ∷ 2 ∷ 6 ∷ [])) (5 ∷ [])) ≡ 5 ∷ 22 ∷ []
first_variable_fixed = refl

both_variables_fixed : tabulate 2 (fixed (modulo 65537) (of_list (modulo 65537) (2 ∷ 3 ∷ 2 ∷ 6 ∷ [])) (1 ∷ 17 ∷ [])) ≡ 54 ∷ 0 ∷ []
both_variables_fixed = refl

corner_of_six : corner (modulo 5) 3 6 ≡ 0 ∷ 1 ∷ 1 ∷ []
corner_of_six = refl

-- (1 - 2) (1 - 3), 2 (1 - 3), (1 - 2) 3, 2 * 3
weights_of_two_items : tabulate 4 (weight (modulo 65537) (2 ∷ 3 ∷ [])) ≡ 2 ∷ 65533 ∷ 65534 ∷ 6 ∷ []
weights_of_two_items = refl

exchanged_point : exchanged (modulo 65537) (10 ∷ 11 ∷ 12 ∷ 13 ∷ 14 ∷ []) 0 3 2 ≡ 13 ∷ 14 ∷ 12 ∷ 10 ∷ 11 ∷ []
exchanged_point = refl

-- the first and the last of three variables exchanged, at each corner and at (2, 3, 4)
exchanged_at_corners : tabulate 8 (λ b. extension (modulo 5) (of_list (modulo 5) (0 ∷ 1 ∷ 2 ∷ 3 ∷ 4 ∷ 0 ∷ 1 ∷ 2 ∷ [])) (exchanged (modulo 5) (corner (modulo 5) 3 b) 0 2 1)) ≡ 0 ∷ 4 ∷ 2 ∷ 1 ∷ 1 ∷ 0 ∷ 3 ∷ 2 ∷ []
exchanged_at_corners = refl

exchanged_point_before : extension (modulo 5) (of_list (modulo 5) (0 ∷ 1 ∷ 2 ∷ 3 ∷ 4 ∷ 0 ∷ 1 ∷ 2 ∷ [])) (exchanged (modulo 5) (2 ∷ 3 ∷ 4 ∷ []) 0 2 1) ≡ 3
exchanged_point_before = refl

exchanged_point_after : extension (modulo 5) (of_list (modulo 5) (0 ∷ 4 ∷ 2 ∷ 1 ∷ 1 ∷ 0 ∷ 3 ∷ 2 ∷ [])) (2 ∷ 3 ∷ 4 ∷ []) ≡ 3
exchanged_point_after = refl

last_written_wins : tabulate {M = ℕ} 4 (written 0 ((1, 3) ∷ (2, 4) ∷ (1, 2) ∷ [])) ≡ 0 ∷ 2 ∷ 4 ∷ 0 ∷ []
last_written_wins = refl

-- ---- bytes

-- a number below 256 as a word
abbrev byte_word : ℕ → List ℕ
byte_word n = n ∷ 0 ∷ 0 ∷ 0 ∷ 0 ∷ 0 ∷ 0 ∷ 0 ∷ []

-- 1 + 2x
dense_bytes : (dense (modulo 65537) (number 3)).spelling (1 ∷ 2 ∷ []) ≡ byte_word 2 ++ 1 ∷ 0 ∷ 0 ∷ 2 ∷ 0 ∷ 0 ∷ []
dense_bytes = refl

zero_bytes : (dense (modulo 65537) (number 3)).spelling [] ≡ byte_word 0
zero_bytes = refl

-- 4x^2
sparse_bytes : (sparse (modulo 5) (number 1)).spelling ((2, 4) ∷ []) ≡ byte_word 1 ++ byte_word 2 ++ 4 ∷ []
sparse_bytes = refl

-- 3x1 of two variables
multivariate_bytes : (multivariate (number 1) term (λ p. p)).spelling (2, (3, (1, 1) ∷ []) ∷ [])
    ≡ byte_word 2 ++ byte_word 1 ++ 3 ∷ [] ++ byte_word 1 ++ byte_word 1 ++ byte_word 1
multivariate_bytes = refl

-- one variable
dense_extension_bytes : (dense_extension (number 1) (λ t. t)).spelling (0 ∷ 1 ∷ [], 1) ≡ byte_word 2 ++ 0 ∷ 1 ∷ [] ++ byte_word 1
dense_extension_bytes = refl

-- two variables, and 432 at index 2
sparse_extension_bytes : (sparse_extension (number 2) (λ t. t)).spelling ((2, 432) ∷ [], (2, 0))
    ≡ byte_word 1 ++ byte_word 2 ++ 176 ∷ 1 ∷ [] ++ byte_word 2 ++ 0 ∷ 0 ∷ []
sparse_extension_bytes = refl

abbrev long_two : List ℕ
long_two = byte_word 2 ++ 1 ∷ 0 ∷ 0 ∷ 0 ∷ [] ++ 2 ∷ 3 ∷ 4 ∷ 4 ∷ 2 ∷ 3 ∷ 4 ∷ []

long_two_bytes : (long_domain (number 1) (λ d. d)).spelling ((2, 1), (((2, 3), (4, 4)), ((2, 3), 4))) ≡ long_two
long_two_bytes = refl

long_four_bytes : (long_domain (number 1) (λ d. d)).spelling ((4, 2), (((4, 4), (2, 3)), ((1, 1), 1))) ≡ byte_word 4 ++ 2 ∷ 0 ∷ 0 ∷ 0 ∷ [] ++ 4 ∷ 4 ∷ 2 ∷ 3 ∷ 1 ∷ 1 ∷ 1 ∷ []
long_four_bytes = refl

long_mixed_bytes : (long_domain (number 2) (λ d. d)).spelling ((6, 1), (((6, 361), (199, 235)), ((1, 1), 1)))
    ≡ byte_word 6 ++ 1 ∷ 0 ∷ 0 ∷ 0 ∷ [] ++ 6 ∷ 0 ∷ 105 ∷ 1 ∷ 199 ∷ 0 ∷ 235 ∷ 0 ∷ 1 ∷ 0 ∷ 1 ∷ 0 ∷ 1 ∷ 0 ∷ []
long_mixed_bytes = refl

long_general_bytes : (general_domain (long_domain (number 1) (λ d. d)) (long_domain (number 1) (λ d. d)) (λ d. d)).spelling (inl ((2, 1), (((2, 3), (4, 4)), ((2, 3), 4))))
    ≡ 0 ∷ [] ++ long_two
long_general_bytes = refl

short_two_bytes : (short_domain (number 1) (λ d. d)).spelling (2, 2) ≡ byte_word 2 ++ 2 ∷ []
short_two_bytes = refl

short_mixed_bytes : (short_domain (number 2) (λ d. d)).spelling (6, 1) ≡ byte_word 6 ++ 1 ∷ 0 ∷ []
short_mixed_bytes = refl

short_general_bytes : (general_domain (short_domain (number 1) (λ d. d)) (short_domain (number 1) (λ d. d)) (λ d. d)).spelling (inl (2, 2)) ≡ 0 ∷ [] ++ byte_word 2 ++ 2 ∷ []
short_general_bytes = refl

sizes_of_two : (length (byte_word 2 ++ 2 ∷ []) ≡ 9) × (length long_two ≡ 19)
sizes_of_two = (refl, refl)

-- the values 3 and 4 over that domain
short_evaluations_bytes : (evaluations (number 1) (short_domain (number 1) (λ d. d)) (λ v. v) (λ v. Unit {0})).spelling (3 ∷ 4 ∷ [], (2, 2))
    ≡ byte_word 2 ++ 3 ∷ 4 ∷ [] ++ byte_word 2 ++ 2 ∷ []
short_evaluations_bytes = refl
