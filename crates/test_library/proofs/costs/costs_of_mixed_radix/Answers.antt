use Rattle.std.specs.Prelude.{refl}
use Rattle.std.proofs.Common.{arith}
use Rattle.test_library.proofs.Counted.{of_thirds}
use Rattle.test_library.proofs.costs.costs_of_mixed_radix.Goals as goal

pub returns-clause-six : goal.returns-clause-six
returns-clause-six c = λ len way. of_thirds 4 3 6 len way 1 1 3 2 (record { product = refl; twos_within = omega arith; odds_within = omega arith; fits = omega arith }) refl refl

pub returns-clause-twelve : goal.returns-clause-twelve
returns-clause-twelve c = λ len way. of_thirds 4 3 12 len way 2 1 12 4 (record { product = refl; twos_within = omega arith; odds_within = omega arith; fits = omega arith }) refl refl

pub returns-clause-eighteen : goal.returns-clause-eighteen
returns-clause-eighteen c = λ len way. of_thirds 4 3 18 len way 1 2 9 12 (record { product = refl; twos_within = omega arith; odds_within = omega arith; fits = omega arith }) refl refl

pub returns-clause-twenty_seven : goal.returns-clause-twenty_seven
returns-clause-twenty_seven c = λ len way. of_thirds 4 3 27 len way 0 3 0 27 (record { product = refl; twos_within = omega arith; odds_within = omega arith; fits = omega arith }) refl refl

pub returns-clause-three : goal.returns-clause-three
returns-clause-three c = λ len way. of_thirds 0 1 3 len way 0 1 0 1 (record { product = refl; twos_within = omega arith; odds_within = omega arith; fits = omega arith }) refl refl
