use Rattle.std.specs.Prelude.{refl}
use Rattle.ark_math.specs.Cost.{forward, inverse}
use Rattle.ark_math.proofs.Domains.Sizes.{log_of_power}
use Rattle.test_library.proofs.Counted.{of_radix2, none_of_none}
use Rattle.test_library.proofs.costs.costs_of_radix2.Goals as goal

pub returns-clause-one : goal.returns-clause-one
returns-clause-one c = λ s lawful. of_radix2 s lawful 1 2 forward 0 0 (log_of_power 1 0 refl) refl

pub returns-clause-one_back : goal.returns-clause-one_back
returns-clause-one_back c = λ s lawful. of_radix2 s lawful 1 1 inverse 0 0 (log_of_power 1 0 refl) refl

pub returns-clause-four_of_none : goal.returns-clause-four_of_none
returns-clause-four_of_none c = λ s lawful. of_radix2 s lawful 4 0 forward 0 0 (none_of_none) refl

pub returns-clause-four_of_one : goal.returns-clause-four_of_one
returns-clause-four_of_one c = λ s lawful. of_radix2 s lawful 4 1 forward 0 0 (log_of_power 1 0 refl) refl

pub returns-clause-four : goal.returns-clause-four
returns-clause-four c = λ s lawful. of_radix2 s lawful 4 4 forward 2 4 (log_of_power 4 2 refl) refl

pub returns-clause-four_of_many : goal.returns-clause-four_of_many
returns-clause-four_of_many c = λ s lawful. of_radix2 s lawful 4 70000 forward 2 4 (log_of_power 4 2 refl) refl

pub returns-clause-four_back : goal.returns-clause-four_back
returns-clause-four_back c = λ s lawful. of_radix2 s lawful 4 4 inverse 2 4 (log_of_power 4 2 refl) refl

pub returns-clause-eight_of_none : goal.returns-clause-eight_of_none
returns-clause-eight_of_none c = λ s lawful. of_radix2 s lawful 8 0 forward 0 0 (none_of_none) refl

pub returns-clause-eight_of_two : goal.returns-clause-eight_of_two
returns-clause-eight_of_two c = λ s lawful. of_radix2 s lawful 8 2 forward 1 4 (log_of_power 2 1 refl) refl

pub returns-clause-sixteen_of_four : goal.returns-clause-sixteen_of_four
returns-clause-sixteen_of_four c = λ s lawful. of_radix2 s lawful 16 4 forward 2 16 (log_of_power 4 2 refl) refl

pub returns-clause-sixteen_of_five : goal.returns-clause-sixteen_of_five
returns-clause-sixteen_of_five c = λ s lawful. of_radix2 s lawful 16 5 forward 4 32 (log_of_power 16 4 refl) refl

pub returns-clause-sixteen : goal.returns-clause-sixteen
returns-clause-sixteen c = λ s lawful. of_radix2 s lawful 16 16 forward 4 32 (log_of_power 16 4 refl) refl

pub returns-clause-sixteen_back : goal.returns-clause-sixteen_back
returns-clause-sixteen_back c = λ s lawful len. of_radix2 s lawful 16 len inverse 4 32 (log_of_power 16 4 refl) refl
