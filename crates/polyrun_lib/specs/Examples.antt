-- Words that spell a number or a list, words that spell none, and lines, all computed from the definitions.
use Rattle.std.specs.Prelude.{◌≡◌, ℕ, ◌<◌, ◌≤◌, ◌^◌, [], ◌∷◌, ◌++◌, codes}
use Rattle.std.proofs.Common.{refl, sym, subst, inl, inr, true≢false, lit<, lit≤, lt→ltb}
use Rattle.std.proofs.Math.Nat.{pow-le-pow_right, lt_of_le_of_lt, not-le_of_lt}
use Rattle.ark_math.specs.Domain.{radix2, mixed_radix, IsSize}
use Rattle.ark_math.proofs.Domains.Sizes.{power_lt, size_power}
use Rattle.ark_traits.specs.declared.error.PolyError.TheVariants.{NoDomain, ZeroDivisor}
use Rattle.polyrun_lib.specs.declared.command.Direction.TheVariants.{Forward, Inverse}
use Rattle.ark_base.specs.Numerals.{IsDecimal, numeral}
use Rattle.polyrun_lib.specs.Words.{IsList}
use Rattle.polyrun_lib.specs.Lines.{line_of}
use Rattle.polyrun_lib.specs.Commands.{transform_of, product_of, division_of, value_of, extension_of, size_for}
use Rattle.ark_numbers.specs.Fields.{Known, field_5, field_433, field_65537, bn254}
use Rattle.ark_numbers.specs.Answers.{domain_of, IsDomainFor}
use Rattle.polyrun_lib.specs.Answer.{Gives, Refuses}

-- zeros may stand first
zeros : IsDecimal (codes "007") 7
zeros = record { digits = (lit< tt, (lit< tt, (lit< tt, (lit< tt, tt)))); value = refl }

nothing : (n : ℕ) → IsDecimal (codes "") n → ⊥
nothing n number = lt→ltb _ _ number.digits.0

plus : (n : ℕ) → IsDecimal (codes "+1") n → ⊥
plus n number = lt→ltb _ _ number.digits.1.0

minus : (n : ℕ) → IsDecimal (codes "-1") n → ⊥
minus n number = lt→ltb _ _ number.digits.1.0

space : (n : ℕ) → IsDecimal (codes " 1") n → ⊥
space n number = lt→ltb _ _ number.digits.1.0

letter : (n : ℕ) → IsDecimal (codes "1a") n → ⊥
letter n number = lt→ltb _ _ number.digits.1.1.0

-- a number of more than 64 bits
long : IsDecimal (codes "18446744073709551616") (2 ^ 64)
long = record {
  digits = (lit< tt, (lit< tt, (lit< tt, (lit< tt, (lit< tt, (lit< tt, (lit< tt, (lit< tt, (lit< tt, (lit< tt, (lit< tt, (lit< tt, (lit< tt, (lit< tt, (lit< tt, (lit< tt, (lit< tt, (lit< tt, (lit< tt, (lit< tt, (lit< tt, tt)))))))))))))))))))));
  value = refl;
}

-- the empty word is the empty list
no_numbers : IsList (codes "") []
no_numbers = record { words = []; joins = refl; spelled = tt }

two_numbers : IsList (codes "5,12") (5 ∷ 12 ∷ [])
two_numbers = record {
  words = codes "5" ∷ codes "12" ∷ [];
  joins = refl;
  spelled = (
    record { digits = (lit< tt, (lit< tt, tt)); value = refl },
    (record { digits = (lit< tt, (lit< tt, (lit< tt, tt))); value = refl }, tt),
  );
}

-- a list's line ends in a newline, and an empty list has an empty line
some_line : line_of (5 ∷ 0 ∷ 12 ∷ []) ≡ codes "5,0,12" ++ 10 ∷ []
unfolding numeral
some_line = refl

empty_line : line_of [] ≡ 10 ∷ []
empty_line = refl

-- ---- answers over the field of 5 elements

domain_of_4 : IsDomainFor field_5 4 1 (domain_of field_5 radix2 4 1)
domain_of_4 = (
  radix2,
  4,
  record {
    holds = (2, record { product = refl; twos_within = lit≤ tt; odds_within = lit≤ tt; fits = lit< tt });
    above = lit≤ tt;
    least = λ m is above. above;
  },
  (λ e. let P : ℕ → Type 0 = λ n. 0 < n in lt→ltb _ _ (subst P e (lit< tt))),
  refl,
)

some_transform : Gives field_5 (transform_of Forward 4 1 (1 ∷ 2 ∷ 3 ∷ 4 ∷ [])) (codes "0,4,3,2" ++ 10 ∷ [])
unfolding numeral
some_transform = (domain_of field_5 radix2 4 1, 0 ∷ 4 ∷ 3 ∷ 2 ∷ [], domain_of_4, refl, refl)

some_inverse : Gives field_5 (transform_of Inverse 4 1 (1 ∷ 2 ∷ 3 ∷ 4 ∷ [])) (codes "0,3,2,1" ++ 10 ∷ [])
unfolding numeral
some_inverse = (domain_of field_5 radix2 4 1, 0 ∷ 3 ∷ 2 ∷ 1 ∷ [], domain_of_4, (record { size = refl; values = refl }, refl), refl)

-- the numbers are reduced
some_value : Gives field_5 (value_of (1 ∷ 2 ∷ []) 8) (codes "2" ++ 10 ∷ [])
unfolding numeral
some_value = refl

-- of any length
long_value : Gives bn254 (value_of (1 ∷ 2 ∷ []) 21888242871839275222246405745257275088548364400416034343698204186575808495620) (codes "7" ++ 10 ∷ [])
unfolding numeral
long_value = refl

no_value : Gives field_5 (value_of [] 4) (codes "0" ++ 10 ∷ [])
unfolding numeral
no_value = refl

-- the extension of the values 0, 0, 1, 0 at a point
some_extension : Gives field_65537 (extension_of 2 (0 ∷ 0 ∷ 1 ∷ 0 ∷ []) (65535 ∷ 17 ∷ [])) (codes "51" ++ 10 ∷ [])
unfolding numeral
some_extension = refl

-- zero by another polynomial has two empty lines
zero_divided : Gives field_5 (division_of (5 ∷ 0 ∷ []) (1 ∷ 1 ∷ [])) (10 ∷ 10 ∷ [])
zero_divided = (
  [],
  [],
  (inl (refl, refl, refl), ((λ some zero. lt→ltb _ _ some), refl), ((λ some zero. lt→ltb _ _ some), refl)),
  refl,
)

-- the divisor's numbers are reduced
by_zero : Refuses field_5 (division_of (1 ∷ 2 ∷ []) (5 ∷ 10 ∷ [])) ZeroDivisor
by_zero = ((lit< tt, refl), refl)

zero_offset : Refuses field_5 (transform_of Forward 4 0 (1 ∷ [])) NoDomain
zero_offset = (inr refl, refl)

-- ---- sizes

-- no power of two of the field has so many elements
above_all : (f : Known) (k : ℕ) → 2 ^ f.adicity.two < k → (n : ℕ) → IsSize f.adicity radix2 n → n < k
above_all f k past n is =
    let power = size_power f.adicity n is in
    subst (λ m. m < k) (sym power.1) (lt_of_le_of_lt (pow-le-pow_right (lit≤ tt) power.2) past)

-- a power of two wherever there is one: for 5 the size is 8, though 6 is a mixed size
size_8 : Gives field_433 (size_for 5) (codes "8" ++ 10 ∷ [])
unfolding numeral
size_8 = (
  radix2,
  8,
  record {
    holds = (3, record { product = refl; twos_within = lit≤ tt; odds_within = lit≤ tt; fits = lit< tt });
    above = lit≤ tt;
    least = λ m is above.
        let power = size_power field_433.adicity m is in
        subst (λ n. 8 ≤ n) (sym power.1) (pow-le-pow_right (lit≤ tt) (power_lt 2 power.0 (subst (λ n. 5 ≤ n) power.1 above)));
  },
  refl,
)

-- a mixed size where there is no power of two
size_18 : Gives field_433 (size_for 18) (codes "18" ++ 10 ∷ [])
unfolding numeral
size_18 = (
  mixed_radix,
  18,
  (
    record {
      holds = (refl, (1, 2, record { product = refl; twos_within = lit≤ tt; odds_within = lit≤ tt; fits = lit< tt }));
      above = lit≤ tt;
      least = λ m is above. above;
    },
    above_all field_433 18 (lit< tt),
  ),
  refl,
)

no_size : Refuses field_5 (size_for 5) NoDomain
no_size = (
  elim [
    | radix2 ↦ λ n least. not-le_of_lt (above_all field_5 5 (lit< tt) n least.holds) least.above
    | mixed_radix ↦ λ n least. true≢false (sym least.0.holds.0)
  ],
  refl,
)

-- the product of two polynomials would have five coefficients
no_product : Refuses field_5 (product_of (1 ∷ 0 ∷ 1 ∷ []) (1 ∷ 0 ∷ 1 ∷ [])) NoDomain
no_product = ((lit< tt, lit< tt, no_size.0), refl)
