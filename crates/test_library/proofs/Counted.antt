-- The only butterflies and steps of a transform, from those that it may go by.
use Rattle.std.proofs.Common.{◌≡◌, ℕ, ◌*◌, ◌/◌, ◌%◌, Some, refl, sym, ap, arith}
use Rattle.ark_math.specs.Root.{Adicity, IsAdicity, Splits, odd_base}
use Rattle.ark_math.specs.Domain.{radix2, mixed_radix}
use Rattle.ark_math.specs.Cost.{Direction, IsLog2Up, counted_items}
use Rattle.ark_math_transforms.proofs.Domains.Costs.{one_cost}
use Rattle.test_library.specs.Costs.{Costs}

pub of_radix2 : (s : Adicity) → IsAdicity s → (n len : ℕ) (direction : Direction) (levels b : ℕ) → IsLog2Up (counted_items n len direction) levels → b ≡ n / 2 * levels →
    Costs s radix2 n len direction b 0
of_radix2 s lawful n len direction levels b log is = record {
  goes_by = (levels, log, is, refl);
  only = λ c t g. one_cost s radix2 n len direction c t b 0 lawful g (levels, log, is, refl);
}

pub none_of_none : IsLog2Up 0 0
none_of_none = (omega arith, λ k h. omega arith)

-- for a base of three
pub of_thirds : (two most : ℕ) → (n len : ℕ) (direction : Direction) (twos odds b t : ℕ) → Splits (record { two = two; odd = Some (3, most) }) n twos odds → b ≡ twos * n / 2 → t ≡ odds * n / 3 →
    Costs (record { two = two; odd = Some (3, most) }) mixed_radix n len direction b t
of_thirds two most n len direction twos odds b t splits is steps = record {
  goes_by = (twos, odds, splits, is, steps);
  only = λ c u g. one_cost (record { two = two; odd = Some (3, most) }) mixed_radix n len direction c u b t is_adicity g (twos, odds, splits, is, steps);
} where
  is_adicity : IsAdicity (record { two = two; odd = Some (3, most) })
  is_adicity p e = let base : 3 ≡ p.0 = ap odd_base e in (omega (arith, base), sym (ap (λ x. x % 2) base))
