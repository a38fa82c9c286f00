-- Costs of transforms and of scalings, put together.
use Rattle.std.proofs.Common.{◌≡◌, ℕ, ◌+◌, ◌-◌, ◌*◌, ◌/◌, ◌^◌, ◌≤◌, Bool, true, false, refl, ap, ◌∙◌, arith, subst, if◌then◌else◌}
use Rattle.std.specs.Prelude.{nat_le}
use Rattle.std.proofs.Math.Nat.{le_trans, mul-le-mul_right, pow-zero}
use Rattle.ark_math.specs.Root.{Adicity, IsAdicity, odd_base}
use Rattle.ark_math.specs.Domain.{Kind, radix2, mixed_radix, Domain, IsSize}
use Rattle.ark_math.specs.Cost.{Counts, GoesBy, IsLog2Up, forward, inverse}
use Rattle.ark_math.proofs.Domains.Sizes.{log_of_power}
use Rattle.ark_fft.proofs.Cost.{Grown, grown}
use Rattle.ark_fft.specs.Cost.{GrowsByCost}
use Rattle.rs_code.specs.Cost.{GrowsWithin}

-- each size has its butterflies and steps
goes_by : (s : Adicity) (kind : Kind) (n : ℕ) → IsSize s kind n → (b : ℕ) × (t : ℕ) × GoesBy s kind n n inverse b t
goes_by s radix2 n (twos, splits) =
    let one : 2 ^ twos * odd_base s.odd ^ 0 ≡ 2 ^ twos * 1 = ap (λ x. 2 ^ twos * x) (pow-zero (odd_base s.odd)) in
    let power : n ≡ 2 ^ twos = omega (arith, splits.product, one) in
    (n / 2 * twos, 0, (twos, log_of_power n twos power, refl, refl))
goes_by s mixed_radix n (some, (twos, odds, splits)) = (twos * n / 2, odds * n / odd_base s.odd, (twos, odds, splits, refl, refl))

-- n items go forward as they go back
same_items : (b : Bool) (n : ℕ) → n ≡ (if b then n else n)
same_items true n = refl
same_items false n = refl

goes_forward : (s : Adicity) (kind : Kind) (n b t : ℕ) → GoesBy s kind n n inverse b t → GoesBy s kind n n forward b t
goes_forward s radix2 n b t (levels, log, is, none) = (levels, subst (λ m. IsLog2Up m levels) (same_items (nat_le n (n / 4)) n) log, is, none)
goes_forward s mixed_radix n b t h = h

-- the products of one more transform, or of some scalings more
more_products : (q a b x y c d : ℕ) (before between after : ℕ) → between ≤ before + (a + q * x + c) → after ≤ between + (b + q * y) + d → after ≤ before + ((a + b) + q * (x + y) + (c + d))
more_products q a b x y c d before between after h k = let e : q * (x + y) ≡ q * x + q * y = omega arith in omega (arith, e)

module _ {F : Type 0} (s : Adicity) (base : IsAdicity s) (d : Domain F) where
  pub none_within : IsSize s d.kind d.size → (w : Counts) → GrowsWithin s d 0 0 w w
  none_within size w =
      let one = goes_by s d.kind d.size size in
      record {
        one_butterflies = one.0;
        one_steps = one.1;
        one = one.2;
        more_butterflies = 0;
        more_steps = 0;
        butterflies = omega arith;
        steps = omega arith;
        few_butterflies = omega arith;
        few_steps = omega arith;
        few_products = omega arith;
      }

  one_more : (m c : ℕ) (before between after : Counts) → (g : GrowsWithin s d m c before between) → Grown s d g.one_butterflies g.one_steps between after → GrowsWithin s d (m + 1) (c + d.size) before after
  one_more m c before between after g h = record {
    one_butterflies = g.one_butterflies;
    one_steps = g.one_steps;
    one = g.one;
    more_butterflies = g.more_butterflies + g.one_butterflies;
    more_steps = g.more_steps + g.one_steps;
    butterflies = omega (arith, g.butterflies, h.butterflies);
    steps = omega (arith, g.steps, h.steps);
    few_butterflies = omega (arith, g.few_butterflies);
    few_steps = omega (arith, g.few_steps);
    few_products = more_products (odd_base s.odd * odd_base s.odd - 1) g.more_butterflies g.one_butterflies g.more_steps g.one_steps c d.size before.products between.products after.products g.few_products h.products;
  }

  -- a transform back, and one forward, of n items
  pub inverse_within : (m c len : ℕ) (before between after : Counts) → GrowsWithin s d m c before between → len ≡ d.size → GrowsByCost s d len inverse between after → GrowsWithin s d (m + 1) (c + d.size) before after
  inverse_within m c len before between after g e h =
      one_more m c before between after g (grown s base d len inverse between after d.size d.size g.one_butterflies g.one_steps refl e g.one h)

  pub forward_within : (m c len : ℕ) (before between after : Counts) → GrowsWithin s d m c before between → len ≡ d.size → GrowsByCost s d len forward between after → GrowsWithin s d (m + 1) (c + d.size) before after
  forward_within m c len before between after g e h =
      one_more m c before between after g (grown s base d len forward between after d.size d.size g.one_butterflies g.one_steps refl e (goes_forward s d.kind d.size g.one_butterflies g.one_steps g.one) h)

  -- scalings alone
  pub scalings_within : (m c p : ℕ) (before between after : Counts) → GrowsWithin s d m c before between → after.butterflies ≡ between.butterflies → after.steps ≡ between.steps → after.products ≤ between.products + p → GrowsWithin s d m (c + p) before after
  scalings_within m c p before between after g butterflies steps products = record {
    one_butterflies = g.one_butterflies;
    one_steps = g.one_steps;
    one = g.one;
    more_butterflies = g.more_butterflies;
    more_steps = g.more_steps;
    butterflies = butterflies ∙ g.butterflies;
    steps = steps ∙ g.steps;
    few_butterflies = g.few_butterflies;
    few_steps = g.few_steps;
    few_products = let few = g.few_products in omega arith;
  }

  -- what is within less is within more
  pub within_more : (m k c e : ℕ) (before after : Counts) → GrowsWithin s d m c before after → m ≤ k → c ≤ e → GrowsWithin s d k e before after
  within_more m k c e before after g few least = record {
    one_butterflies = g.one_butterflies;
    one_steps = g.one_steps;
    one = g.one;
    more_butterflies = g.more_butterflies;
    more_steps = g.more_steps;
    butterflies = g.butterflies;
    steps = g.steps;
    few_butterflies = le_trans g.few_butterflies (mul-le-mul_right g.one_butterflies few);
    few_steps = le_trans g.few_steps (mul-le-mul_right g.one_steps few);
    few_products = let h = g.few_products in omega arith;
  }

  -- nothing is within anything
  pub nothing_within : IsSize s d.kind d.size → (m c : ℕ) (w : Counts) → GrowsWithin s d m c w w
  nothing_within size m c w = within_more 0 m 0 c w w (none_within size w) (omega arith) (omega arith)
