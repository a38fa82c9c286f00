-- Growths of counts, and the cost of a transform from them.
use Rattle.std.proofs.Common.{◌≡◌, ℕ, ◌+◌, ◌-◌, ◌<◌, ◌*◌, ◌/◌, ◌^◌, ◌≤◌, refl, sym, ap, subst, ◌∙◌, arith}
use Rattle.ark_math.specs.Root.{Adicity, IsAdicity, Splits, odd_base}
use Rattle.ark_math.specs.Domain.{Domain, radix2, mixed_radix}
use Rattle.ark_math.specs.Cost.{Counts, counts, GrowsBy, Direction, GoesBy, IsLog2Up, counted_items}
use Rattle.ark_math_transforms.proofs.Domains.Costs.{one_cost}
use Rattle.ark_math.proofs.Numbers.Factors.{steps_of_size}
use Rattle.ark_fft.specs.Cost.{GrowsByCost}

-- ---- growths of counts

pub none_grown : (w : Counts) → GrowsBy (counts 0 0 0) w w
none_grown w = record { products = omega arith; butterflies = omega arith; steps = omega arith }

-- one growth after another
pub grows_twice : {before between after x y z : Counts} → GrowsBy x before between → GrowsBy y between after → z.products ≡ x.products + y.products → z.butterflies ≡ x.butterflies + y.butterflies → z.steps ≡ x.steps + y.steps → GrowsBy z before after
grows_twice g h products butterflies steps = record {
  products = omega (arith, g.products, h.products, products);
  butterflies = omega (arith, g.butterflies, h.butterflies, butterflies);
  steps = omega (arith, g.steps, h.steps, steps);
}

-- scalings before what else is done
pub scaled_first : {before between after : Counts} (n products butterflies steps : ℕ) → GrowsBy (counts n 0 0) before between → GrowsBy (counts products butterflies steps) between after → GrowsBy (counts (products + n) butterflies steps) before after
scaled_first n products butterflies steps g h = grows_twice g h (omega arith) (omega arith) (omega arith)

-- scalings after it
pub scaled_last : {before between after : Counts} (n products butterflies steps : ℕ) → GrowsBy (counts products butterflies steps) before between → GrowsBy (counts n 0 0) between after → GrowsBy (counts (products + n) butterflies steps) before after
scaled_last n products butterflies steps g h = grows_twice g h (omega arith) (omega arith) (omega arith)

-- ---- costs

-- n / 2 butterflies for each level of the items that are counted, and at most a scaling a place
pub radix2_cost : {F : Type 0} (s : Adicity) (root offset : F) (len : ℕ) (direction : Direction) {before after : Counts} (n levels scalings : ℕ) → IsLog2Up (counted_items n len direction) levels → scalings ≤ n →
    GrowsBy (counts (n / 2 * levels + scalings) (n / 2 * levels) 0) before after →
    GrowsByCost s (record { kind = radix2; size = n; root = root; offset = offset }) len direction before after
radix2_cost s root offset len direction n levels scalings log few grows = record {
  growth = counts (n / 2 * levels + scalings) (n / 2 * levels) 0;
  is_cost = record { goes_by = (levels, log, refl, refl); scalings = scalings; few = few; products = omega arith };
  grows = grows;
}

-- a butterfly for each pair of places and factor of two, a step for each base places and factor of the base
pub mixed_cost : {F : Type 0} (s : Adicity) (root offset : F) (len : ℕ) (direction : Direction) {before after : Counts} (n base twos odds scalings : ℕ) → Splits s n twos odds → base ≡ odd_base s.odd → 0 < base → scalings ≤ n →
    GrowsBy (counts (twos * n / 2 + (base * base - 1) * (odds * (n / base)) + scalings) (twos * n / 2) (odds * (n / base))) before after →
    GrowsByCost s (record { kind = mixed_radix; size = n; root = root; offset = offset }) len direction before after
mixed_cost s root offset len direction n base twos odds scalings splits is some few grows =
    let product : n ≡ 2 ^ twos * base ^ odds = splits.product ∙ ap (λ x. 2 ^ twos * x ^ odds) (sym is) in
    let e : odds * (n / base) ≡ odds * n / odd_base s.odd = steps_of_size twos base odds n some product ∙ ap (λ x. odds * n / x) is in
    let f : (base * base - 1) * (odds * (n / base)) ≡ (odd_base s.odd * odd_base s.odd - 1) * (odds * (n / base)) = ap (λ x. (x * x - 1) * (odds * (n / base))) is in
    record {
      growth = counts (twos * n / 2 + (base * base - 1) * (odds * (n / base)) + scalings) (twos * n / 2) (odds * (n / base));
      is_cost = record { goes_by = (twos, odds, splits, refl, e); scalings = scalings; few = few; products = ap (λ x. twos * n / 2 + x + scalings) f };
      grows = grows;
    }

-- how far the counts grow by known butterflies and steps
pub record Grown {F : Type 0} (s : Adicity) (d : Domain F) (butterflies_more steps_more : ℕ) (before after : Counts) : Type 0 where
  pub butterflies : after.butterflies ≡ before.butterflies + butterflies_more
  pub steps : after.steps ≡ before.steps + steps_more
  pub products : after.products ≤ before.products + (butterflies_more + (odd_base s.odd * odd_base s.odd - 1) * steps_more) + d.size

pub grown : {F : Type 0} (s : Adicity) → IsAdicity s → (d : Domain F) (len : ℕ) (direction : Direction) (before after : Counts) (n k b t : ℕ) → d.size ≡ n → len ≡ k →
    GoesBy s d.kind n k direction b t → GrowsByCost s d len direction before after → Grown s d b t before after
grown s lawful d len direction before after n k b t size length is g =
    let cost = g.is_cost in
    let known : GoesBy s d.kind n k direction g.growth.butterflies g.growth.steps = rw (size, length) at cost.goes_by in
    let same = one_cost s d.kind n k direction _ _ b t lawful known is in
    record {
      butterflies = g.grows.butterflies ∙ ap (λ x. before.butterflies + x) same.0;
      steps = g.grows.steps ∙ ap (λ x. before.steps + x) same.1;
      products = subst (λ x. after.products ≤ before.products + (b + (odd_base s.odd * odd_base s.odd - 1) * x) + d.size) same.1 (omega (arith, g.grows.products, cost.products, cost.few, same.0));
    }
