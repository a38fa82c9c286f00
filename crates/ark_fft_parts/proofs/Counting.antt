-- The counts of blocks add up, and those of both passes to what one transform states.
use Rattle.std.proofs.Common.{◌≡◌, ℕ, zero, suc, ◌+◌, ◌-◌, ◌*◌, ◌/◌, ◌^◌, ◌<◌, ◌≤◌, refl, sym, ap, ap₂, subst, ◌∙◌, arith, pow-add}
use Rattle.std.proofs.lemmas.Bool.Decides.{nat_tests}
use Rattle.ark_math.specs.Root.{Adicity, odd_base}
use Rattle.ark_math.specs.Domain.{Domain, radix2}
use Rattle.ark_math.specs.Cost.{Counts, Direction, GoesBy, IsLog2Up, counted_items, forward, inverse}
use Rattle.ark_math.proofs.Domains.Sizes.{log_of_power}
use Rattle.ark_math.proofs.Numbers.PowersOfTwo.{pow_twice}
use Rattle.ark_fft.specs.Cost.{GrowsByCost}
use Rattle.ark_fft.proofs.Cost.{none_grown, grows_twice}
use Rattle.ark_fft_parts.specs.Counting.{GrowsByTransforms, GrowsByParts}

-- a number has one logarithm
one_log : (n d e : ℕ) → IsLog2Up n d → IsLog2Up n e → d ≡ e
one_log n d e f g =
    let a : d ≤ e = f.1 e g.0 in
    let b : e ≤ d = g.1 d f.0 in
    omega arith

-- none
pub no_transforms : (n e : ℕ) (w : Counts) → n ≡ 2 ^ e → GrowsByTransforms 0 n w w
no_transforms n e w is = record {
  levels = e;
  log = log_of_power n e is;
  scalings = 0;
  few = omega arith;
  grows = grows_twice (none_grown w) (none_grown w) (omega arith) (omega arith) refl;
}

-- one list of the domain's size goes by all its levels
all_items : (n : ℕ) (direction : Direction) → 0 < n → counted_items n n direction ≡ n
all_items n forward some = grind (arith, nat_tests)
all_items n inverse some = refl

pub one_transform : {F : Type 0} (s : Adicity) (d : Domain F) (direction : Direction) {before after : Counts} → d.kind ≡ radix2 → 0 < d.size → GrowsByCost s d d.size direction before after → GrowsByTransforms 1 d.size before after
one_transform s d direction {before} {after} kind some g =
    let n = d.size in
    let cost = g.is_cost in
    let by : GoesBy s radix2 n n direction g.growth.butterflies g.growth.steps = subst (λ k. GoesBy s k n n direction g.growth.butterflies g.growth.steps) kind cost.goes_by in
    let log : IsLog2Up n by.0 = subst (λ k. IsLog2Up k by.0) (all_items n direction some) by.1 in
    let q = odd_base s.odd * odd_base s.odd - 1 in
    let no_steps : q * g.growth.steps ≡ 0 = ap (λ t. q * t) by.3 ∙ omega arith in
    let once : 1 * (n / 2 * by.0) ≡ g.growth.butterflies = omega (arith, by.2) in
    let products : 1 * (n / 2 * by.0) + cost.scalings ≡ g.growth.products = omega (arith, once, no_steps, cost.products) in
    record {
      levels = by.0;
      log = log;
      scalings = cost.scalings;
      few = omega (arith, cost.few);
      grows = record {
        products = g.grows.products ∙ ap (λ t. before.products + t) (sym products);
        butterflies = g.grows.butterflies ∙ ap (λ t. before.butterflies + t) (sym once);
        steps = g.grows.steps ∙ ap (λ t. before.steps + t) by.3;
      };
    }

-- two blocks
pub cuts_add_up : (n j k : ℕ) {before between after : Counts} → GrowsByTransforms j n before between → GrowsByTransforms k n between after → GrowsByTransforms (j + k) n before after
cuts_add_up n j k {before} {between} {after} g h =
    let same : h.levels ≡ g.levels = one_log n h.levels g.levels h.log g.log in
    let butterflies : (j + k) * (n / 2 * g.levels) ≡ j * (n / 2 * g.levels) + k * (n / 2 * h.levels) =
    ((let e : (j + k) * (n / 2 * g.levels) ≡ j * (n / 2 * g.levels) + k * (n / 2 * g.levels) = omega arith in e) ∙ ap (λ t. j * (n / 2 * g.levels) + k * (n / 2 * t)) (sym same)) in
    let room : (j + k) * n ≡ j * n + k * n = omega arith in
    record {
      levels = g.levels;
      log = g.log;
      scalings = g.scalings + h.scalings;
      few = omega (arith, g.few, h.few, room);
      grows = grows_twice g.grows h.grows (omega (arith, butterflies)) butterflies refl;
    }

-- n / 2 butterflies a level, for a power of two
half_times : (a b : ℕ) → 2 ^ b * (2 ^ a / 2 * a) ≡ 2 ^ (a + b) / 2 * a
half_times zero b = omega arith
half_times (suc k) b =
    let half : 2 ^ suc k / 2 ≡ 2 ^ k = omega (arith, pow_twice k) in
    let next : suc k + b ≡ suc (k + b) = omega arith in
    let whole : 2 ^ (suc k + b) / 2 ≡ 2 ^ (k + b) = ap (λ t. 2 ^ t / 2) next ∙ omega (arith, pow_twice (k + b)) in
    let product : 2 ^ (k + b) ≡ 2 ^ k * 2 ^ b = pow-add 2 k b in
    ap (λ t. 2 ^ b * (t * suc k)) half
    ∙ ((let e : 2 ^ b * (2 ^ k * suc k) ≡ 2 ^ k * 2 ^ b * suc k = omega arith in e)
    ∙ ap (λ t. t * suc k) (sym product ∙ sym whole))

both_passes : (a b : ℕ) → 2 ^ b * (2 ^ a / 2 * a) + 2 ^ a * (2 ^ b / 2 * b) ≡ 2 ^ (a + b) / 2 * (a + b)
both_passes a b =
    let turned : b + a ≡ a + b = omega arith in
    let other : 2 ^ a * (2 ^ b / 2 * b) ≡ 2 ^ (a + b) / 2 * b = half_times b a ∙ ap (λ t. 2 ^ t / 2 * b) turned in
    ap₂ (λ x y. x + y) (half_times a b) other ∙ omega arith

-- r rows of c items: c transforms of columns, and r of rows
pub parts_cost : (a b r c : ℕ) {before between after : Counts} → r ≡ 2 ^ a → c ≡ 2 ^ b → GrowsByTransforms c r before between → GrowsByTransforms r c between after → GrowsByParts (r * c) before after
parts_cost a b r c {before} {between} {after} rows columns g h =
    let of_columns : g.levels ≡ a = one_log r g.levels a g.log (log_of_power r a rows) in
    let of_rows : h.levels ≡ b = one_log c h.levels b h.log (log_of_power c b columns) in
    let size : r * c ≡ 2 ^ (a + b) = ap₂ (λ x y. x * y) rows columns ∙ sym (pow-add 2 a b) in
    let first : c * (r / 2 * g.levels) ≡ 2 ^ b * (2 ^ a / 2 * a) = ap₂ (λ x y. x * y) columns (ap₂ (λ x y. x / 2 * y) rows of_columns) in
    let second : r * (c / 2 * h.levels) ≡ 2 ^ a * (2 ^ b / 2 * b) = ap₂ (λ x y. x * y) rows (ap₂ (λ x y. x / 2 * y) columns of_rows) in
    let butterflies : r * c / 2 * (a + b) ≡ c * (r / 2 * g.levels) + r * (c / 2 * h.levels) = ap (λ t. t / 2 * (a + b)) size ∙ sym (ap₂ (λ x y. x + y) first second ∙ both_passes a b) in
    let turned : c * r ≡ r * c = omega arith in
    record {
      levels = a + b;
      log = log_of_power (r * c) (a + b) size;
      scalings = g.scalings + h.scalings;
      few = omega (arith, g.few, h.few, turned);
      grows = grows_twice g.grows h.grows (omega (arith, butterflies)) butterflies refl;
    }
