-- The transform of radix 2 and its inverse, from what the parts of the in-order kernel leave.
use Rattle.std.proofs.Common.{◌≡◌, ℕ, ◌*◌, ◌/◌, ◌≤◌, ◌^◌, List, length, map, sym, ◌∙◌, ap, subst, arith}
use Rattle.std.proofs.lemmas.List.{length-map}
use Rattle.ark_math.specs.Field.{FieldOn, IsField, power}
use Rattle.ark_math.specs.Root.{Adicity, HasOrder}
use Rattle.ark_math.specs.Cost.{Counts, GrowsBy, counts, butterfly_counts, IsLog2Up, Direction, counted_items}
use Rattle.ark_math.specs.Module.{ModuleOn, IsModule, item}
use Rattle.ark_math.specs.Domain.{Domain, radix2}
use Rattle.ark_math.specs.Transform.{transform, IsInverse}
use Rattle.ark_fft.specs.Halves.{ArePowers, IsHalfTable}
use Rattle.ark_fft.specs.Scalings.{GrowsByScalings}
use Rattle.ark_fft.proofs.Halving.{is_half_table}
use Rattle.ark_fft.proofs.Levels.{AreTransformed, IsTransformed}
use Rattle.ark_fft.proofs.Inverse.{AreInverses, IsScaledBack, inverse_of_sums}
use Rattle.ark_math_transforms.proofs.Roots.Orthogonal.{order_of_inverse}
use Rattle.ark_math.proofs.Algebra.Powers.{power-one}
use Rattle.ark_math_transforms.proofs.Transforms.Transforms.{AreShifted, is_transform}
use Rattle.ark_fft.specs.Cost.{GrowsByCost}
use Rattle.ark_fft.proofs.Cost.{scaled_first, scaled_last, radix2_cost}

module _ {F M : Type 0} {K : FieldOn F} (V : ModuleOn F M) (N : IsField K) where
  -- a scaling by one value is one by its powers of one
  pub scaled_by_one : (p f : F) (j : ℕ) (x : M) → p ≡ K.one → V.scale f x ≡ V.scale (K.times f (power K p j)) x
  scaled_by_one p f j x one = sym (ap (λ t. V.scale (K.times f (power K t j)) x) one ∙ ap (λ t. V.scale t x) (ap (K.times f) (power-one K N j) ∙ N.times_one f))

module _ {F M X : Type 0} {K : FieldOn F} {V : ModuleOn F M} (N : IsField K) (L : IsModule K V) (m : X → M) where
  -- what the kernel makes of a list, with this table
  abbrev pub AreSums : List F → List X → List X → Type 0
  AreSums table old now = (w : F) → IsHalfTable K w table → IsTransformed K V m w old now

  sums_at : (levels n : ℕ) (w : F) (table : List F) (old now : List X) → n ≡ 2 ^ levels → HasOrder K w n → ArePowers K w (n / 2) table → length old ≡ n → AreSums table old now → AreTransformed K V n n w (item V (map m old)) (item V (map m now))
  sums_at levels n w table old now is order t size sums =
      let half = is_half_table K N levels n w table is t.len order (λ i l. t.powers i (omega (arith, t.len))) in
      subst (λ k. AreTransformed K V k k w (item V (map m old)) (item V (map m now))) size (sums w half)

  module _ (d : Domain F) (levels : ℕ) (is : d.size ≡ 2 ^ levels) (order : HasOrder K d.root d.size) where
    pub forward : (table : List F) (old mid now : List X) → ArePowers K d.root (d.size / 2) table → length mid ≡ d.size → length now ≡ d.size → AreShifted N L d (map m old) (item V (map m mid)) → AreSums table mid now → map m now ≡ transform K V d (map m old)
    forward table old mid now t of_mid of_now shifted sums =
        is_transform N L d (map m old) (map m now) (item V (map m mid)) shifted (length-map now m ∙ of_now)
        (sums_at levels d.size d.root table mid now is order t of_mid sums)

    pub backward : (v p f : F) (table : List F) (old fitted mid now : List X) → AreInverses K d v p f → ArePowers K v (d.size / 2) table → IsScaledBack K V m d p f old fitted mid now → AreSums table fitted mid → IsInverse K V d (map m old) (map m now)
    backward v p f table old fitted mid now inverses t back sums =
        inverse_of_sums N L m d order v p f old fitted mid now inverses back
        (sums_at levels d.size v table fitted mid is (order_of_inverse K N d.root v d.size order inverses.of_root) t back.len_fitted sums)

-- the cost of the in-order kernel over a list of n places, and of a scaling of at most as many items before it
pub scaled_cost : {F : Type 0} (s : Adicity) (root offset : F) (direction : Direction) (n levels len fitted mid : ℕ) {before scaled after : Counts} → IsLog2Up (counted_items n len direction) levels → fitted ≡ n → mid ≡ n →
    GrowsByScalings fitted before scaled → GrowsBy (butterfly_counts (mid / 2 * levels)) scaled after →
    GrowsByCost s (record { kind = radix2; size = n; root = root; offset = offset }) len direction before after
scaled_cost s root offset direction n levels len fitted mid {before} {scaled} {after} log of_fitted of_mid first grows =
    radix2_cost s root offset len direction n levels first.scalings log (subst (λ k. first.scalings ≤ k) of_fitted first.few)
    (scaled_first first.scalings (n / 2 * levels) (n / 2 * levels) 0 first.grows (subst (λ k. GrowsBy (butterfly_counts (k / 2 * levels)) scaled after) of_mid grows))

-- the cost of that kernel, and of a scaling of each item after it
pub cost_then_scaled : {F : Type 0} (s : Adicity) (root offset : F) (direction : Direction) (n levels len fitted mid : ℕ) {before joined after : Counts} → IsLog2Up (counted_items n len direction) levels → fitted ≡ n → mid ≡ n →
    GrowsBy (butterfly_counts (fitted / 2 * levels)) before joined → GrowsBy (counts mid 0 0) joined after →
    GrowsByCost s (record { kind = radix2; size = n; root = root; offset = offset }) len direction before after
cost_then_scaled s root offset direction n levels len fitted mid {before} {joined} {after} log of_fitted of_mid grows last =
    radix2_cost s root offset len direction n levels n log (omega arith)
    (scaled_last n (n / 2 * levels) (n / 2 * levels) 0 (subst (λ k. GrowsBy (butterfly_counts (k / 2 * levels)) before joined) of_fitted grows) (subst (λ k. GrowsBy (counts k 0 0) joined after) of_mid last))
