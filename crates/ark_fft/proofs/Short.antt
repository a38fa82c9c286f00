-- The transform of radix 2 of a short list and its cost, from what the parts of its kernel leave.
use Rattle.std.proofs.Common.{◌≡◌, ℕ, map, length, get_or, take, drop, ◌++◌, ◌+◌, ◌-◌, ◌*◌, ◌/◌, ◌^◌, ◌<◌, ◌≤◌, List, arith, sym, ap, subst, ◌∙◌, length-take-le, length-append, length-drop, replicate}
use Rattle.std.proofs.lemmas.List.{length-map}
use Rattle.std.proofs.Math.Pow.{pow_mono, pow_pos}
use Rattle.ark_math.specs.Cost.{Counts, GrowsBy, butterfly_counts, IsLog2Up, forward}
use Rattle.ark_math.specs.Domain.{Domain, radix2, domain_of}
use Rattle.ark_math.specs.Field.{FieldOn, IsField, power}
use Rattle.ark_math.specs.Module.{ModuleOn, IsModule, item}
use Rattle.ark_math.specs.Root.{Adicity, HasOrder}
use Rattle.ark_math.specs.Transform.{transform}
use Rattle.ark_math_transforms.proofs.Transforms.Places.{dft_at}
use Rattle.ark_fft.specs.Halves.{ArePowers, AreLevels}
use Rattle.ark_fft.specs.Scalings.{GrowsByScalings}
use Rattle.ark_fft.proofs.Joining.{sum_of_few, levels_below}
use Rattle.ark_math.proofs.Numbers.PowersOfTwo.{pow_pred}
use Rattle.ark_math.proofs.Algebra.Powers.{half_of_order}
use Rattle.ark_math.proofs.Domains.Sizes.{log_of_short, log_within}
use Rattle.ark_math.proofs.Lists.Lists.{read_fitted}
use Rattle.ark_math_transforms.proofs.Transforms.Transforms.{AreShifted, is_transform, shifted_front, shifted_past}
use Rattle.ark_fft.specs.Cost.{GrowsByCost}
use Rattle.ark_fft.proofs.Cost.{scaled_first, radix2_cost}

-- the fitted list, and its front once each item is scaled
module _ {X : Type 0} (n len : ℕ) (fitted front : List X) (of_fitted : length fitted ≡ n) (short : len ≤ n / 4) (of_front : length front ≡ length (take len fitted)) where
  taken_size : length (take len fitted) ≡ len
  taken_size = length-take-le len fitted (omega (arith, of_fitted, short))

  pub mid_size : length (front ++ drop len fitted) ≡ n
  mid_size = length-append front (drop len fitted) ∙ omega (arith, length-drop len fitted, taken_size, of_front, of_fitted, short)

  pub short_cost : {F : Type 0} (s : Adicity) (root offset : F) (size e : ℕ) {before scaled after : Counts} → len ≡ size → IsLog2Up len e →
      GrowsByScalings (length (take len fitted)) before scaled → GrowsBy (butterfly_counts (length (front ++ drop len fitted) / 2 * e)) scaled after →
      GrowsByCost s (record { kind = radix2; size = n; root = root; offset = offset }) size forward before after
  short_cost s root offset size e {before} {scaled} {after} is log first grows =
      let short_size : size ≤ n / 4 = omega (arith, is, short) in
      radix2_cost s root offset size forward n e first.scalings (log_of_short n size e short_size (subst (λ k. IsLog2Up k e) is log))
      (omega (arith, first.few, taken_size, short))
      (scaled_first first.scalings (n / 2 * e) (n / 2 * e) 0 first.grows (subst (λ k. GrowsBy (butterfly_counts (k / 2 * e)) scaled after) mid_size grows))

  module _ {F M : Type 0} {K : FieldOn F} {V : ModuleOn F M} (N : IsField K) (L : IsModule K V) (m : X → M) (levels e : ℕ) (root offset : F) (is : n ≡ 2 ^ levels) (order : HasOrder K root n) (log : IsLog2Up len e) where
    root_half : 0 < levels → power K root (n / 2) ≡ K.negated K.one
    root_half pos =
        let two = pow_pred levels pos in
        let twice : n / 2 * 2 ≡ n = omega (arith, is, two) in
        half_of_order K N root (n / 2) (omega (arith, is, two, pow_pos (levels - 1))) (subst (HasOrder K root) (sym twice) order)

    -- the tables as they were made, and as the kernel reads them
    table_levels : (square : F) (made tables : List F) → square ≡ K.times root root → tables ≡ made → length made ≡ n / 2 → ArePowers K square (n / 2 / 2) (take (n / 2 / 2) made) → ((k : ℕ) → k < n / 2 / 2 → get_or made (n / 2 / 2 + k) K.zero ≡ get_or made (2 * k) K.zero) → AreLevels K (power K root 2) (levels - 1) tables
    table_levels square made tables times same of_made first seconds =
        let squared : square ≡ power K root 2 = times ∙ ap (K.times root) (sym (N.times_one root)) in
        subst (AreLevels K (power K root 2) (levels - 1)) (sym same)
        (levels_below K N levels n root made is of_made root_half (subst (λ w. ArePowers K w (n / 2 / 2) (take (n / 2 / 2) made)) squared first) seconds)

    pub short_transform : (old filled now : List X) (k : ℕ) (z : X) (square : F) (made tables : List F) → len ≡ length old → fitted ≡ filled → filled ≡ take n old ++ replicate k z → m z ≡ V.zero →
        ((i : ℕ) → i < length (take len fitted) → item V (map m front) i ≡ V.scale (power K offset i) (item V (map m (take len fitted)) i)) →
        square ≡ K.times root root → tables ≡ made → length made ≡ n / 2 → ArePowers K square (n / 2 / 2) (take (n / 2 / 2) made) → ((j : ℕ) → j < n / 2 / 2 → get_or made (n / 2 / 2 + j) K.zero ≡ get_or made (2 * j) K.zero) →
        length now ≡ length (front ++ drop len fitted) →
        (AreLevels K (power K root 2) (levels - 1) tables → (0 < levels → power K root (length (front ++ drop len fitted) / 2) ≡ K.negated K.one) → (i : ℕ) → i < length (front ++ drop len fitted) → item V (map m now) i ≡ dft_at K V (2 ^ e) root (item V (map m (front ++ drop len fitted))) i) →
        map m now ≡ transform K V (domain_of radix2 n root offset) (map m old)
    short_transform old filled now k z square made tables of_old same fills zero scaled times same_tables of_made first seconds of_now sums =
        let d : Domain F = domain_of radix2 n root offset in
        let mid = front ++ drop len fitted in
        let fit : (j : ℕ) → j < n → item V (map m fitted) j ≡ item V (map m old) j = λ j l. ap (λ xs. item V (map m xs) j) (same ∙ fills) ∙ read_fitted m V.zero old n k z zero j l in
        let shifted : AreShifted N L d (map m old) (item V (map m mid)) =
        shifted_front N L m d len old fitted front (sym of_old) (of_front ∙ taken_size) fit (λ j l. scaled j (omega (arith, taken_size, l))) in
        let levels_read = table_levels square made tables times same_tables of_made first seconds in
        let half : 0 < levels → power K root (length mid / 2) ≡ K.negated K.one = λ pos. ap (λ s. power K root (s / 2)) mid_size ∙ root_half pos in
        let le : 2 ^ e ≤ 2 ^ levels = pow_mono (log_within n len e levels short is log) in
        is_transform N L d (map m old) (map m now) (item V (map m mid)) shifted (length-map now m ∙ (of_now ∙ mid_size))
        (λ i l.
        sums levels_read half i (omega (arith, l, mid_size))
        ∙ sym (sum_of_few N L (2 ^ e) n root (item V (map m mid)) i (omega (arith, le, is))
        (λ j above within. shifted_past N L d (map m old) (item V (map m mid)) shifted j (omega (arith, length-map old m, of_old, log.0, above)) within)))
