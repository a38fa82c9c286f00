-- Counts and bounds of the kernels' loops.
use Rattle.std.proofs.Common.{◌≡◌, ◌≢◌, ℕ, ◌+◌, ◌*◌, ◌-◌, ◌<◌, ◌≤◌, refl, sym, ap, ◌∙◌, subst, arith}
use Rattle.ark_math.specs.Cost.{Counts, GrowsBy, counts}
use Rattle.ark_fft.proofs.Cost.{none_grown, grows_twice}

-- ---- bounds

pub positive : (q : ℕ) → 1 < q → 0 < q
positive q some = omega arith

pub least : (n : ℕ) → 0 ≤ n
least n = omega arith

pub itself : (i : ℕ) → i ≤ i
itself i = omega arith

pub below_is_within : (m n : ℕ) → m < n → m ≤ n
below_is_within m n below = omega arith

pub one_less : (m n : ℕ) → m ≤ n → m - 1 ≤ n - 1
one_less m n within = omega arith

pub none_below : {A : Type 0} (i n : ℕ) → i < n → n ≤ 0 → A
none_below i n below none = absurd (omega arith)

pub none_yet : {A : Type 0} (i : ℕ) → i < 0 → A
none_yet i below = absurd (omega arith)

-- what is left of a part's end without its start
pub middle : (a n : ℕ) → a + n - a ≡ n
middle a n = omega arith

-- a loop's index at its end, and those before and after it
pub ended : (i n : ℕ) → i ≤ n → n ≤ i → i ≡ n
ended i n most least = omega arith

pub not_last : (k i : ℕ) → k < i + 1 → k ≢ i → k < i
not_last k i below other = omega arith

pub past : (k i : ℕ) → k + 1 ≤ i → (k < i) × (k ≤ i)
past k i after = (omega arith, omega arith)

-- ---- counts: before the loop, after one iteration more, and after all

pub no_part : (x : ℕ) (w : Counts) → GrowsBy (counts (0 * x) 0 0) w w
no_part x w = grows_twice (none_grown w) (none_grown w) (omega arith) refl refl

pub part_more : {before between after : Counts} (i x : ℕ) → GrowsBy (counts (i * x) 0 0) before between → GrowsBy (counts x 0 0) between after → GrowsBy (counts ((i + 1) * x) 0 0) before after
part_more i x g h = grows_twice g h (omega arith) refl refl

pub all_parts : {before after : Counts} (i n x : ℕ) → i ≡ n → GrowsBy (counts (i * x) 0 0) before after → GrowsBy (counts (x * n) 0 0) before after
all_parts {before} {after} i n x end g =
    let g1 : GrowsBy (counts (n * x) 0 0) before after = subst (λ k. GrowsBy (counts (k * x) 0 0) before after) end g in
    let e : x * n ≡ n * x = omega arith in
    subst (λ k. GrowsBy (counts k 0 0) before after) (sym e) g1

-- where there is no place, any count a place is right
pub no_places : {before after : Counts} (a b m : ℕ) → m ≤ 0 → GrowsBy (counts (a * m) 0 m) before after → GrowsBy (counts (b * m) 0 m) before after
no_places {before} {after} a b m none g =
    let zero_places : m ≡ 0 = omega arith in
    let same : a * m ≡ b * m = ap (λ k. a * k) zero_places ∙ omega (arith, ap (λ k. b * k) zero_places) in
    subst (λ k. GrowsBy (counts k 0 m) before after) same g

-- a round more of a loop that begins at one
pub one_round_more : {before between after : Counts} (r : ℕ) → 1 ≤ r → GrowsBy (counts (r - 1) 0 0) before between → GrowsBy (counts 1 0 0) between after → GrowsBy (counts (r + 1 - 1) 0 0) before after
one_round_more r from g h = grows_twice g h (omega arith) refl refl
