-- The mixed radix transform and its inverse, from what the parts of the kernel leave; its sizes and counts.
use Rattle.std.proofs.Common.{◌≡◌, ℕ, zero, suc, ◌+◌, ◌*◌, ◌-◌, ◌/◌, ◌^◌, ◌<◌, ◌≤◌, List, length, get_or, take, map, sym, ◌∙◌, ap, ap₂, refl, arith, subst, Result, Ok, Err, IfOk}
use Rattle.std.proofs.lemmas.List.{length-map}
use Rattle.std.proofs.lemmas.Nat.{div-mul-add, mul-lt}
use Rattle.std.proofs.Math.Nat.{pow-suc, pow-zero}
use Rattle.ark_math.specs.Field.{FieldOn, IsField, power}
use Rattle.ark_math.specs.Module.{ModuleOn, IsModule, item}
use Rattle.ark_math.specs.Root.{Adicity, HasOrder, Splits, odd_base}
use Rattle.ark_math.specs.Domain.{Domain, mixed_radix}
use Rattle.ark_math.specs.Cost.{Counts, GrowsBy, counts, butterfly_counts, Direction}
use Rattle.ark_math.specs.Transform.{transform, IsInverse}
use Rattle.ark_math_transforms.proofs.Transforms.Places.{dft_at}
use Rattle.ark_math_transforms.specs.BitReversal.{reversed}
use Rattle.ark_fft.specs.Halves.{ArePowers, AreLevels}
use Rattle.ark_fft.proofs.Joining.{levels_of_size}
use Rattle.ark_fft.proofs.Halving.{no_level}
use Rattle.ark_fft.proofs.Levels.{AreReversed, AreTransformed, IsTransformed}
use Rattle.ark_fft.proofs.Inverse.{AreInverses, IsScaledBack, inverse_of_sums}
use Rattle.ark_fft.specs.Mixed.{IsPowerTable, mixed_counts}
use Rattle.ark_fft.specs.Scalings.{GrowsByScalings}
use Rattle.ark_math_transforms.proofs.Roots.Orthogonal.{order_of_inverse}
use Rattle.ark_math.proofs.Algebra.Powers.{half_of_order, power-mul}
use Rattle.ark_math_transforms.proofs.Transforms.Transforms.{AreShifted, is_transform}
use Rattle.ark_math_transforms.proofs.Numbers.BitReversal.{reversed_below, reversed_twice}
use Rattle.ark_math.proofs.Lists.Lists.{read_order}
use Rattle.ark_fft.specs.Cost.{GrowsByCost}
use Rattle.ark_fft.proofs.Cost.{none_grown, grows_twice, scaled_first, scaled_last, mixed_cost}
use Rattle.ark_math.proofs.Numbers.Factors.{part_size, parts_whole}

-- three facts of an answer that is Ok, together
pub IfOk_all : {A E : Type 0} {P Q R S : A → Type 0} (r : Result A E) → ((x : A) → P x → Q x → R x → S x) → IfOk r P → IfOk r Q → IfOk r R → IfOk r S
IfOk_all (Ok x) f p q r = f x p q r
IfOk_all (Err e) f p q r = tt

halves_of : (n : ℕ) → 0 < 2 ^ n / 2 → 2 ^ n / 2 * 2 ≡ 2 ^ n
halves_of zero pos = absurd (omega arith)
halves_of (suc n) pos = omega (arith, pow-suc 2 n)

-- the root of the lists that are left once each part is parted again: as many parts as the base, and the base's power less one
pub parted_root : {F : Type 0} (K : FieldOn F) (w : F) (stride q odds : ℕ) → 0 < odds → power K w (stride * q ^ odds) ≡ power K w (stride * q * q ^ (odds - 1))
parted_root K w stride q zero some = absurd (omega arith)
parted_root K w stride q (suc k) some =
    let e : stride * q ^ suc k ≡ stride * q * q ^ k = ap (λ t. stride * t) (pow-suc q k) ∙ omega arith in
    let less : k ≡ suc k - 1 = omega arith in
    ap (power K w) (e ∙ ap (λ t. stride * q * q ^ t) less)

-- and that of lists that are parted no more
pub last_root : {F : Type 0} (K : FieldOn F) (w : F) (stride q odds : ℕ) → odds ≡ 0 → power K w (stride * q ^ odds) ≡ power K w stride
last_root K w stride q odds none =
    let e : stride * q ^ odds ≡ stride = ap (λ t. stride * q ^ t) none ∙ (ap (λ t. stride * t) (pow-zero q) ∙ omega arith) in
    ap (power K w) e

pub base_power : (q odds : ℕ) → 0 < q → 0 < q ^ odds
base_power q zero some = let e : q ^ 0 ≡ 1 = pow-zero q in omega arith
base_power q (suc k) some = let e : q ^ suc k ≡ q ^ k * q = pow-suc q k in let p : 0 < q ^ k * q = mul-lt 0 0 (q ^ k) q (base_power q k some) some in omega arith

-- the tables of all levels of the lists that are left, from those of a root of order 2 ^ twos * part
pub even_levels : {F : Type 0} (K : FieldOn F) (N : IsField K) (w : F) (size twos part : ℕ) (tables : List F) → size ≡ 2 ^ twos * part → 0 < part → HasOrder K w size → length tables ≡ 2 ^ twos →
    ArePowers K (power K w part) (2 ^ twos / 2) (take (2 ^ twos / 2) tables) → ((k : ℕ) → k < 2 ^ twos / 2 → get_or tables (2 ^ twos / 2 + k) K.zero ≡ get_or tables (2 * k) K.zero) → AreLevels K (power K w part) twos tables
even_levels K N w size twos part tables is some order len first seconds =
    let h = 2 ^ twos / 2 in
    levels_of_size K N twos (2 ^ twos) (power K w part) tables refl len
    (record {
      powers = λ i l. first.powers i (omega (arith, first.len, l));
      half = λ l.
          let pos : 0 < h = omega (arith, first.len, l) in
          let two : h * 2 ≡ 2 ^ twos = halves_of twos pos in
          let whole : part * h * 2 ≡ size = omega (arith, is, ap (λ t. part * t) two) in
          ap (power K (power K w part)) first.len
          ∙ sym (power-mul K N w part h)
          ∙ half_of_order K N w (part * h) (mul-lt 0 0 part h some pos) (subst (HasOrder K w) (sym whole) order);
    })
    seconds

module _ {F M X : Type 0} {K : FieldOn F} {V : ModuleOn F M} (N : IsField K) (L : IsModule K V) (m : X → M) where
  pub even_transformed : (n size : ℕ) (v : F) (old mid now : List X) → size ≡ 2 ^ n → length mid ≡ size → length now ≡ size → AreReversed K V n v (item V (map m old)) (item V (map m mid)) → ((p : ℕ) (d : X) → p < 2 ^ n → get_or now p d ≡ get_or mid (reversed n p) d) → AreTransformed K V size size v (item V (map m old)) (item V (map m now))
  even_transformed n size v old mid now is of_mid of_now halves order p l =
      let b : p < 2 ^ n = omega arith in
      let r : reversed n p < 2 ^ n = reversed_below n p b in
      read_order m V.zero (reversed n) mid now
      (λ q c. let d : q < 2 ^ n = omega arith in let e = reversed_below n q d in omega arith)
      (λ q d c. order q d (omega arith)) p (omega arith)
      ∙ (halves (reversed n p) r
      ∙ (ap (dft_at K V (2 ^ n) v (item V (map m old))) (reversed_twice n p b)
      ∙ ap (λ t. dft_at K V t v (item V (map m old)) p) (sym is)))

  -- one item is its own transform
  pub one_transformed : (n size : ℕ) (v : F) (xs : List X) → size ≡ 2 ^ n → n ≡ 0 → (p : ℕ) → p < size → item V (map m xs) p ≡ dft_at K V size v (item V (map m xs)) p
  one_transformed n size v xs is none p l =
      let b : p < 2 ^ n = omega arith in
      let c : p < 2 ^ 0 = rw none at b in
      let z : p ≡ 0 = omega arith in
      let same : reversed n p ≡ p = ap (λ k. reversed k p) none ∙ sym z in
      no_level N L n v (item V (map m xs)) none p b
      ∙ (ap (dft_at K V (2 ^ n) v (item V (map m xs))) same
      ∙ ap (λ t. dft_at K V t v (item V (map m xs)) p) (sym is))

-- a level's steps, and those of the levels below it
level_steps : (l q o size : ℕ) → 0 < q → 0 < o → size ≡ 2 ^ l * q ^ o → q * ((o - 1) * (size / q / q)) + size / q ≡ o * (size / q)
level_steps l q zero size pos some e = absurd (omega arith)
level_steps l q (suc zero) size pos some e =
    let z : suc zero - 1 ≡ 0 = omega arith in
    ap (λ t. q * (t * (size / q / q)) + size / q) z ∙ omega arith
level_steps l q (suc (suc k)) size pos some e =
    let n = size / q in
    let z : suc (suc k) - 1 ≡ suc k = omega arith in
    let some_k : 0 < suc k = omega arith in
    let f : n ≡ 2 ^ l * q ^ suc k = part_size l q (suc (suc k)) size pos some e ∙ ap (λ t. 2 ^ l * q ^ t) z in
    let w : q * (n / q) ≡ n = sym (parts_whole l q (suc k) n pos some_k f) in
    let d : n / q ≡ n / q = omega arith in
    ap (λ t. q * (t * (n / q)) + n) z
    ∙ ((let g : q * (suc k * (n / q)) + n ≡ suc k * (q * (n / q)) + n = omega arith in g)
    ∙ (ap (λ t. suc k * t + n) w ∙ omega arith))

-- one growth after another, by butterflies and steps
mixed_twice : {before between after : Counts} (q b s b1 s1 b2 s2 : ℕ) → GrowsBy (mixed_counts q b s) before between → GrowsBy (mixed_counts q b1 s1) between after → b2 ≡ b + b1 → s2 ≡ s + s1 → GrowsBy (mixed_counts q b2 s2) before after
mixed_twice q b s b1 s1 b2 s2 g h of_butterflies of_steps =
    let a = q * q - 1 in
    let products : b2 + a * s2 ≡ b + a * s + (b1 + a * s1) = ap₂ (λ x y. x + a * y) of_butterflies of_steps ∙ omega arith in
    grows_twice g h products of_butterflies of_steps

-- one more part counted
pub part_counted : {before between after : Counts} (q r l o p n : ℕ) → GrowsBy (mixed_counts q (r * (l * n / 2)) (r * (o * (n / q)))) before between → GrowsBy (mixed_counts q (l * p / 2) (o * (p / q))) between after → p ≡ n → GrowsBy (mixed_counts q ((r + 1) * (l * n / 2)) ((r + 1) * (o * (n / q)))) before after
part_counted {before} {between} {after} q r l o p n parts part size =
    let one : GrowsBy (mixed_counts q (l * n / 2) (o * (n / q))) between after = subst (λ k. GrowsBy (mixed_counts q (l * k / 2) (o * (k / q))) between after) size part in
    mixed_twice q _ _ _ _ _ _ parts one (omega arith) (omega arith)

pub no_part_counted : (q x y : ℕ) (w : Counts) → GrowsBy (mixed_counts q (0 * x) (0 * y)) w w
no_part_counted q x y w =
    let a = q * q - 1 in
    let none : 0 * x ≡ 0 = omega arith in
    let no_steps : 0 * y ≡ 0 = omega arith in
    let products : 0 * x + a * (0 * y) ≡ 0 = ap₂ (λ b s. b + a * s) none no_steps ∙ omega arith in
    grows_twice (none_grown w) (none_grown w) products none no_steps

-- the butterflies of q parts of n items are those of q * n items
level_butterflies : (l q n x : ℕ) → n ≡ 2 ^ l * x → q * (l * n / 2) ≡ l * (q * n) / 2
level_butterflies zero q n x e =
    let a : 0 * n ≡ 0 = omega arith in
    let b : 0 * (q * n) ≡ 0 = omega arith in
    ap (λ t. q * (t / 2)) a ∙ ((let z : q * (0 / 2) ≡ 0 / 2 = omega arith in z) ∙ ap (λ t. t / 2) (sym b))
level_butterflies (suc l) q n x e =
    let h = 2 ^ l * x in
    let d : n ≡ 2 * h = e ∙ (ap (λ t. t * x) (pow-suc 2 l) ∙ omega arith) in
    let a : suc l * n ≡ suc l * h * 2 + 0 = ap (λ t. suc l * t) d ∙ omega arith in
    let b : suc l * (q * n) ≡ suc l * (q * h) * 2 + 0 = ap (λ t. suc l * (q * t)) d ∙ omega arith in
    let pos : 0 < 2 = omega arith in
    ap (λ t. q * (t / 2)) a
    ∙ (ap (λ t. q * t) (div-mul-add (suc l * h) 2 0 pos)
    ∙ ((let z : q * (suc l * h) ≡ suc l * (q * h) = omega arith in z)
    ∙ (sym (div-mul-add (suc l * (q * h)) 2 0 pos) ∙ ap (λ t. t / 2) (sym b))))

level_joins : (l q o size : ℕ) → 0 < q → 0 < o → size ≡ 2 ^ l * q ^ o → q * (l * (size / q) / 2) ≡ l * size / 2
level_joins l q o size pos some e =
    level_butterflies l q (size / q) (q ^ (o - 1)) (part_size l q o size pos some e)
    ∙ ap (λ t. l * t / 2) (sym (parts_whole l q o size pos some e))

-- the butterflies of a power of two
-- a list of one item has no butterflies
pub no_butterflies : (l size : ℕ) (w : Counts) → l ≡ 0 → GrowsBy (butterfly_counts (l * size / 2)) w w
no_butterflies l size w none =
    let z : l * size ≡ 0 = ap (λ k. k * size) none ∙ omega arith in
    subst (λ k. GrowsBy (butterfly_counts (k / 2)) w w) (sym z) (none_grown w)

pub power_butterflies : (l size : ℕ) → size ≡ 2 ^ l → 2 ^ l / 2 * l ≡ l * size / 2
power_butterflies zero size e =
    let z : 0 * size ≡ 0 = omega arith in
    (let y : 2 ^ 0 / 2 * 0 ≡ 0 / 2 = omega arith in y) ∙ ap (λ t. t / 2) (sym z)
power_butterflies (suc k) size e =
    let two : 2 ^ suc k ≡ 2 ^ k * 2 = pow-suc 2 k in
    let half : 2 ^ suc k / 2 ≡ 2 ^ k = omega arith in
    let d : suc k * size ≡ suc k * 2 ^ k * 2 + 0 = ap (λ t. suc k * t) (e ∙ two) ∙ omega arith in
    let pos : 0 < 2 = omega arith in
    ap (λ t. t * suc k) half ∙ ((let c : 2 ^ k * suc k ≡ suc k * 2 ^ k = omega arith in c) ∙ sym (ap (λ t. t / 2) d ∙ div-mul-add (suc k * 2 ^ k) 2 0 pos))

module _ {F M X : Type 0} {K : FieldOn F} {V : ModuleOn F M} (N : IsField K) (L : IsModule K V) (m : X → M) where
  -- what the kernel makes of a list, with this table and tables of the levels
  abbrev pub AreSums : (F → Type 0) → List F → List X → List X → Type 0
  AreSums AreTables table old now = (w : F) → IsPowerTable K w table → AreTables w → IsTransformed K V m (power K w 1) old now

  sums_at : (AreTables : F → Type 0) (n : ℕ) (w : F) (table : List F) (old now : List X) → HasOrder K w n → ArePowers K w n table → AreTables w → length old ≡ n → AreSums AreTables table old now → AreTransformed K V n n w (item V (map m old)) (item V (map m now))
  sums_at AreTables n w table old now order t levels size sums i l =
      let is : IsPowerTable K w table = record { powers = λ k b. t.powers k (omega (arith, t.len)); order = subst (HasOrder K w) (sym t.len) order } in
      sums w is levels i (omega arith)
      ∙ ap (λ k. dft_at K V k (power K w 1) (item V (map m old)) i) size
      ∙ ap (λ x. dft_at K V n x (item V (map m old)) i) (N.times_one w)

  module _ (d : Domain F) (order : HasOrder K d.root d.size) (AreTables : F → Type 0) where
    pub forward : (table : List F) (old mid now : List X) → ArePowers K d.root d.size table → AreTables d.root → length mid ≡ d.size → length now ≡ d.size → AreShifted N L d (map m old) (item V (map m mid)) → AreSums AreTables table mid now → map m now ≡ transform K V d (map m old)
    forward table old mid now t levels of_mid of_now shifted sums =
        is_transform N L d (map m old) (map m now) (item V (map m mid)) shifted (length-map now m ∙ of_now)
        (sums_at AreTables d.size d.root table mid now order t levels of_mid sums)

    pub backward : (v p f : F) (table : List F) (old fitted mid now : List X) → AreInverses K d v p f → ArePowers K v d.size table → AreTables v → IsScaledBack K V m d p f old fitted mid now → AreSums AreTables table fitted mid → IsInverse K V d (map m old) (map m now)
    backward v p f table old fitted mid now inverses t levels back sums =
        inverse_of_sums N L m d order v p f old fitted mid now inverses back
        (sums_at AreTables d.size v table fitted mid (order_of_inverse K N d.root v d.size order inverses.of_root) t levels back.len_fitted sums)

-- all parts, and the joins after them
pub all_counted : {before between after : Counts} (r q l o size : ℕ) → 0 < q → 0 < o → size ≡ 2 ^ l * q ^ o → r ≡ q →
    GrowsBy (mixed_counts q (r * (l * (size / q) / 2)) (r * ((o - 1) * (size / q / q)))) before between → GrowsBy (counts ((q * q - 1) * (size / q)) 0 (size / q)) between after → GrowsBy (mixed_counts q (l * size / 2) (o * (size / q))) before after
all_counted {before} {between} {after} r q l o size pos some is end parts joins =
    let all : GrowsBy (mixed_counts q (q * (l * (size / q) / 2)) (q * ((o - 1) * (size / q / q)))) before between = subst (λ k. GrowsBy (mixed_counts q (k * (l * (size / q) / 2)) (k * ((o - 1) * (size / q / q)))) before between) end parts in
    let joined : GrowsBy (mixed_counts q 0 (size / q)) between after = grows_twice (none_grown between) joins refl refl (omega arith) in
    let steps : o * (size / q) ≡ q * ((o - 1) * (size / q / q)) + size / q = sym (level_steps l q o size pos some is) in
    mixed_twice q _ _ _ _ _ _ all joined (sym (level_joins l q o size pos some is) ∙ omega arith) steps

-- the cost of the mixed kernel over a list of n places, with scalings before it or after it
module _ {F : Type 0} (s : Adicity) (root offset : F) (direction : Direction) (len n q twos odds : ℕ) (splits : Splits s n twos odds) (base : q ≡ odd_base s.odd) (some : 0 < q) where
  pub scaled_cost : {before scaled after : Counts} (fitted mid : ℕ) → fitted ≡ n → mid ≡ n →
      GrowsByScalings fitted before scaled → GrowsBy (mixed_counts q (twos * mid / 2) (odds * (mid / q))) scaled after →
      GrowsByCost s (record { kind = mixed_radix; size = n; root = root; offset = offset }) len direction before after
  scaled_cost {before} {scaled} {after} fitted mid of_fitted of_mid first grows =
      mixed_cost s root offset len direction n q twos odds first.scalings splits base some (subst (λ k. first.scalings ≤ k) of_fitted first.few)
      (scaled_first first.scalings _ _ _ first.grows (subst (λ k. GrowsBy (mixed_counts q (twos * k / 2) (odds * (k / q))) scaled after) of_mid grows))

  pub cost_then_scaled : {before joined after : Counts} (fitted mid : ℕ) → fitted ≡ n → mid ≡ n →
      GrowsBy (mixed_counts q (twos * fitted / 2) (odds * (fitted / q))) before joined → GrowsBy (counts mid 0 0) joined after →
      GrowsByCost s (record { kind = mixed_radix; size = n; root = root; offset = offset }) len direction before after
  cost_then_scaled {before} {joined} {after} fitted mid of_fitted of_mid grows last =
      mixed_cost s root offset len direction n q twos odds n splits base some (omega arith)
      (scaled_last n _ _ _ (subst (λ k. GrowsBy (mixed_counts q (twos * k / 2) (odds * (k / q))) before joined) of_fitted grows) (subst (λ k. GrowsBy (counts k 0 0) joined after) of_mid last))
