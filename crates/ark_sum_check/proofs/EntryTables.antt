-- Tables by their entries: sums over the even or the odd indices, and the first variable bound one entry after the other.
use Rattle.std.proofs.Common.{◌≡◌, ◌≢◌, ℕ, zero, suc, ◌+◌, ◌-◌, ◌*◌, ◌/◌, ◌%◌, ◌^◌, ◌<◌, ◌≤◌, List, [], ◌∷◌, ◌++◌, length, get_or, set, take, drop, refl, sym, ◌∙◌, ap, ap₂, subst, arith, ⊎_elim}
use mathlib.Core.Path.{fun_ext}
use Rattle.std.specs.Prelude.{All}
use Rattle.std.proofs.lemmas.List.{get_or-drop, get_or-set_other, get_or-set_same, get_or-take, get_or_default, length-set, length-take-le, take_more_set}
use Rattle.std.proofs.lemmas.Bool.{cases_eq}
use Rattle.std.proofs.lemmas.List.Quantifiers.{all_pairs_push}
use Rattle.std.proofs.lemmas.List.Elements.{All-push, All-set, All-weaker}
use Rattle.std.proofs.Math.Seq.{take-set-lt}
use Rattle.ark_math.specs.Field.{FieldOn, IsField, minus, natural}
use Rattle.ark_math.specs.Module.{IsModule, itself, sum_below}
use Rattle.ark_math_variables.specs.Multilinear.{fixed, weight}
use Rattle.ark_math.specs.Univariate.{added, monomial, nothing, of_pairs}
use Rattle.ark_math.proofs.Algebra.Groups.{itself_is_module}
use Rattle.ark_math.proofs.Algebra.Sums.{sum_below-plus, sum_below-same}
use Rattle.ark_math.proofs.Algebra.Regrouped.{sum_below-none, sum_below-single, sum_below-zero}
use Rattle.ark_math.proofs.Algebra.Solve.{unit, ◌⊖◌, ◌⊗◌}
use Rattle.ark_math.proofs.Algebra.Ring.{ring2}
use Rattle.ark_math.proofs.Lists.Lists.{item_of}
use Rattle.ark_math_variables.proofs.Polynomials.Cube.{weight-even, weight-odd}
use Rattle.ark_math_variables.proofs.Polynomials.Multilinear.{fixed-added, fixed-monomial, fixed-nothing}
use Rattle.ark_math_polynomials.proofs.Polynomials.Univariate.{coefficients_are_module, monomial-other, monomial-same}
use Rattle.ark_math_polynomials.proofs.Polynomials.UnivariatePairs.{monomial-added, of_pairs-push, take_next}
use Rattle.ark_sum_check.specs.Cube.{all_of, bound_to, product_of, round_value, sum_at, sum_value}
use Rattle.ark_sum_check.specs.Provers.{AreRising}
use Rattle.ark_sum_check.specs.Rounds.{IsTrueRound}
use Rattle.ark_sum_check.proofs.Products.{half_whole}
use Rattle.ark_sum_check.proofs.TwoTables.{sum_at-one}
use Rattle.ark_sum_check.proofs.TrueRounds.{AreFirst-none, AreFirst-push, AreFirst-round, natural-one, sum_value-none, round_value-side_one, round_value-side_zero}

-- y is the sum of the values that the entries ps, which are some of all, have at the even or the odd indices, as s says
abbrev pub IsSideSum : {F : Type 0} → FieldOn F → ℕ → List (ℕ × F) → List (ℕ × F) → F → Type 0
IsSideSum K s all ps y = (half : ℕ) → All (λ e. e.0 < 2 * half) all → y ≡ sum_below (itself K) half (λ c. of_pairs K ps (2 * c + s))

module _ {F : Type 0} (K : FieldOn F) (N : IsField K) where
  L : IsModule K (itself K)
  L = itself_is_module K N

  -- ---- sums

  pub side-none : (s : ℕ) (all : List (ℕ × F)) → IsSideSum K s all [] K.zero
  side-none s all half below = sym (sum_below-none L half)

  side-more : (s half i : ℕ) (all : List (ℕ × F)) (x : ℕ × F) → i < length all → x ≡ get_or all i x → sum_below (itself K) half (λ c. of_pairs K (take (i + 1) all) (2 * c + s))
      ≡ K.plus (sum_below (itself K) half (λ c. of_pairs K (take i all) (2 * c + s))) (sum_below (itself K) half (λ c. monomial K x.0 x.1 (2 * c + s)))
  side-more s half i all x l e =
      ap (λ t. sum_below (itself K) half (λ c. t (2 * c + s))) (ap (of_pairs K) (take_next K N all i x l e) ∙ of_pairs-push K N (take i all) x)
      ∙ sum_below-plus L half (λ c. of_pairs K (take i all) (2 * c + s)) (λ c. monomial K x.0 x.1 (2 * c + s))

  -- an entry on this side, and one on the other
  pub side-here : (s i : ℕ) (all : List (ℕ × F)) (x : ℕ × F) (y z : F) → i < length all → x ≡ get_or all i x → x.0 % 2 ≡ s → z ≡ K.plus y x.1 → IsSideSum K s all (take i all) y → IsSideSum K s all (take (i + 1) all) z
  side-here s i all x y z l e side is h half below =
      let m = x.0 in
      let k = m / 2 in
      let inside : m < 2 * half = item_of (λ p. p.0 < 2 * half) all i x below l e in
      let corner : k < half = omega arith in
      let place : 2 * k + s ≡ m = omega arith in
      is
      ∙ ap₂ K.plus (h half below)
      (sym (sum_below-single L half k (λ c. monomial K m x.1 (2 * c + s)) corner (λ c b ne. monomial-other K m x.1 (2 * c + s) (λ same. ne (omega arith)))
      ∙ ap (monomial K m x.1) place
      ∙ monomial-same K m x.1))
      ∙ sym (side-more s half i all x l e)

  pub side-other : (s i : ℕ) (all : List (ℕ × F)) (x : ℕ × F) (y : F) → i < length all → x ≡ get_or all i x → s < 2 → x.0 % 2 ≢ s → IsSideSum K s all (take i all) y → IsSideSum K s all (take (i + 1) all) y
  side-other s i all x y l e small other h half below =
      let m = x.0 in
      h half below
      ∙ sym (N.plus_zero _)
      ∙ ap (K.plus (sum_below (itself K) half (λ c. of_pairs K (take i all) (2 * c + s))))
      (sym (sum_below-zero L half (λ c. monomial K m x.1 (2 * c + s)) (λ c b. monomial-other K m x.1 (2 * c + s) (λ same. other (omega arith)))))
      ∙ sym (side-more s half i all x l e)

  -- as a sum of products of one factor
  one_factor : (s h : ℕ) (t : ℕ → F) → sum_below (itself K) h (λ c. t (2 * c + s)) ≡ sum_below (itself K) h (λ c. sum_at K (product_of K (t ∷ [])) (2 * c + s))
  one_factor s h t = sum_below-same (itself K) h (λ c. t (2 * c + s)) (λ c. sum_at K (product_of K (t ∷ [])) (2 * c + s)) (λ c l. sym (sum_at-one K N t (2 * c + s)))

  -- a table bound, as such a sum
  pub factor-bound : (t u : ℕ → F) (x : F) → u ≡ fixed K t (x ∷ []) → product_of K (u ∷ []) ≡ bound_to K x (product_of K (t ∷ []))
  factor-bound t u x e = ap (λ ts. record { tables = ts; addends = all_of K 1 }) (fun_ext (λ i. table i))
    where
      table : (i : ℕ) → get_or (u ∷ []) i (nothing K) ≡ fixed K (get_or (t ∷ []) i (nothing K)) (x ∷ [])
      table zero = e
      table (suc i) = sym (fixed-nothing K N (x ∷ []))

  -- a round by both sides
  pub round_of_sides : (m : ℕ) (t : ℕ → F) (even odd : F) (values : List F) → even ≡ sum_below (itself K) (2 ^ m) (λ c. t (2 * c + 0)) → odd ≡ sum_below (itself K) (2 ^ m) (λ c. t (2 * c + 1))
      → values ≡ ([] ++ even ∷ []) ++ odd ∷ [] → IsTrueRound K 1 m (product_of K (t ∷ [])) values
  round_of_sides m t even odd values e f is =
      let ts = product_of K (t ∷ []) in
      let h = 2 ^ m in
      let first : even ≡ round_value K m ts (natural K 0) = e ∙ one_factor 0 h t ∙ round_value-side_zero K N m h ts refl in
      let second : odd ≡ round_value K m ts (natural K 1) =
      f ∙ one_factor 1 h t ∙ round_value-side_one K N m h ts refl ∙ sym (ap (round_value K m ts) (natural-one K N)) in
      subst (IsTrueRound K 1 m ts) (sym is)
      (AreFirst-round K m ts 1 2 (([] ++ even ∷ []) ++ odd ∷ []) refl
      (AreFirst-push K m ts 1 ([] ++ even ∷ []) odd (AreFirst-push K m ts 0 [] even (AreFirst-none K m ts) first) second))

  -- the value of no variables
  pub last_of_sides : (t : ℕ → F) (even : F) → even ≡ sum_below (itself K) 1 (λ c. t (2 * c + 0)) → even ≡ sum_value K (product_of K (t ∷ [])) []
  last_of_sides t even e = e ∙ one_factor 0 1 t ∙ zero_plus' (sum_at K (product_of K (t ∷ [])) 0) ∙ sum_value-none K N (product_of K (t ∷ []))
    where
      zero_plus' : (v : F) → K.plus K.zero v ≡ v
      zero_plus' v = N.plus_comm K.zero v ∙ N.plus_zero v

  -- ---- the first variable bound

  pub part-even : (i : ℕ) (v x y : F) → i % 2 ≡ 0 → y ≡ minus K v (K.times x v) → monomial K (i / 2) y ≡ fixed K (monomial K i v) (x ∷ [])
  part-even i v x y e is =
      let n : 2 ≡ 2 ^ length (x ∷ []) = refl in
      let side : 0 ≡ i % 2 ^ length (x ∷ []) = sym e ∙ ap (λ k. i % k) n in
      ap₂ (λ k w. monomial K k w) (ap (λ k. i / k) n)
      (is
      ∙ ring2 K N (λ v x. (v ⊖ x ⊗ v, v ⊗ ((unit ⊖ x) ⊗ unit))) refl v x
      ∙ ap (K.times v) (sym (weight-even K N x [] 0) ∙ ap (weight K (x ∷ [])) side))
      ∙ sym (fixed-monomial K N i v (x ∷ []))

  pub part-odd : (i : ℕ) (v x y : F) → i % 2 ≡ 1 → y ≡ K.times x v → monomial K (i / 2) y ≡ fixed K (monomial K i v) (x ∷ [])
  part-odd i v x y e is =
      let n : 2 ≡ 2 ^ length (x ∷ []) = refl in
      let side : 1 ≡ i % 2 ^ length (x ∷ []) = sym e ∙ ap (λ k. i % k) n in
      ap₂ (λ k w. monomial K k w) (ap (λ k. i / k) n)
      (is
      ∙ ring2 K N (λ v x. (x ⊗ v, v ⊗ (x ⊗ unit))) refl v x
      ∙ ap (K.times v) (sym (weight-odd K N x [] 0) ∙ ap (weight K (x ∷ [])) side))
      ∙ sym (fixed-monomial K N i v (x ∷ []))

  -- an entry put after the others
  pub put_after : (ps : List (ℕ × F)) (k : ℕ) (x : ℕ × F) → k < length ps → of_pairs K (take (k + 1) (set ps k x)) ≡ added K (of_pairs K (take k ps)) (monomial K x.0 x.1)
  put_after ps k x l = ap (of_pairs K) (take_more_set ps k x l) ∙ of_pairs-push K N (take k ps) x

  -- an entry put onto the last one
  pub put_onto : (ps : List (ℕ × F)) (k : ℕ) (last : ℕ × F) (v w : F) → 0 < k → k < length ps → last ≡ get_or ps (k - 1) last → w ≡ K.plus last.1 v
      → of_pairs K (take k (set ps (k - 1) (last.0, w))) ≡ added K (of_pairs K (take k ps)) (monomial K last.0 v)
  put_onto ps k last v w some l e is =
      let j = k - 1 in
      let s : k ≡ j + 1 = omega arith in
      let inside : j < length ps = omega arith in
      ap (λ n. of_pairs K (take n (set ps j (last.0, w)))) s
      ∙ put_after ps j (last.0, w) inside
      ∙ ap (λ u. added K (of_pairs K (take j ps)) (monomial K last.0 u)) is
      ∙ ap (added K (of_pairs K (take j ps))) (sym (monomial-added K N last.0 last.1 v))
      ∙ sym ((coefficients_are_module {I = ℕ} K N).plus_assoc (of_pairs K (take j ps)) (monomial K last.0 last.1) (monomial K last.0 v))
      ∙ ap (λ t. added K t (monomial K last.0 v)) (sym (of_pairs-push K N (take j ps) last) ∙ ap (of_pairs K) (sym (take_next K N ps j last inside e)))
      ∙ ap (λ n. added K (of_pairs K (take n ps)) (monomial K last.0 v)) (sym s)

  -- one entry more is bound
  pub bound-more : (old : List (ℕ × F)) (i : ℕ) (e : ℕ × F) (x y : F) (now next : ℕ → F) → i < length old → e ≡ get_or old i e → now ≡ fixed K (of_pairs K (take i old)) (x ∷ []) → monomial K (e.0 / 2) y ≡ fixed K (monomial K e.0 e.1) (x ∷ [])
      → next ≡ added K now (monomial K (e.0 / 2) y) → next ≡ fixed K (of_pairs K (take (i + 1) old)) (x ∷ [])
  bound-more old i e x y now next l is h part more =
      more
      ∙ ap₂ (added K) h part
      ∙ sym (fixed-added K N (of_pairs K (take i old)) (monomial K e.0 e.1) (x ∷ []))
      ∙ ap (λ t. fixed K t (x ∷ [])) (sym (of_pairs-push K N (take i old) e) ∙ ap (of_pairs K) (sym (take_next K N old i e l is)))

-- ---- entries below a bound, and those that come

module _ {F : Type 0} (n : ℕ) (ps : List (ℕ × F)) (k : ℕ) (x : ℕ × F) where
  pub below_after : k < length ps → x.0 < n → All (λ e. e.0 < n) (take k ps) → All (λ e. e.0 < n) (take (k + 1) (set ps k x))
  below_after l b h = subst (All (λ e. e.0 < n)) (sym (take_more_set ps k x l)) (All-push (λ e. e.0 < n) (take k ps) x h b)

  pub below_onto : 0 < k → x.0 < n → All (λ e. e.0 < n) (take k ps) → All (λ e. e.0 < n) (take k (set ps (k - 1) x))
  below_onto some b h = subst (All (λ e. e.0 < n)) (sym (take-set-lt k ps (k - 1) x (omega arith))) (All-set (λ e. e.0 < n) (take k ps) (k - 1) x b h)

-- entries of a cube, by its halves, and by those of a cube with one corner
pub below_halves : {F : Type 0} (n : ℕ) (ps : List (ℕ × F)) → 0 < n → All (λ e. e.0 < 2 ^ n) ps → All (λ e. e.0 < 2 * 2 ^ (n - 1)) ps
below_halves n ps some h = subst (λ k. All (λ e. e.0 < k) ps) (half_whole n (2 ^ (n - 1)) some refl) h

pub below_two : {F : Type 0} (n : ℕ) (ps : List (ℕ × F)) → n ≡ 0 → All (λ e. e.0 < 2 ^ n) ps → All (λ e. e.0 < 2 * 1) ps
below_two n ps none h =
    All-weaker (λ e. e.0 < 2 ^ n) (λ e. e.0 < 2 * 1) (λ e l. let first : e.0 < 1 = subst (λ k. e.0 < 2 ^ k) none l in omega arith) ps h

-- ---- indices that rise

-- the entries that are kept are at half the index, or before it, of each old one from i on
abbrev pub AreBehind : {F : Type 0} → List (ℕ × F) → ℕ → List (ℕ × F) → Type 0
AreBehind {F} old i kept = (j : ℕ) (d : ℕ × F) → i ≤ j → j < length old → All (λ p. p.0 ≤ (get_or old j d).0 / 2) kept

module _ {F : Type 0} where
  pub behind-more : (old : List (ℕ × F)) (i : ℕ) (e : ℕ × F) (now next : List (ℕ × F)) → AreRising old → i < length old → e ≡ get_or old i e → AreBehind old i now
      → ((n : ℕ) → e.0 / 2 < n → All (λ p. p.0 < n) now → All (λ p. p.0 < n) next) → AreBehind old (i + 1) next
  behind-more old i e now next rising l is h put j d a b =
      let m = (get_or old j d).0 in
      let before : (get_or old i d).0 < m = rising i j d (omega arith) b in
      let same : e.0 ≡ (get_or old i d).0 = ap (λ p. p.0) (is ∙ get_or_default old i e d l) in
      let here : e.0 / 2 < m / 2 + 1 = omega arith in
      All-weaker (λ p. p.0 < m / 2 + 1) (λ p. p.0 ≤ m / 2) (λ p q. omega arith) next
      (put (m / 2 + 1) here (All-weaker (λ p. p.0 ≤ m / 2) (λ p. p.0 < m / 2 + 1) (λ p q. omega arith) now (h j d (omega arith) b)))

  -- the index at a place that is written with the index that was there
  same_index : (t : List (ℕ × F)) (j : ℕ) (y last : ℕ × F) → j < length t → y.0 ≡ (get_or t j last).0 → (i : ℕ) (d : ℕ × F) → (get_or (set t j y) i d).0 ≡ (get_or t i d).0
  same_index t j y last l e i d = ⊎_elim
      (λ (s : i ≡ j).
      subst (λ k. (get_or (set t j y) k d).0 ≡ (get_or t k d).0) (sym s)
      (ap (λ p. p.0) (get_or-set_same t j y d l) ∙ e ∙ ap (λ p. p.0) (get_or_default t j last d l)))
      (λ (ne : i ≢ j). ap (λ p. p.0) (get_or-set_other t j i y d ne))
      (cases_eq i j)

  rising-set : (t : List (ℕ × F)) (j : ℕ) (y last : ℕ × F) → j < length t → y.0 ≡ (get_or t j last).0 → AreRising t → AreRising (set t j y)
  rising-set t j y last l e h a b d less inside =
      let first = same_index t j y last l e a d in
      let second = same_index t j y last l e b d in
      let old : (get_or t a d).0 < (get_or t b d).0 = h a b d less (subst (λ n. b < n) (length-set t j y) inside) in
      omega arith

  pub rising_onto : (ps : List (ℕ × F)) (k : ℕ) (x last : ℕ × F) → 0 < k → k < length ps → last ≡ get_or ps (k - 1) last → last.0 ≡ x.0 → AreRising (take k ps) → AreRising (take k (set ps (k - 1) x))
  rising_onto ps k x last some l e same h =
      let t = take k ps in
      let count : length t ≡ k = length-take-le k ps (omega arith) in
      let there : last ≡ get_or t (k - 1) last = e ∙ sym (get_or-take k ps (k - 1) last (omega arith)) in
      subst (λ us. AreRising us) (sym (take-set-lt k ps (k - 1) x (omega arith))) (rising-set t (k - 1) x last (omega arith) (sym same ∙ ap (λ p. p.0) there) h)

  pub rising_after : (ps : List (ℕ × F)) (k : ℕ) (x : ℕ × F) → k < length ps → ((d : ℕ × F) → 0 < k → (get_or ps (k - 1) d).0 ≢ x.0) → All (λ p. p.0 ≤ x.0) (take k ps) → AreRising (take k ps) → AreRising (take (k + 1) (set ps k x))
  rising_after ps k x l apart most h =
      let t = take k ps in
      let j = k - 1 in
      let count : length t ≡ k = length-take-le k ps (omega arith) in
      subst (λ us. AreRising us) (sym (take_more_set ps k x l))
      (all_pairs_push (λ p q. p.0 < q.0) t x h
      (λ i d m.
      let seen : (get_or t j d).0 ≡ (get_or ps j d).0 = ap (λ p. p.0) (get_or-take k ps j d (omega arith)) in
      let ne : (get_or ps j d).0 ≢ x.0 = apart d (omega arith) in
      let le : (get_or t j d).0 ≤ x.0 = most j d (omega arith) in
      let last : (get_or t j d).0 < x.0 = omega arith in
      ⊎_elim
      (λ (s : i ≡ j). subst (λ a. (get_or t a d).0 < x.0) (sym s) last)
      (λ (no : i ≢ j). let r : (get_or t i d).0 < (get_or t j d).0 = h i j d (omega arith) (omega arith) in omega arith)
      (cases_eq i j)))

-- an entry that is still the old one
pub still_there : {X : Type 0} (old now : List X) (i : ℕ) (e : X) → drop i now ≡ drop i old → e ≡ get_or now i e → e ≡ get_or old i e
still_there old now i e same is =
    let none : i + 0 ≡ i = omega arith in
    is
    ∙ ap (λ k. get_or now k e) (sym none)
    ∙ sym (get_or-drop i now 0 e)
    ∙ ap (λ us. get_or us 0 e) same
    ∙ get_or-drop i old 0 e
    ∙ ap (λ k. get_or old k e) none
