-- Tables as lists: halves, and what is left when variables are bound.
use Rattle.std.proofs.Common.{◌≡◌, ◌≢◌, ◌⊎◌, min, cond, inl, inr, ⊎_elim, ℕ, suc, ◌+◌, ◌-◌, ◌*◌, ◌/◌, ◌%◌, ◌^◌, ◌<◌, ◌≤◌, List, [], ◌∷◌, ◌++◌, length, get_or, take, refl, sym, ◌∙◌, ap, ap₂, subst, arith, pow_pos}
use Rattle.std.proofs.lemmas.List.{get_or-take, length-take}
use Rattle.std.proofs.lemmas.Bool.{cases_eq, cases_lt, cond-true, cond-false, lt-ltb, le-ltb}
use Rattle.std.proofs.lemmas.Nat.{pow-add}
use Rattle.std.specs.Prelude.{nat_lt}
use Rattle.std.proofs.lemmas.List.Edits.{Swapped}
use Rattle.std.proofs.Math.Nat.{mul_assoc, mul-div_cancel, pow-le-pow_right, mod-eq_of_lt}
use Rattle.std.proofs.Math.Seq.{take-suc}
use Rattle.ark_math.specs.Field.{FieldOn, IsField, minus}
use Rattle.ark_math_variables.specs.Multilinear.{extension, fixed}
use Rattle.ark_math.specs.Univariate.{IsBelow, of_list, added, difference, scaled}
use Rattle.ark_math_variables.proofs.Polynomials.Cube.{pow_twice}
use Rattle.ark_tables.proofs.Exchanged.{parts_fit, exchanged_index-below}
use Rattle.ark_tables.specs.Exchanged.{part, exchanged_index}
use Rattle.ark_math_variables.proofs.Polynomials.Multilinear.{bound-below, extension-last, extension-same, fixed-one, fixed-push, last_bound}
use Rattle.ark_math_polynomials.proofs.Polynomials.Univariate.{same_below}
use Rattle.ark_math_polynomials.proofs.Polynomials.UnivariateLists.{of_list-past}

-- ---- lengths

pub pow_left : (a n i j : ℕ) → i ≤ j → a * 2 ^ i ≡ n * 2 ^ j → a ≡ n * 2 ^ (j - i)
pow_left a n i j le e =
    let k : (j - i) + i ≡ j = omega arith in
    let whole : a * 2 ^ i ≡ (n * 2 ^ (j - i)) * 2 ^ i =
    e ∙ ap (λ m. n * 2 ^ m) (sym k) ∙ ap (λ m. n * m) (pow-add 2 (j - i) i) ∙ sym (mul_assoc n (2 ^ (j - i)) (2 ^ i)) in
    sym (mul-div_cancel a (pow_pos i)) ∙ ap (λ m. m / 2 ^ i) whole ∙ mul-div_cancel (n * 2 ^ (j - i)) (pow_pos i)

-- a table is even as long as a variable is left
pub even_left : (a n i j h : ℕ) → i < j → a * 2 ^ i ≡ h → n * 2 ^ j ≡ h → a ≡ 2 * (a / 2)
even_left a n i j h l e f =
    let is : a ≡ n * 2 ^ (j - i) = pow_left a n i j (omega arith) (e ∙ sym f) in
    let more : j - i ≡ suc (j - i - 1) = omega arith in
    let twice : 2 ^ (j - i) ≡ 2 * 2 ^ (j - i - 1) = ap (λ k. 2 ^ k) more ∙ pow_twice (j - i - 1) in
    let even : a ≡ 2 * (n * 2 ^ (j - i - 1)) = is ∙ ap (λ k. n * k) twice ∙ grind arith in
    omega arith

module _ {F : Type 0} (K : FieldOn F) (N : IsField K) where
  -- the lower half, once it holds what is left
  pub fixed-half : (t : List F) (x : F) (u : List F) (h : ℕ) → length t ≡ 2 * h → length u ≡ length t → ((i : ℕ) → i < h → of_list K u i ≡ fixed K (of_list K t) (x ∷ []) i) → of_list K (take h u) ≡ fixed K (of_list K t) (x ∷ [])
  fixed-half t x u h e same inside =
      same_below K h (of_list K (take h u)) (fixed K (of_list K t) (x ∷ []))
      (λ i past. of_list-past K (take h u) i (let e = length-take h u in omega arith))
      (subst (IsBelow K h) (sym (fixed-one K N (of_list K t) x)) (bound-below K N (of_list K t) x h (λ i past. of_list-past K t i (omega arith))))
      (λ i below. get_or-take h u i K.zero below ∙ inside i below)

module _ {F : Type 0} (K : FieldOn F) (N : IsField K) where
  -- the last variable is bound over the lower half of a table
  pub halves_bound : (t low high : List F) (f : ℕ → F) (p : List F) (x : F) (h : ℕ) → h ≡ 2 ^ length p → ((k : ℕ) → k < h → of_list K low k ≡ of_list K t k) → ((k : ℕ) → of_list K high k ≡ of_list K t (h + k))
      → f ≡ added K (of_list K low) (scaled K x (difference K (of_list K high) (of_list K low))) → extension K f p ≡ extension K (of_list K t) (p ++ x ∷ [])
  halves_bound t low high f p x h n lower upper e =
      extension-same K N f (last_bound K (length p) (of_list K t) x) p
      (λ b l. ap (λ s. s b) e ∙ ap₂ (λ u v. K.plus u (K.times x (minus K v u))) (lower b (omega arith)) (upper b ∙ ap (λ m. of_list K t (m + b)) n))
      ∙ sym (extension-last K N (of_list K t) p x)

-- what is left of the table t when the first i variables are bound to the items of p
pub record IsLeft {F : Type 0} (K : FieldOn F) (t p : List F) (i : ℕ) (left : List F) : Type 0 where
  pub values : of_list K left ≡ fixed K (of_list K t) (take i p)
  pub len : length left * 2 ^ i ≡ length t

-- what is left is halved when one more variable is bound
pub halved : (a b i h : ℕ) → a * 2 ^ i ≡ h → 2 * b ≡ a → b * 2 ^ (i + 1) ≡ h
halved a b i h e half =
    let next : i + 1 ≡ suc i = omega arith in
    let twice : 2 ^ (i + 1) ≡ 2 * 2 ^ i = ap (λ k. 2 ^ k) next ∙ pow_twice i in
    let double : b * 2 ≡ a = omega arith in
    ap (λ k. b * k) twice ∙ sym (mul_assoc b 2 (2 ^ i)) ∙ ap (λ k. k * 2 ^ i) double ∙ e

module _ {F : Type 0} (K : FieldOn F) (N : IsField K) where
  -- and its values are those with one more item of the point
  pub fixed-next : (f : ℕ → F) (p : List F) (i : ℕ) (g h : ℕ → F) (y : F) → i < length p → y ≡ get_or p i y → g ≡ fixed K f (take i p) → h ≡ fixed K g (y ∷ []) → h ≡ fixed K f (take (i + 1) p)
  fixed-next f p i g h y l is before after =
      let next : i + 1 ≡ suc i = omega arith in
      let items : take (i + 1) p ≡ take i p ++ y ∷ [] = ap (λ k. take k p) next ∙ take-suc p i y l ∙ ap (λ z. take i p ++ z ∷ []) (sym is) in
      after ∙ ap (λ t. fixed K t (y ∷ [])) before ∙ fixed-one K N (fixed K f (take i p)) y
      ∙ sym (fixed-push K N f (take i p) y)
      ∙ ap (fixed K f) (sym items)

  pub IsLeft-more : (t p : List F) (i : ℕ) (u v : List F) (y : F) → i < length p → y ≡ get_or p i y → IsLeft K t p i u → of_list K v ≡ fixed K (of_list K u) (y ∷ []) → 2 * length v ≡ length u → IsLeft K t p (i + 1) v
  IsLeft-more t p i u v y l is left values half = record {
    values = fixed-next (of_list K t) p i (of_list K u) (of_list K v) y l is left.values values;
    len = halved (length u) (length v) i (length t) left.len half;
  }

-- ---- bits of an index exchanged, in words of 64 bits

-- the k bits from i on, moved to j
abbrev pub moved : ℕ → ℕ → ℕ → ℕ → ℕ
moved n i j k = n / 2 ^ i % (1 * 2 ^ k % 18446744073709551616) * 2 ^ j % 18446744073709551616

moved-is : (n i j k : ℕ) → k ≤ 63 → part n i k * 2 ^ j < 2 ^ 63 → moved n i j k ≡ part n i k * 2 ^ j
moved-is n i j k small fits =
    let le : 2 ^ k ≤ 2 ^ 63 = pow-le-pow_right {n = 2} (omega arith) small in
    let one : 1 * 2 ^ k ≡ 2 ^ k = omega arith in
    let size : 1 * 2 ^ k % 18446744073709551616 ≡ 2 ^ k = ap (λ m. m % 18446744073709551616) one ∙ mod-eq_of_lt {n = 2 ^ k} {m = 18446744073709551616} (omega arith) in
    ap (λ m. n / 2 ^ i % m * 2 ^ j % 18446744073709551616) size
    ∙ mod-eq_of_lt {n = part n i k * 2 ^ j} {m = 18446744073709551616} (omega arith)

sums : (n e p q s t p' q' s' t' : ℕ) → p + q ≤ n → e ≡ (n + (s + t)) - (p + q) → e < 2 ^ 63 → (p < 2 ^ 63 → p' ≡ p) → (q < 2 ^ 63 → q' ≡ q) → (s < 2 ^ 63 → s' ≡ s) → (t < 2 ^ 63 → t' ≡ t) → n < 2 ^ 63
    → (p' + q' ≤ n) × (s' + t' < 18446744073709551616) × ((n - (p' + q')) + (s' + t') ≡ e) × ((n - (p' + q')) + (s' + t') < 18446744073709551616)
sums n e p q s t p' q' s' t' fit is small fp fq fs ft below =
    let ep = fp (omega arith) in
    let eq = fq (omega arith) in
    let es = fs (omega arith) in
    let et = ft (omega arith) in
    (omega arith, omega arith, omega arith, omega arith)

-- both windows moved: the sums fit, and give the index with the bits exchanged
pub exchanged_sums : (n i j k : ℕ) → ((i + k ≤ j) × (j + k ≤ 63)) ⊎ ((j + k ≤ i) × (i + k ≤ 63)) → n < 2 ^ 63
    → (moved n i i k + moved n j j k ≤ n) × (moved n j i k + moved n i j k < 18446744073709551616)
    × ((n - (moved n i i k + moved n j j k)) + (moved n j i k + moved n i j k) ≡ exchanged_index n i j k)
    × ((n - (moved n i i k + moved n j j k)) + (moved n j i k + moved n i j k) < 18446744073709551616)
exchanged_sums n i j k w below =
    let apart : (i + k ≤ j) ⊎ (j + k ≤ i) = ⊎_elim (λ h. inl h.0) (λ h. inr h.0) w in
    let small : k ≤ 63 = ⊎_elim (λ h. let l = h.1 in omega arith) (λ h. let l = h.1 in omega arith) w in
    sums n (exchanged_index n i j k) (part n i k * 2 ^ i) (part n j k * 2 ^ j) (part n j k * 2 ^ i) (part n i k * 2 ^ j)
    (moved n i i k) (moved n j j k) (moved n j i k) (moved n i j k)
    (parts_fit i j k apart n) refl (exchanged_index-below 63 i j k (inr (inr w)) n below)
    (moved-is n i i k small) (moved-is n j j k small) (moved-is n j i k small) (moved-is n i j k small) below

-- ---- items exchanged

-- t with the items at c and at s c exchanged, where one of both is below i
abbrev pub exchanged_below : {F : Type 0} → (ℕ → ℕ) → ℕ → (ℕ → F) → ℕ → F
exchanged_below s i t c = cond (nat_lt (min c (s c)) i) (t (s c)) (t c)

module _ {F : Type 0} (s : ℕ → ℕ) (t : ℕ → F) where
  pub exchanged_below-inside : (i c : ℕ) → min c (s c) < i → exchanged_below s i t c ≡ t (s c)
  exchanged_below-inside i c l = cond-true (nat_lt (min c (s c)) i) (t (s c)) (t c) (lt-ltb (min c (s c)) i l)

  exchanged_below-outside : (i c : ℕ) → i ≤ min c (s c) → exchanged_below s i t c ≡ t c
  exchanged_below-outside i c l = cond-false (nat_lt (min c (s c)) i) (t (s c)) (t c) (le-ltb (min c (s c)) i l)

  exchanged_below-next : (i c : ℕ) → (min c (s c) ≡ i → t (s c) ≡ t c) → exchanged_below s i t c ≡ exchanged_below s (i + 1) t c
  exchanged_below-next i c same = ⊎_elim
      (λ (l : min c (s c) < i). exchanged_below-inside i c l ∙ sym (exchanged_below-inside (i + 1) c (omega arith)))
      (λ (l : i ≤ min c (s c)). exchanged_below-outside i c l ∙ ⊎_elim
      (λ (e : min c (s c) ≡ i). sym (same e) ∙ sym (exchanged_below-inside (i + 1) c (omega arith)))
      (λ (ne : min c (s c) ≢ i). sym (exchanged_below-outside (i + 1) c (omega arith)))
      (cases_eq (min c (s c)) i))
      (cases_lt (min c (s c)) i)

  -- where s goes there and back, a swap exchanges the two items at i and at s i
  pub exchanged_below-swap : ((n : ℕ) → s (s n) ≡ n) → (i : ℕ) → i < s i → (f g : ℕ → F) → ((c : ℕ) → f c ≡ exchanged_below s i t c) → Swapped f g i (s i) → (c : ℕ) → g c ≡ exchanged_below s (i + 1) t c
  exchanged_below-swap twice i l f g is swapped c =
      let back = twice i in
      ⊎_elim
      (λ (e : c ≡ i). subst (λ k. g k ≡ exchanged_below s (i + 1) t k) (sym e)
      (swapped.0 ∙ is (s i) ∙ exchanged_below-outside i (s i) (omega arith) ∙ sym (exchanged_below-inside (i + 1) i (omega arith))))
      (λ (ne : c ≢ i). ⊎_elim
      (λ (e : c ≡ s i). subst (λ k. g k ≡ exchanged_below s (i + 1) t k) (sym e)
      (swapped.1 ∙ is i ∙ exchanged_below-outside i i (omega arith) ∙ ap t (sym back) ∙ sym (exchanged_below-inside (i + 1) (s i) (omega arith))))
      (λ (other : c ≢ s i).
      let there : s c ≢ i = λ e. other (sym (twice c) ∙ ap s e) in
      swapped.2 c ne other ∙ is c ∙ exchanged_below-next i c (λ e. absurd (omega arith)))
      (cases_eq c (s i)))
      (cases_eq c i)

  -- and there is nothing to do where s i isn't above i
  pub exchanged_below-kept : ((n : ℕ) → s (s n) ≡ n) → (i : ℕ) → s i ≤ i → (c : ℕ) → exchanged_below s i t c ≡ exchanged_below s (i + 1) t c
  exchanged_below-kept twice i l c = exchanged_below-next i c (λ e. ap t (⊎_elim
      (λ (at : c ≡ i). let k : s c ≡ s i = ap s at in omega arith)
      (λ (ne : c ≢ i).
      let there : s c ≡ i = omega arith in
      let back : c ≡ s i = sym (twice c) ∙ ap s there in
      omega arith)
      (cases_eq c i)))
