-- Evenly spaced elements of a domain: what is folded has its values there, and tells a message with as many items.
use Rattle.std.proofs.Common.{◌≡◌, ◌≢◌, ℕ, zero, suc, ◌+◌, ◌-◌, ◌*◌, ◌<◌, ◌≤◌, Bool, true, List, length, get_or, inl, inr, sym, ◌∙◌, ap, ap₂, subst, arith}
use Rattle.std.proofs.lemmas.Bool.{cases_eq}
use Rattle.std.proofs.Math.Nat.{mul-le-mul_left, mul-le-mul_right}
use Rattle.ark_math.specs.Field.{FieldOn, IsField, power}
use Rattle.ark_math.specs.Module.{ModuleOn, IsModule, item, sum_below}
use Rattle.ark_math.specs.Root.{Adicity, AreRoots, HasOrder, IsSupported}
use Rattle.ark_math.specs.Domain.{Domain, IsDomain, element}
use Rattle.ark_math.specs.Transform.{transform}
use Rattle.ark_math.specs.Univariate.{of_list}
use Rattle.ark_math.proofs.Algebra.Groups.{scale_zero}
use Rattle.ark_math.proofs.Algebra.Powers.{power-one, power-add, power-mul}
use Rattle.ark_math.proofs.Algebra.Sums.{sum_below-same}
use Rattle.ark_math_transforms.proofs.Domains.Domains.{size_supported}
use Rattle.ark_math_domains.proofs.Domains.Elements.{element-power}
use Rattle.rs_code.specs.Code.{IsSpaced}
use Rattle.rs_code.specs.Codeword.{AgreesElsewhere, mark_count}
use Rattle.rs_code.specs.Locator.{lost, euler, by_factors, AreFactors, filled}
use Rattle.rs_code.proofs.Locators.{value, IsShort}
use Rattle.rs_code.proofs.Restored.{list-short, transform-item, transform-from, lost-value, filled-place}

-- each t-th place of n * t places
pub spaced_within : (j n t : ℕ) → j < n → 0 < t → j * t < n * t
spaced_within j n t l some =
    let h : (j + 1) * t ≤ n * t = mul-le-mul_right t (omega arith) in
    let e : (j + 1) * t ≡ j * t + t = omega arith in
    omega (arith, h, e, some)

-- places that are so far apart are some, and at most all
pub some_stride : (n m t : ℕ) → n ≡ m * t → 0 < n → 0 < t
some_stride n m zero e l = let none : m * 0 ≡ 0 = omega arith in absurd (omega (arith, e, l, none))
some_stride n m (suc t) e l = omega arith

pub part_fits : (n m t : ℕ) → n ≡ m * t → 0 < n → m ≤ n
part_fits n m t e l =
    let h : m * 1 ≤ m * t = mul-le-mul_left m (let some = some_stride n m t e l in omega (arith, some)) in
    omega (arith, h, e)

-- the elements of a domain whose size divides another's
pub spaced_domain : {F : Type 0} (K : FieldOn F) (N : IsField K) (s : Adicity) (root : ℕ → F) (d e : Domain F) (t : ℕ) → AreRoots K s root → IsDomain K s root d → IsDomain K s root e
    → d.size ≡ e.size * t → e.offset ≡ d.offset → IsSpaced K d e t
spaced_domain K N s root d e t R D E size offset =
    let whole = size_supported s d.kind d.size D.size_of in
    record {
      size = size;
      offset = offset;
      each = λ j.
          let tower : e.root ≡ power K d.root t =
          E.root_of ∙ R.tower e.size t (size_supported s e.kind e.size E.size_of) (subst (IsSupported s) size whole) ∙ ap (λ x. power K x t) (ap root (sym size) ∙ sym D.root_of) in
          let same : t * j ≡ j * t = omega arith in
          ap₂ (λ x y. K.times x (power K y j)) offset tower
          ∙ ap (K.times d.offset) (sym (power-mul K N d.root t j) ∙ ap (power K d.root) same);
    }

-- their powers by the size are one
pub element_root : {F : Type 0} (K : FieldOn F) (N : IsField K) (e : Domain F) → HasOrder K e.root e.size → e.offset ≡ K.one → (j : ℕ) → power K (element K e j) e.size ≡ K.one
element_root K N e o off j = element-power K N e o j ∙ ap (λ x. power K x e.size) off ∙ power-one K N e.size

module _ {F M : Type 0} {K : FieldOn F} {V : ModuleOn F M} (N : IsField K) (L : IsModule K V) where
  -- a sum with one summand changed
  sum-changed : (n p : ℕ) (f g : ℕ → M) (c : M) → p < n → g p ≡ V.plus (f p) c → ((i : ℕ) → i < n → i ≢ p → g i ≡ f i) → sum_below V n g ≡ V.plus (sum_below V n f) c
  sum-changed zero p f g c l is same = absurd (omega (arith, l))
  sum-changed (suc n) p f g c l is same = elim (cases_eq n p) [
    | inl e ↦
        ap₂ V.plus (sum_below-same V n g f (λ i h. same i (omega arith) (λ q. omega (arith, q, e, h)))) (ap g e ∙ is ∙ ap (λ i. V.plus (f i) c) (sym e))
        ∙ sym (L.plus_assoc (sum_below V n f) (f n) c)
    | inr ne ↦
        ap₂ V.plus (sum-changed n p f g c (omega (arith, l, ne)) is (λ i h. same i (omega arith))) (same n (omega arith) ne)
        ∙ L.plus_assoc (sum_below V n f) c (f n)
        ∙ ap (V.plus (sum_below V n f)) (L.plus_comm c (f n))
        ∙ sym (L.plus_assoc (sum_below V n f) (f n) c)
  ]

  -- the last coefficient, added m places before, where the m-th power is one
  pub value-carried : (n m : ℕ) (x : F) (a b : ℕ → M) → 0 < m → m ≤ n → power K x m ≡ K.one → b (n - m) ≡ V.plus (a (n - m)) (a n) → ((i : ℕ) → i ≢ n - m → b i ≡ a i)
      → value K V n b x ≡ value K V (n + 1) a x
  value-carried n m x a b some fits one is same =
      let p = n - m in
      let f = λ (i : ℕ). V.scale (power K x i) (a i) in
      let g = λ (i : ℕ). V.scale (power K x i) (b i) in
      let sizes : p + m ≡ n = omega arith in
      let last : n + 1 ≡ suc n = omega arith in
      let powers : power K x p ≡ power K x n =
      sym (ap (power K x) (sym sizes) ∙ power-add K N x p m ∙ ap (K.times (power K x p)) one ∙ N.times_one (power K x p)) in
      sum-changed n p f g (f n) (omega arith)
      (ap (V.scale (power K x p)) is ∙ L.scale_plus (power K x p) (a p) (a n) ∙ ap (λ t. V.plus (f p) (V.scale t (a n))) powers)
      (λ i h ne. ap (V.scale (power K x i)) (same i ne))
      ∙ ap (λ t. sum_below V t f) (sym last)

  -- zeros behind the coefficients change no value
  value-past : (k r : ℕ) (a : ℕ → M) (x : F) → IsShort V k a → value K V (k + r) a x ≡ value K V k a x
  value-past k zero a x short = let e : k + 0 ≡ k = omega arith in ap (λ t. value K V t a x) e
  value-past k (suc r) a x short =
      let e : k + suc r ≡ suc (k + r) = omega arith in
      ap (λ t. value K V t a x) e
      ∙ ap (V.plus (value K V (k + r) a x)) (ap (V.scale (power K x (k + r))) (short (k + r) (omega arith)) ∙ scale_zero L (power K x (k + r)))
      ∙ L.plus_zero (value K V (k + r) a x)
      ∙ value-past k r a x short

  value-longer : (k n : ℕ) (a : ℕ → M) (x : F) → k ≤ n → IsShort V k a → value K V n a x ≡ value K V k a x
  value-longer k n a x l short =
      let e : n ≡ k + (n - k) = omega arith in
      ap (λ t. value K V t a x) e ∙ value-past k (n - k) a x short

  -- what the steps make of a word at evenly spaced places is the transform over these of each message whose codeword it
  -- agrees with
  pub restored_part : (d : Domain F) (o : HasOrder K d.root d.size) (off : d.offset ≢ K.zero) (marks : List Bool) (k : ℕ) (size : length marks ≡ d.size) (few : k + mark_count marks ≤ d.size)
      (e : Domain F) (t : ℕ) → 0 < t → IsSpaced K d e t → k ≤ e.size → (w : List F) (y u s c m : List M) (z : ℕ → M) → AreFactors K d marks w → length m ≤ k → AgreesElsewhere V marks y (transform K V d m)
      → ((i : ℕ) → item V u i ≡ by_factors K V (lost K d marks) (item V m) i) → ((i : ℕ) → i < d.size → item V s i ≡ euler K V (item V u) i)
      → ((j : ℕ) → j < e.size → z j ≡ value K V d.size (item V s) (element K e j))
      → length c ≡ e.size → ((j : ℕ) → j < e.size → item V c j ≡ filled V (get_or marks (j * t) true) (of_list K w (j * t)) (item V y (j * t)) (z j))
      → transform K V e m ≡ c
  restored_part d o off marks k size few e t some spaced room w y u s c m z factors short agrees u_is s_is z_is c_size c_is =
      sym (transform-from N L e m c c_size
      (λ j l.
      let i = j * t in
      let inside : i < d.size = omega (arith, spaced_within j e.size t l some, spaced.size) in
      c_is j l
      ∙ filled-place N L d o off marks k size few w y m factors agrees i (z j) inside
      (λ lost. z_is j l ∙ ap (value K V d.size (item V s)) (spaced.each j) ∙ lost-value N L d o off marks k size few u s m short u_is s_is i inside lost)
      ∙ transform-item N L d m i inside
      ∙ ap (value K V d.size (item V m)) (sym (spaced.each j))
      ∙ value-longer k d.size (item V m) (element K e j) (omega (arith, few)) (list-short N L d m k short)
      ∙ sym (value-longer k e.size (item V m) (element K e j) room (list-short N L d m k short))))
