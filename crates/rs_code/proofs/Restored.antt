-- What the steps of a restoration give.
use Rattle.std.proofs.Common.{◌≡◌, ◌≢◌, ℕ, ◌+◌, ◌<◌, ◌≤◌, Bool, true, false, List, length, map, get_or, sym, ◌∙◌, ap, ap₂, refl, arith, ⊎_elim, subst}
use Rattle.std.proofs.lemmas.Bool.{cases_lt}
use Rattle.std.proofs.lemmas.List.{ext_get_or, get_or_past}
use Rattle.ark_math.specs.Field.{FieldOn, IsField, power, natural}
use Rattle.ark_math.specs.Module.{ModuleOn, IsModule, item, sum_below, tabulate}
use Rattle.ark_math.specs.Root.{HasOrder}
use Rattle.ark_math.specs.Domain.{Domain, element}
use Rattle.ark_math.specs.Transform.{transform, fit, value_at, IsInverse, IsOnlyInverse}
use Rattle.ark_math.specs.Univariate.{of_list}
use Rattle.ark_math.proofs.Algebra.Groups.{zero_scale}
use Rattle.ark_math.proofs.Algebra.Sums.{sum_below-same}
use Rattle.ark_math.proofs.Lists.Tabulated.{length-tabulate, item-tabulate, is_tabulated}
use Rattle.ark_math_domains.proofs.Callers.Transforms.{fit-same, transform-length}
use Rattle.rs_code.specs.Codeword.{IsCodeword, AgreesElsewhere, mark_count}
use Rattle.rs_code.specs.Locator.{lost, locator_at, derivative_at, euler, by_factors, IsFactor, AreFactors, weighed, filled}
use Rattle.rs_code.proofs.Locators.{value, value-same, IsShort, by_factors-short, by_factors-value, euler-value}
use Rattle.rs_code.proofs.Lost.{locator_at-lost, locator_at-kept, lost-length}
use Rattle.rs_code.proofs.Divided.{divided, scale_cancel}
use Rattle.rs_code.proofs.Places.{unmarked_within}

-- values that are weighed by copies of the marks and the factors
pub weighed_by : {F M X : Type 0} (K : FieldOn F) (V : ModuleOn F M) (m : X → M) (marks copied_marks : List Bool) (w copied_w : List F) (word copied_word values : List X) (n : ℕ) →
    copied_marks ≡ marks → copied_w ≡ w → copied_word ≡ word → length copied_marks ≡ n →
    ((i : ℕ) → i < length copied_marks → item V (map m values) i ≡ weighed V (get_or copied_marks i true) (of_list K copied_w i) (item V (map m copied_word) i)) →
    (i : ℕ) → i < n → item V (map m values) i ≡ weighed V (get_or marks i true) (of_list K w i) (item V (map m word) i)
weighed_by K V m marks copied_marks w copied_w word copied_word values n marks_are w_is word_is long each i l =
    each i (omega (arith, l, long))
    ∙ ap (λ x. weighed V (get_or x i true) (of_list K copied_w i) (item V (map m copied_word) i)) marks_are
    ∙ ap₂ (λ x y. weighed V (get_or marks i true) (of_list K x i) (item V (map m y) i)) w_is word_is

module _ {F M : Type 0} {K : FieldOn F} {V : ModuleOn F M} (N : IsField K) (L : IsModule K V) (d : Domain F) where
  -- ---- transforms as values

  value_at-fit : (c : List M) (n : ℕ) (x : F) → value_at K V (fit V c n) x ≡ value K V n (item V c) x
  value_at-fit c n x =
      ap (λ t. sum_below V t (λ i. V.scale (power K x i) (item V (fit V c n) i))) (length-tabulate n (item V c))
      ∙ sum_below-same V n (λ i. V.scale (power K x i) (item V (fit V c n) i)) (λ i. V.scale (power K x i) (item V c i))
      (λ i l. ap (V.scale (power K x i)) (item-tabulate V n (item V c) i l))

  pub transform-item : (c : List M) (i : ℕ) → i < d.size → item V (transform K V d c) i ≡ value K V d.size (item V c) (element K d i)
  transform-item c i l = item-tabulate V d.size (λ k. value_at K V (fit V c d.size) (element K d k)) i l ∙ value_at-fit c d.size (element K d i)

  pub transform-from : (c r : List M) → length r ≡ d.size → ((i : ℕ) → i < d.size → item V r i ≡ value K V d.size (item V c) (element K d i)) → r ≡ transform K V d c
  transform-from c r e h = is_tabulated V.zero r d.size (λ i. value_at K V (fit V c d.size) (element K d i)) e (λ i l. h i l ∙ sym (value_at-fit c d.size (element K d i)))

  pub list-short : (c : List M) (n : ℕ) → length c ≤ n → IsShort V n (item V c)
  list-short c n l i b = get_or_past c i V.zero (omega arith)

  tabulate-item : (n : ℕ) (a : ℕ → M) → IsShort V n a → (i : ℕ) → item V (tabulate n a) i ≡ a i
  tabulate-item n a short i =
      ⊎_elim
      (λ (l : i < n). item-tabulate V n a i l)
      (λ (b : n ≤ i). get_or_past (tabulate n a) i V.zero (omega (arith, length-tabulate n a)) ∙ sym (short i b))
      (cases_lt i n)

  -- ---- the restored places

  module _ (o : HasOrder K d.root d.size) (off : d.offset ≢ K.zero) (marks : List Bool) (k : ℕ) (size : length marks ≡ d.size) (few : k + mark_count marks ≤ d.size) where
    -- what is interpolated for a codeword that the word agrees with: its polynomial times the product of x - r
    interpolated : (w : List F) (y v u : List M) → AreFactors K d marks w →
        length v ≡ d.size → ((i : ℕ) → i < d.size → item V v i ≡ weighed V (get_or marks i true) (of_list K w i) (item V y i)) → IsOnlyInverse K V d v u →
        (m : List M) → length m ≤ k → AgreesElsewhere V marks y (transform K V d m) → tabulate d.size (by_factors K V (lost K d marks) (item V m)) ≡ u
    interpolated w y v u factors v_size v_is only m short agrees =
        let n = d.size in
        let rs = lost K d marks in
        let a = item V m in
        let b = by_factors K V rs a in
        let t = tabulate n b in
        let other = transform K V d m in
        let below : IsShort V k a = list-short m k short in
        let room : k + length rs ≤ n = omega (arith, lost-length K d marks) in
        let b_short : IsShort V n b = by_factors-short N L k n rs a below room in
        let products : (i : ℕ) → i < n → item V v i ≡ V.scale (locator_at K rs (element K d i)) (item V other i) = λ i l.
        elim (get_or marks i true) as (λ p. get_or marks i true ≡ p → item V v i ≡ V.scale (locator_at K rs (element K d i)) (item V other i)) [
          | true ↦ λ e.
              v_is i l
              ∙ ap (λ x. weighed V x (of_list K w i) (item V y i)) e
              ∙ sym (ap (λ x. V.scale x (item V other i)) (locator_at-lost K N d o off marks i (omega arith) e) ∙ zero_scale N L (item V other i))
          | false ↦ λ e.
              v_is i l
              ∙ ap (λ x. weighed V x (of_list K w i) (item V y i)) e
              ∙ ap₂ V.scale (subst (λ x. IsFactor K rs (element K d i) x (of_list K w i)) e (factors.each i l)) (sym (agrees i e))
        ] refl in
        only t (record {
          size = length-tabulate n b;
          values =
              sym (transform-from t v v_size
              (λ i l.
              products i l
              ∙ ap (V.scale (locator_at K rs (element K d i))) (transform-item m i l)
              ∙ sym (value-same N L n (item V t) b (element K d i) (λ j _. tabulate-item n b b_short j) ∙ by_factors-value N L k n rs (element K d i) a below room)))
              ∙ sym (fit-same V v n v_size);
        })

    -- item by item
    pub interpolated-items : (w : List F) (y v u : List M) → AreFactors K d marks w →
        length v ≡ d.size → ((i : ℕ) → i < d.size → item V v i ≡ weighed V (get_or marks i true) (of_list K w i) (item V y i)) → IsOnlyInverse K V d v u →
        (m : List M) → length m ≤ k → AgreesElsewhere V marks y (transform K V d m) → (i : ℕ) → item V u i ≡ by_factors K V (lost K d marks) (item V m) i
    interpolated-items w y v u factors v_size v_is only m short agrees i =
        ap (λ x. item V x i) (sym (interpolated w y v u factors v_size v_is only m short agrees))
        ∙ tabulate-item d.size (by_factors K V (lost K d marks) (item V m))
        (by_factors-short N L k d.size (lost K d marks) (item V m) (list-short m k short) (omega (arith, lost-length K d marks, few))) i

    -- and it has no items from k and the number of marked places on
    pub interpolated-rest : (w : List F) (y v u : List M) → AreFactors K d marks w →
        length v ≡ d.size → ((i : ℕ) → i < d.size → item V v i ≡ weighed V (get_or marks i true) (of_list K w i) (item V y i)) → IsOnlyInverse K V d v u →
        (other : List M) → IsCodeword K V d k other → AgreesElsewhere V marks y other → (i : ℕ) → k + mark_count marks ≤ i → item V u i ≡ V.zero
    interpolated-rest w y v u factors v_size v_is only other (m, short, is) agrees i l =
        let rs = lost K d marks in
        let a = item V m in
        let b = by_factors K V rs a in
        let below : IsShort V k a = list-short m k short in
        let same = interpolated w y v u factors v_size v_is only m short (subst (AgreesElsewhere V marks y) is agrees) in
        ap (λ x. item V x i) (sym same)
        ∙ tabulate-item d.size b (by_factors-short N L k d.size rs a below (omega (arith, lost-length K d marks))) i
        ∙ by_factors-short N L k (k + length rs) rs a below (omega arith) i (omega (arith, lost-length K d marks))

    -- without such items there is a codeword that the word agrees with
    pub codeword-from_rest : (w : List F) (y v u : List M) → AreFactors K d marks w →
        length v ≡ d.size → ((i : ℕ) → i < d.size → item V v i ≡ weighed V (get_or marks i true) (of_list K w i) (item V y i)) → IsInverse K V d v u →
        ((i : ℕ) → k + mark_count marks ≤ i → item V u i ≡ V.zero) →
        (other : List M) × IsCodeword K V d k other × AgreesElsewhere V marks y other
    codeword-from_rest w y v u factors v_size v_is inverse rest =
        let n = d.size in
        let rs = lost K d marks in
        let a = item V u in
        let count = lost-length K d marks in
        let room : k + length rs ≤ n = omega (arith, count) in
        let there : (i : ℕ) → i < n → item V v i ≡ value K V n a (element K d i) = λ i l.
        ap (λ x. item V x i) (sym (inverse.values ∙ fit-same V v n v_size)) ∙ transform-item u i l in
        let roots : (j : ℕ) → j < length marks → get_or marks j true ≡ true → value K V n a (element K d (0 + j)) ≡ V.zero = λ j l e.
        (let same : 0 + j ≡ j = omega arith in ap (λ x. value K V n a (element K d x)) same)
        ∙ sym (there j (omega arith))
        ∙ v_is j (omega arith)
        ∙ ap (λ x. weighed V x (of_list K w j) (item V y j)) e in
        let found = divided N L d o off n k 0 marks a (λ j l. rest j (omega (arith, count))) room (omega arith) roots in
        let q = found.0 in
        let q_short : IsShort V k q = found.1 in
        let is : a ≡ by_factors K V rs q = found.2 in
        let m = tabulate k q in (
          transform K V d m,
          (m, omega (arith, length-tabulate k q), refl),
          λ i e.
              let l : i < n = omega (arith, unmarked_within marks i e) in
              let x = element K d i in
              transform-item m i l
              ∙ value-same N L n (item V m) q x (λ j _. tabulate-item k q q_short j)
              ∙ scale_cancel N L (locator_at K rs x) (value K V n q x) (item V y i) (locator_at-kept K N d o off marks i (omega arith) (omega arith) e)
              (sym (by_factors-value N L k n rs x q q_short room)
              ∙ ap (λ t. value K V n t x) (sym is)
              ∙ sym (there i l)
              ∙ v_is i l
              ∙ ap (λ p. weighed V p (of_list K w i) (item V y i)) e
              ∙ ap (λ f. V.scale f (item V y i)) (subst (λ p. IsFactor K rs x p (of_list K w i)) e (factors.each i l))),
        )

    -- the value of x times the derivative at a marked place
    pub lost-value : (u s m : List M) → length m ≤ k → ((i : ℕ) → item V u i ≡ by_factors K V (lost K d marks) (item V m) i) → ((i : ℕ) → i < d.size → item V s i ≡ euler K V (item V u) i)
        → (i : ℕ) → i < d.size → get_or marks i true ≡ true → value K V d.size (item V s) (element K d i) ≡ V.scale (K.times (element K d i) (derivative_at K (lost K d marks) (element K d i))) (item V (transform K V d m) i)
    lost-value u s m short u_is s_is i l e =
        let n = d.size in
        let rs = lost K d marks in
        let a = item V m in
        let x = element K d i in
        let f = K.times x (derivative_at K rs x) in
        let room : k + length rs ≤ n = omega (arith, lost-length K d marks) in
        value-same N L n (item V s) (euler K V (by_factors K V rs a)) x (λ j h. s_is j h ∙ ap (V.scale (natural K j)) (u_is j))
        ∙ euler-value N L k n rs x a (list-short m k short) room
        ∙ ap₂ (λ y z. V.plus (V.scale f y) (V.scale z (value K V n (euler K V a) x))) (sym (transform-item m i l)) (locator_at-lost K N d o off marks i (omega arith) e)
        ∙ ap (V.plus (V.scale f (item V (transform K V d m) i))) (zero_scale N L (value K V n (euler K V a) x))
        ∙ L.plus_zero (V.scale f (item V (transform K V d m) i))

    -- what is filled in from it is the codeword's value
    pub filled-place : (w : List F) (y m : List M) → AreFactors K d marks w → AgreesElsewhere V marks y (transform K V d m) → (i : ℕ) (z : M) → i < d.size
        → (get_or marks i true ≡ true → z ≡ V.scale (K.times (element K d i) (derivative_at K (lost K d marks) (element K d i))) (item V (transform K V d m) i))
        → filled V (get_or marks i true) (of_list K w i) (item V y i) z ≡ item V (transform K V d m) i
    filled-place w y m factors agrees i z l is =
        let rs = lost K d marks in
        let x = element K d i in
        let f = of_list K w i in
        let other = item V (transform K V d m) i in
        elim (get_or marks i true) as (λ p. get_or marks i true ≡ p → filled V (get_or marks i true) f (item V y i) z ≡ other) [
          | true ↦ λ e.
              let one : K.times f (K.times x (derivative_at K rs x)) ≡ K.one = subst (λ p. IsFactor K rs x p f) e (factors.each i l) in
              ap (λ p. filled V p f (item V y i) z) e
              ∙ ap (V.scale f) (is e)
              ∙ sym (L.times_scale f (K.times x (derivative_at K rs x)) other)
              ∙ ap (λ t. V.scale t other) one
              ∙ L.one_scale other
          | false ↦ λ e.
              ap (λ p. filled V p f (item V y i) z) e ∙ sym (agrees i e)
        ] refl

    -- so the steps make of a word the codeword of each message whose codeword it agrees with
    pub restored : (w : List F) (y u s c m : List M) → AreFactors K d marks w → length m ≤ k → AgreesElsewhere V marks y (transform K V d m) →
        ((i : ℕ) → item V u i ≡ by_factors K V (lost K d marks) (item V m) i) → ((i : ℕ) → i < d.size → item V s i ≡ euler K V (item V u) i) →
        length c ≡ d.size → ((i : ℕ) → i < d.size → item V c i ≡ filled V (get_or marks i true) (of_list K w i) (item V y i) (item V (transform K V d s) i)) →
        transform K V d m ≡ c
    restored w y u s c m factors short agrees u_is s_is c_size c_is =
        ext_get_or V.zero (transform K V d m) c (transform-length K V d m ∙ sym c_size)
        (λ i h.
        let l : i < d.size = omega (arith, h, transform-length K V d m) in
        sym (c_is i l ∙ filled-place w y m factors agrees i (item V (transform K V d s) i) l (λ e. transform-item s i l ∙ lost-value u s m short u_is s_is i l e)))
