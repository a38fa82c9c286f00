-- The polynomial of the marked places: zero exactly there, where its derivative isn't.
use Rattle.std.proofs.Common.{◌≡◌, ◌≢◌, ℕ, zero, suc, ◌+◌, ◌<◌, ◌≤◌, Bool, true, false, List, [], ◌∷◌, ◌++◌, length, get_or, take, cond, sym, ◌∙◌, ap, refl, arith, true≢false}
use Rattle.std.proofs.lemmas.List.Sums.{sum_by-cons}
use Rattle.ark_math.specs.Field.{FieldOn, IsField, minus, power}
use Rattle.ark_math.specs.Root.{HasOrder}
use Rattle.ark_math.specs.Domain.{Domain, element}
use Rattle.ark_math.proofs.Algebra.Groups.{itself_is_module, zero_plus, zero_scale}
use Rattle.ark_math.proofs.Algebra.Powers.{times_zero}
use Rattle.ark_math_domains.proofs.Domains.Elements.{elements_differ}
use Rattle.ark_math.proofs.Algebra.NonZero.{power_not_zero, times_not_zero, minus_not_zero, minus_same}
use Rattle.ark_math.proofs.Roots.Order.{root_not_zero}
use Rattle.rs_code.specs.Codeword.{mark_count}
use Rattle.rs_code.specs.Locator.{lost_from, lost, locator_at, derivative_at}

module _ {F : Type 0} (K : FieldOn F) (N : IsField K) (d : Domain F) (o : HasOrder K d.root d.size) (off : d.offset ≢ K.zero) where
  -- not zero before the first place
  locator_before : (i j : ℕ) (marks : List Bool) → j < i → i + length marks ≤ d.size → locator_at K (lost_from K d i marks) (element K d j) ≢ K.zero
  locator_before i j [] l b e = N.one_not_zero e
  locator_before i j (true ∷ marks) l b e =
      times_not_zero K N (minus K (element K d j) (element K d i)) (locator_at K (lost_from K d (suc i) marks) (element K d j))
      (minus_not_zero K N _ _ (elements_differ K N d o off j i l (omega arith)))
      (locator_before (suc i) j marks (omega arith) (omega arith)) e
  locator_before i j (false ∷ marks) l b e = locator_before (suc i) j marks (omega arith) (omega arith) e

  locator_lost : (i j k : ℕ) (marks : List Bool) → j < length marks → get_or marks j true ≡ true → k ≡ i + j → locator_at K (lost_from K d i marks) (element K d k) ≡ K.zero
  locator_lost i j k [] l e s = absurd (omega arith)
  locator_lost i zero k (true ∷ marks) l e s =
      let same : k ≡ i = omega arith in
      ap (λ t. K.times t (locator_at K (lost_from K d (suc i) marks) (element K d k))) (minus_same K N _ _ (ap (element K d) same))
      ∙ zero_scale N (itself_is_module K N) _
  locator_lost i zero k (false ∷ marks) l e s = absurd (true≢false (sym e))
  locator_lost i (suc j) k (true ∷ marks) l e s =
      ap (K.times (minus K (element K d k) (element K d i))) (locator_lost (suc i) j k marks (omega arith) e (omega arith)) ∙ times_zero K N _
  locator_lost i (suc j) k (false ∷ marks) l e s = locator_lost (suc i) j k marks (omega arith) e (omega arith)

  locator_kept : (i j k : ℕ) (marks : List Bool) → j < length marks → i + length marks ≤ d.size → get_or marks j true ≡ false → k ≡ i + j → locator_at K (lost_from K d i marks) (element K d k) ≢ K.zero
  locator_kept i j k [] l b e s = absurd (omega arith)
  locator_kept i zero k (true ∷ marks) l b e s = absurd (true≢false e)
  locator_kept i zero k (false ∷ marks) l b e s = locator_before (suc i) k marks (omega arith) (omega arith)
  locator_kept i (suc j) k (true ∷ marks) l b e s =
      times_not_zero K N (minus K (element K d k) (element K d i)) (locator_at K (lost_from K d (suc i) marks) (element K d k))
      (minus_not_zero K N _ _ (λ same. elements_differ K N d o off i k (omega arith) (omega arith) (sym same)))
      (locator_kept (suc i) j k marks (omega arith) (omega arith) e (omega arith))
  locator_kept i (suc j) k (false ∷ marks) l b e s = locator_kept (suc i) j k marks (omega arith) (omega arith) e (omega arith)

  derivative_lost : (i j k : ℕ) (marks : List Bool) → j < length marks → i + length marks ≤ d.size → get_or marks j true ≡ true → k ≡ i + j → derivative_at K (lost_from K d i marks) (element K d k) ≢ K.zero
  derivative_lost i j k [] l b e s z = absurd (omega arith)
  derivative_lost i zero k (true ∷ marks) l b e s z =
      let same : k ≡ i = omega arith in
      locator_before (suc i) k marks (omega arith) (omega arith)
      (sym (N.plus_zero _)
      ∙ ap (K.plus (locator_at K (lost_from K d (suc i) marks) (element K d k)))
      (sym (ap (λ t. K.times t (derivative_at K (lost_from K d (suc i) marks) (element K d k))) (minus_same K N _ _ (ap (element K d) same)) ∙ zero_scale N (itself_is_module K N) _))
      ∙ z)
  derivative_lost i zero k (false ∷ marks) l b e s z = absurd (true≢false (sym e))
  derivative_lost i (suc j) k (true ∷ marks) l b e s z =
      times_not_zero K N (minus K (element K d k) (element K d i)) (derivative_at K (lost_from K d (suc i) marks) (element K d k))
      (minus_not_zero K N _ _ (λ same. elements_differ K N d o off i k (omega arith) (omega arith) (sym same)))
      (derivative_lost (suc i) j k marks (omega arith) (omega arith) e (omega arith))
      (sym (ap (λ t. K.plus t (K.times (minus K (element K d k) (element K d i)) (derivative_at K (lost_from K d (suc i) marks) (element K d k)))) (locator_lost (suc i) j k marks (omega arith) e (omega arith)) ∙ zero_plus (itself_is_module K N) _)
      ∙ z)
  derivative_lost i (suc j) k (false ∷ marks) l b e s z = derivative_lost (suc i) j k marks (omega arith) (omega arith) e (omega arith) z

  pub locator_at-lost : (marks : List Bool) (j : ℕ) → j < length marks → get_or marks j true ≡ true → locator_at K (lost K d marks) (element K d j) ≡ K.zero
  locator_at-lost marks j l e = locator_lost 0 j j marks l e (omega arith)

  pub locator_at-kept : (marks : List Bool) (j : ℕ) → length marks ≤ d.size → j < length marks → get_or marks j true ≡ false → locator_at K (lost K d marks) (element K d j) ≢ K.zero
  locator_at-kept marks j b l e = locator_kept 0 j j marks l (omega arith) e (omega arith)

  element-not_zero : (i : ℕ) → 0 < d.size → element K d i ≢ K.zero
  element-not_zero i some = times_not_zero K N d.offset (power K d.root i) off (power_not_zero K N d.root i (root_not_zero K N d.root d.size o some))

  -- x times the derivative isn't zero there either
  pub derivative_at-lost : (marks : List Bool) (j : ℕ) → length marks ≤ d.size → j < length marks → get_or marks j true ≡ true → K.times (element K d j) (derivative_at K (lost K d marks) (element K d j)) ≢ K.zero
  derivative_at-lost marks j b l e =
      times_not_zero K N (element K d j) (derivative_at K (lost K d marks) (element K d j)) (element-not_zero j (omega arith)) (derivative_lost 0 j j marks l (omega arith) e (omega arith))

-- ---- the list as it grows

module _ {F : Type 0} (K : FieldOn F) (d : Domain F) where
  lost_length : (i : ℕ) (marks : List Bool) → length (lost_from K d i marks) ≡ mark_count marks
  lost_length i [] = refl
  lost_length i (true ∷ marks) =
      let e = sum_by-cons (λ (mark : Bool). cond mark 1 0) true marks in
      let h = lost_length (suc i) marks in
      omega (arith, e, h)
  lost_length i (false ∷ marks) =
      let e = sum_by-cons (λ (mark : Bool). cond mark 1 0) false marks in
      let h = lost_length (suc i) marks in
      omega (arith, e, h)

  pub lost-length : (marks : List Bool) → length (lost K d marks) ≡ mark_count marks
  lost-length marks = lost_length 0 marks

  lost_take : (i j : ℕ) (marks : List Bool) → j < length marks → get_or marks j true ≡ true → lost_from K d i (take (suc j) marks) ≡ lost_from K d i (take j marks) ++ element K d (i + j) ∷ []
  lost_take i j [] l e = absurd (omega arith)
  lost_take i zero (true ∷ marks) l e = let same : i ≡ i + 0 = omega arith in ap (λ t. element K d t ∷ []) same
  lost_take i zero (false ∷ marks) l e = absurd (true≢false (sym e))
  lost_take i (suc j) (true ∷ marks) l e =
      let same : suc i + j ≡ i + suc j = omega arith in
      ap (λ t. element K d i ∷ t) (lost_take (suc i) j marks (omega arith) e ∙ ap (λ t. lost_from K d (suc i) (take j marks) ++ element K d t ∷ []) same)
  lost_take i (suc j) (false ∷ marks) l e =
      let same : suc i + j ≡ i + suc j = omega arith in
      lost_take (suc i) j marks (omega arith) e ∙ ap (λ t. lost_from K d (suc i) (take j marks) ++ element K d t ∷ []) same

  kept_take : (i j : ℕ) (marks : List Bool) → get_or marks j true ≡ false → lost_from K d i (take (suc j) marks) ≡ lost_from K d i (take j marks)
  kept_take i j [] e = absurd (true≢false e)
  kept_take i zero (true ∷ marks) e = absurd (true≢false e)
  kept_take i zero (false ∷ marks) e = refl
  kept_take i (suc j) (true ∷ marks) e = ap (λ t. element K d i ∷ t) (kept_take (suc i) j marks e)
  kept_take i (suc j) (false ∷ marks) e = kept_take (suc i) j marks e

  pub lost-more : (marks : List Bool) (j : ℕ) → j < length marks → get_or marks j true ≡ true → lost K d (take (j + 1) marks) ≡ lost K d (take j marks) ++ element K d j ∷ []
  lost-more marks j l e =
      let s : j + 1 ≡ suc j = omega arith in
      let z : 0 + j ≡ j = omega arith in
      ap (λ t. lost K d (take t marks)) s ∙ lost_take 0 j marks l e ∙ ap (λ t. lost K d (take j marks) ++ element K d t ∷ []) z

  pub lost-kept : (marks : List Bool) (j : ℕ) → get_or marks j true ≡ false → lost K d (take (j + 1) marks) ≡ lost K d (take j marks)
  lost-kept marks j e = let s : j + 1 ≡ suc j = omega arith in ap (λ t. lost K d (take t marks)) s ∙ kept_take 0 j marks e
