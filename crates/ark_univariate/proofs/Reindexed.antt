-- The order that starts with the places of a subdomain: its formula, and that it meets each place once.
use Rattle.std.proofs.Common.{◌≡◌, ◌≢◌, ℕ, suc, ◌+◌, ◌-◌, ◌*◌, ◌/◌, ◌%◌, ◌<◌, ◌≤◌, ◌++◌, length, get_or, not, cond, sym, ◌∙◌, ap, ap₂, subst, arith, ⊎_elim}
use Rattle.std.specs.Prelude.{filter}
use Rattle.std.proofs.Math.Nat.{mod-add-div, mul-le-mul_right}
use Rattle.std.proofs.lemmas.Nat.{div-mul-add, mod-mul-add, div_below}
use Rattle.std.proofs.lemmas.Bool.{cases_lt, cases_eq, cond-true, cond-false}
use Rattle.std.proofs.lemmas.List.{length-append, get_or_append_left, get_or-append_right}
use Rattle.ark_math.specs.Module.{tabulate}
use Rattle.ark_math_domains.specs.Points.{reindexed}
use Rattle.ark_univariate.proofs.Multiples.{number, is_multiple, other, multiple_yes, multiple_no, multiples, others}
use Rattle.ark_math.proofs.Lists.Tabulated.{length-tabulate, get_or-tabulate}

-- ---- back from a place to its index

abbrev back : ℕ → ℕ → ℕ → ℕ
back x s k = cond (is_multiple (suc x) k) (k / suc x) (s + (k / suc x * x + (k % suc x - 1)))

module _ (x s : ℕ) where
  back_first : (i : ℕ) → back x s (i * suc x) ≡ i
  back_first i =
      let e : i * suc x ≡ i * suc x + 0 = omega arith in
      cond-true _ _ _ (multiple_yes x i) ∙ ap (λ t. t / suc x) e ∙ div-mul-add i (suc x) 0 (omega arith)

  other_is : (j : ℕ) → other x j ≡ suc (j / x * suc x) + j % x
  other_is j =
      let e : x * (j / x) + j % x ≡ j = omega (arith, mod-add-div j x) in
      omega arith

  back_rest : (j : ℕ) → 0 < x → back x s (other x j) ≡ s + j
  back_rest j some =
      let q = j / x in
      let r = j % x in
      let l : r < x = omega arith in
      let e : x * q + r ≡ j = omega (arith, mod-add-div j x) in
      let f : other x j ≡ q * suc x + suc r = omega arith in
      let left : other x j % suc x ≡ suc r = ap (λ t. t % suc x) f ∙ mod-mul-add q (suc x) (suc r) (omega arith) in
      let over : other x j / suc x ≡ q = ap (λ t. t / suc x) f ∙ div-mul-add q (suc x) (suc r) (omega arith) in
      cond-false _ _ _ (ap (is_multiple (suc x)) (other_is j) ∙ multiple_no x q r l)
      ∙ ap₂ (λ a b. s + (a * x + (b - 1))) over left
      ∙ omega arith

  other_below : (j : ℕ) → j < s * x → other x j < s * suc x
  other_below j l =
      ⊎_elim
      (λ (some : 0 < x).
      let q : j / x < s = div_below j x s some l in
      let e : x * (j / x) + j % x ≡ j = omega (arith, mod-add-div j x) in
      let r : j % x < x = omega arith in
      let m : (j / x + 1) * suc x ≤ s * suc x = mul-le-mul_right (suc x) (omega arith) in
      let f : other x j ≡ j / x * suc x + suc (j % x) = omega arith in
      omega arith)
      (λ (none : x ≤ 0). let z : s * x ≡ s * 0 = ap (λ t. s * t) (omega arith) in absurd (omega arith))
      (cases_lt 0 x)

-- ---- the whole

module _ (n s : ℕ) (some : 0 < n) (divides : n % s ≡ 0) where
  whole : s * (n / s) ≡ n
  whole = omega (arith, mod-add-div n s)

  step : n / s ≡ suc (n / s - 1)
  step =
      ⊎_elim
      (λ (l : 0 < n / s). omega arith)
      (λ (l : n / s ≤ 0). let z : s * (n / s) ≡ s * 0 = ap (λ t. s * t) (omega arith) in let w = whole in absurd (omega arith))
      (cases_lt 0 (n / s))

  total : n ≡ s * suc (n / s - 1)
  total = sym whole ∙ ap (λ t. s * t) step

  reindexed_is : reindexed n s ≡ tabulate s (λ i. i * suc (n / s - 1)) ++ tabulate (s * (n / s - 1)) (other (n / s - 1))
  reindexed_is =
      ap₂ (λ t m. filter (is_multiple t) (tabulate m number) ++ filter (λ i. not (is_multiple t i)) (tabulate m number)) step total
      ∙ ap₂ (λ xs ys. xs ++ ys) (multiples (n / s - 1) s) (others (n / s - 1) s)

  pub length-reindexed : length (reindexed n s) ≡ n
  length-reindexed =
      let e : s * suc (n / s - 1) ≡ s + s * (n / s - 1) = omega arith in
      ap length reindexed_is
      ∙ length-append (tabulate s (λ i. i * suc (n / s - 1))) (tabulate (s * (n / s - 1)) (other (n / s - 1)))
      ∙ ap₂ (λ a b. a + b) (length-tabulate s (λ i. i * suc (n / s - 1))) (length-tabulate (s * (n / s - 1)) (other (n / s - 1)))
      ∙ sym e
      ∙ sym total

  pub reindexed_first : (i : ℕ) → i < s → get_or (reindexed n s) i 0 ≡ i * (n / s)
  reindexed_first i l =
      let xs = tabulate s (λ i. i * suc (n / s - 1)) in
      let b : i < length xs = rw (length-tabulate s (λ i. i * suc (n / s - 1))) l in
      ap (λ t. get_or t i 0) reindexed_is
      ∙ get_or_append_left xs (tabulate (s * (n / s - 1)) (other (n / s - 1))) 0 i b
      ∙ get_or-tabulate s (λ i. i * suc (n / s - 1)) i 0 l
      ∙ ap (λ t. i * t) (sym step)

  pub reindexed_rest : (i : ℕ) → s ≤ i → i < n → get_or (reindexed n s) i 0 ≡ i - s + (i - s) / (n / s - 1) + 1
  reindexed_rest i l m =
      let xs = tabulate s (λ i. i * suc (n / s - 1)) in
      let e : s * suc (n / s - 1) ≡ s + s * (n / s - 1) = omega arith in
      let t = total in
      ap (λ t. get_or t i 0) reindexed_is
      ∙ get_or-append_right xs (tabulate (s * (n / s - 1)) (other (n / s - 1))) s i 0 (length-tabulate s (λ i. i * suc (n / s - 1))) l
      ∙ get_or-tabulate (s * (n / s - 1)) (other (n / s - 1)) (i - s) 0 (omega arith)

  -- ---- each place once

  first : (i : ℕ) → i < s → get_or (reindexed n s) i 0 ≡ i * suc (n / s - 1)
  first i l = reindexed_first i l ∙ ap (λ t. i * t) step

  rest_below : (i : ℕ) → s ≤ i → i < n → i - s < s * (n / s - 1)
  rest_below i l m = let t = total in omega arith

  rest_some : (i : ℕ) → i - s < s * (n / s - 1) → 0 < n / s - 1
  rest_some i l =
      ⊎_elim
      (λ (b : 0 < n / s - 1). b)
      (λ (b : n / s - 1 ≤ 0). let z : s * (n / s - 1) ≡ s * 0 = ap (λ t. s * t) (omega arith) in absurd (omega arith))
      (cases_lt 0 (n / s - 1))

  pub reindexed_below : (i : ℕ) → i < n → get_or (reindexed n s) i 0 < n
  reindexed_below i l =
      let t = total in
      ⊎_elim
      (λ (b : i < s).
      let m : (i + 1) * suc (n / s - 1) ≤ s * suc (n / s - 1) = mul-le-mul_right (suc (n / s - 1)) (omega arith) in
      subst (λ k. k < n) (sym (first i b)) (omega arith))
      (λ (b : s ≤ i).
      let m : other (n / s - 1) (i - s) < s * suc (n / s - 1) = other_below (n / s - 1) s (i - s) (rest_below i b l) in
      subst (λ k. k < n) (sym (reindexed_rest i b l)) (omega arith))
      (cases_lt i s)

  reindexed_back : (i : ℕ) → i < n → back (n / s - 1) s (get_or (reindexed n s) i 0) ≡ i
  reindexed_back i l =
      ⊎_elim
      (λ (b : i < s). ap (back (n / s - 1) s) (first i b) ∙ back_first (n / s - 1) s i)
      (λ (b : s ≤ i).
      ap (back (n / s - 1) s) (reindexed_rest i b l) ∙ back_rest (n / s - 1) s (i - s) (rest_some i (rest_below i b l)) ∙ omega arith)
      (cases_lt i s)

  pub reindexed_once : (i j : ℕ) → i < n → j < n → get_or (reindexed n s) i 0 ≡ get_or (reindexed n s) j 0 → i ≡ j
  reindexed_once i j l m e = sym (reindexed_back i l) ∙ ap (back (n / s - 1) s) e ∙ reindexed_back j m

  pub reindexed_met : (k : ℕ) → k < n → (i : ℕ) × (i < n) × (get_or (reindexed n s) i 0 ≡ k)
  reindexed_met k l =
      let x = n / s - 1 in
      let q = k / suc x in
      let r = k % suc x in
      let t = total in
      let e : suc x * q + r ≡ k = omega (arith, mod-add-div k (suc x)) in
      let b : q < s = div_below k (suc x) s (omega arith) (omega arith) in
      ⊎_elim
      (λ (z : r ≡ 0). (q, omega arith, first q b ∙ omega arith))
      (λ (ne : r ≢ 0).
      let i = s + (q * x + (r - 1)) in
      let c : r < suc x = omega arith in
      let m : (q + 1) * x ≤ s * x = mul-le-mul_right x (omega arith) in
      let f : i - s ≡ q * x + (r - 1) = omega arith in
      let g : (i - s) / x ≡ q = ap (λ t. t / x) f ∙ div-mul-add q x (r - 1) (omega arith) in
      let h : i < n = omega arith in
      (i, h, reindexed_rest i (omega arith) h ∙ omega arith))
      (cases_eq r 0)
