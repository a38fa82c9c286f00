-- Marks that are taken off one by one.
use Rattle.std.proofs.Common.{◌≡◌, ◌≢◌, ℕ, suc, ◌+◌, ◌<◌, Bool, true, false, List, [], ◌∷◌, length, get_or, set, cond, arith, sym, ◌∙◌, ap, refl, inl, inr, get_or-set_other, get_or-set_same}
use Rattle.std.proofs.lemmas.List.Sums.{sum_by-set, sum_by-cons}
use Rattle.std.proofs.lemmas.Bool.{cases_eq, cases_Bool}
use Rattle.rs_code.specs.Codeword.{mark_count}

-- one less
pub marks-less : (marks : List Bool) (i : ℕ) → i < length marks → get_or marks i true ≡ true → mark_count (set marks i false) + 1 ≡ mark_count marks
marks-less marks i l e =
    let s = sum_by-set (λ mark. cond mark 1 0) marks i false true l in
    let c : ◌≡◌ {A = ℕ} (cond (get_or marks i true) 1 0) 1 = ap (λ (b : Bool). cond {A = ℕ} b 1 0) e in
    omega (arith, s, c)

pub all_marked : (marks : List Bool) → ((i : ℕ) → get_or marks i true ≡ true) → mark_count marks ≡ length marks
all_marked [] h = refl
all_marked (true ∷ marks) h = let e = sum_by-cons (λ (mark : Bool). cond mark 1 0) true marks in let r = all_marked marks (λ i. h (suc i)) in omega (arith, e, r)
all_marked (false ∷ marks) h = let bad : false ≡ true = h 0 in cc bad

module _ (marks : List Bool) (places : List ℕ) (a : ℕ) (kept : (i : ℕ) → get_or marks i true ≡ false → (b : ℕ) × (b < a) × (get_or places b 0 ≡ i)) where
  -- a place that differs from those before has its mark
  pub still_marked : ((b : ℕ) → b < a → get_or places b 0 ≢ get_or places a 0) → get_or marks (get_or places a 0) true ≡ true
  still_marked apart = elim (cases_Bool (get_or marks (get_or places a 0) true)) [
    | inl e ↦ e
    | inr e ↦ let h = kept (get_or places a 0) e in absurd (apart h.0 h.1 h.2)
  ]

  -- and is then one of those without
  pub kept_more : (i : ℕ) → get_or (set marks (get_or places a 0) false) i true ≡ false → (b : ℕ) × (b < a + 1) × (get_or places b 0 ≡ i)
  kept_more i e = elim (cases_eq i (get_or places a 0)) [
    | inl same ↦ (a, (let l : a < a + 1 = omega arith in l), sym same)
    | inr ne ↦
        let h = kept i (sym (get_or-set_other marks (get_or places a 0) i false true ne) ∙ e) in
        let before = h.1 in
        (h.0, (let l : h.0 < a + 1 = omega (arith, before) in l), h.2)
  ]

below_other : (places : List ℕ) (a b : ℕ) → b < a + 1 → get_or places b 0 ≢ get_or places a 0 → b < a
below_other places a b l ne = elim (cases_eq b a) [
  | inl same ↦ absurd (ne (ap (λ i. get_or places i 0) same))
  | inr other ↦ omega (arith, l, other)
]

-- the places before and this one have none
pub unmarked_more : (marks : List Bool) (places : List ℕ) (a : ℕ) → get_or places a 0 < length marks
    → ((b : ℕ) → b < a → get_or marks (get_or places b 0) true ≡ false)
    → (b : ℕ) → b < a + 1 → get_or (set marks (get_or places a 0) false) (get_or places b 0) true ≡ false
unmarked_more marks places a inside before b l = elim (cases_eq (get_or places b 0) (get_or places a 0)) [
  | inl same ↦ ap (λ i. get_or (set marks (get_or places a 0) false) i true) same ∙ get_or-set_same marks (get_or places a 0) false true inside
  | inr ne ↦
      let less : b < a = below_other places a b l ne in
      get_or-set_other marks (get_or places a 0) (get_or places b 0) false true ne ∙ before b less
]
