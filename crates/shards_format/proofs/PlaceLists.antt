-- Lists of places: one after another, marked, and missing.
use Rattle.std.proofs.Common.{◌≡◌, ℕ, ◌+◌, ◌<◌, ◌≤◌, ◌⊎◌, Bool, true, false, List, [], ◌∷◌, ◌++◌, length, get_or, arith, sym, ◌∙◌, ap, subst, refl, below_more, inl, inr}
use Rattle.std.specs.List.{range_with_len}
use Rattle.std.proofs.Math.ListN.{set}
use Rattle.std.proofs.lemmas.List.{get_or-set_same, get_or-set_other, length_push, get_or_append_left, get_or_push}
use Rattle.std.proofs.lemmas.List.FromFn.{length-range_with_len, get_or-range_with_len}
use Rattle.std.proofs.lemmas.Bool.{cases_eq, cases_lt}
use Rattle.shards_format.specs.Files.{AreApart}
use Rattle.shards_format.specs.Places.{AreMissing, IsAmong}

-- ---- one after another

module _ (first count : ℕ) (xs : List ℕ) (is : xs ≡ range_with_len first count) where
  pub range_length : length xs ≡ count
  range_length = ap length is ∙ length-range_with_len first count

  pub range_at : (a : ℕ) → a < length xs → get_or xs a 0 ≡ first + a
  range_at a h = ap (λ l. get_or l a 0) is ∙ get_or-range_with_len first count a 0 (subst (λ m. a < m) range_length h)

  pub range_below : (n : ℕ) → first + count ≤ n → (a : ℕ) → a < length xs → get_or xs a 0 < n
  range_below n fits a h =
      let at = range_at a h in
      let inside : a < count = subst (λ m. a < m) range_length h in
      omega (arith, at, inside, fits)

  pub range_apart : AreApart xs
  range_apart a b l h same =
      let low = range_at a (omega (arith, l, h)) in
      let high = range_at b h in
      omega (arith, low, high, same, l)

-- ---- marked

-- which of n places are marked, after the first i of these
pub record Marked (n : ℕ) (marks : List Bool) (places : List ℕ) (i : ℕ) : Type 0 where
  pub len : length marks ≡ n
  pub marked : (a : ℕ) → a < i → get_or places a 0 < n → get_or marks (get_or places a 0) false ≡ true
  pub others : (j : ℕ) → j < n → get_or marks j false ≡ true → IsAmong places j

mark_set : (marks : List Bool) (p q : ℕ) → p < length marks → get_or marks q false ≡ true → get_or (set marks p true) q false ≡ true
mark_set marks p q l e = elim (cases_eq q p) [
  | inl same ↦ rw same (get_or-set_same marks p true false l)
  | inr ne ↦ get_or-set_other marks p q true false ne ∙ e
]

-- ---- not marked

-- those of the first i places that are not marked
pub record Unmarked (marks : List Bool) (places : List ℕ) (i : ℕ) : Type 0 where
  pub few : length places ≤ i
  pub below : (b : ℕ) → b < length places → get_or places b 0 < i
  pub apart : AreApart places
  pub unmarked : (b : ℕ) → b < length places → get_or marks (get_or places b 0) false ≡ false
  pub all : (j : ℕ) → j < i → get_or marks j false ≡ false → IsAmong places j

module _ (xs : List ℕ) (y : ℕ) where
  pushed_at : (b : ℕ) → b < length xs → get_or (xs ++ y ∷ []) b 0 ≡ get_or xs b 0
  pushed_at b h = get_or_append_left xs (y ∷ []) 0 b h

  pushed_last : get_or (xs ++ y ∷ []) (length xs) 0 ≡ y
  pushed_last = get_or_push xs y 0 (length xs) refl

  pushed_each : (P : ℕ → Type 0) → ((b : ℕ) → b < length xs → P (get_or xs b 0)) → P y → (b : ℕ) → b < length (xs ++ y ∷ []) → P (get_or (xs ++ y ∷ []) b 0)
  pushed_each P each last b h =
      below_more (λ b. P (get_or (xs ++ y ∷ []) b 0)) (length xs)
      (λ b l. subst P (sym (pushed_at b l)) (each b l)) (subst P (sym pushed_last) last) b (subst (λ m. b < m) (length_push xs y) h)

pub unmarked_more : (marks : List Bool) (places : List ℕ) (i : ℕ) → Unmarked marks places i → get_or marks i false ≡ false → Unmarked marks (places ++ i ∷ []) (i + 1)
unmarked_more marks places i m e =
    let xs = places ++ i ∷ [] in
    let len : length xs ≡ length places + 1 = length_push places i in
    record {
      few = omega (arith, len, m.few);
      below = pushed_each places i (λ x. x < i + 1) (λ b h. let l = m.below b h in omega (arith, l)) (omega arith);
      apart = λ a b l h same. elim (cases_lt b (length places)) [
        | inl lt ↦ m.apart a b l lt (sym (pushed_at places i a (omega (arith, l, lt))) ∙ same ∙ pushed_at places i b lt)
        | inr ge ↦
            let last : b ≡ length places = omega (arith, ge, h, len) in
            let inside : a < length places = omega (arith, l, last) in
            let low = m.below a inside in
            let here = pushed_at places i a inside in
            let end : get_or xs b 0 ≡ i = ap (λ b. get_or xs b 0) last ∙ pushed_last places i in
            omega (arith, low, here, end, same)
      ];
      unmarked = pushed_each places i (λ x. get_or marks x false ≡ false) m.unmarked e;
      all = below_more _ _
          (λ j h f. let w = m.all j h f in (w.0, omega (arith, w.1, len), pushed_at places i w.0 w.1 ∙ w.2))
          (λ _. (length places, omega (arith, len), pushed_last places i));
    }

pub unmarked_same : (marks : List Bool) (places : List ℕ) (i : ℕ) → Unmarked marks places i → get_or marks i false ≡ true → Unmarked marks places (i + 1)
unmarked_same marks places i m e = record {
  few = omega (arith, m.few);
  below = λ b h. let l = m.below b h in omega (arith, l);
  apart = m.apart;
  unmarked = m.unmarked;
  all = below_more _ _ m.all (λ f. let no : true ≡ false = sym e ∙ f in cc no);
}

-- ---- missing

true_or_false : (x : Bool) → (x ≡ true) ⊎ (x ≡ false)
true_or_false true = inl refl
true_or_false false = inr refl

pub missing_places : (k : ℕ) (marks : List Bool) (places missing : List ℕ) → length marks ≡ k
    → ((j : ℕ) → j < k → IsAmong places j → get_or marks j false ≡ true) → ((j : ℕ) → j < k → get_or marks j false ≡ true → IsAmong places j)
    → Unmarked marks missing (length marks) → AreMissing k places missing
missing_places k marks places missing len marked others u = record {
  few = subst (λ n. length missing ≤ n) len u.few;
  below = λ b h. subst (λ n. get_or missing b 0 < n) len (u.below b h);
  apart = u.apart;
  lacking = λ b h w.
      let yes = marked (get_or missing b 0) (subst (λ n. get_or missing b 0 < n) len (u.below b h)) w in
      let no : true ≡ false = sym yes ∙ u.unmarked b h in
      cc no;
  all = λ j h. elim (true_or_false (get_or marks j false)) [
    | inl e ↦ inl (others j h e)
    | inr e ↦ inr (u.all j (subst (λ n. j < n) (sym len) h) e)
  ];
}

-- those that are missing among the missing ones
module _ (n : ℕ) (given missing places : List ℕ) (m : AreMissing n given missing) (p : AreMissing n missing places) where
  pub different_given : (a : ℕ) → a < length places → IsAmong given (get_or places a 0)
  different_given a h = elim (m.all (get_or places a 0) (p.below a h)) [
    | inl is ↦ is
    | inr w ↦ absurd (p.lacking a h w)
  ]

  pub different_all : (j : ℕ) → j < n → IsAmong given j → IsAmong places j
  different_all j h is = elim (p.all j h) [
    | inl w ↦ absurd (m.lacking w.0 w.1 (subst (IsAmong given) (sym w.2) is))
    | inr w ↦ w
  ]
