-- The places that numbers below a bound have met.
use Rattle.std.proofs.Common.{◌≡◌, ℕ, ◌+◌, ◌≤◌, ◌<◌, Bool, true, List, length, get_or, arith, below_more, sym, ◌∙◌, inl, inr, false}
use Rattle.std.proofs.Math.ListN.{set, replicate}
use Rattle.std.proofs.lemmas.List.{length-set, get_or-set_same, get_or-set_other, get_or-replicate, get_or_past, length-replicate}
use Rattle.std.proofs.lemmas.Bool.{cases_eq, cases_lt}
use Rattle.shards_format.specs.Parts.{count_true, IsUnused}
use Rattle.shards_format.proofs.Marks.{count_true-set}

-- those of the first i numbers, of which there are no more than these
pub record Met (used : List Bool) (numbers : List ℕ) (i : ℕ) : Type 0 where
  pub len : length used ≡ 1025
  pub few : count_true used ≤ i
  pub met : (s : ℕ) → s < i → get_or numbers s 0 < 1025 → get_or used (get_or numbers s 0) true ≡ true
  pub met_by : (j : ℕ) → get_or used j false ≡ true → (s : ℕ) × (s < i) × (get_or numbers s 0 ≡ j)

met_set : (used : List Bool) (x y : ℕ) → length used ≡ 1025 → x < 1025 → (y < 1025 → get_or used y true ≡ true) → y < 1025 → get_or (set used x true) y true ≡ true
met_set used x y len l old h = elim (cases_eq y x) [
  | inl same ↦ let lt : x < length used = omega arith in rw same (get_or-set_same used x true true lt)
  | inr ne ↦ get_or-set_other used x y true true ne ∙ old h
]

by_set : (used : List Bool) (numbers : List ℕ) (i : ℕ) → Met used numbers i → (j : ℕ) → get_or (set used (get_or numbers i 0) true) j false ≡ true
    → (s : ℕ) × (s < i + 1) × (get_or numbers s 0 ≡ j)
by_set used numbers i m j h = elim (cases_eq j (get_or numbers i 0)) [
  | inl same ↦ (i, omega arith, sym same)
  | inr ne ↦ let old = m.met_by j (sym (get_or-set_other used (get_or numbers i 0) j true false ne) ∙ h) in (old.0, omega (arith, old.1), old.2)
]

pub none_true : (n j : ℕ) → get_or (replicate n false) j false ≡ false
none_true n j = elim (cases_lt j n) [
  | inl l ↦ get_or-replicate n j false false l
  | inr h ↦ get_or_past (replicate n false) j false (omega (arith, h, length-replicate n false))
]

pub none_met : (used : List Bool) (numbers : List ℕ) → length used ≡ 1025 → count_true used ≤ 0 → ((j : ℕ) → get_or used j false ≡ false) → Met used numbers 0
none_met used numbers len few none = record {
  len = len;
  few = few;
  met = λ s h. absurd (omega (arith, h));
  met_by = λ j h. let no = none j in cc (no, h);
}

-- a number below the first that is not met is one of them
pub all_before : (used : List Bool) (numbers : List ℕ) (first x : ℕ) → Met used numbers (length numbers) → ((j : ℕ) → j < first → get_or used j false ≡ true) → x < first → IsUnused numbers x → ⊥
all_before used numbers first x m before l unused = let s = m.met_by x (before x l) in unused s.0 s.1 s.2

pub met_more : (used : List Bool) (numbers : List ℕ) (i : ℕ) → Met used numbers i → get_or numbers i 0 < 1025 → Met (set used (get_or numbers i 0) true) numbers (i + 1)
met_more used numbers i m l = record {
  len = length-set used (get_or numbers i 0) true ∙ m.len;
  few = let more = count_true-set used (get_or numbers i 0) in omega (arith, more, m.few);
  met = below_more _ _
      (λ s h. met_set used (get_or numbers i 0) (get_or numbers s 0) m.len l (m.met s h))
      (λ h. let lt : get_or numbers i 0 < length used = omega (arith, l, m.len) in get_or-set_same used (get_or numbers i 0) true true lt);
  met_by = by_set used numbers i m;
}

pub met_same : (used : List Bool) (numbers : List ℕ) (i : ℕ) → Met used numbers i → 1025 ≤ get_or numbers i 0 → Met used numbers (i + 1)
met_same used numbers i m l = record {
  len = m.len;
  few = omega (arith, m.few);
  met = below_more _ _ m.met (λ h. absurd (omega (arith, l, h)));
  met_by = λ j h. let old = m.met_by j h in (old.0, omega (arith, old.1), old.2);
}
