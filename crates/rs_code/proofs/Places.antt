-- Reads of places, beginnings of lists, and words with places erased as marks and values.
use Rattle.std.proofs.Common.{◌≡◌, ℕ, zero, suc, ◌<◌, ◌≤◌, Bool, true, false, List, [], ◌∷◌, length, map, get_or, drop, Option, Some, None, unwrap_or, cond, if◌then◌else◌, sym, ◌∙◌, ap, ap₂, refl, arith, true≢false, ⊎_elim}
use Rattle.std.specs.Prelude.{is_none}
use Rattle.std.proofs.lemmas.Bool.{cases_lt}
use Rattle.std.proofs.lemmas.Option.{none-some}
use Rattle.std.proofs.lemmas.List.{get_or-map, get_or_past, length-map}
use Rattle.std.proofs.lemmas.List.Sums.{sum_by-cons}
use Rattle.ark_math.specs.Field.{FieldOn, IsField}
use Rattle.ark_math.specs.Module.{ModuleOn, IsModule}
use Rattle.ark_math.proofs.Algebra.Groups.{scale_zero}
use Rattle.rs_code.specs.Codeword.{AgreesWith, AgreesElsewhere, mark_count, erasure_count}
use Rattle.rs_code.specs.Locator.{weighed, filled}

-- a read is the item, whatever the default
pub at_default : {X : Type 0} (xs : List X) (i : ℕ) (d e y : X) → i < length xs → get_or xs i d ≡ y → get_or xs i e ≡ y
at_default [] i d e y l h = absurd (omega arith)
at_default (x ∷ xs) zero d e y l h = h
at_default (x ∷ xs) (suc i) d e y l h = at_default xs i d e y (omega arith) h

pub is_read : {X : Type 0} (xs : List X) (i : ℕ) (x e : X) → i < length xs → x ≡ get_or xs i x → get_or xs i e ≡ x
is_read xs i x e l h = at_default xs i x e x l (sym h)

-- ---- values times factors that marks choose

module _ {F M : Type 0} {K : FieldOn F} {V : ModuleOn F M} (N : IsField K) (L : IsModule K V) where
  pub weighed-by : (mark : Bool) (own : F) (y z : M) → z ≡ (if mark then V.zero else y) → V.scale own z ≡ weighed V mark own y
  weighed-by true own y z e = ap (V.scale own) e ∙ scale_zero L own
  weighed-by false own y z e = ap (V.scale own) e

  pub filled-by : (mark : Bool) (own factor : F) (known found z : M) → factor ≡ (if mark then own else K.one) → z ≡ (if mark then found else known) →
      V.scale factor z ≡ filled V mark own known found
  filled-by true own factor known found z e h = ap₂ V.scale e h
  filled-by false own factor known found z e h = ap₂ V.scale e h ∙ L.one_scale known

-- ---- words as marks and values

pub mark_count-none : {X : Type 0} (word : List (Option X)) → mark_count (map is_none word) ≡ erasure_count word
mark_count-none [] = refl
mark_count-none (None ∷ word) =
    let e = sum_by-cons (λ (mark : Bool). cond mark 1 0) true (map is_none word) in
    let f = sum_by-cons (λ (o : Option _). cond (is_none o) 1 0) None word in
    let h = mark_count-none word in
    omega (arith, e, f, h)
mark_count-none (Some x ∷ word) =
    let e = sum_by-cons (λ (mark : Bool). cond mark 1 0) false (map is_none word) in
    let f = sum_by-cons (λ (o : Option _). cond (is_none o) 1 0) (Some x) word in
    let h = mark_count-none word in
    omega (arith, e, f, h)

some_from : {X : Type 0} (p : Option X) → is_none p ≡ false → (z : X) → p ≡ Some (unwrap_or p z)
some_from None e z = absurd (true≢false e)
some_from (Some x) e z = refl

module _ {X M Y : Type 0} (V : ModuleOn X M) (meaning : Y → M) (word : List (Option Y)) (z : Y) where
  -- a codeword that has the values at the places without a mark agrees with the word
  pub agrees-with : (c : List M) → AgreesElsewhere V (map is_none word) (map meaning (map (λ p. unwrap_or p z) word)) c → AgreesWith V meaning word c
  agrees-with c agrees i x e =
      ⊎_elim
      (λ (l : i < length word).
      agrees i (get_or-map is_none word i None true l ∙ ap is_none e)
      ∙ get_or-map meaning (map (λ p. unwrap_or p z) word) i z V.zero (omega (arith, length-map word (λ p. unwrap_or p z)))
      ∙ ap meaning (get_or-map (λ p. unwrap_or p z) word i None z l ∙ ap (λ p. unwrap_or p z) e))
      (λ (m : length word ≤ i). absurd (none-some x (sym (get_or_past word i None m) ∙ e)))
      (cases_lt i (length word))

  -- and the other way round
  pub agrees-elsewhere : (c : List M) → AgreesWith V meaning word c → AgreesElsewhere V (map is_none word) (map meaning (map (λ p. unwrap_or p z) word)) c
  agrees-elsewhere c agrees i e =
      ⊎_elim
      (λ (l : i < length word).
      let some = some_from (get_or word i None) (sym (get_or-map is_none word i None true l) ∙ e) z in
      agrees i (unwrap_or (get_or word i None) z) some
      ∙ sym (get_or-map meaning (map (λ p. unwrap_or p z) word) i z V.zero (omega (arith, length-map word (λ p. unwrap_or p z)))
      ∙ ap meaning (get_or-map (λ p. unwrap_or p z) word i None z l)))
      (λ (m : length word ≤ i). absurd (true≢false (sym (get_or_past (map is_none word) i true (omega (arith, length-map word is_none))) ∙ e)))
      (cases_lt i (length word))

-- an unmarked place is one of the list's
pub unmarked_within : (marks : List Bool) (i : ℕ) → get_or marks i true ≡ false → i < length marks
unmarked_within marks i e =
    ⊎_elim
    (λ (l : i < length marks). l)
    (λ (m : length marks ≤ i). absurd (true≢false (sym (get_or_past marks i true m) ∙ e)))
    (cases_lt i (length marks))

-- ---- the items from k on

module _ {X M : Type 0} (m : X → M) (z : M) where
  pub zeros_from : (xs : List X) (k : ℕ) → ((i : ℕ) → get_or (map m (drop k xs)) i z ≡ z) → (i : ℕ) → k ≤ i → get_or (map m xs) i z ≡ z
  zeros_from xs zero h i l = h i
  zeros_from [] (suc k) h i l = refl
  zeros_from (x ∷ xs) (suc k) h zero l = absurd (omega arith)
  zeros_from (x ∷ xs) (suc k) h (suc i) l = zeros_from xs k h i (omega arith)

  pub zeros_dropped : (xs : List X) (k : ℕ) → ((i : ℕ) → k ≤ i → get_or (map m xs) i z ≡ z) → (i : ℕ) → get_or (map m (drop k xs)) i z ≡ z
  zeros_dropped xs zero h i = h i (omega arith)
  zeros_dropped [] (suc k) h i = refl
  zeros_dropped (x ∷ xs) (suc k) h i = zeros_dropped xs k (λ j l. h (suc j) (omega arith)) i
