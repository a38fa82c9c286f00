-- Words of which the first places alone are kept.
use Rattle.std.proofs.Common.{◌≡◌, ℕ, zero, suc, ◌-◌, ◌<◌, ◌≤◌, inl, inr, Bool, true, false, List, ◌++◌, length, get_or, map, take, drop, cond, length-take, sym, ◌∙◌, ap, refl, arith, true≢false}
use Rattle.std.specs.Prelude.{replicate}
use Rattle.std.proofs.lemmas.Bool.{cases_lt}
use Rattle.std.proofs.lemmas.List.{drop-append-le, drop_all, ext_get_or, get_or-take, length-drop, length-map, length-take-le, take-append-le, take-map, take_all}
use Rattle.std.proofs.lemmas.List.Sums.{sum_by-cons}
use Rattle.ark_math.specs.Module.{ModuleOn}
use Rattle.rs_code.specs.Codeword.{AgreesElsewhere, after_first, mark_count}

marked : (m : ℕ) → mark_count (replicate m true) ≡ m
marked zero = refl
marked (suc m) =
    let e = sum_by-cons (λ (mark : Bool). cond mark 1 0) true (replicate m true) in
    let h = marked m in
    omega (arith, e, h)

unmarked : (k : ℕ) (marks : List Bool) → mark_count (replicate k false ++ marks) ≡ mark_count marks
unmarked zero marks = refl
unmarked (suc k) marks =
    let e = sum_by-cons (λ (mark : Bool). cond mark 1 0) false (replicate k false ++ marks) in
    let h = unmarked k marks in
    omega (arith, e, h)

-- all but k places are marked
pub mark_count-after_first : (k n : ℕ) → mark_count (after_first k n) ≡ n - k
mark_count-after_first k n = unmarked k (replicate (n - k) true) ∙ marked (n - k)

last : (m i : ℕ) → get_or (replicate m true) i true ≡ true
last zero i = refl
last (suc m) zero = refl
last (suc m) (suc i) = last m i

behind : (k m i : ℕ) → k ≤ i → get_or (replicate k false ++ replicate m true) i true ≡ true
behind zero m i past = last m i
behind (suc k) m zero past = absurd (omega (arith, past))
behind (suc k) m (suc i) past = behind k m i (omega (arith, past))

front : (k i : ℕ) (marks : List Bool) → i < k → get_or (replicate k false ++ marks) i true ≡ false
front zero i marks l = absurd (omega (arith, l))
front (suc k) zero marks l = refl
front (suc k) (suc i) marks l = front k i marks (omega (arith, l))

-- a place without a mark is one of the first k
pub first_kept : (k n i : ℕ) → get_or (after_first k n) i true ≡ false → i < k
first_kept k n i e = elim (cases_lt i k) [
  | inl l ↦ l
  | inr past ↦ absurd (true≢false (sym (behind k (n - k) i past) ∙ e))
]

-- and these have none
pub kept_first : (k n i : ℕ) → i < k → get_or (after_first k n) i true ≡ false
kept_first k n i l = front k i (replicate (n - k) true) l

module _ {F M : Type 0} (V : ModuleOn F M) (k n : ℕ) (message word : List M) where
  -- what agrees with a word at the first places begins as it does
  pub begins_with : (c : List M) → k ≤ length c → k ≤ length word → take k word ≡ message → AgreesElsewhere V (after_first k n) word c → take k c ≡ message
  begins_with c room more is agrees =
      ext_get_or V.zero (take k c) (take k word) (length-take-le k c room ∙ sym (length-take-le k word more))
      (λ i l.
      let b : i < k = omega (arith, l, length-take-le k c room) in
      get_or-take k c i V.zero b ∙ agrees i (kept_first k n i b) ∙ sym (get_or-take k word i V.zero b))
      ∙ is

  -- and what begins so agrees
  pub agrees_at_first : (other : List M) → take k other ≡ message → take k word ≡ message → AgreesElsewhere V (after_first k n) word other
  agrees_at_first other begins is i e =
      let l = first_kept k n i e in
      sym (get_or-take k other i V.zero l) ∙ ap (λ t. get_or t i V.zero) (begins ∙ sym is) ∙ get_or-take k word i V.zero l

-- what stands behind so many items
pub behind_first : {M : Type 0} (k : ℕ) (xs ys zs : List M) → length xs ≡ k → xs ++ ys ≡ zs → ys ≡ drop k zs
behind_first k xs ys zs len is =
    sym (drop-append-le k xs ys (omega (arith, len)) ∙ ap (λ t. t ++ ys) (drop_all k xs (omega (arith, len)))) ∙ ap (drop k) is

-- and these
pub first_of : {M : Type 0} (k : ℕ) (xs ys : List M) → length xs ≡ k → take k (xs ++ ys) ≡ xs
first_of k xs ys len = take-append-le k xs ys (omega (arith, len)) ∙ take_all k xs (omega (arith, len))

-- a slice from a place on is what stands behind so many items
pub slice_from : {X : Type 0} (k : ℕ) (xs : List X) → take (length xs - k) (drop k xs) ≡ drop k xs
slice_from k xs = take_all (length xs - k) (drop k xs) (omega (arith, length-drop k xs))

-- a word that begins with a message, and their meanings
module _ {F M X : Type 0} (V : ModuleOn F M) (meaning : X → M) (k n : ℕ) (message word : List X) (len : length message ≡ k) (is : take k word ≡ message) where
  first : take k (map meaning word) ≡ map meaning message
  first = take-map meaning k word ∙ ap (map meaning) is

  long : k ≤ length (map meaning word)
  long = omega (arith, len, length-map word meaning, ap length is, length-take k word)

  pub begins_with_message : (c : List M) → k ≤ length c → AgreesElsewhere V (after_first k n) (map meaning word) c → take k c ≡ map meaning message
  begins_with_message c room agrees = begins_with V k n (map meaning message) (map meaning word) c room long first agrees

  pub agrees_by_message : (other : List M) → take k other ≡ map meaning message → AgreesElsewhere V (after_first k n) (map meaning word) other
  agrees_by_message other begins = agrees_at_first V k n (map meaning message) (map meaning word) other begins first
