-- Two codewords that agree at as many places as a message has items are one.
use Rattle.std.proofs.Common.{◌≡◌, ◌≢◌, ℕ, zero, suc, ◌+◌, ◌<◌, ◌≤◌, Bool, true, false, not, List, [], ◌∷◌, length, map, set, get_or, Option, Some, None, sym, ◌∙◌, ap, ap₂, refl, arith, ⊎_elim, cond}
use Rattle.std.specs.Prelude.{is_none}
use Rattle.std.proofs.lemmas.Bool.{true≢false, cases_eq, cases_lt}
use Rattle.std.proofs.lemmas.List.{length-map, length-set, get_or-map, get_or-set_same, get_or-set_other, get_or_past}
use Rattle.std.proofs.lemmas.List.Sums.{sum_by-cons}
use Rattle.ark_math.specs.Field.{FieldOn, IsField}
use Rattle.ark_math.specs.Module.{ModuleOn, IsModule, item}
use Rattle.ark_math.specs.Root.{HasOrder}
use Rattle.ark_math.specs.Domain.{Domain, element}
use Rattle.ark_math.specs.Transform.{transform}
use Rattle.ark_math.proofs.Algebra.Groups.{cancel_left, negated_plus, scale_zero, zero_plus}
use Rattle.ark_math_domains.proofs.Callers.Transforms.{transform-length}
use Rattle.rs_code.specs.Codeword.{IsCodeword, AgreesBut, AgreesElsewhere, AgreesWith, erasure_count, mark_count}
use Rattle.rs_code.specs.Locator.{lost, by_factors}
use Rattle.rs_code.proofs.Divided.{divided}
use Rattle.rs_code.proofs.Kept.{mark_count-not}
use Rattle.rs_code.proofs.Locators.{value, value-plus, value-same, IsShort}
use Rattle.rs_code.proofs.Lost.{lost-length}
use Rattle.rs_code.proofs.Places.{mark_count-none, unmarked_within}
use Rattle.rs_code.proofs.Restored.{list-short, transform-from, transform-item}

module _ {F M : Type 0} {K : FieldOn F} {V : ModuleOn F M} (N : IsField K) (L : IsModule K V) (d : Domain F) (o : HasOrder K d.root d.size) (off : d.offset ≢ K.zero) where
  -- ---- polynomials with more roots than coefficients

  by_factors-none : (rs : List F) (a : ℕ → M) → ((i : ℕ) → a i ≡ V.zero) → (i : ℕ) → by_factors K V rs a i ≡ V.zero
  by_factors-none [] a none i = none i
  by_factors-none (r ∷ rs) a none zero = ap (V.scale (K.negated r)) (by_factors-none rs a none 0) ∙ scale_zero L (K.negated r)
  by_factors-none (r ∷ rs) a none (suc i) =
      ap₂ (λ s t. V.plus s (V.scale (K.negated r) t)) (by_factors-none rs a none i) (by_factors-none rs a none (suc i))
      ∙ ap (V.plus V.zero) (scale_zero L (K.negated r))
      ∙ L.plus_zero V.zero

  module _ (marks : List Bool) (k : ℕ) (size : length marks ≡ d.size) (few : k + mark_count marks ≤ d.size) where
    -- zero at all places without a mark, of which there are k at least
    no_roots_more : (a : ℕ → M) → IsShort V k a → ((i : ℕ) → get_or marks i true ≡ false → value K V d.size a (element K d i) ≡ V.zero) → (i : ℕ) → a i ≡ V.zero
    no_roots_more a short roots =
        let kept = map not marks in
        let count = lost-length K d kept in
        let both = mark_count-not marks in
        let len = length-map marks not in
        let zeros : (j : ℕ) → j < length kept → get_or kept j true ≡ true → value K V d.size a (element K d (0 + j)) ≡ V.zero = λ j l e.
        let unmarked : get_or marks j true ≡ false = not_true (get_or marks j true) (sym (get_or-map not marks j true true (omega arith)) ∙ e) in
        (let same : 0 + j ≡ j = omega arith in ap (λ t. value K V d.size a (element K d t)) same) ∙ roots j unmarked in
        let found = divided N L d o off d.size 0 0 kept a (λ j l. short j (omega (arith, count, both))) (omega (arith, count, both)) (omega (arith, len)) zeros in
        λ i. ap (λ t. t i) found.2 ∙ by_factors-none (lost K d kept) found.0 (λ j. found.1 j (omega arith)) i
      where
        not_true : (b : Bool) → not b ≡ true → b ≡ false
        not_true true e = absurd (true≢false (sym e))
        not_true false e = refl

    -- ---- codewords

    gap : (ℕ → M) → (ℕ → M) → ℕ → M
    gap a b i = V.plus (a i) (V.negated (b i))

    gap-plus : (a b : ℕ → M) (i : ℕ) → V.plus (gap a b i) (b i) ≡ a i
    unfolding gap
    gap-plus a b i = L.plus_assoc (a i) (V.negated (b i)) (b i) ∙ ap (V.plus (a i)) (negated_plus L (b i)) ∙ L.plus_zero (a i)

    gap-short : (a b : ℕ → M) → IsShort V k a → IsShort V k b → IsShort V k (gap a b)
    unfolding gap
    gap-short a b p q i l = ap₂ (λ s t. V.plus s (V.negated t)) (p i l) (q i l) ∙ L.plus_negated V.zero

    gap-root : (a b : ℕ → M) (x : F) → value K V d.size a x ≡ value K V d.size b x → value K V d.size (gap a b) x ≡ V.zero
    gap-root a b x same =
        let v = value K V d.size b x in
        let sum : V.plus (value K V d.size (gap a b) x) v ≡ v =
        sym (value-plus N L d.size (gap a b) b x) ∙ value-same N L d.size (λ i. V.plus (gap a b i) (b i)) a x (λ i _. gap-plus a b i) ∙ same in
        cancel_left L v (value K V d.size (gap a b) x) V.zero (L.plus_comm v (value K V d.size (gap a b) x) ∙ sum ∙ sym (L.plus_zero v))

    pub one_codeword : (a b : List M) → IsCodeword K V d k a → IsCodeword K V d k b → AgreesElsewhere V marks a b → a ≡ b
    one_codeword a b (m, short, is) (p, short_too, is_too) agrees =
        let x = item V m in
        let y = item V p in
        let roots : (i : ℕ) → get_or marks i true ≡ false → value K V d.size (gap x y) (element K d i) ≡ V.zero = λ i e.
        let l : i < d.size = omega (arith, unmarked_within marks i e) in
        gap-root x y (element K d i)
        (sym (transform-item N L d m i l) ∙ ap (λ c. item V c i) (sym is) ∙ sym (agrees i e) ∙ ap (λ c. item V c i) is_too ∙ transform-item N L d p i l) in
        let none = no_roots_more (gap x y) (gap-short x y (list-short N L d m k short) (list-short N L d p k short_too)) roots in
        let same : (i : ℕ) → x i ≡ y i = λ i. sym (gap-plus x y i) ∙ ap (λ t. V.plus t (y i)) (none i) ∙ zero_plus L (y i) in
        is
        ∙ transform-from N L d p (transform K V d m) (transform-length K V d m)
        (λ i l. transform-item N L d m i l ∙ value-same N L d.size x y (element K d i) (λ j _. same j))
        ∙ sym is_too

-- ---- one wrong value

mark_count-more : (marks : List Bool) (j : ℕ) → j < length marks → get_or marks j true ≡ false → mark_count (set marks j true) ≡ mark_count marks + 1
mark_count-more [] j l e = absurd (omega (arith, l))
mark_count-more (true ∷ marks) zero l e = absurd (true≢false e)
mark_count-more (false ∷ marks) zero l e = omega (arith, sum_by-cons (λ (mark : Bool). cond mark 1 0) true marks, sum_by-cons (λ (mark : Bool). cond mark 1 0) false marks)
mark_count-more (mark ∷ marks) (suc j) l e =
    omega (arith, sum_by-cons (λ (mark : Bool). cond mark 1 0) mark (set marks j true), sum_by-cons (λ (mark : Bool). cond mark 1 0) mark marks, mark_count-more marks j (omega (arith, l)) e)

module _ {F M X : Type 0} {K : FieldOn F} {V : ModuleOn F M} (N : IsField K) (L : IsModule K V) (d : Domain F) (o : HasOrder K d.root d.size) (off : d.offset ≢ K.zero) (meaning : X → M) where
  -- a word with a codeword's values but one agrees with no codeword, where a place is to spare
  pub wrong_value : (k place : ℕ) (word : List (Option X)) (x : X) (c other : List M) → length word ≡ d.size → k + erasure_count word < d.size
      → get_or word place None ≡ Some x → item V c place ≢ meaning x → AgreesBut V meaning word place c → IsCodeword K V d k c → IsCodeword K V d k other → AgreesWith V meaning word other → ⊥
  wrong_value k place word x c other size spare known wrong agrees p q there =
      let erased = map is_none word in
      let marks = set erased place true in
      let within : place < length word = ⊎_elim (λ (l : place < length word). l) (λ (m : length word ≤ place). absurd (some≢none x (sym known ∙ get_or_past word place None m))) (cases_lt place (length word)) in
      let len = length-map word is_none in
      let unmarked : get_or erased place true ≡ false = get_or-map is_none word place None true within ∙ ap is_none known in
      let count = mark_count-more erased place (omega (arith, len, within)) unmarked in
      let same : c ≡ other = one_codeword N L d o off marks k (length-set erased place true ∙ len ∙ size) (omega (arith, count, mark_count-none word, spare)) c other p q
      (λ i e. ⊎_elim
      (λ (here : i ≡ place). absurd (true≢false (sym (ap (λ j. get_or marks j true) here ∙ get_or-set_same erased place true true (omega (arith, len, within))) ∙ e)))
      (λ (else : i ≢ place).
      let inside : i < length word = omega (arith, unmarked_within marks i e, length-set erased place true, len) in
      let known_too = some_of (get_or word i None) (sym (get_or-map is_none word i None true inside) ∙ sym (get_or-set_other erased place i true true else) ∙ e) in
      there i known_too.0 known_too.1 ∙ sym (agrees i known_too.0 else known_too.1))
      (cases_eq i place)) in
      wrong (ap (λ l. item V l place) same ∙ there place x known)
    where
      some≢none : {Y : Type 0} (y : Y) → ◌≢◌ {A = Option Y} (Some y) None
      some≢none y e = cc

      some_of : {Y : Type 0} (p : Option Y) → is_none p ≡ false → (y : Y) × (p ≡ Some y)
      some_of None e = absurd (true≢false e)
      some_of (Some y) e = (y, refl)
