-- Factors of four places that are quarter turns of one another, from values that are neighbours.
use Rattle.std.proofs.Common.{◌≡◌, ◌≢◌, ℕ, zero, suc, ◌+◌, ◌-◌, ◌*◌, ◌%◌, ◌^◌, ◌<◌, ◌≤◌, ◌++◌, Bool, true, false, List, length, get_or, set, get_or-set_same, get_or-set_other, sym, ◌∙◌, ap, refl, subst, arith, mod-lt, ⊎_elim}
use Rattle.std.proofs.Math.Nat.{mul-le-mul_right}
use Rattle.std.proofs.lemmas.Bool.{cases_eq, cases_lt}
use Rattle.std.proofs.lemmas.List.{get_or_append_left, get_or-append-add}
use Rattle.ark_math.specs.Field.{FieldOn, IsField, natural}
use Rattle.ark_math.specs.Root.{HasOrder}
use Rattle.ark_math.specs.Domain.{Domain, element}
use Rattle.ark_math.specs.Univariate.{of_list}
use Rattle.ark_bit_reversed.specs.Blocks.{element_of}
use Rattle.ark_math_transforms.specs.BitReversal.{reversed}
use Rattle.ark_math_transforms.proofs.Numbers.BitReversal.{reversed_below}
use Rattle.ark_math.proofs.Numbers.PowersOfTwo.{pow_twice}
use Rattle.rs_code.specs.Locator.{lost, locator_at, derivative_at, IsFactor}
use Rattle.rs_code.specs.Turns.{AreAtTurns, AreMadeBelow, AreSorted, HoldValues, IsFactorFrom, IsMadeOf, IsTableOf, Sorted, Values, at_turn, erased_from, kept_from, product_of_eight, turn_place}
use Rattle.rs_code.specs.declared.turns.AtTurns.{AtTurns}
use Rattle.rs_code.specs.declared.turns.PlaceValues.{PlaceValues}
use Rattle.rs_code.proofs.turns.TableOrder.{turn_element, turn_fourth, turn_place_less, turn_square}
use Rattle.rs_code.proofs.turns.TurnedPlaces.{eight_same, element-square, element-fourth, erased-place, kept-place}

after_list : {X : Type 0} (xs ys : List X) (i j : ℕ) (z : X) → i ≡ length xs + j → get_or (xs ++ ys) i z ≡ get_or ys j z
after_list xs ys i j z e = ap (λ t. get_or (xs ++ ys) t z) e ∙ get_or-append-add xs ys j z

module _ {F : Type 0} (K : FieldOn F) where
  -- a list's values from the place ahead on
  pub turned-values : (v : List F) (k t : ℕ) (a b : AtTurns F) → AreAtTurns K v k t a → b.here ≡ a.ahead → b.ahead ≡ a.over → b.over ≡ a.back → b.back ≡ a.here → AreAtTurns K v k (t + 1) b
  turned-values v k t a b are here ahead over back =
      let second : t + 2 ≡ t + 1 + 1 = omega arith in
      let third : t + 3 ≡ t + 1 + 2 = omega arith in
      let whole : t % 4 ≡ (t + 1 + 3) % 4 = omega arith in
      record {
        here_is = here ∙ are.ahead_is;
        ahead_is = ahead ∙ are.over_is ∙ ap (at_turn K v k) second;
        over_is = over ∙ are.back_is ∙ ap (at_turn K v k) third;
        back_is = back ∙ are.here_is ∙ ap (λ s. of_list K v (4 * k + turn_place s)) whole;
      }

  pub opposite-ahead : (v : List F) (k t : ℕ) → of_list K v (2 * k + t % 2) ≡ of_list K v (2 * k + (t + 1 + 1) % 2)
  opposite-ahead v k t = let same : t % 2 ≡ (t + 1 + 1) % 2 = omega arith in ap (λ s. of_list K v (2 * k + s)) same

  -- what is multiplied gives the factor
  pub factor-from : (p : PlaceValues F) (mark : Bool) (y : F) →
      (mark ≡ true → y ≡ product_of_eight K p.none p.opposite_ahead p.one.back p.one.over p.one.ahead p.two.over p.two.ahead p.three.ahead) →
      (mark ≡ false → y ≡ product_of_eight K p.all p.opposite p.one.here p.two.here p.two.back p.three.here p.three.back p.three.over) →
      IsFactorFrom K p mark y
  factor-from p mark y erased kept v k t are =
      let f = are.one_are in
      let g = are.two_are in
      let h = are.three_are in
      record {
        kept = λ e. kept e ∙ eight_same K are.all_is are.opposite_is f.here_is g.here_is g.back_is h.here_is h.back_is h.over_is;
        erased = λ e. erased e ∙ eight_same K are.none_is are.ahead_is f.back_is f.over_is f.ahead_is g.over_is g.ahead_is h.ahead_is;
      }

module _ {F : Type 0} (K : FieldOn F) (v : Values F) where
  module _ (fours : List ℕ) (marks : List Bool) where
    abbrev made_at : ℕ → ℕ → F → Type 0
    made_at t j y = IsMadeOf K v (get_or fours j 0) t (get_or marks (t * length fours + j) true) y

    -- one more is written
    pub made_more : (t n : ℕ) (xs : List F) (y : F) (i : ℕ) (mark : Bool) → n < length xs → AreMadeBelow K v fours marks t n xs →
        i ≡ t * length fours + n → mark ≡ get_or marks i true →
        IsMadeOf K v (get_or fours n 0) t mark y → AreMadeBelow K v fours marks t (n + 1) (set xs n y)
    made_more t n xs y i mark within before i_is mark_is made =
        let marked : mark ≡ get_or marks (t * length fours + n) true = mark_is ∙ ap (λ m. get_or marks m true) i_is in
        let here : made_at t n y = subst (λ b. IsMadeOf K v (get_or fours n 0) t b y) marked made in
        record {
          made = λ j l. ⊎_elim
              (λ (same : j ≡ n). subst (λ m. made_at t m (of_list K (set xs n y) m)) (sym same)
              (subst (made_at t n) (sym (get_or-set_same xs n y K.zero within)) here))
              (λ (ne : j ≢ n). subst (made_at t j) (sym (get_or-set_other xs n j y K.zero ne)) (before.made j (omega (arith, l, ne))))
              (cases_eq j n);
        }

    -- four lists of them
    pub made_parts : (q n : ℕ) → q ≡ length fours → n ≡ q → (e f g h : List F) → length e ≡ q → length f ≡ q → length g ≡ q →
        AreMadeBelow K v fours marks 0 n e → AreMadeBelow K v fours marks 1 n f → AreMadeBelow K v fours marks 2 n g → AreMadeBelow K v fours marks 3 n h →
        (t j : ℕ) → t < 4 → j < length fours → made_at t j (of_list K (e ++ (f ++ (g ++ h))) (t * length fours + j))
    made_parts q n is end e f g h le lf lg made_e made_f made_g made_h = parts
      where
        new : List F
        new = e ++ (f ++ (g ++ h))

        moved : (t j i : ℕ) (xs : List F) → i ≡ t * length fours + j → of_list K new i ≡ of_list K xs j → made_at t j (of_list K xs j) → made_at t j (of_list K new (t * length fours + j))
        moved t j i xs i_is later made = subst (λ m. made_at t j (of_list K new m)) i_is (subst (made_at t j) (sym later) made)

        parts : (t j : ℕ) → t < 4 → j < length fours → made_at t j (of_list K new (t * length fours + j))
        parts zero j l m =
            let w : j < q = omega (arith, m, is) in
            let u : j < n = omega (arith, w, end) in
            moved 0 j j e (omega arith) (get_or_append_left e (f ++ (g ++ h)) K.zero j (omega (arith, w, le))) (made_e.made j u)
        parts (suc zero) j l m =
            let w : j < q = omega (arith, m, is) in
            let u : j < n = omega (arith, w, end) in
            moved 1 j (q + j) f (omega (arith, is))
            (after_list e (f ++ (g ++ h)) (q + j) j K.zero (omega (arith, le)) ∙ get_or_append_left f (g ++ h) K.zero j (omega (arith, w, lf))) (made_f.made j u)
        parts (suc (suc zero)) j l m =
            let w : j < q = omega (arith, m, is) in
            let u : j < n = omega (arith, w, end) in
            moved 2 j (q + (q + j)) g (omega (arith, is))
            (after_list e (f ++ (g ++ h)) (q + (q + j)) (q + j) K.zero (omega (arith, le)) ∙ after_list f (g ++ h) (q + j) j K.zero (omega (arith, lf))
            ∙ get_or_append_left g h K.zero j (omega (arith, w, lg))) (made_g.made j u)
        parts (suc (suc (suc zero))) j l m =
            let w : j < q = omega (arith, m, is) in
            let u : j < n = omega (arith, w, end) in
            moved 3 j (q + (q + (q + j))) h (omega (arith, is))
            (after_list e (f ++ (g ++ h)) (q + (q + (q + j))) (q + (q + j)) K.zero (omega (arith, le)) ∙ after_list f (g ++ h) (q + (q + j)) (q + j) K.zero (omega (arith, lf))
            ∙ after_list g h (q + j) j K.zero (omega (arith, lg))) (made_h.made j u)
        parts (suc (suc (suc (suc t)))) j l m = absurd (omega (arith, l))

-- ---- factors

module _ {F : Type 0} (K : FieldOn F) (N : IsField K) (d : Domain F) (q l : ℕ) (q_is : q ≡ 2 ^ l) (o : HasOrder K d.root d.size) (one : d.offset ≡ K.one) (size : d.size ≡ q + (q + (q + q))) (some : 0 < q)
    (table : List F) (T : IsTableOf K d table) (j : ℕ) (inside : j < q) where
  levels : d.size ≡ 2 ^ suc (suc l)
  levels = omega (arith, size, q_is, pow_twice l, pow_twice (suc l))

  below : j < 2 ^ l
  below = omega (arith, inside, q_is)

  fits : (t i : ℕ) → t < 4 → i ≡ t * q + j → i < d.size
  fits t i h e = let f : t * q ≤ 3 * q = mul-le-mul_right q (omega (arith, h)) in omega (arith, size, e, f, inside)

  place_of : (t : ℕ) → t * q + j ≡ t * 2 ^ l + j
  place_of t = ap (λ u. t * u + j) q_is

  turn_at : (t : ℕ) → t < 4 → element_of K table (4 * reversed l j + turn_place t) ≡ element K d (t * q + j)
  turn_at t h = turn_element K N d one table T l levels j below t h (t * q + j) (place_of t) (fits t (t * q + j) h refl)

  square_at : (s : ℕ) → s < 2 → element_of K table (2 * reversed l j + s) ≡ element K d ((s * q + j) * 2)
  square_at s h =
      turn_square K N d one table T l levels j below s h (s * q + j) (place_of s) (fits s (s * q + j) (omega (arith, h)) refl)
      ∙ sym (element-square K N d q o one size some (s * q + j))

  fourth_at : element_of K table (reversed l j) ≡ element K d (j * 4)
  fourth_at = turn_fourth K N d one table T l levels j below ∙ sym (element-fourth K N d q o one size some j)

  -- what is made of values at the table's elements is a factor
  pub turn-factor : (marks : List Bool) → length marks ≡ d.size → (s : Sorted F) → AreSorted K d q marks s → (inverse : F) → K.times inverse (natural K d.size) ≡ K.one →
      (v : Values F) → HoldValues K table q s inverse v →
      (t : ℕ) → t < 4 → (y : F) → IsMadeOf K v (reversed l j) t (get_or marks (t * q + j) true) y →
      IsFactor K (lost K d marks) (element K d (t * q + j)) (get_or marks (t * q + j) true) y
  turn-factor marks len s sorted inverse inverse_is v hold t h y made =
      let r = reversed l j in
      let within : r < q = omega (arith, reversed_below l j below, q_is) in
      let place : (u : ℕ) → 4 * r + turn_place (u % 4) < 4 * q = λ u. omega (arith, within, turn_place_less (u % 4)) in
      let element_is : (u : ℕ) → element_of K table (4 * r + turn_place (u % 4)) ≡ element K d (u % 4 * q + j) = λ u. turn_at (u % 4) (mod-lt u (omega arith)) in
      let own : element_of K table (4 * r + turn_place (t % 4)) ≡ element K d (t * q + j) = (let e : t % 4 ≡ t = omega (arith, h) in element_is t ∙ ap (λ u. element K d (u * q + j)) e) in
      let square : (u : ℕ) → of_list K v.opposite (2 * r + u % 2) ≡ locator_at K s.opposite (element K d ((u % 2 * q + j) * 2)) = λ u.
      let b : u % 2 < 2 = mod-lt u (omega arith) in
      hold.opposite_is (2 * r + u % 2) (omega (arith, within, b)) ∙ ap (locator_at K s.opposite) (square_at (u % 2) b) in
      let x = element K d (t * q + j) in
      let mark = get_or marks (t * q + j) true in
      let here = fits t (t * q + j) h refl in
      elim mark as (λ b. mark ≡ b → IsFactor K (lost K d marks) x b y) [
        | true ↦ λ e.
            subst (λ z. K.times z (K.times x (derivative_at K (lost K d marks) x)) ≡ K.one) (sym (made.erased e))
            (subst (λ b. IsFactor K (lost K d marks) x b (erased_from K v r t)) e
            (erased-place K N d q o one size some marks len s sorted t j here inverse _ _ _ _ _ _ _ _ e inverse_is
            (hold.none_is r within ∙ ap (λ z. K.times (locator_at K s.none z) (K.times s.kept_scale inverse)) fourth_at)
            (square (t + 1))
            (hold.one_is _ (place (t + 3)) ∙ ap (locator_at K s.one) (element_is (t + 3)))
            (hold.one_is _ (place (t + 2)) ∙ ap (locator_at K s.one) (element_is (t + 2)))
            (hold.one_is _ (place (t + 1)) ∙ ap (locator_at K s.one) (element_is (t + 1)))
            (hold.two_is _ (place (t + 2)) ∙ ap (locator_at K s.two) (element_is (t + 2)))
            (hold.two_is _ (place (t + 1)) ∙ ap (locator_at K s.two) (element_is (t + 1)))
            (hold.three_is _ (place (t + 1)) ∙ ap (locator_at K s.three) (element_is (t + 1)))))
        | false ↦ λ e.
            made.kept e
            ∙ subst (λ b. IsFactor K (lost K d marks) x b (kept_from K v r t)) e
            (kept-place K N d q o one size some marks len s sorted t j here _ _ _ _ _ _ _ _ e
            (hold.all_is r within ∙ ap (λ z. K.times (locator_at K s.all z) s.erased_scale) fourth_at)
            (square t)
            (hold.one_is _ (place t) ∙ ap (locator_at K s.one) own)
            (hold.two_is _ (place t) ∙ ap (locator_at K s.two) own)
            (hold.two_is _ (place (t + 3)) ∙ ap (locator_at K s.two) (element_is (t + 3)))
            (hold.three_is _ (place t) ∙ ap (locator_at K s.three) own)
            (hold.three_is _ (place (t + 3)) ∙ ap (locator_at K s.three) (element_is (t + 3)))
            (hold.three_is _ (place (t + 2)) ∙ ap (locator_at K s.three) (element_is (t + 2))))
      ] refl

-- which turn of which of the first quarter a place is
turn_of : (q n i : ℕ) → n ≡ q + (q + (q + q)) → i < n → (t : ℕ) × (j : ℕ) × (t < 4) × (j < q) × (i ≡ t * q + j)
turn_of q n i e h =
    ⊎_elim (λ (l : i < q). (0, i, omega arith, l, omega arith)) (λ (m : q ≤ i).
    ⊎_elim (λ (l : i < q + q). (1, i - q, omega arith, omega (arith, l, m), omega (arith, m))) (λ (m : q + q ≤ i).
    ⊎_elim (λ (l : i < q + (q + q)). (2, i - (q + q), omega arith, omega (arith, l, m), omega (arith, m))) (λ (m : q + (q + q) ≤ i).
    (3, i - (q + (q + q)), omega arith, omega (arith, h, e, m), omega (arith, m)))
    (cases_lt i (q + (q + q))))
    (cases_lt i (q + q)))
    (cases_lt i q)

-- so are those of all places
pub all-factors : {F : Type 0} (K : FieldOn F) (N : IsField K) (d : Domain F) (q l : ℕ) → q ≡ 2 ^ l → HasOrder K d.root d.size → d.offset ≡ K.one → d.size ≡ q + (q + (q + q)) → 0 < q →
    (table : List F) → IsTableOf K d table → (marks : List Bool) → length marks ≡ d.size → (s : Sorted F) → AreSorted K d q marks s → (inverse : F) → K.times inverse (natural K d.size) ≡ K.one →
    (v : Values F) → HoldValues K table q s inverse v →
    (fours : List ℕ) (factors : List F) → length fours ≡ q → ((j : ℕ) → j < q → get_or fours j 0 ≡ reversed l j) →
    ((t j : ℕ) → t < 4 → j < length fours → IsMadeOf K v (get_or fours j 0) t (get_or marks (t * length fours + j) true) (of_list K factors (t * length fours + j))) →
    (i : ℕ) → i < d.size → IsFactor K (lost K d marks) (element K d i) (get_or marks i true) (of_list K factors i)
all-factors K N d q l q_is o one size some table T marks len s sorted inverse inverse_is v hold fours factors wide places made i h =
    let turn = turn_of q d.size i size h in
    let t = turn.0 in
    let j = turn.1 in
    let made_here = made t j turn.2 (omega (arith, turn.3, wide)) in
    subst (λ m. IsFactor K (lost K d marks) (element K d m) (get_or marks m true) (of_list K factors m)) (sym turn.4)
    (turn-factor K N d q l q_is o one size some table T j turn.3 marks len s sorted inverse inverse_is v hold t turn.2 (of_list K factors (t * q + j))
    (subst (λ k. IsMadeOf K v k t (get_or marks (t * q + j) true) (of_list K factors (t * q + j))) (places j turn.3)
    (subst (λ m. IsMadeOf K v (get_or fours j 0) t (get_or marks (t * m + j) true) (of_list K factors (t * m + j))) wide made_here)))
