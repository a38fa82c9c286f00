-- Restoring the order of items that stand at the places of their indices' bits read backwards.
use Rattle.std.proofs.Common.{◌≡◌, ◌≢◌, ℕ, zero, ◌+◌, ◌-◌, ◌^◌, ◌<◌, ◌≤◌, suc, ◌*◌, ◌/◌, ◌%◌, ◌++◌, List, length, get_or, sym, ◌∙◌, ap, subst, ⊎_elim, arith, refl}
use Rattle.std.proofs.lemmas.Bool.{cases_eq, cases_lt}
use Rattle.std.proofs.lemmas.List.{get_or_append_left, get_or-append-add}
use Rattle.ark_math_transforms.specs.BitReversal.{reversed}
use Rattle.ark_fft.specs.Halves.{IsDealt}
use Rattle.ark_math_transforms.proofs.Numbers.BitReversal.{reversed_even, reversed_odd, reversed_low, reversed_high, reversed_none, reversed_below, reversed_twice}
use Rattle.ark_math.proofs.Numbers.PowersOfTwo.{pow_twice}
use Rattle.std.proofs.lemmas.Nat.{pow_pos}

-- the pairs of an index and its reversal of which one is below i are swapped, and the others are not
pub record IsRestored {X : Type 0} (n : ℕ) (old now : ℕ → X) (i : ℕ) : Type 0 where
  pub done : (p : ℕ) → p < 2 ^ n → p < i → now p ≡ old (reversed n p)
  pub done_before : (p : ℕ) → p < 2 ^ n → reversed n p < i → now p ≡ old (reversed n p)
  pub rest : (p : ℕ) → p < 2 ^ n → i ≤ p → i ≤ reversed n p → now p ≡ old p

restored_none : {X : Type 0} (n : ℕ) (xs : ℕ → X) → IsRestored n xs xs 0
restored_none n xs = record {
  done = λ p b l. absurd (omega arith);
  done_before = λ p b l. absurd (omega arith);
  rest = λ p b l m. refl;
}

module _ {X : Type 0} (n : ℕ) (old now : ℕ → X) (i : ℕ) (in_list : i < 2 ^ n) (so_far : IsRestored n old now i) where
  -- an index that isn't above its reversal has been swapped before, or stays
  here : reversed n i ≤ i → now i ≡ old (reversed n i)
  here le =
      ⊎_elim
      (λ (e : reversed n i ≡ i).
      so_far.rest i in_list (omega arith) (omega arith) ∙ ap old (sym e))
      (λ (ne : reversed n i ≢ i). so_far.done_before i in_list (omega arith))
      (cases_eq (reversed n i) i)

  pub restored_same : reversed n i ≤ i → IsRestored n old now (i + 1)
  restored_same le =
      let twice = reversed_twice n i in_list in
      record {
        done = λ p b l.
            ⊎_elim
            (λ (e : p ≡ i). subst (λ t. now t ≡ old (reversed n t)) (sym e) (here le))
            (λ (ne : p ≢ i). so_far.done p b (omega arith))
            (cases_eq p i);
        done_before = λ p b l.
            ⊎_elim
            (λ (e : reversed n p ≡ i).
            -- then p is the reversal of i, which is i or below
            let q : p ≡ reversed n i = sym (reversed_twice n p b) ∙ ap (reversed n) e in
            ⊎_elim
            (λ (f : p ≡ i). subst (λ t. now t ≡ old (reversed n t)) (sym f) (here le))
            (λ (ne : p ≢ i). so_far.done p b (omega arith))
            (cases_eq p i))
            (λ (ne : reversed n p ≢ i). so_far.done_before p b (omega arith))
            (cases_eq (reversed n p) i);
        rest = λ p b l m. so_far.rest p b (omega arith) (omega arith);
      }

  pub restored_swap : (new : ℕ → X) → i < reversed n i → new i ≡ now (reversed n i) → new (reversed n i) ≡ now i → ((k : ℕ) → k ≢ i → k ≢ reversed n i → new k ≡ now k) → IsRestored n old new (i + 1)
  restored_swap new lt first second others =
      let j = reversed n i in
      let j_in : j < 2 ^ n = reversed_below n i in_list in
      let twice : reversed n j ≡ i = reversed_twice n i in_list in
      let at_i : new i ≡ old j = first ∙ so_far.rest j j_in (omega arith) (omega (arith, twice)) in
      let at_j : new j ≡ old (reversed n j) = second ∙ (so_far.rest i in_list (omega arith) (omega arith) ∙ ap old (sym twice)) in
      record {
        done = λ p b l.
            ⊎_elim
            (λ (e : p ≡ i). subst (λ t. new t ≡ old (reversed n t)) (sym e) at_i)
            (λ (ne : p ≢ i).
            let nj : p ≢ reversed n i = omega arith in
            others p ne nj ∙ so_far.done p b (omega arith))
            (cases_eq p i);
        done_before = λ p b l.
            ⊎_elim
            (λ (e : reversed n p ≡ i).
            let q : p ≡ reversed n i = sym (reversed_twice n p b) ∙ ap (reversed n) e in
            subst (λ t. new t ≡ old (reversed n t)) (sym q) at_j)
            (λ (ne : reversed n p ≢ i).
            -- p isn't i, whose reversal is above i, nor the reversal of i, whose reversal is i
            let ni : p ≢ i = λ e. (let f = ap (reversed n) e in omega arith) in
            let nj : p ≢ reversed n i = λ e. ne (ap (reversed n) e ∙ twice) in
            others p ni nj ∙ so_far.done_before p b (omega arith))
            (cases_eq (reversed n p) i);
        rest = λ p b l m.
            let ni : p ≢ i = omega arith in
            let nj : p ≢ reversed n i = λ e. (let f = ap (reversed n) e ∙ twice in omega arith) in
            others p ni nj ∙ so_far.rest p b (omega arith) (omega arith);
      }

-- the first index is its own reversal
pub restored_first : {X : Type 0} (n : ℕ) (xs : ℕ → X) → IsRestored n xs xs 1
restored_first n xs = restored_same n xs xs 0 (pow_pos n) (restored_none n xs) (omega (arith, reversed_none n))

-- the length of a list with four levels at least
pub sixteenth : (n len : ℕ) → 4 ≤ n → len ≡ 2 ^ n → len ≡ 16 * 2 ^ (n - 4)
sixteenth n len le is =
    let m = n - 4 in
    let e : suc (suc (suc (suc m))) ≡ n = omega (arith, le) in
    is ∙ ap (λ t. 2 ^ t) (sym e) ∙ omega (arith, pow_twice m, pow_twice (suc m), pow_twice (suc (suc m)), pow_twice (suc (suc (suc m))))

-- ---- blocks of four, after the two highest bits of each index were exchanged with the two lowest ones

module _ {X : Type 0} (i e : ℕ) where
  -- a block is dealt of what the lists were before, whose block was as it had been at first
  pub dealt_here : (first second third fourth first1 second1 third1 fourth1 now : List X) → ((d : X) → (get_or first1 (4 * i + e) d ≡ get_or first (4 * i + e) d) × (get_or second1 (4 * i + e) d ≡ get_or second (4 * i + e) d) × (get_or third1 (4 * i + e) d ≡ get_or third (4 * i + e) d) × (get_or fourth1 (4 * i + e) d ≡ get_or fourth (4 * i + e) d)) → IsDealt first1 second1 third1 fourth1 e i now → IsDealt first second third fourth e i now
  dealt_here first second third fourth first1 second1 third1 fourth1 now same dealt = record {
    at0 = λ d. dealt.at0 d ∙ (same d).0;
    at1 = λ d. dealt.at1 d ∙ (same d).2;
    at2 = λ d. dealt.at2 d ∙ (same d).1;
    at3 = λ d. dealt.at3 d ∙ (same d).3;
  }

  -- a block that was dealt, and is as it was
  pub dealt_before : (first second third fourth now next : List X) → ((j : ℕ) → j < 4 → (d : X) → get_or next (4 * i + j) d ≡ get_or now (4 * i + j) d) → IsDealt first second third fourth e i now → IsDealt first second third fourth e i next
  dealt_before first second third fourth now next same dealt =
      let none : 4 * i + 0 ≡ 4 * i = omega arith in
      record {
        at0 = λ d. subst (λ t. get_or next t d ≡ get_or now t d) none (same 0 (omega arith) d) ∙ dealt.at0 d;
        at1 = λ d. same 1 (omega arith) d ∙ dealt.at1 d;
        at2 = λ d. same 2 (omega arith) d ∙ dealt.at2 d;
        at3 = λ d. same 3 (omega arith) d ∙ dealt.at3 d;
      }

-- the places of a list in the list that it is the front or the back of
in_front : {X : Type 0} (whole front back : List X) (n j : ℕ) (d : X) → whole ≡ front ++ back → length front ≡ n → j < n → get_or whole j d ≡ get_or front j d
in_front whole front back n j d joins len l = ap (λ xs. get_or xs j d) joins ∙ get_or_append_left front back d j (omega (arith, l, len))

in_back : {X : Type 0} (whole front back : List X) (n j : ℕ) (d : X) → whole ≡ front ++ back → length front ≡ n → get_or whole (n + j) d ≡ get_or back j d
in_back whole front back n j d joins len = ap (λ xs. get_or xs (n + j) d) joins ∙ ap (λ k. get_or (front ++ back) (k + j) d) (sym len) ∙ get_or-append-add front back j d

-- the four quarters of a list
pub record AreQuarters {X : Type 0} (n : ℕ) (whole first second third fourth : List X) : Type 0 where
  pub lo : List X
  pub hi : List X
  pub joins : whole ≡ lo ++ hi
  pub of_lo : lo ≡ first ++ second
  pub of_hi : hi ≡ third ++ fourth
  pub first_len : length first ≡ n
  pub lo_len : length lo ≡ 2 * n
  pub third_len : length third ≡ n

module _ {X : Type 0} (n : ℕ) (whole first second third fourth : List X) (d : X) (h : AreQuarters n whole first second third fourth) where
  in_first : (j : ℕ) → j < n → get_or whole j d ≡ get_or first j d
  in_first j l = in_front whole h.lo h.hi (2 * n) j d h.joins h.lo_len (omega (arith, l)) ∙ in_front h.lo first second n j d h.of_lo h.first_len l

  in_second : (j : ℕ) → j < n → get_or whole (n + j) d ≡ get_or second j d
  in_second j l = in_front whole h.lo h.hi (2 * n) (n + j) d h.joins h.lo_len (omega (arith, l)) ∙ in_back h.lo first second n j d h.of_lo h.first_len

  in_third : (j : ℕ) → j < n → get_or whole (2 * n + j) d ≡ get_or third j d
  in_third j l = in_back whole h.lo h.hi (2 * n) j d h.joins h.lo_len ∙ in_front h.hi third fourth n j d h.of_hi h.third_len l

  in_fourth : (j : ℕ) → get_or whole (2 * n + (n + j)) d ≡ get_or fourth j d
  in_fourth j = in_back whole h.lo h.hi (2 * n) (n + j) d h.joins h.lo_len ∙ in_back h.hi third fourth n j d h.of_hi h.third_len

-- the two highest bits of an index become the lowest ones
top_two : (k r q p : ℕ) → r < 4 → q < 2 ^ k → p ≡ r * 2 ^ k + q → reversed (suc (suc k)) p ≡ 4 * reversed k q + (2 * (r % 2) + r / 2)
top_two k zero q p four l is =
    let e : p ≡ q = omega (arith, is) in
    let b : q < 2 ^ suc k = omega (arith, pow_twice k, l) in
    ap (reversed (suc (suc k))) e ∙ omega (arith, reversed_low (suc k) q b, reversed_low k q l)
top_two k (suc zero) q p four l is =
    let e : p ≡ 2 ^ k + q = omega (arith, is) in
    let b : p < 2 ^ suc k = omega (arith, pow_twice k, l, e) in
    omega (arith, reversed_low (suc k) p b, reversed_high k q p e)
top_two k (suc (suc zero)) q p four l is =
    let e : p ≡ 2 ^ suc k + q = omega (arith, is, pow_twice k) in
    omega (arith, reversed_high (suc k) q p e, reversed_low k q l)
top_two k (suc (suc (suc zero))) q p four l is =
    let e : p ≡ 2 ^ suc k + (2 ^ k + q) = omega (arith, is, pow_twice k) in
    omega (arith, reversed_high (suc k) (2 ^ k + q) p e, reversed_high k q (2 ^ k + q) refl)
top_two k (suc (suc (suc (suc r)))) q p four l is = absurd (omega arith)

-- the two lowest bits become the highest ones
bottom_two : (k i c q : ℕ) → c < 4 → i < 2 ^ k → q ≡ 4 * i + c → reversed (suc (suc k)) q ≡ (2 * (c % 2) + c / 2) * 2 ^ k + reversed k i
bottom_two k i zero q four l is =
    let e : q ≡ 2 * (2 * i) = omega (arith, is) in
    let b : 2 * i < 2 ^ suc k = omega (arith, pow_twice k, l) in
    ap (reversed (suc (suc k))) e ∙ omega (arith, reversed_even (suc k) (2 * i) b, reversed_even k i l)
bottom_two k i (suc zero) q four l is =
    let e : q ≡ 2 * (2 * i) + 1 = omega (arith, is) in
    let b : 2 * i < 2 ^ suc k = omega (arith, pow_twice k, l) in
    ap (reversed (suc (suc k))) e ∙ omega (arith, reversed_odd (suc k) (2 * i) b, reversed_even k i l, pow_twice k)
bottom_two k i (suc (suc zero)) q four l is =
    let e : q ≡ 2 * (2 * i + 1) = omega (arith, is) in
    let b : 2 * i + 1 < 2 ^ suc k = omega (arith, pow_twice k, l) in
    ap (reversed (suc (suc k))) e ∙ omega (arith, reversed_even (suc k) (2 * i + 1) b, reversed_odd k i l)
bottom_two k i (suc (suc (suc zero))) q four l is =
    let e : q ≡ 2 * (2 * i + 1) + 1 = omega (arith, is) in
    let b : 2 * i + 1 < 2 ^ suc k = omega (arith, pow_twice k, l) in
    ap (reversed (suc (suc k))) e ∙ omega (arith, reversed_odd (suc k) (2 * i + 1) b, reversed_odd k i l, pow_twice k)
bottom_two k i (suc (suc (suc (suc c)))) q four l is = absurd (omega arith)

-- the bits of an index r * (4 * 2 ^ m) + (4 * i + c) backwards are those of c, of i and of r
backwards : (m r i c p : ℕ) → r < 4 → i < 2 ^ m → c < 4 → p ≡ r * (4 * 2 ^ m) + (4 * i + c) → reversed (suc (suc (suc (suc m)))) p ≡ (2 * (c % 2) + c / 2) * (4 * 2 ^ m) + (4 * reversed m i + (2 * (r % 2) + r / 2))
backwards m r i c p in_r in_i in_c is =
    let n : 2 ^ suc (suc m) ≡ 4 * 2 ^ m = omega (arith, pow_twice (suc m), pow_twice m) in
    let below : 4 * i + c < 2 ^ suc (suc m) = omega (arith, n, in_i, in_c) in
    let ends : reversed (suc (suc (suc (suc m)))) p ≡ 4 * reversed (suc (suc m)) (4 * i + c) + (2 * (r % 2) + r / 2) =
    top_two (suc (suc m)) r (4 * i + c) p in_r below (is ∙ ap (λ t. r * t + (4 * i + c)) (sym n)) in
    ends ∙ ap (λ t. 4 * t + (2 * (r % 2) + r / 2)) (bottom_two m i c (4 * i + c) in_c in_i refl) ∙ omega arith

module _ {X : Type 0} (m : ℕ) (whole first second third fourth : List X) (d : X) (h : AreQuarters (4 * 2 ^ m) whole first second third fourth) where
  -- a quarter's blocks are dealt, and then each goes to the index that has the bits of its own backwards
  pub record IsRow (e : ℕ) (last : List X) : Type 0 where
    pub dealt : List X
    pub blocks : (k : ℕ) → k < 2 ^ m → IsDealt first second third fourth e k dealt
    pub order : (k b : ℕ) → b < 4 → k < 2 ^ m → get_or last (4 * k + b) d ≡ get_or dealt (4 * reversed m k + b) d

  in_row : (e : ℕ) (last : List X) → e < 4 → IsRow e last → (i c : ℕ) → i < 2 ^ m → c < 4 → get_or last (4 * i + c) d ≡ get_or whole ((2 * (c % 2) + c / 2) * (4 * 2 ^ m) + (4 * reversed m i + e)) d
  in_row e last le row i zero l four =
      let b = reversed_below m i l in
      let none : 4 * reversed m i + 0 ≡ 4 * reversed m i = omega arith in
      let at : 4 * reversed m i + e ≡ 0 * (4 * 2 ^ m) + (4 * reversed m i + e) = omega arith in
      row.order i 0 four l ∙ ap (λ t. get_or row.dealt t d) none ∙ (row.blocks (reversed m i) b).at0 d
      ∙ sym (in_first (4 * 2 ^ m) whole first second third fourth d h (4 * reversed m i + e) (omega (arith, b, le))) ∙ ap (λ t. get_or whole t d) at
  in_row e last le row i (suc zero) l four =
      let b = reversed_below m i l in
      row.order i 1 four l ∙ (row.blocks (reversed m i) b).at1 d
      ∙ sym (in_third (4 * 2 ^ m) whole first second third fourth d h (4 * reversed m i + e) (omega (arith, b, le)))
  in_row e last le row i (suc (suc zero)) l four =
      let b = reversed_below m i l in
      let at : 4 * 2 ^ m + (4 * reversed m i + e) ≡ 1 * (4 * 2 ^ m) + (4 * reversed m i + e) = omega arith in
      row.order i 2 four l ∙ (row.blocks (reversed m i) b).at2 d
      ∙ sym (in_second (4 * 2 ^ m) whole first second third fourth d h (4 * reversed m i + e) (omega (arith, b, le))) ∙ ap (λ t. get_or whole t d) at
  in_row e last le row i (suc (suc (suc zero))) l four =
      let b = reversed_below m i l in
      let at : 2 * (4 * 2 ^ m) + (4 * 2 ^ m + (4 * reversed m i + e)) ≡ 3 * (4 * 2 ^ m) + (4 * reversed m i + e) = omega arith in
      row.order i 3 four l ∙ (row.blocks (reversed m i) b).at3 d
      ∙ sym (in_fourth (4 * 2 ^ m) whole first second third fourth d h (4 * reversed m i + e)) ∙ ap (λ t. get_or whole t d) at
  in_row e last le row i (suc (suc (suc (suc c)))) l four = absurd (omega arith)

  -- place q of quarter r
  in_quarter : (r q p : ℕ) (last : List X) → r < 4 → q < 4 * 2 ^ m → p ≡ r * (4 * 2 ^ m) + q → IsRow (2 * (r % 2) + r / 2) last → get_or last q d ≡ get_or whole (reversed (suc (suc (suc (suc m)))) p) d
  in_quarter r q p last in_r l is row =
      let i = q / 4 in
      let c = q % 4 in
      let parts : q ≡ 4 * i + c = omega arith in
      let in_i : i < 2 ^ m = omega (arith, l) in
      let in_c : c < 4 = omega arith in
      ap (λ t. get_or last t d) parts
      ∙ in_row (2 * (r % 2) + r / 2) last (omega (arith, in_r)) row i c in_i in_c
      ∙ ap (λ t. get_or whole t d) (sym (backwards m r i c p in_r in_i in_c (is ∙ ap (λ t. r * (4 * 2 ^ m) + t) parts)))

  pub quarters_restored : (now first2 second2 third2 fourth2 : List X) → AreQuarters (4 * 2 ^ m) now first2 second2 third2 fourth2 → IsRow 0 first2 → IsRow 2 second2 → IsRow 1 third2 → IsRow 3 fourth2 → (p : ℕ) → p < 2 ^ suc (suc (suc (suc m))) → get_or now p d ≡ get_or whole (reversed (suc (suc (suc (suc m)))) p) d
  quarters_restored now first2 second2 third2 fourth2 g one two three four p l =
      let n = 4 * 2 ^ m in
      let all : p < 4 * n = omega (arith, l, pow_twice m, pow_twice (suc m), pow_twice (suc (suc m)), pow_twice (suc (suc (suc m)))) in
      ⊎_elim
      (λ (a : p < n). in_first n now first2 second2 third2 fourth2 d g p a ∙ in_quarter 0 p p first2 (omega arith) a (omega arith) one)
      (λ (a : n ≤ p).
      ⊎_elim
      (λ (b : p < 2 * n).
      let e : n + (p - n) ≡ p = omega (arith, a) in
      ap (λ t. get_or now t d) (sym e) ∙ in_second n now first2 second2 third2 fourth2 d g (p - n) (omega (arith, a, b))
      ∙ in_quarter 1 (p - n) p second2 (omega arith) (omega (arith, a, b)) (omega (arith, e)) two)
      (λ (b : 2 * n ≤ p).
      ⊎_elim
      (λ (c : p < 3 * n).
      let e : 2 * n + (p - 2 * n) ≡ p = omega (arith, b) in
      ap (λ t. get_or now t d) (sym e) ∙ in_third n now first2 second2 third2 fourth2 d g (p - 2 * n) (omega (arith, b, c))
      ∙ in_quarter 2 (p - 2 * n) p third2 (omega arith) (omega (arith, b, c)) (omega (arith, e)) three)
      (λ (c : 3 * n ≤ p).
      let e : 2 * n + (n + (p - 3 * n)) ≡ p = omega (arith, c) in
      ap (λ t. get_or now t d) (sym e) ∙ in_fourth n now first2 second2 third2 fourth2 d g (p - 3 * n)
      ∙ in_quarter 3 (p - 3 * n) p fourth2 (omega arith) (omega (arith, c, all)) (omega (arith, e)) four)
      (cases_lt p (3 * n)))
      (cases_lt p (2 * n)))
      (cases_lt p n)
