-- Lists through a meaning of their items: reads and writes, order, tests, the greatest number of an item.
use Rattle.std.proofs.Common.{◌≡◌, ◌≢◌, ◌-◌, ℕ, zero, suc, Bool, Decides, All, AllPairs, drop, refl, ◌+◌, ◌<◌, ◌≤◌, List, [], ◌∷◌, ◌++◌, length, get_or, set, take, replicate, map, sym, ◌∙◌, ap, ap₂, subst, ⊎_elim, arith, get_or-set_same, get_or-set_other}
use Rattle.std.proofs.lemmas.List.{map-set, map-append, get_or-map, get_or_append_left, get_or-append-add, length-drop, length-map}
use Rattle.std.specs.Cmp.Lexicographic.{pointwise}
use Rattle.std.proofs.lemmas.Bool.{cases_eq, true≢false}
use Rattle.std.proofs.lemmas.Bool.Decides.{Decides-and}
use Rattle.std.proofs.lemmas.List.Elements.{All-map}
use Rattle.std.proofs.lemmas.List.Kept.{AllPairs-cons}
use Rattle.std.proofs.Math.Seq.{take-append_seam, take-length}

module _ {X M : Type 0} (m : X → M) (z : M) where
  pub read_as : (xs : List X) (i : ℕ) (x : X) → i < length xs → x ≡ get_or xs i x → m x ≡ get_or (map m xs) i z
  read_as xs i x l e = ap m e ∙ sym (get_or-map m xs i x z l)

  pub written_same : (xs : List X) (i : ℕ) (a : X) → i < length xs → get_or (map m (set xs i a)) i z ≡ m a
  written_same xs i a l =
      let b : i < length (map m xs) = omega (arith, length-map xs m) in
      ap (λ t. get_or t i z) (map-set m xs i a) ∙ get_or-set_same (map m xs) i (m a) z b

  pub written_other : (xs : List X) (i k : ℕ) (a : X) → k ≢ i → get_or (map m (set xs i a)) k z ≡ get_or (map m xs) k z
  written_other xs i k a ne =
      ap (λ t. get_or t k z) (map-set m xs i a) ∙ get_or-set_other (map m xs) i k (m a) z ne

  -- a loop that writes at i what P says there
  pub written_more : (P : ℕ → M) (xs : List X) (i : ℕ) (a : X) → i < length xs → ((k : ℕ) → k < i → get_or (map m xs) k z ≡ P k) → m a ≡ P i → (k : ℕ) → k < i + 1 → get_or (map m (set xs i a)) k z ≡ P k
  written_more P xs i a l before here k b =
      ⊎_elim
      (λ (e : k ≡ i). subst (λ t. get_or (map m (set xs i a)) t z ≡ P t) (sym e) (written_same xs i a l ∙ here))
      (λ (ne : k ≢ i). let c : k < i = omega arith in written_other xs i k a ne ∙ before k c)
      (cases_eq k i)

  -- and leaves what is after it
  pub written_rest : (P : ℕ → M) (xs : List X) (i : ℕ) (a : X) → ((k : ℕ) → i ≤ k → get_or (map m xs) k z ≡ P k) → (k : ℕ) → i + 1 ≤ k → get_or (map m (set xs i a)) k z ≡ P k
  written_rest P xs i a rest k b =
      let ne : k ≢ i = omega arith in
      let c : i ≤ k = omega arith in
      written_other xs i k a ne ∙ rest k c

  pub read_at : (xs : List X) (i : ℕ) (d : X) → i < length xs → m (get_or xs i d) ≡ get_or (map m xs) i z
  read_at xs i d l = sym (get_or-map m xs i d z l)

  -- the items of two lists joined
  pub read_front : (xs ys : List X) (i : ℕ) → i < length xs → get_or (map m (xs ++ ys)) i z ≡ get_or (map m xs) i z
  read_front xs ys i l =
      ap (λ t. get_or t i z) (map-append m xs ys) ∙ get_or_append_left (map m xs) (map m ys) z i (omega (arith, length-map xs m))

  pub read_back : (xs ys : List X) (n i : ℕ) → length xs ≡ n → get_or (map m (xs ++ ys)) (n + i) z ≡ get_or (map m ys) i z
  read_back xs ys n i e =
      ap (λ t. get_or t (n + i) z) (map-append m xs ys)
      ∙ (ap (λ t. get_or (map m xs ++ map m ys) (t + i) z) (sym (length-map xs m ∙ e)) ∙ get_or-append-add (map m xs) (map m ys) i z)

  -- an order of the items is one of their meanings
  pub read_order : (r : ℕ → ℕ) (old now : List X) → ((p : ℕ) → p < length now → r p < length old) → ((p : ℕ) (d : X) → p < length now → get_or now p d ≡ get_or old (r p) d) → (p : ℕ) → p < length now → get_or (map m now) p z ≡ get_or (map m old) (r p) z
  read_order r old [] within h p l = absurd (omega arith)
  read_order r old (x ∷ xs) within h p l =
      get_or-map m (x ∷ xs) p x z l ∙ (ap m (h p x l) ∙ sym (get_or-map m old (r p) x z (within p l)))

  replicated : (k j : ℕ) (x : X) → m x ≡ z → get_or (map m (replicate k x)) j z ≡ z
  replicated zero j x e = refl
  replicated (suc k) zero x e = e
  replicated (suc k) (suc j) x e = replicated k j x e

  -- a list cut to n items, or filled with zeros to n
  pub read_fitted : (xs : List X) (n k : ℕ) (x : X) → m x ≡ z → (j : ℕ) → j < n → get_or (map m (take n xs ++ replicate k x)) j z ≡ get_or (map m xs) j z
  read_fitted xs zero k x e j l = absurd (omega arith)
  read_fitted [] (suc n) k x e j l = replicated k j x e
  read_fitted (y ∷ xs) (suc n) k x e zero l = refl
  read_fitted (y ∷ xs) (suc n) k x e (suc j) l = read_fitted xs n k x e j (omega arith)

-- a slice of all of a list, written back
pub written_back : {X : Type 0} (xs ys : List X) (n : ℕ) → length xs ≡ n → take n (xs ++ ys) ≡ xs
written_back xs ys n e = ap (λ k. take k (xs ++ ys)) (sym e) ∙ take-append_seam xs ys

-- a map that tells items apart tells lists apart
pub same_from_map : {X Y : Type 0} (f : X → Y) → ((x y : X) → f x ≡ f y → x ≡ y) → (xs ys : List X) → map f xs ≡ map f ys → xs ≡ ys
same_from_map f h [] [] e = refl
same_from_map f h [] (y ∷ ys) e = absurd (omega (arith, ap length e))
same_from_map f h (x ∷ xs) [] e = absurd (omega (arith, ap length e))
same_from_map f h (x ∷ xs) (y ∷ ys) e =
    let first : f x ≡ f y = cc in
    let rest : map f xs ≡ map f ys = cc in
    ap₂ (λ t ts. t ∷ ts) (h x y first) (same_from_map f h xs ys rest)

pub AllPairs-map : {X Y : Type 0} (f : X → Y) (R : Y → Y → Type 0) (xs : List X) → AllPairs (λ x y. R (f x) (f y)) xs → AllPairs R (map f xs)
AllPairs-map f R [] h = λ i j d l m. absurd (omega arith)
AllPairs-map f R (x ∷ xs) h =
    AllPairs-cons R (f x) (map f xs)
    (All-map (R (f x)) f xs (λ k d l. h 0 (suc k) d (omega arith) (omega arith)))
    (AllPairs-map f R xs (λ i j d l m. h (suc i) (suc j) d (omega arith) (omega arith)))

-- a test of items by what f gives, and so of lists
pub pointwise-Decides_map : {X Y : Type 0} {E : X → X → Bool} (f : X → Y) → ((x y : X) → Decides (E x y) (f x ≡ f y)) → (xs ys : List X) → Decides (pointwise E xs ys) (map f xs ≡ map f ys)
pointwise-Decides_map f h [] [] = (λ _. refl, λ _. refl)
pointwise-Decides_map f h [] (y ∷ ys) = (λ e. absurd (true≢false (sym e)), λ e. let l = ap length e in absurd (omega arith))
pointwise-Decides_map f h (x ∷ xs) [] = (λ e. absurd (true≢false (sym e)), λ e. let l = ap length e in absurd (omega arith))
pointwise-Decides_map {E = E} f h (x ∷ xs) (y ∷ ys) =
    let both = Decides-and (E x y) (pointwise E xs ys) (h x y) (pointwise-Decides_map f h xs ys) in
    (λ e. let p = both.0 e in ap₂ (λ t ts. t ∷ ts) p.0 p.1, λ e. both.1 (ap (λ ts. get_or ts 0 (f x)) e, ap (drop 1) e))

-- what holds of each item holds of one
pub item_of : {X : Type 0} (P : X → Type 0) (xs : List X) (i : ℕ) (x : X) → All P xs → i < length xs → x ≡ get_or xs i x → P x
item_of P xs i x h l is = subst P (sym is) (h i x l)

-- the items from a place on, as slices spell them
pub tail : {X : Type 0} (xs : List X) (i : ℕ) → take (length xs - i) (drop i xs) ≡ drop i xs
tail xs i = ap (λ n. take n (drop i xs)) (sym (length-drop i xs)) ∙ take-length (drop i xs)
