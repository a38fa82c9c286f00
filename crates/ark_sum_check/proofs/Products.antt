-- Sums of products, one factor and one addend after the other, and halves of cubes.
use Rattle.std.proofs.Common.{◌≡◌, ℕ, suc, ◌+◌, ◌-◌, ◌*◌, ◌^◌, ◌%◌, ◌<◌, ◌≤◌, max, List, [], ◌∷◌, length, get_or, drop, sym, ◌∙◌, ap, arith, drop-cons, ◌++◌, Vec, Global}
use Rattle.std.proofs.lemmas.List.{drop_all}
use Rattle.std.proofs.Math.Nat.{mod-eq_of_lt, pow-le-pow_right}
use Rattle.ark_math.specs.Field.{FieldOn, IsField}
use Rattle.ark_math.specs.Univariate.{nothing, of_list}
use Rattle.ark_math.proofs.Lists.Lists.{read_as}
use Rattle.ark_math_variables.proofs.Polynomials.Cube.{pow_twice}
use Rattle.ark_math.specs.Module.{tabulate}
use Rattle.ark_math.proofs.Lists.Tabulated.{tabulate-push}
use Rattle.ark_sum_check.specs.Cube.{all_of, combined, longest, picked_product}
use Rattle.ark_sum_check.specs.Lists.{as_products, as_tables}
use Rattle.ark_sum_check.specs.declared.addend.Addend.{Addend}

module _ {F : Type 0} (K : FieldOn F) (N : IsField K) where
  -- the first j factors are multiplied, and the others are left
  pub picked-next : (is : List ℕ) (v : ℕ → F) (j i : ℕ) (p q whole : F) → j < length is → i ≡ get_or is j i → q ≡ K.times p (v i) → K.times p (picked_product K (drop j is) v) ≡ whole → K.times q (picked_product K (drop (j + 1) is) v) ≡ whole
  picked-next is v j i p q whole l e f h =
      let s : j + 1 ≡ suc j = omega arith in
      ap (λ k. K.times q (picked_product K (drop k is) v)) s
      ∙ ap (λ u. K.times u (picked_product K (drop (suc j) is) v)) (f ∙ ap (λ k. K.times p (v k)) e)
      ∙ N.times_assoc p (v (get_or is j i)) (picked_product K (drop (suc j) is) v)
      ∙ ap (λ us. K.times p (picked_product K us v)) (sym (drop-cons is j i l))
      ∙ h

  pub picked-end : (is : List ℕ) (v : ℕ → F) (j : ℕ) (p whole : F) → length is ≤ j → K.times p (picked_product K (drop j is) v) ≡ whole → p ≡ whole
  picked-end is v j p whole l h = sym (N.times_one p) ∙ ap (λ us. K.times p (picked_product K us v)) (sym (drop_all j is l)) ∙ h

  -- the first j addends are added up, and the others are left
  pub combined-next : (bs : List (Addend F)) (v : ℕ → F) (j : ℕ) (a : Addend F) (p q whole : F) → j < length bs → a ≡ get_or bs j a → q ≡ K.plus p (K.times a.coefficient (picked_product K a.factors.items v))
      → K.plus p (combined K (as_products (drop j bs)) v) ≡ whole → K.plus q (combined K (as_products (drop (j + 1) bs)) v) ≡ whole
  combined-next bs v j a p q whole l e f h =
      let s : j + 1 ≡ suc j = omega arith in
      let t = λ (b : Addend F). K.times b.coefficient (picked_product K b.factors.items v) in
      let rest = combined K (as_products (drop (suc j) bs)) v in
      ap (λ k. K.plus q (combined K (as_products (drop k bs)) v)) s
      ∙ ap (λ u. K.plus u rest) (f ∙ ap (λ b. K.plus p (t b)) e)
      ∙ N.plus_assoc p (t (get_or bs j a)) rest
      ∙ ap (λ us. K.plus p (combined K (as_products us) v)) (sym (drop-cons bs j a l))
      ∙ h

  pub combined-begin : (bs : List (Addend F)) (v : ℕ → F) → K.plus K.zero (combined K (as_products bs) v) ≡ combined K (as_products bs) v
  combined-begin bs v = N.plus_comm K.zero (combined K (as_products bs) v) ∙ N.plus_zero (combined K (as_products bs) v)

  pub combined-end : (bs : List (Addend F)) (v : ℕ → F) (j : ℕ) (p whole : F) → length bs ≤ j → K.plus p (combined K (as_products (drop j bs)) v) ≡ whole → p ≡ whole
  combined-end bs v j p whole l h = sym (N.plus_zero p) ∙ ap (λ us. K.plus p (combined K (as_products us) v)) (sym (drop_all j bs l)) ∙ h

  -- one factor more
  picked-append : (is : List ℕ) (i : ℕ) (v : ℕ → F) → picked_product K (is ++ i ∷ []) v ≡ K.times (picked_product K is v) (v i)
  picked-append [] i v = N.times_one (v i) ∙ sym (N.times_comm K.one (v i) ∙ N.times_one (v i))
  picked-append (k ∷ is) i v = ap (K.times (v k)) (picked-append is i v) ∙ sym (N.times_assoc (v k) (picked_product K is v) (v i))

  pub all-more : (n : ℕ) (v : ℕ → F) (p q : F) → p ≡ picked_product K (tabulate n (λ i. i)) v → q ≡ K.times p (v n) → q ≡ picked_product K (tabulate (n + 1) (λ i. i)) v
  all-more n v p q e f =
      f ∙ ap (λ u. K.times u (v n)) e ∙ sym (picked-append (tabulate n (λ i. i)) n v) ∙ ap (λ is. picked_product K is v) (sym (tabulate-push n (λ i. i)))

  -- the one product of n tables, as a sum
  pub combined-all : (n : ℕ) (v : ℕ → F) → combined K (all_of K n) v ≡ picked_product K (tabulate n (λ i. i)) v
  combined-all n v =
      let p = picked_product K (tabulate n (λ i. i)) v in
      N.plus_zero (K.times K.one p) ∙ N.times_comm K.one p ∙ N.times_one p

  -- tables of lists
  pub table_is : (vs : List (Vec F Global)) (j : ℕ) (v : Vec F Global) → j < length vs → v ≡ get_or vs j v → of_list K v.items ≡ get_or (as_tables K vs) j (nothing K)
  table_is vs j v l e = read_as (λ w. of_list K w.items) (nothing K) vs j v l e

-- the longest of the first j addends, and the others are left
pub most-next : {F : Type 0} (bs : List (Addend F)) (j : ℕ) (a : Addend F) (p q whole : ℕ) → j < length bs → a ≡ get_or bs j a → q ≡ max p (length a.factors.items) → max p (longest (as_products (drop j bs))) ≡ whole → max q (longest (as_products (drop (j + 1) bs))) ≡ whole
most-next {F = F} bs j a p q whole l e f h =
    let s : j + 1 ≡ suc j = omega arith in
    let n = longest (as_products (drop (suc j) bs)) in
    let long : longest (as_products (drop j bs)) ≡ max (length a.factors.items) n =
    ap (λ us. longest (as_products us)) (drop-cons bs j a l) ∙ ap (λ (b : Addend F). max (length b.factors.items) n) (sym e) in
    let same : longest (as_products (drop (j + 1) bs)) ≡ n = ap (λ k. longest (as_products (drop k bs))) s in
    omega (arith, long, same, f, h)

pub most-end : {F : Type 0} (bs : List (Addend F)) (j p whole : ℕ) → length bs ≤ j → max p (longest (as_products (drop j bs))) ≡ whole → p ≡ whole
most-end bs j p whole l h =
    let none : longest (as_products (drop j bs)) ≡ 0 = ap (λ us. longest (as_products us)) (drop_all j bs l) in
    omega (arith, none, h)

-- ---- halves

pub half_whole : (n h : ℕ) → 0 < n → h ≡ 2 ^ (n - 1) → 2 ^ n ≡ 2 * h
half_whole n h l e = let s : n ≡ suc (n - 1) = omega arith in ap (λ k. 2 ^ k) s ∙ pow_twice (n - 1) ∙ ap (λ k. 2 * k) (sym e)

pub half_few : (n : ℕ) → 0 < n → n < 64 → 2 ^ (n - 1) ≤ 2 ^ 62
half_few n l m = let small : n - 1 ≤ 62 = omega arith in pow-le-pow_right {n = 2} (omega arith) small

-- as the program has it
pub shifted : (n : ℕ) → 0 < n → n < 64 → 1 * 2 ^ (n - 1) % 2 ^ 64 ≡ 2 ^ (n - 1)
shifted n l m =
    let few : 2 ^ (n - 1) ≤ 2 ^ 62 = half_few n l m in
    let one : 1 * 2 ^ (n - 1) ≡ 2 ^ (n - 1) = omega arith in
    ap (λ k. k % 2 ^ 64) one ∙ mod-eq_of_lt {n = 2 ^ (n - 1)} {m = 2 ^ 64} (omega (arith, few))
