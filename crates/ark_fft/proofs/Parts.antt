-- Places of a list of q rows of m items.
use Rattle.std.proofs.Common.{◌≡◌, ◌≢◌, ℕ, suc, ◌+◌, ◌*◌, ◌-◌, ◌%◌, ◌/◌, ◌<◌, ◌≤◌, List, length, get_or, sym, ◌∙◌, ap, arith, add-one}
use Rattle.std.proofs.lemmas.Nat.{mul-add-lt, mul-lt, div-mul-add}
use Rattle.std.proofs.Math.Nat.{mul-add-mod_self_right, mod-eq_of_lt}
use Rattle.ark_math.specs.Field.{FieldOn, IsField, power}
use Rattle.ark_math.specs.Module.{ModuleOn, IsModule, sum_below}
use Rattle.ark_math_transforms.proofs.Transforms.Places.{dft_at}
use Rattle.ark_fft.specs.Mixed.{joined, IsPowerTable}
use Rattle.ark_math.proofs.Algebra.Groups.{zero_plus}
use Rattle.ark_math.proofs.Algebra.Sums.{sum_below-same, sum_below-powers}
use Rattle.ark_fft.proofs.Split.{join_at}
use Rattle.ark_math.proofs.Algebra.Powers.{power-mul}

pub place_below : (q m r i : ℕ) → r < q → i < m → r * m + i < q * m
place_below q m r i a b = omega (arith, mul-add-lt r m i q a b)

-- an index r * i is one of the table
pub twist_below : (q m s r i : ℕ) → r < q → i < m → 0 < s → r * i * s < q * (m * s)
twist_below q m s r i a b c =
    let p : r * i < q * m = mul-lt r i q m a b in
    omega (arith, mul-add-lt (r * i) s 0 (q * m) p c)

-- an index j * (m * s) too
pub leap_below : (q m s j i : ℕ) → j < q → i < m → 0 < s → j * (m * s) < q * (m * s)
leap_below q m s j i a b c =
    let pos_m : 0 < m = omega arith in
    let pos : 0 < m * s = mul-lt 0 0 m s pos_m c in
    omega (arith, mul-add-lt j (m * s) 0 q a pos)

-- the place in the next row
pub next_place : (m r i p : ℕ) → 1 ≤ r → p ≡ (r - 1) * m + i → p + m ≡ r * m + i
next_place m r i p pos e =
    let s : r ≡ suc (r - 1) = omega arith in
    let f : (r - 1) * m + i + m ≡ suc (r - 1) * m + i = omega arith in
    ap (λ t. t + m) e ∙ (f ∙ ap (λ t. t * m + i) (sym s))

-- the index of the next row's apply_twiddles
pub next_twist : (r i s p : ℕ) → 1 ≤ r → p ≡ (r - 1) * i * s → p + i * s ≡ r * i * s
next_twist r i s p pos e =
    let c : r ≡ suc (r - 1) = omega arith in
    let f : (r - 1) * i * s + i * s ≡ suc (r - 1) * i * s = omega arith in
    ap (λ t. t + i * s) e ∙ (f ∙ ap (λ t. t * i * s) (sym c))

-- the place in the row before, counted from the last row
pub place_before : (q m r i p : ℕ) → r < q → p ≡ (q - r) * m + i → p ≡ (q - (r + 1)) * m + i + m
place_before q m r i p l e =
    let s : q - r ≡ suc (q - (r + 1)) = omega arith in
    let f : suc (q - (r + 1)) * m + i ≡ (q - (r + 1)) * m + i + m = omega arith in
    e ∙ (ap (λ t. t * m + i) s ∙ f)

square_less : (q : ℕ) → 0 < q → q - 1 + q * (q - 1) ≡ q * q - 1
square_less q pos =
    let s : q ≡ suc (q - 1) = omega arith in
    let e : q * q ≡ q * suc (q - 1) = ap (λ t. q * t) s in
    let f : q * suc (q - 1) ≡ q * (q - 1) + q = omega arith in
    omega arith

-- the products of m steps: the twists, and the sums of q rows
pub rows_less : (q m : ℕ) → 0 < q → (q - 1) * m + q * ((q - 1) * m) ≡ (q * q - 1) * m
rows_less q m pos =
    let x = q - 1 in
    let e : x * m + q * (x * m) ≡ (x + q * x) * m = omega arith in
    e ∙ ap (λ t. t * m) (square_less q pos)

pub columns_differ : (m r i s k : ℕ) → i < m → k < m → k ≢ i → s * m + k ≢ r * m + i
columns_differ m r i s k a b ne e =
    ne (sym (mod-eq_of_lt b) ∙ (sym (mul-add-mod_self_right s m k) ∙ (ap (λ t. t % m) e ∙ (mul-add-mod_self_right r m i ∙ mod-eq_of_lt a))))

pub rows_differ : (m r i s k : ℕ) → i < m → k < m → s ≢ r → s * m + k ≢ r * m + i
rows_differ m r i s k a b ne e =
    ne (sym (div-mul-add s m k b) ∙ (ap (λ t. t / m) e ∙ div-mul-add r m i a))

module _ {F M : Type 0} (K : FieldOn F) (V : ModuleOn F M) where
  -- from the twisted parts
  pub joined_twisted : (table : List F) (q m s : ℕ) (f g : ℕ → M) (j i : ℕ) → ((r : ℕ) → r < q → f (r * m + i) ≡ V.scale (get_or table (r * i * s) K.zero) (g (r * m + i))) → sum_below V q (λ r. V.scale (power K (get_or table (j * (m * s)) K.zero) r) (f (r * m + i))) ≡ joined K V table q m s g j i
  joined_twisted table q m s f g j i h =
      sum_below-same V q _ _
      (λ r l. ap (V.scale (power K (get_or table (j * (m * s)) K.zero) r)) (h r l))

  -- all parts
  pub sum_all : (t : F) (q m i n : ℕ) (f : ℕ → M) → n ≡ q → sum_below V n (λ k. V.scale (power K t k) (f ((q - n + k) * m + i))) ≡ sum_below V q (λ k. V.scale (power K t k) (f (k * m + i)))
  sum_all t q m i n f e =
      ap (λ u. sum_below V u (λ k. V.scale (power K t k) (f ((q - n + k) * m + i)))) e
      ∙ sum_below-same V q _ _ (λ k b. ap (λ u. V.scale (power K t k) (f (u * m + i))) (let d : q - n + k ≡ k = omega arith in d))

module _ {F M : Type 0} {K : FieldOn F} {V : ModuleOn F M} (L : IsModule K V) where
  -- the last part alone
  pub sum_last : (t : F) (q m i : ℕ) (f : ℕ → M) → 0 < q → f ((q - 1) * m + i) ≡ sum_below V 1 (λ k. V.scale (power K t k) (f ((q - 1 + k) * m + i)))
  sum_last t q m i f pos =
      let e : q - 1 ≡ q - 1 + 0 = omega arith in
      ap (λ u. f (u * m + i)) e ∙ (sym (L.one_scale (f ((q - 1 + 0) * m + i))) ∙ sym (zero_plus L (V.scale K.one (f ((q - 1 + 0) * m + i)))))

  -- one more part of a sum taken from the last part down
  pub sum_before : (t : F) (q m i n : ℕ) (f : ℕ → M) → n < q → sum_below V (n + 1) (λ k. V.scale (power K t k) (f ((q - (n + 1) + k) * m + i))) ≡ V.plus (V.scale t (sum_below V n (λ k. V.scale (power K t k) (f ((q - n + k) * m + i))))) (f ((q - (n + 1)) * m + i))
  sum_before t q m i n f l =
      let first : q - (n + 1) + 0 ≡ q - (n + 1) = omega arith in
      ap (λ u. sum_below V u (λ k. V.scale (power K t k) (f ((q - (n + 1) + k) * m + i)))) (add-one n)
      ∙ (sum_below-powers L n t (λ k. f ((q - (n + 1) + k) * m + i))
      ∙ (ap (λ x. V.plus (V.scale t x) (f ((q - (n + 1) + 0) * m + i)))
      (sum_below-same V n _ _ (λ k b. ap (λ u. V.scale (power K t k) (f (u * m + i))) (let e : q - (n + 1) + suc k ≡ q - n + k = omega arith in e)))
      ∙ ap (λ u. V.plus (V.scale t (sum_below V n (λ k. V.scale (power K t k) (f ((q - n + k) * m + i))))) (f (u * m + i))) first))

-- the powers of w, of which those of a list of size items, in q parts of n items each, are each s-th one
pub record IsStepTable {F : Type 0} (K : FieldOn F) (w : F) (table : List F) (q n s size : ℕ) : Type 0 where
  pub powers : IsPowerTable K w table
  pub len : length table ≡ q * (n * s)
  pub whole : size ≡ q * n
  pub some : 0 < s

module _ {F M : Type 0} {K : FieldOn F} {V : ModuleOn F M} (N : IsField K) (L : IsModule K V) where
  -- a step of the table's roots is the splitting law's
  pub joined_is : (w : F) (table : List F) (q m s size : ℕ) (f c : ℕ → M) (j i : ℕ) → IsStepTable K w table q m s size → j < q → i < m → ((r : ℕ) → r < q → f (r * m + i) ≡ dft_at K V m (power K w (s * q)) (λ k. c (q * k + r)) i) → joined K V table q m s f j i ≡ dft_at K V size (power K w s) c (j * m + i)
  joined_is w table q m s size f c j i stepped jl il parts =
      let t = stepped.powers in
      let len = stepped.len in
      let pos = stepped.some in
      let v = power K w s in
      let one : power K v (q * m) ≡ K.one = sym (power-mul K N w s (q * m)) ∙ (ap (power K w) (let e : s * (q * m) ≡ q * (m * s) = omega arith in e ∙ sym len) ∙ t.order.one) in
      let a : get_or table (j * (m * s)) K.zero ≡ power K v (j * m) =
      t.powers (j * (m * s)) (let b = leap_below q m s j i jl il pos in omega (arith, len, b)) ∙ (ap (power K w) (let e : j * (m * s) ≡ s * (j * m) = omega arith in e) ∙ power-mul K N w s (j * m)) in
      sum_below-same V q _ (λ r. V.scale (power K (power K v (j * m)) r) (V.scale (power K v (r * i)) (dft_at K V m (power K v q) (λ k. c (q * k + r)) i)))
      (λ r l.
      let b : get_or table (r * i * s) K.zero ≡ power K v (r * i) =
      t.powers (r * i * s) (let d = twist_below q m s r i l il pos in omega (arith, len, d)) ∙ (ap (power K w) (let e : r * i * s ≡ s * (r * i) = omega arith in e) ∙ power-mul K N w s (r * i)) in
      ap (λ u. V.scale (power K u r) (V.scale (get_or table (r * i * s) K.zero) (f (r * m + i)))) a
      ∙ (ap (λ u. V.scale (power K (power K v (j * m)) r) (V.scale u (f (r * m + i)))) b
      ∙ ap (λ u. V.scale (power K (power K v (j * m)) r) (V.scale (power K v (r * i)) u)) (parts r l ∙ ap (λ u. dft_at K V m u (λ k. c (q * k + r)) i) (power-mul K N w s q))))
      ∙ (sym (join_at N L q m v c j i one) ∙ ap (λ u. dft_at K V u v c (j * m + i)) (sym stepped.whole))
