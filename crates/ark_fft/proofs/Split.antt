-- A sum of q * m items by q sums of m items.
use Rattle.std.proofs.Common.{◌≡◌, ℕ, zero, suc, ◌+◌, ◌*◌, sym, ◌∙◌, ap, arith}
use Rattle.ark_math.specs.Field.{FieldOn, IsField, power}
use Rattle.ark_math.specs.Module.{ModuleOn, IsModule, sum_below}
use Rattle.ark_math_transforms.proofs.Transforms.Places.{dft_at}
use Rattle.ark_math.proofs.Algebra.Powers.{power-add, power-mul, power_comm, power-one}
use Rattle.ark_math.proofs.Algebra.Regrouped.{sum_below-none}
use Rattle.ark_math.proofs.Algebra.Sums.{sum_below-same, sum_below-scale, sum_below-plus, sum_below-add}

module _ {F M : Type 0} {K : FieldOn F} {V : ModuleOn F M} (N : IsField K) (L : IsModule K V) where
  pub sum_below-split : (q m : ℕ) (f : ℕ → M) → sum_below V (q * m) f ≡ sum_below V q (λ r. sum_below V m (λ j. f (q * j + r)))
  sum_below-split q zero f =
      let z : q * 0 ≡ 0 = omega arith in
      ap (λ t. sum_below V t f) z ∙ sym (sum_below-none L q)
  sum_below-split q (suc m) f =
      let n : q * suc m ≡ q * m + q = omega arith in
      ap (λ t. sum_below V t f) n
      ∙ (sum_below-add L (q * m) q f
      ∙ (ap (λ t. V.plus t (sum_below V q (λ r. f (q * m + r)))) (sum_below-split q m f)
      ∙ sym (sum_below-plus L q (λ r. sum_below V m (λ j. f (q * j + r))) (λ r. f (q * m + r)))))

  -- the splitting law
  pub split : (q m : ℕ) (w : F) (f : ℕ → M) (i : ℕ) → dft_at K V (q * m) w f i ≡ sum_below V q (λ r. V.scale (power K (power K w i) r) (dft_at K V m (power K w q) (λ j. f (q * j + r)) i))
  split q m w f i =
      let x = power K w i in
      sum_below-split q m (λ j. V.scale (power K x j) (f j))
      ∙ sum_below-same V q _ _
      (λ r b.
      sum_below-same V m _ (λ j. V.scale (power K x r) (V.scale (power K (power K (power K w q) i) j) (f (q * j + r))))
      (λ j l.
      ap (λ t. V.scale t (f (q * j + r)))
      (power-add K N x (q * j) r
      ∙ (N.times_comm (power K x (q * j)) (power K x r)
      ∙ ap (K.times (power K x r)) (power-mul K N x q j ∙ ap (λ t. power K t j) (power_comm K N w i q))))
      ∙ L.times_scale (power K x r) (power K (power K (power K w q) i) j) (f (q * j + r)))
      ∙ sum_below-scale L m (power K x r) (λ j. V.scale (power K (power K (power K w q) i) j) (f (q * j + r))))

  pub power_period : (v : F) (m j i : ℕ) → power K v m ≡ K.one → power K v (m * j + i) ≡ power K v i
  power_period v m j i one =
      power-add K N v (m * j) i
      ∙ (ap (λ t. K.times t (power K v i)) (power-mul K N v m j ∙ (ap (λ t. power K t j) one ∙ power-one K N j))
      ∙ (N.times_comm K.one (power K v i) ∙ N.times_one (power K v i)))

  -- place j * m + i of the whole, from place i of each part: twisted by w ^ (r * i), and joined by powers of w ^ (j * m)
  pub join_at : (q m : ℕ) (w : F) (f : ℕ → M) (j i : ℕ) → power K w (q * m) ≡ K.one → dft_at K V (q * m) w f (j * m + i) ≡ sum_below V q (λ r. V.scale (power K (power K w (j * m)) r) (V.scale (power K w (r * i)) (dft_at K V m (power K w q) (λ k. f (q * k + r)) i)))
  join_at q m w f j i one =
      let wq : power K (power K w q) m ≡ K.one = sym (power-mul K N w q m) ∙ one in
      split q m w f (j * m + i)
      ∙ sum_below-same V q _ _
      (λ r b.
      let place : power K (power K w q) (j * m + i) ≡ power K (power K w q) i =
      ap (power K (power K w q)) (let e : j * m + i ≡ m * j + i = omega arith in e) ∙ power_period (power K w q) m j i wq in
      let factor : power K (power K w (j * m + i)) r ≡ K.times (power K (power K w (j * m)) r) (power K w (r * i)) =
      sym (power-mul K N w (j * m + i) r)
      ∙ (ap (power K w) (let e : (j * m + i) * r ≡ j * m * r + r * i = omega arith in e)
      ∙ (power-add K N w (j * m * r) (r * i)
      ∙ ap (λ t. K.times t (power K w (r * i))) (power-mul K N w (j * m) r))) in
      let part = λ (k : ℕ). f (q * k + r) in
      ap (λ t. V.scale (power K (power K w (j * m + i)) r) (sum_below V m (λ k. V.scale (power K t k) (f (q * k + r))))) place
      ∙ (ap (λ t. V.scale t (dft_at K V m (power K w q) part i)) factor
      ∙ L.times_scale (power K (power K w (j * m)) r) (power K w (r * i)) (dft_at K V m (power K w q) part i)))
