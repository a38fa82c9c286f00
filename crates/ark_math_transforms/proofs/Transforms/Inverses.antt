-- A transform has one inverse, and what its items are.
use Rattle.std.proofs.Common.{◌≡◌, ◌≢◌, ℕ, zero, suc, ◌<◌, List, length, sym, ◌∙◌, ap, refl}
use Rattle.std.proofs.lemmas.List.{ext_get_or}
use Rattle.ark_math.specs.Field.{FieldOn, IsField, power, natural}
use Rattle.ark_math.specs.Module.{ModuleOn, IsModule, item}
use Rattle.ark_math.specs.Domain.{Domain}
use Rattle.ark_math.specs.Root.{HasOrder}
use Rattle.ark_math.specs.Transform.{transform, IsInverse}
use Rattle.ark_math_transforms.proofs.Transforms.Places.{dft_at}
use Rattle.ark_math.proofs.Algebra.Powers.{powers_inverse}
use Rattle.ark_math.proofs.Algebra.Sums.{sum_below-same, sum_below-scale}
use Rattle.ark_math.proofs.Lists.Tabulated.{length-tabulate, is_tabulated}
use Rattle.ark_math_transforms.proofs.Transforms.Transforms.{AreShifted, transform-at}
use Rattle.ark_math_transforms.proofs.Roots.Orthogonal.{returned, order_of_inverse}
use Rattle.ark_math.proofs.Algebra.Solve.{◌⊗◌, ◌•◌}
use Rattle.ark_math.proofs.Algebra.Ring.{module2_1, module3_1}

inverse_of_root : {F : Type 0} (K : FieldOn F) (w : F) (n : ℕ) → power K w n ≡ K.one → natural K n ≢ K.zero → (v : F) × (K.times w v ≡ K.one)
inverse_of_root K w zero h ne = absurd (ne refl)
inverse_of_root K w (suc n) h ne = (power K w n, h)

module _ {F M : Type 0} {K : FieldOn F} {V : ModuleOn F M} (N : IsField K) (L : IsModule K V) where
  unscaled : (a b : F) (x : M) → K.times a b ≡ K.one → V.scale a (V.scale b x) ≡ x
  unscaled a b x e =
      module2_1 N L (λ a b x. (a • (b • x), (a ⊗ b) • x)) refl a b x ∙ (ap (λ t. V.scale t x) e ∙ L.one_scale x)

  cancel_scale : (a b : F) (x y : M) → K.times a b ≡ K.one → V.scale a x ≡ V.scale a y → x ≡ y
  cancel_scale a b x y e h =
      let back : K.times b a ≡ K.one = N.times_comm b a ∙ e in
      sym (unscaled b a x back) ∙ (ap (V.scale b) h ∙ unscaled b a y back)

  module _ (d : Domain F) where
    same_items : HasOrder K d.root d.size → natural K d.size ≢ K.zero → d.offset ≢ K.zero → (u u1 : List M) → transform K V d u ≡ transform K V d u1 → (k : ℕ) → k < d.size → item V u k ≡ item V u1 k
    same_items order ne off u u1 h k l =
        let root = inverse_of_root K d.root d.size order.one ne in
        let p = N.inverts d.offset off in
        let f = N.inverts (natural K d.size) ne in
        let a = λ (j : ℕ). V.scale (power K d.offset j) (item V u j) in
        let b = λ (j : ℕ). V.scale (power K d.offset j) (item V u1 j) in
        let sums : (i : ℕ) → i < d.size → dft_at K V d.size d.root a i ≡ dft_at K V d.size d.root b i = λ i m.
        sym (transform-at N L d u a (λ j c. refl) i m) ∙ (ap (λ t. item V t i) h ∙ transform-at N L d u1 b (λ j c. refl) i m) in
        cancel_scale (power K d.offset k) (power K p.0 k) (item V u k) (item V u1 k) (powers_inverse K N d.offset p.0 k p.1)
        (cancel_scale (natural K d.size) f.0 (a k) (b k) f.1
        (sym (returned N L d.root root.0 d.size order root.1 a k l)
        ∙ (sum_below-same V d.size _ _ (λ i m. ap (V.scale (power K (power K root.0 k) i)) (sums i m))
        ∙ returned N L d.root root.0 d.size order root.1 b k l)))

    -- lists of the domain's size are told apart by their transforms
    transform_tells : HasOrder K d.root d.size → natural K d.size ≢ K.zero → d.offset ≢ K.zero → (u u1 : List M) → length u ≡ d.size → length u1 ≡ d.size → transform K V d u ≡ transform K V d u1 → u ≡ u1
    transform_tells order ne off u u1 a b h =
        ext_get_or V.zero u u1 (a ∙ sym b)
        (λ k l. let m : k < d.size = rw a at l in same_items order ne off u u1 h k m)

    pub one_inverse : HasOrder K d.root d.size → natural K d.size ≢ K.zero → d.offset ≢ K.zero → (v u u1 : List M) → IsInverse K V d v u → IsInverse K V d v u1 → u ≡ u1
    one_inverse order ne off v u u1 a b = transform_tells order ne off u u1 a.size b.size (a.values ∙ sym b.values)

    -- item j of the inverse is (1 / n) * offset ^ -j * (the sum over i of root ^ (-i * j) * c i)
    pub is_inverse : (v p f : F) → HasOrder K d.root d.size → K.times d.root v ≡ K.one → K.times d.offset p ≡ K.one → K.times (natural K d.size) f ≡ K.one → (c u : List M) → length u ≡ d.size → ((j : ℕ) → j < d.size → item V u j ≡ V.scale (K.times f (power K p j)) (dft_at K V d.size v (item V c) j)) → IsInverse K V d c u
    is_inverse v p f order root offset size c u len items =
        let n = d.size in
        let g = dft_at K V n v (item V c) in
        let at_one = λ (j : ℕ). V.scale f (g j) in
        let shifted : AreShifted N L d u at_one = λ j l.
        sym (ap (V.scale (power K d.offset j)) (items j l)
        ∙ (module3_1 N L (λ a b f x. (a • ((f ⊗ b) • x), a • (b • (f • x)))) refl (power K d.offset j) (power K p j) f (g j)
        ∙ unscaled (power K d.offset j) (power K p j) (V.scale f (g j)) (powers_inverse K N d.offset p j offset))) in
        let back : K.times v d.root ≡ K.one = N.times_comm v d.root ∙ root in
        record {
          size = len;
          values = is_tabulated V.zero (transform K V d u) n (item V c) (length-tabulate n _)
              (λ i l.
              transform-at N L d u at_one shifted i l
              ∙ (sum_below-same V n _ (λ j. V.scale f (V.scale (power K (power K d.root i) j) (g j)))
              (λ j b. module2_1 N L (λ a f x. (a • (f • x), f • (a • x))) refl (power K (power K d.root i) j) f (g j))
              ∙ (sum_below-scale L n f (λ j. V.scale (power K (power K d.root i) j) (g j))
              ∙ (ap (V.scale f) (returned N L v d.root n (order_of_inverse K N d.root v n order root) back (item V c) i l)
              ∙ unscaled f (natural K n) (item V c i) (N.times_comm f (natural K n) ∙ size)))));
        }
