-- Places among the powers of a root: by a lowest digit and the place of what is left without it, and what stands there.
use Rattle.std.proofs.Common.{◌≡◌, ℕ, ◌+◌, ◌*◌, ◌<◌, List, sym, ap, subst, ◌∙◌, refl}
use Rattle.ark_math.specs.Domain.{Domain, element}
use Rattle.ark_math.specs.Field.{FieldOn, IsField, power}
use Rattle.ark_math_domains.specs.Points.{AreValues}
use Rattle.ark_math.specs.Univariate.{IsValue, of_list}
use Rattle.ark_math.proofs.Algebra.Powers.{power-add, power-mul, powers_inverse}
use Rattle.ark_math.proofs.Algebra.Ring.{ring3}
use Rattle.ark_math.proofs.Algebra.Solve.{◌⊗◌}
use Rattle.ark_math_domains.proofs.OverDomains.PlaceValues.{values-item}

module _ {F : Type 0} (K : FieldOn F) (N : IsField K) where
  pub lowest_digit : (x y z root inverse : F) (digit base place : ℕ) → K.times root inverse ≡ K.one → y ≡ K.times x (power K inverse digit) → y ≡ K.times z (power K (power K root base) place) → x ≡ K.times z (power K root (digit + base * place))
  lowest_digit x y z root inverse digit base place e without left =
      let a = power K root digit in
      let b = power K inverse digit in
      let q = power K (power K root base) place in
      let both : power K root (digit + base * place) ≡ K.times a q =
      power-add K N root digit (base * place) ∙ ap (K.times a) (power-mul K N root base place) in
      sym (N.times_one x)
      ∙ ap (K.times x) (sym (powers_inverse K N root inverse digit e))
      ∙ ring3 K N (λ x a b. (x ⊗ (a ⊗ b), (x ⊗ b) ⊗ a)) refl x a b
      ∙ ap (λ t. K.times t a) (sym without ∙ left)
      ∙ ring3 K N (λ z q a. ((z ⊗ q) ⊗ a, z ⊗ (a ⊗ q))) refl z q a
      ∙ ap (K.times z) (sym both)

  -- a value over a subgroup is one at the root's power of which nothing is left
  pub value_at_place : (d : Domain F) (p : ℕ → F) (v : List F) (x rest y : F) (place : ℕ) → AreValues K d p v → d.offset ≡ K.one → place < d.size → x ≡ K.times rest (power K d.root place) → rest ≡ K.one → y ≡ of_list K v place → IsValue K p x y
  value_at_place d p v x rest y place A first l is one same =
      let e : element K d place ≡ x = ap (λ t. K.times t (power K d.root place)) (first ∙ sym one) ∙ sym is in
      subst (λ t. IsValue K p t y) e (subst (IsValue K p (element K d place)) (sym same) (values-item K N d p v A place l))
