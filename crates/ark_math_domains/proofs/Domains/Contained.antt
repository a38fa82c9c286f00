-- Which domains lie in which: the places of s are places of d exactly where its size divides, and the powers of the
-- offsets agree.
use Rattle.std.proofs.Common.{◌≡◌, ◌≢◌, ℕ, ◌*◌, ◌/◌, ◌%◌, ◌<◌, ◌≤◌, ◌⊎◌, sym, ◌∙◌, ap, arith, ⊎_elim}
use Rattle.std.proofs.Math.Nat.{mod-add-div, mod-one}
use Rattle.std.proofs.lemmas.Bool.{cases_lt, cases_eq}
use Rattle.ark_math.specs.Field.{FieldOn, IsField, power, natural}
use Rattle.ark_math.specs.Root.{HasOrder}
use Rattle.ark_math.specs.Domain.{Domain, element}
use Rattle.ark_math_domains.specs.Points.{IsContained}
use Rattle.ark_math.proofs.Algebra.Groups.{one_times}
use Rattle.ark_math.proofs.Algebra.Powers.{power-one, power-times, power_comm}
use Rattle.ark_math.proofs.Roots.Order.{rest_gives_one, multiple_gives_one}
use Rattle.ark_math_domains.proofs.Domains.Elements.{has_inverses, element-power}
use Rattle.ark_math.proofs.Algebra.NonZero.{minus_same, cancel_factor, power_not_zero}
use Rattle.ark_math.proofs.Numbers.Search.{search_below}
use Rattle.ark_math_domains.proofs.OverDomains.Weights.{outside}

module _ {F : Type 0} (K : FieldOn F) (N : IsField K) where
  -- where the power is one the order divides
  order_divides : (x : F) (n k : ℕ) → 0 < n → HasOrder K x n → power K x k ≡ K.one → k % n ≡ 0
  order_divides x n k pos o e =
      ⊎_elim
      (λ (z : k % n ≡ 0). z)
      (λ (ne : k % n ≢ 0). absurd (o.least (k % n) (omega arith) (omega arith) (rest_gives_one K N x n k o.one e)))
      (cases_eq (k % n) 0)

  module _ (d : Domain F) (o : HasOrder K d.root d.size) (ne : natural K d.size ≢ K.zero) (off : d.offset ≢ K.zero) (decide : (x y : F) → (x ≡ y) ⊎ (x ≢ y)) where
    -- the roots of x ^ n - offset ^ n are the elements
    pub is_element : (x : F) → power K x d.size ≡ power K d.offset d.size → (i : ℕ) × (i < d.size) × (x ≡ element K d i)
    is_element x e =
        ⊎_elim
        (λ h. h)
        (λ none. absurd (outside K N d o (has_inverses K N d o ne off) x none (minus_same K N (power K x d.size) (power K d.offset d.size) e)))
        (search_below (λ i. x ≡ element K d i) d.size (λ i _. decide x (element K d i)))

  module _ (s d : Domain F) (p : HasOrder K s.root s.size) (o : HasOrder K d.root d.size) where
    pub contained_offset : 0 < s.size → IsContained K s d → power K s.offset d.size ≡ power K d.offset d.size
    contained_offset pos c =
        let h = c 0 pos in
        ap (λ t. power K t d.size) (sym (N.times_one s.offset) ∙ h.2) ∙ element-power K N d o h.0

    pub contained_size : 0 < s.size → d.offset ≢ K.zero → IsContained K s d → d.size % s.size ≡ 0
    contained_size pos off c =
        ⊎_elim
        (λ (l : 1 < s.size).
        let h = c 1 l in
        let x = power K s.offset d.size in
        let there : K.times (power K (power K s.root 1) d.size) x ≡ K.times K.one x =
        N.times_comm (power K (power K s.root 1) d.size) x
        ∙ sym (power-times K N s.offset (power K s.root 1) d.size)
        ∙ ap (λ t. power K t d.size) h.2
        ∙ element-power K N d o h.0
        ∙ sym (contained_offset pos c)
        ∙ sym (one_times K N x) in
        let some : x ≢ K.zero = λ e. power_not_zero K N d.offset d.size off (sym (contained_offset pos c) ∙ e) in
        order_divides s.root s.size d.size pos p
        (ap (λ t. power K t d.size) (sym (N.times_one s.root)) ∙ cancel_factor K N x (power K (power K s.root 1) d.size) K.one some there))
        (λ (l : s.size ≤ 1). let e : s.size ≡ 1 = omega arith in ap (λ t. d.size % t) e ∙ mod-one d.size)
        (cases_lt 1 s.size)

    pub contained_from : natural K d.size ≢ K.zero → d.offset ≢ K.zero → ((x y : F) → (x ≡ y) ⊎ (x ≢ y)) → 0 < s.size → d.size % s.size ≡ 0 → power K s.offset d.size ≡ power K d.offset d.size → IsContained K s d
    contained_from ne off decide pos z e i l =
        let k : s.size * (d.size / s.size) ≡ d.size = omega (arith, mod-add-div d.size s.size) in
        let root : power K s.root d.size ≡ K.one = ap (power K s.root) (sym k) ∙ multiple_gives_one K N s.root s.size (d.size / s.size) p.one in
        is_element d o ne off decide (element K s i)
        (power-times K N s.offset (power K s.root i) d.size
        ∙ ap (K.times (power K s.offset d.size)) (power_comm K N s.root i d.size ∙ ap (λ t. power K t i) root ∙ power-one K N i)
        ∙ N.times_one (power K s.offset d.size)
        ∙ e)
