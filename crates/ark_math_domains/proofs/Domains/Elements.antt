-- The elements of a domain: all different, and none zero.
use Rattle.std.proofs.Common.{◌≡◌, ◌≢◌, ℕ, ◌+◌, ◌-◌, ◌<◌, ◌≤◌, sym, ◌∙◌, ap, arith, ⊎_elim}
use Rattle.std.proofs.lemmas.Bool.{cases_lt, cases_eq}
use Rattle.ark_math.specs.Field.{FieldOn, IsField, power, natural}
use Rattle.ark_math.specs.Root.{HasOrder}
use Rattle.ark_math.specs.Domain.{Domain, element}
use Rattle.ark_math.proofs.Algebra.Groups.{one_times}
use Rattle.ark_math.proofs.Algebra.NonZero.{cancel_factor, positive, power_not_zero}
use Rattle.ark_math.proofs.Algebra.Powers.{power-one, power-add, power-times, power_comm}
use Rattle.ark_math.proofs.Roots.Order.{root_not_zero}

-- the inverses of what a domain is made of
pub record Inverses {F : Type 0} (K : FieldOn F) (d : Domain F) : Type 0 where
  pub of_root : F
  pub of_offset : F
  pub of_size : F
  pub root : K.times d.root of_root ≡ K.one
  pub offset : K.times d.offset of_offset ≡ K.one
  pub size : K.times (natural K d.size) of_size ≡ K.one

module _ {F : Type 0} (K : FieldOn F) (N : IsField K) where
  module _ (d : Domain F) (o : HasOrder K d.root d.size) where
    root_power : (i : ℕ) → power K (power K d.root i) d.size ≡ K.one
    root_power i = power_comm K N d.root i d.size ∙ ap (λ t. power K t i) o.one ∙ power-one K N i

    pub element-power : (i : ℕ) → power K (element K d i) d.size ≡ power K d.offset d.size
    element-power i = power-times K N d.offset (power K d.root i) d.size ∙ ap (K.times (power K d.offset d.size)) (root_power i) ∙ N.times_one (power K d.offset d.size)

    pub has_inverses : natural K d.size ≢ K.zero → d.offset ≢ K.zero → Inverses K d
    has_inverses ne off =
        let u = N.inverts d.root (root_not_zero K N d.root d.size o (positive K N d.size ne)) in
        let p = N.inverts d.offset off in
        let v = N.inverts (natural K d.size) ne in
        record { of_root = u.0; of_offset = p.0; of_size = v.0; root = u.1; offset = p.1; size = v.1 }

    module _ (off : d.offset ≢ K.zero) where
      powers_differ : (i j : ℕ) → i < j → j < d.size → power K d.root i ≢ power K d.root j
      powers_differ i j l b e =
          let k : j ≡ j - i + i = omega arith in
          let x = power K d.root i in
          o.least (j - i) (omega arith) (omega arith)
          (sym (cancel_factor K N x K.one (power K d.root (j - i)) (power_not_zero K N d.root i (root_not_zero K N d.root d.size o (omega arith)))
          (one_times K N x ∙ e ∙ ap (power K d.root) k ∙ power-add K N d.root (j - i) i)))

      pub elements_differ : (i j : ℕ) → i < j → j < d.size → element K d i ≢ element K d j
      elements_differ i j l b e =
          powers_differ i j l b
          (cancel_factor K N d.offset (power K d.root i) (power K d.root j) off (N.times_comm (power K d.root i) d.offset ∙ e ∙ N.times_comm d.offset (power K d.root j)))

      pub same_element : (i j : ℕ) → i < d.size → j < d.size → element K d i ≡ element K d j → i ≡ j
      same_element i j a b e =
          ⊎_elim
          (λ (l : i < j). absurd (elements_differ i j l b e))
          (λ (l : j ≤ i). ⊎_elim (λ (same : i ≡ j). same) (λ (ne : i ≢ j). absurd (elements_differ j i (omega arith) a (sym e))) (cases_eq i j))
          (cases_lt i j)
