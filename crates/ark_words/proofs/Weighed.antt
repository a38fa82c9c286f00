-- Weights of elements, by their numbers.
use Rattle.std.proofs.Common.{◌≡◌, ℕ, zero, suc, ◌+◌, ◌%◌, List, map, sym, ap, ap₂, subst, ◌∙◌, mod-eq_of_lt, mod-lt, le_of_lt}
use Rattle.std.proofs.Math.Nat.{zero-mod}
use Rattle.std.proofs.lemmas.List.{length-map}
use Rattle.ark_math.specs.Field.{FieldOn, power}
use Rattle.ark_math.specs.Module.{itself, sum_below}
use Rattle.ark_math.specs.Domain.{Kind, Domain, element}
use Rattle.ark_math_domains.specs.Points.{AreWeights}
use Rattle.ark_math.specs.Univariate.{IsBelow, of_list, value_below}
use Rattle.ark_math.proofs.Algebra.Sums.{sum_below-same}
use Rattle.ark_math_transforms.proofs.Transforms.Carried.{Carries, carried, power-carried, of_list-carried}
use Rattle.ark_base.specs.ResiduesLaws.{number_of_residue}
use Rattle.ark_numbers.specs.Fields.{Known, operations}
use Rattle.ark_numbers.specs.Answers.{domain_of, coset_of}
use Rattle.ark_numbers.proofs.Values.{NumberField, shown_field, residue, IsOurs, number_carries, residue_carries, domain_carried}

module _ {F G : Type 0} {K : FieldOn F} {L : FieldOn G} {g : F → G} (C : Carries K L g) where
  sum_carried : (n : ℕ) (f : ℕ → F) → g (sum_below (itself K) n f) ≡ sum_below (itself L) n (λ i. g (f i))
  sum_carried zero f = C.zero_kept
  sum_carried (suc n) f = C.plus_kept (sum_below (itself K) n f) (f n) ∙ ap (λ t. L.plus t (g (f n))) (sum_carried n f)

  value_carried_below : (n : ℕ) (a : ℕ → F) (x : F) → g (value_below K n a x) ≡ value_below L n (λ i. g (a i)) (g x)
  value_carried_below n a x =
      sum_carried n (λ i. K.times (power K x i) (a i))
      ∙ sum_below-same (itself L) n (λ i. g (K.times (power K x i) (a i))) (λ i. L.times (power L (g x) i) (g (a i)))
      (λ i l. C.times_kept (power K x i) (a i) ∙ ap (λ t. L.times t (g (a i))) (power-carried C x i))

  place_carried : (d : Domain F) (i : ℕ) → g (element K d i) ≡ element L (carried g d) i
  place_carried d i = C.times_kept d.offset (power K d.root i) ∙ ap (L.times (g d.offset)) (power-carried C d.root i)

-- the kind of a domain says nothing of its weights
weights_of_any_kind : (f : Known) (kind : Kind) (n h x : ℕ) (ws : List ℕ) → AreWeights (operations f) (domain_of f kind n h) x ws → AreWeights (operations f) (coset_of f n h) x ws
weights_of_any_kind f kind n h x ws w = record { count = w.count; give = w.give }

module _ {F : Type 0} (S : NumberField F) where
  abbrev K : FieldOn F
  K = S.field

  abbrev L : FieldOn ℕ
  L = operations (shown_field S)

  residue_back : (x : F) → residue S (S.numbering.number x) ≡ x
  residue_back x = S.numbering.same _ _ (number_of_residue S.numbering S.prime (S.numbering.number x) ∙ mod-eq_of_lt (S.numbering.below x))

  same_residues : (a b : ℕ) → residue S a ≡ residue S b → a % S.modulus ≡ b % S.modulus
  same_residues a b e = sym (number_of_residue S.numbering S.prime a) ∙ ap S.numbering.number e ∙ number_of_residue S.numbering S.prime b

  sum_small : (n : ℕ) (f : ℕ → ℕ) → sum_below (itself L) n f % S.modulus ≡ sum_below (itself L) n f
  sum_small zero f = zero-mod S.modulus
  sum_small (suc n) f = mod-eq_of_lt (mod-lt (sum_below (itself L) n f + f n) (le_of_lt S.prime.above_one))

  weighed : (d : Domain F) (tau : F) (l : List F) → AreWeights K d tau l → (a : ℕ → ℕ) → IsBelow L d.size a
      → sum_below (itself L) d.size (λ i. L.times (of_list L (map S.numbering.number l) i) (value_below L d.size a (element L (carried S.numbering.number d) i)))
      ≡ value_below L d.size a (S.numbering.number tau)
  weighed d tau l w a below =
      let C = residue_carries S in
      let n = d.size in
      let ws = map S.numbering.number l in
      let at = element L (carried S.numbering.number d) in
      let b = λ (i : ℕ). residue S (a i) in
      let weighted = λ (i : ℕ). L.times (of_list L ws i) (value_below L n a (at i)) in
      let item : (i : ℕ) → residue S (of_list L ws i) ≡ of_list K l i = λ i. ap (residue S) (sym (of_list-carried (number_carries S) l i)) ∙ residue_back (of_list K l i) in
      let place : (i : ℕ) → residue S (at i) ≡ element K d i = λ i. ap (residue S) (sym (place_carried (number_carries S) d i)) ∙ residue_back (element K d i) in
      sym (sum_small n weighted)
      ∙ same_residues (sum_below (itself L) n weighted) (value_below L n a (S.numbering.number tau))
      (sum_carried C n weighted
      ∙ sum_below-same (itself K) n (λ i. residue S (weighted i)) (λ i. K.times (of_list K l i) (value_below K n b (element K d i)))
      (λ i k. C.times_kept (of_list L ws i) (value_below L n a (at i))
      ∙ ap₂ K.times (item i) (value_carried_below C n a (at i) ∙ ap (value_below K n b) (place i)))
      ∙ w.give b (λ i k. ap (residue S) (below i k) ∙ C.zero_kept)
      ∙ sym (value_carried_below C n a (S.numbering.number tau) ∙ ap (value_below K n b) (residue_back tau)))
      ∙ sum_small n (λ i. L.times (power L (S.numbering.number tau) i) (a i))

  pub weights_carried : (d : Domain F) (h x : ℕ) (tau : F) (l : List F) → IsOurs S d → S.numbering.number d.offset ≡ h % S.modulus → S.numbering.number tau ≡ x → AreWeights K d tau l
      → AreWeights L (coset_of (shown_field S) d.size h) x (map S.numbering.number l)
  weights_carried d h x tau l lawful offset same w =
      let ws = map S.numbering.number l in
      weights_of_any_kind (shown_field S) d.kind d.size h x ws
      (subst (λ e. AreWeights L e x ws) (domain_carried S d h lawful offset)
      (subst (λ y. AreWeights L (carried S.numbering.number d) y ws) same
      (record { count = length-map l S.numbering.number ∙ w.count; give = weighed d tau l w })))
