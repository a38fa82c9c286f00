-- Transforms of elements whose multiples by one element have the numbers of words: these are the numbers' transforms.
use Rattle.std.proofs.Common.{◌≡◌, ◌*◌, ◌%◌, ◌<◌, ℕ, Option, Some, None, IfSome, List, [], ◌∷◌, map, refl, sym, ap, ap₂, subst, ◌∙◌, mod-eq_of_lt, one-mul}
use Rattle.std.proofs.lemmas.List.{length-map}
use Rattle.ark_math.specs.Field.{FieldOn}
use Rattle.ark_math.specs.Module.{ModuleOn, IsItself, itself}
use Rattle.ark_math.specs.Domain.{Domain}
use Rattle.ark_math.specs.Transform.{transform, IsInverse}
use Rattle.ark_math.proofs.Algebra.Powers.{times_zero}
use Rattle.ark_math_domains.proofs.Callers.Transforms.{transform-meanings, inverse-meanings}
use Rattle.ark_math_transforms.proofs.Transforms.Carried.{IsLinear, carried, transform-linear, fit-linear}
use Rattle.ark_numbers.specs.Fields.{operations, reduced}
use Rattle.ark_numbers.specs.Answers.{domain_of, AreValues, AreInterpolated}
use Rattle.ark_numbers.proofs.Values.{NumberField, shown_field, field_laws, number_carries, domain_carried, IsOurs}

-- once a number below the modulus is the number
pub once : {F : Type 0} (found : Option F) (number : F → ℕ) (p n : ℕ) → ((x : F) → number x < p) → IfSome found (λ x. number x ≡ n) → IfSome found (λ x. 1 * number x % p ≡ n)
once None number p n below told = told
once (Some x) number p n below told = ap (λ k. k % p) (one-mul (number x)) ∙ mod-eq_of_lt (below x) ∙ told

module _ {F : Type 0} (S : NumberField F) (u : F) where
  abbrev K : FieldOn F
  K = S.field

  abbrev L : FieldOn ℕ
  L = operations (shown_field S)

  -- the number of an element's multiple
  abbrev pub scaled : F → ℕ
  scaled x = S.numbering.number (K.times u x)

  pub scaled_linear : IsLinear S.numbering.number (itself K) (itself L) scaled
  scaled_linear =
      let N = field_laws S in
      let C = number_carries S in
      record {
        zero_kept = ap S.numbering.number (times_zero K N u) ∙ C.zero_kept;
        plus_kept = λ x y. ap S.numbering.number (N.times_plus u x y) ∙ C.plus_kept (K.times u x) (K.times u y);
        scale_kept = λ a x. ap S.numbering.number (sym (N.times_assoc u a x) ∙ ap (λ t. K.times t x) (N.times_comm u a) ∙ N.times_assoc a u x) ∙ C.times_kept a (K.times u x);
      }

  reduced_scaled : (items : List F) → reduced (shown_field S) (map scaled items) ≡ map scaled items
  reduced_scaled [] = refl
  reduced_scaled (x ∷ items) = ap₂ (λ y ys. y ∷ ys) (mod-eq_of_lt (S.numbering.below (K.times u x))) (reduced_scaled items)

  module _ {M : Type 0} (V : ModuleOn F M) (meaning : F → M) (own : IsItself K V meaning) (d : Domain F) (h : ℕ) (xs : List ℕ) (items after : List F)
      (lawful : IsOurs S d) (offset : S.numbering.number d.offset ≡ h % S.modulus) (same : map scaled items ≡ xs) where
    -- a transform, told by the elements' meanings, is one of the numbers
    pub values_scaled : map meaning after ≡ transform K V d (map meaning items) → AreValues (shown_field S) (domain_of (shown_field S) d.kind d.size h) xs (map scaled after)
    values_scaled e =
        ap (map scaled) (transform-meanings K V own d items after e) ∙ transform-linear (number_carries S) scaled_linear d items
        ∙ ap₂ (transform L (itself L)) (domain_carried S d h lawful offset) same

    -- and so is an inverse
    pub interpolated_scaled : IsInverse K V d (map meaning items) (map meaning after) → AreInterpolated (shown_field S) (domain_of (shown_field S) d.kind d.size h) xs (map scaled after)
    interpolated_scaled inverse =
        let plain = inverse-meanings K V own d items after inverse in
        let linear = scaled_linear in
        let of_numbers : IsInverse L (itself L) (carried S.numbering.number d) (map scaled items) (map scaled after) = record {
          size = length-map after scaled ∙ plain.size;
          values = sym (transform-linear (number_carries S) linear d after) ∙ (ap (map scaled) plain.values ∙ fit-linear (number_carries S) linear items d.size);
        } in (
          subst (λ e. IsInverse L (itself L) e xs (map scaled after)) (domain_carried S d h lawful offset)
              (subst (λ v. IsInverse L (itself L) (carried S.numbering.number d) v (map scaled after)) same of_numbers),
          reduced_scaled after,
        )
