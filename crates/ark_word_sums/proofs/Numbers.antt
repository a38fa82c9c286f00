-- A number stands for the element whose number it is.
use Rattle.std.proofs.Common.{◌≡◌, ℕ, zero, suc, sym, ap, ap₂, ◌∙◌}
use Rattle.ark_math.specs.Field.{FieldOn, natural, IsFieldEmbedding}
use Rattle.ark_base.specs.ResiduesLaws.{natural_of_number}
use Rattle.ark_numbers.specs.Fields.{operations}
use Rattle.ark_numbers.proofs.Values.{NumberField, shown_field, number_carries, negated_kept}
use Rattle.ark_sum_check.specs.Cube.{SumOfProducts, cube_sum}
use Rattle.ark_sum_check.specs.Embedded.{embedded_sum}
use Rattle.ark_sum_check.proofs.Embeddings.{cube_sum_kept}

module _ {F : Type 0} (S : NumberField F) where
  -- the numbers below the prime are a field like this one
  pub number_embeds : IsFieldEmbedding S.field (operations (shown_field S)) S.numbering.number
  number_embeds = record {
    one_to_one = S.numbering.same;
    zero_kept = (number_carries S).zero_kept;
    one_kept = (number_carries S).one_kept;
    plus_kept = (number_carries S).plus_kept;
    times_kept = (number_carries S).times_kept;
    negated_kept = negated_kept S;
  }

  -- the sum over the cube, by its number
  pub number_of_cube_sum : (m : ℕ) (s : SumOfProducts F) (t : SumOfProducts ℕ) (x : F) → x ≡ cube_sum S.field m s → embedded_sum S.numbering.number s ≡ t
      → S.numbering.number x ≡ cube_sum (operations (shown_field S)) m t
  number_of_cube_sum m s t x is same =
      ap S.numbering.number is
      ∙ cube_sum_kept S.field (operations (shown_field S)) S.numbering.number number_embeds m s
      ∙ ap (cube_sum (operations (shown_field S)) m) same

  module _ {E : Type 0} (L : FieldOn E) (f : F → E) (embeds : IsFieldEmbedding S.field L f) where
    pub natural_kept : (n : ℕ) → f (natural S.field n) ≡ natural L n
    natural_kept zero = embeds.zero_kept
    natural_kept (suc n) = embeds.plus_kept (natural S.field n) S.field.one ∙ ap₂ L.plus (natural_kept n) embeds.one_kept

    -- an element of the field below, by its number
    pub by_number : (x : F) → natural L (S.numbering.number x) ≡ f x
    by_number x =
        let is : x ≡ natural S.field (S.numbering.number x) =
        natural_of_number S.numbering S.prime x ∙ ap (λ K. natural K (S.numbering.number x)) (sym S.field_is) in
        sym (natural_kept (S.numbering.number x)) ∙ sym (ap f is)
