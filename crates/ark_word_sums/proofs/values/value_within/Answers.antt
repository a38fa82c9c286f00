use Rattle.std.proofs.Common.{◌≡◌, List, [], ◌∷◌, sym, ap, ◌∙◌}
use Rattle.std.proofs.lemmas.List.{nil_from_length}
use Rattle.ark_math.proofs.Outcomes.Results.{IfOk_more}
use Rattle.ark_math.specs.Field.{FieldOn, IsField, IsFieldEmbedding}
use Rattle.ark_sum_check.specs.Cube.{SumOfProducts, bound_to, sum_value}
use Rattle.ark_sum_check.specs.Embedded.{embedded_sum}
use Rattle.ark_sum_check.specs.Provers.{sum_of}
use Rattle.ark_sum_check.proofs.Embeddings.{cube_sum_kept}
use Rattle.ark_sum_check.proofs.TrueRounds.{cube_sum-none, sum_value-cons}
use Rattle.ark_word_sums.proofs.values.value_within.Goals as goal

-- of no variables
value_kept : {F E : Type 0} (K : FieldOn F) → IsField K → (L : FieldOn E) → IsField L → (w : F → E) → IsFieldEmbedding K L w → (s : SumOfProducts F) (y : F) (z : E) (p : List E)
    → p ≡ [] → y ≡ sum_value K s [] → z ≡ w y → z ≡ sum_value L (embedded_sum w s) p
value_kept K N L M w embeds s y z p none is embedded =
    embedded
    ∙ ap w (is ∙ sym (cube_sum-none K N s))
    ∙ cube_sum_kept K L w embeds 0 s
    ∙ cube_sum-none L M (embedded_sum w s)
    ∙ ap (sum_value L (embedded_sum w s)) (sym none)

-- by what is left when the first variable is bound
value_by_first : {E : Type 0} (L : FieldOn E) → IsField L → (t left : SumOfProducts E) (x y : E) (others p : List E)
    → p ≡ x ∷ others → left ≡ bound_to L x t → y ≡ sum_value L left others → y ≡ sum_value L t p
value_by_first L M t left x y others p split bound is =
    is ∙ ap (λ s. sum_value L s others) bound ∙ sym (sum_value-cons L M t x others) ∙ ap (sum_value L t) (sym split)

pub returns-in_default-clause-value : goal.returns-in_default-clause-value
returns-in_default-clause-value g c =
    value_kept g.F.Field.field g.met.F.Field.field_laws g.E.Field.field g.met.E.Field.field_laws g.E.ExtensionOf.within g.met.E.ExtensionOf.embeds
    (sum_of g.F.Field.field c.args.prover.now) c.in_ok-value.value _ c.args.point.now
    (nil_from_length c.args.point.now c.in_default.ensures.cases) c.in_ok-value.ensures.value c.embed.ensures

pub returns-clause-value : goal.returns-clause-value
returns-clause-value g c =
    IfOk_more c.value_at_point.result
    (λ y is. value_by_first g.E.Field.field g.met.E.Field.field_laws
    (embedded_sum g.E.ExtensionOf.within (sum_of g.F.Field.field c.args.prover.now)) _ c.in-Some.first.now y c.in-Some.others.now c.args.point.now
    c.in-Some.ensures.cases.0 c.in_ok-left.ensures.sum is)
    c.value_at_point.ensures.value
