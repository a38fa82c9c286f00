use Rattle.std.proofs.Common.{◌≡◌, ℕ, suc, ◌+◌, ◌<◌, List, ◌∷◌, drop, drop-cons, get_or, length, refl, sym, ap, ap₂, ◌∙◌, arith}
use Rattle.std.proofs.lemmas.List.{drop_all}
use Rattle.ark_math.proofs.Outcomes.Results.{IfOk_more}
use Rattle.ark_math.specs.Field.{FieldOn, IsField}
use Rattle.ark_sum_check.specs.Cube.{SumOfProducts, bound_to, sum_value}
use Rattle.ark_sum_check.specs.Provers.{sum_of}
use Rattle.ark_sum_check.proofs.TrueRounds.{sum_value-cons}
use Rattle.ark_word_sums.proofs.values.value_at_point.Goals as goal

-- one variable more is bound
bound_more : {F : Type 0} (K : FieldOn F) → IsField K → (s t : SumOfProducts F) (x v : F) (i : ℕ) (p : List F) → i < length p → x ≡ get_or p i x → t ≡ bound_to K x s
    → sum_value K s (drop i p) ≡ v → sum_value K t (drop (i + 1) p) ≡ v
bound_more K N s t x v i p inside at bound so_far =
    let next : i + 1 ≡ suc i = omega arith in
    let split : drop i p ≡ x ∷ drop (i + 1) p = drop-cons p i x inside ∙ ap₂ (λ y k. y ∷ drop k p) (sym at) (sym next) in
    ap (λ u. sum_value K u (drop (i + 1) p)) bound ∙ sym (sum_value-cons K N s x (drop (i + 1) p)) ∙ ap (sum_value K s) (sym split) ∙ so_far

pub loop-i-init : goal.loop-i-init
loop-i-init g c = record { value = refl; count = omega (arith, c.requires) }

pub bind-requires : goal.bind-requires
bind-requires g c = omega (arith, c.loop-i.invariant.count)

pub loop-i-preserved : goal.loop-i-preserved
loop-i-preserved g c = record {
  value = bound_more g.F.Field.field g.met.F.Field.field_laws (sum_of g.F.Field.field c.loop-i.left) _ c.index-point-i.result _ c.loop-i.i c.args.point.now
      (omega arith) c.index-point-i.is c.bind.ensures.sum c.loop-i.invariant.value;
  count = omega (arith, c.loop-i.invariant.count, c.bind.ensures.variables);
}

pub last_value-requires : goal.last_value-requires
last_value-requires g c = omega (arith, c.loop-i.invariant.count)

pub returns-clause-value : goal.returns-clause-value
returns-clause-value g c =
    let K = g.F.Field.field in
    let p = c.args.point.now in
    IfOk_more c.last_value.result
    (λ y is. is ∙ ap (sum_value K (sum_of K c.loop-i.left)) (sym (drop_all c.loop-i.i p (omega arith))) ∙ c.loop-i.invariant.value)
    c.last_value.ensures.value
