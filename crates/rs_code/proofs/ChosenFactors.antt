-- Factors for all places, from the values of the polynomial and the inverses of those of x times its derivative.
use Rattle.std.proofs.Common.{◌≡◌, ◌≢◌, ℕ, ◌<◌, Bool, true, false, List, length, map, get_or, if◌then◌else◌, sym, ◌∙◌, ap, ap₂, refl, arith, inl, inr}
use mathlib.Core.Path.{fun_ext}
use Rattle.std.proofs.lemmas.Bool.{cases_lt}
use Rattle.std.proofs.lemmas.List.{get_or-map, get_or_past}
use Rattle.ark_math.specs.Field.{FieldOn, IsField, natural, IsPlaceQuotient}
use Rattle.ark_math.specs.Root.{HasOrder}
use Rattle.ark_math.specs.Module.{ModuleOn, IsItself, itself, item}
use Rattle.ark_math.specs.Domain.{Domain, element}
use Rattle.ark_math.specs.Univariate.{of_list}
use Rattle.ark_math_domains.specs.Points.{AreValues}
use Rattle.ark_math.proofs.Algebra.Powers.{times_zero}
use Rattle.ark_math_domains.proofs.OverDomains.PlaceValues.{values-item, values-length}
use Rattle.ark_math_polynomials.proofs.Polynomials.UnivariateValues.{one_value}
use Rattle.ark_math_polynomials.specs.Nodes.{nodes}
use Rattle.rs_code.specs.Locator.{AreFactors, IsFactor, euler, lost, derivative_at}
use Rattle.rs_code.proofs.Factors.{nodes-value, derivative_at-value}
use Rattle.rs_code.proofs.Lost.{derivative_at-lost}

-- the field's own items times their exponents, by their meanings
pub own_exponents : {F M : Type 0} {K : FieldOn F} {V : ModuleOn F M} {meaning : F → M} → IsField K → IsItself K V meaning → (old new : List F) → length new ≡ length old →
    ((i : ℕ) → i < length old → item V (map meaning new) i ≡ euler K V (item V (map meaning old)) i) → of_list K new ≡ euler K (itself K) (of_list K old)
own_exponents {K = K} {V = V} {meaning = meaning} N I old new len each = fun_ext (λ i. elim (cases_lt i (length old)) [
  | inl l ↦
      I.one_to_one _ _
      (sym (get_or-map meaning new i K.zero V.zero (omega (arith, l, len)))
      ∙ each i l
      ∙ ap (V.scale (natural K i)) (get_or-map meaning old i K.zero V.zero l)
      ∙ sym (I.times_kept (natural K i) (of_list K old i)))
  | inr past ↦
      get_or_past new i K.zero (omega (arith, past, len))
      ∙ sym (ap (K.times (natural K i)) (get_or_past old i K.zero past) ∙ times_zero K N (natural K i))
])

pub chosen_factors : {F : Type 0} (K : FieldOn F) (N : IsField K) (d : Domain F) → HasOrder K d.root d.size → d.offset ≢ K.zero → (marks : List Bool) → length marks ≡ d.size →
    (values derivatives inverses factors : List F) → AreValues K d (nodes K (lost K d marks)) values → AreValues K d (euler K (itself K) (nodes K (lost K d marks))) derivatives →
    ((i : ℕ) → i < length derivatives → IsPlaceQuotient K K.one (of_list K derivatives i) (of_list K inverses i)) →
    length factors ≡ d.size → ((i : ℕ) → i < d.size → of_list K factors i ≡ (if get_or marks i true then of_list K inverses i else of_list K values i)) →
    AreFactors K d marks factors
chosen_factors K N d o off marks size values derivatives inverses factors are_values are_derivatives quotients len chosen =
    let rs = lost K d marks in
    record {
      len = len;
      each = λ i l.
          elim (get_or marks i true) as (λ b. get_or marks i true ≡ b → IsFactor K rs (element K d i) b (of_list K factors i)) [
            | true ↦ λ e.
                let same : of_list K derivatives i ≡ K.times (element K d i) (derivative_at K rs (element K d i)) =
                one_value K N (euler K (itself K) (nodes K rs)) (element K d i) _ _ (values-item K N d _ derivatives are_derivatives i l) (derivative_at-value K N rs (element K d i)) in
                let some : of_list K derivatives i ≢ K.zero = λ z. derivative_at-lost K N d o off marks i (omega arith) (omega arith) e (sym same ∙ z) in
                let in_derivatives : i < length derivatives = omega (arith, values-length K N d _ derivatives are_derivatives) in
                ap₂ K.times (chosen i l ∙ ap (λ b. if b then of_list K inverses i else of_list K values i) e) (sym same)
                ∙ (quotients i in_derivatives).some some
            | false ↦ λ e.
                chosen i l
                ∙ ap (λ b. if b then of_list K inverses i else of_list K values i) e
                ∙ one_value K N (nodes K rs) (element K d i) _ _ (values-item K N d _ values are_values i l) (nodes-value K N rs (element K d i))
          ] refl;
    }
