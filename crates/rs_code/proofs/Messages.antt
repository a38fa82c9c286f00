-- The message of a codeword, as the beginning of what a transform back gives.
use Rattle.std.proofs.Common.{◌≡◌, ℕ, ◌<◌, ◌≤◌, List, length, take, sym, ◌∙◌, ap, arith, ⊎_elim, subst}
use Rattle.std.proofs.lemmas.Bool.{cases_lt}
use Rattle.std.proofs.lemmas.List.{ext_get_or, get_or_past, get_or-take, length-take}
use Rattle.ark_math.specs.Field.{FieldOn, IsField}
use Rattle.ark_math.specs.Module.{ModuleOn, IsModule, item}
use Rattle.ark_math.specs.Domain.{Domain, element}
use Rattle.ark_math.specs.Transform.{transform, fit, IsInverse, IsOnlyInverse}
use Rattle.ark_math.proofs.Lists.Tabulated.{length-tabulate, item-tabulate}
use Rattle.ark_math_domains.proofs.Callers.Transforms.{inverse_of_transform, transform-length}
use Rattle.rs_code.proofs.Locators.{value-same}
use Rattle.rs_code.proofs.Restored.{list-short, transform-item, transform-from}

module _ {F M : Type 0} {K : FieldOn F} {V : ModuleOn F M} (N : IsField K) (L : IsModule K V) (d : Domain F) where
  -- a message, filled with zeros, is the inverse of its codeword
  inverse_is : (c u m : List M) → IsOnlyInverse K V d c u → c ≡ transform K V d m → fit V m d.size ≡ u
  inverse_is c u m only is = only (fit V m d.size) (subst (λ t. IsInverse K V d t (fit V m d.size)) (sym is) (inverse_of_transform K V d m))

  -- so its first k items are the message, filled with zeros
  pub message-is_first : (k : ℕ) (c u m : List M) → k ≤ d.size → length u ≡ d.size → IsOnlyInverse K V d c u → transform K V d m ≡ c → fit V m k ≡ take k u
  message-is_first k c u m few size only is =
      let same : fit V m d.size ≡ u = inverse_is c u m only (sym is) in
      ext_get_or V.zero (fit V m k) (take k u) (omega (arith, length-tabulate k (item V m), length-take k u))
      (λ i h.
      let l : i < k = omega (arith, h, length-tabulate k (item V m)) in
      item-tabulate V k (item V m) i l
      ∙ sym (get_or-take k u i V.zero l ∙ ap (λ t. item V t i) (sym same) ∙ item-tabulate V d.size (item V m) i (omega arith)))

  -- a message filled with zeros has the same codeword
  pub transform-fitted : (k : ℕ) (m : List M) → length m ≤ k → transform K V d (fit V m k) ≡ transform K V d m
  transform-fitted k m short =
      transform-from N L d m (transform K V d (fit V m k)) (transform-length K V d (fit V m k))
      (λ i l.
      transform-item N L d (fit V m k) i l
      ∙ value-same N L d.size (item V (fit V m k)) (item V m) (element K d i)
      (λ j _. ⊎_elim
      (λ (b : j < k). item-tabulate V k (item V m) j b)
      (λ (b : k ≤ j). get_or_past (fit V m k) j V.zero (omega (arith, length-tabulate k (item V m))) ∙ sym (list-short N L d m k short j b))
      (cases_lt j k)))
