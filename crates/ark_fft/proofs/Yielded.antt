-- What an iterator over a domain's elements gives: one more element, and all of them.
use Rattle.std.proofs.Common.{◌≡◌, ℕ, suc, ◌+◌, ◌-◌, ◌<◌, List, [], ◌∷◌, length, sym, ap, ◌∙◌, arith, Some}
use Rattle.std.specs.Iterator.{AlwaysYields, YieldsFirst, MakesProgress, item_count}
use Rattle.ark_math.specs.Field.{FieldOn, IsField, power}
use Rattle.ark_math.specs.Module.{tabulate}
use Rattle.ark_math.proofs.Lists.Tabulated.{tabulate-suc, tabulate-same}

module _ {F : Type 0} (K : FieldOn F) (N : IsField K) where
  -- the places from x on, by a root
  pub places-suc : (n i : ℕ) (x w y : F) → i < n → y ≡ K.times x w →
      tabulate (n - i) (λ k. K.times x (power K w k)) ≡ x ∷ tabulate (n - (i + 1)) (λ k. K.times y (power K w k))
  places-suc n i x w y l e =
      let more : n - i ≡ suc (n - (i + 1)) = omega arith in
      ap (λ m. tabulate m (λ k. K.times x (power K w k))) more
      ∙ tabulate-suc (n - (i + 1)) (λ k. K.times x (power K w k))
      ∙ ap (λ t. t ∷ tabulate (n - (i + 1)) (λ k. K.times x (power K w (suc k)))) (N.times_one x)
      ∙ ap (λ t. x ∷ t) (tabulate-same (n - (i + 1)) _ _ (λ k h. sym (N.times_assoc x w (power K w k)) ∙ ap (λ t. K.times t (power K w k)) (sym e)))

-- an iterator that gives the first of what is left gives all of it
pub always_yields : {S A : Type 0} (rest : S → List A) (all : List A) (s : S) → rest s ≡ all → AlwaysYields (YieldsFirst rest) (λ x. x) s all
always_yields rest [] s e = λ x j h. cc
always_yields rest (y ∷ ys) s e = (
  (λ j h. cc),
  λ x j h.
      let same : x ∷ rest j ≡ y ∷ ys = sym h ∙ e in
      let here : x ≡ y = cc in
      let later : rest j ≡ ys = cc in
      (here, always_yields rest ys j later),
)

-- such a step, and the end
pub progress : {S A : Type 0} (can : S → Type 0) (rest : S → List A) (s : S) (x : A) (j : S) → can j → rest s ≡ x ∷ rest j → MakesProgress can (item_count rest) s (Some x) j
progress can rest s x j c e =
    let shorter : length (rest s) ≡ suc (length (rest j)) = ap length e in
    record { on = λ _. (c, tt, omega arith); keeps = c; rests = λ _. tt }

-- and so does one that holds another and takes each step by it
pub yields_wrapped : {S T A : Type 0} (rest : S → List A) (inner : T → S) (all : List A) (t : T) → AlwaysYields (YieldsFirst rest) (λ x. x) (inner t) all → AlwaysYields (YieldsFirst (λ u. rest (inner u))) (λ x. x) t all
yields_wrapped rest inner [] t h = λ x j. h x (inner j)
yields_wrapped rest inner (y ∷ ys) t h = (
  (λ j. h.0 (inner j)),
  λ x j k.
      let step = h.1 x (inner j) k in
      (step.0, yields_wrapped rest inner ys j step.1),
)
