-- Tables by their entries: lists of indices and of values side by side, and the values' numbers.
use Rattle.std.proofs.Common.{◌≡◌, ◌==◌, ℕ, Bool, true, false, List, [], ◌∷◌, ◌++◌, if◌then◌else◌, length, map, zip, refl, sym, ap, ap₂, ◌∙◌, arith}
use mathlib.Core.Path.{fun_ext}
use Rattle.ark_math_variables.specs.Multilinear.{extension, written}
use Rattle.ark_numbers.proofs.CarriedExtensions.{extension-carried}
use Rattle.ark_numbers.specs.Fields.{operations}
use Rattle.ark_numbers.proofs.Values.{NumberField, shown_field, number_carries, negated_kept}

-- one more of each list
pub zip-push : {X Y : Type 0} (xs : List X) (ys : List Y) (x : X) (y : Y) → length ys ≡ length xs → zip (xs ++ x ∷ []) (ys ++ y ∷ []) ≡ zip xs ys ++ (x, y) ∷ []
zip-push [] [] x y e = refl
zip-push [] (b ∷ ys) x y e = absurd (omega arith)
zip-push (a ∷ xs) [] x y e = absurd (omega arith)
zip-push (a ∷ xs) (b ∷ ys) x y e = ap (λ ps. (a, b) ∷ ps) (zip-push xs ys x y (omega arith))

-- what is written, under a function
if-under : {X Y : Type 0} (f : X → Y) (b : Bool) (x y : X) → f (if b then x else y) ≡ (if b then f x else f y)
if-under f true x y = refl
if-under f false x y = refl

written-under : {X Y : Type 0} (f : X → Y) (d : X) (is : List ℕ) (xs : List X) (b : ℕ) → f (written d (zip is xs) b) ≡ written (f d) (zip is (map f xs)) b
written-under f d [] xs b = refl
written-under f d (i ∷ is) [] b = refl
written-under f d (i ∷ is) (x ∷ xs) b =
    written-under f (if i == b then x else d) is xs b ∙ ap (λ v. written v (zip is (map f xs)) b) (if-under f (i == b) x d)

module _ {F : Type 0} (S : NumberField F) where
  pub entries_carried : (indices xs x : List ℕ) (items point : List F) (y : F) → map S.numbering.number items ≡ xs → map S.numbering.number point ≡ x
      → y ≡ extension S.field (written S.field.zero (zip indices items)) point
      → S.numbering.number y ≡ extension (operations (shown_field S)) (written 0 (zip indices xs)) x
  entries_carried indices xs x items point y same same_point e =
      let number = S.numbering.number in
      ap number e ∙ extension-carried (number_carries S) (negated_kept S) (written S.field.zero (zip indices items)) point
      ∙ ap₂ (extension (operations (shown_field S)))
      (fun_ext (λ b. written-under number S.field.zero indices items b ∙ ap₂ (λ z vs. written z (zip indices vs) b) (number_carries S).zero_kept same))
      same_point
