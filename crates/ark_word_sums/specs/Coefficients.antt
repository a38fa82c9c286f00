-- Elements with the same coefficients are the same, and their bytes are those of their coefficients.
use Rattle.std.proofs.Common.{◌≡◌, ℕ, List, [], ◌∷◌, ◌++◌, ap, ap₂, sym, ◌∙◌, get_or}
use Rattle.std.specs.List.{flat_map}
use Rattle.std.proofs.lemmas.List.{append-nil, append_assoc}
use Rattle.ark_math_formats.specs.Format.{Format}
use Rattle.ark_extensions.specs.ElementBytes.{in_bytes}
use Rattle.ark_extensions.specs.ElementLaws.{same_element}
use Rattle.ark_extensions.specs.declared.quadratic.Quadratic.{Quadratic}

item_at : {X : Type 0} (xs ys : List X) (d : X) (i : ℕ) → xs ≡ ys → get_or xs i d ≡ get_or ys i d
item_at xs ys d i e = ap (λ zs. get_or zs i d) e

pub one_apart : {F : Type 0} (x y : F) → x ∷ [] ≡ y ∷ [] → x ≡ y
one_apart x y e = item_at (x ∷ []) (y ∷ []) x 0 e

pub two_apart : {F M : Type 0} (x y : Quadratic F M) → x.c0 ∷ x.c1 ∷ [] ≡ y.c0 ∷ y.c1 ∷ [] → x ≡ y
two_apart x y e =
    let at = item_at (x.c0 ∷ x.c1 ∷ []) (y.c0 ∷ y.c1 ∷ []) x.c0 in
    same_element x y (ap₂ (λ a b. (a, b)) (at 0 e) (at 1 e))

pub four_apart : {F M N : Type 0} (x y : Quadratic (Quadratic F M) N)
    → x.c0.c0 ∷ x.c0.c1 ∷ x.c1.c0 ∷ x.c1.c1 ∷ [] ≡ y.c0.c0 ∷ y.c0.c1 ∷ y.c1.c0 ∷ y.c1.c1 ∷ [] → x ≡ y
four_apart x y e =
    let at = item_at (x.c0.c0 ∷ x.c0.c1 ∷ x.c1.c0 ∷ x.c1.c1 ∷ []) (y.c0.c0 ∷ y.c0.c1 ∷ y.c1.c0 ∷ y.c1.c1 ∷ []) x.c0.c0 in
    same_element x y (ap₂ (λ a b. (a, b)) (same_element x.c0 y.c0 (ap₂ (λ a b. (a, b)) (at 0 e) (at 1 e))) (same_element x.c1 y.c1 (ap₂ (λ a b. (a, b)) (at 2 e) (at 3 e))))

module _ {F : Type 0} (e : Format F) where
  pub one_spelled : (x : F) → e.spelling x ≡ flat_map e.spelling (x ∷ [])
  one_spelled x = sym (append-nil (e.spelling x))

  pub two_spelled : {M : Type 0} (x : Quadratic F M) → (in_bytes {F = F} {M = M} e).spelling x ≡ flat_map e.spelling (x.c0 ∷ x.c1 ∷ [])
  two_spelled x = ap (λ ys. e.spelling x.c0 ++ ys) (one_spelled x.c1)

  pub four_spelled : {M N : Type 0} (x : Quadratic (Quadratic F M) N)
      → (in_bytes {F = Quadratic F M} {M = N} (in_bytes {F = F} {M = M} e)).spelling x ≡ flat_map e.spelling (x.c0.c0 ∷ x.c0.c1 ∷ x.c1.c0 ∷ x.c1.c1 ∷ [])
  four_spelled x =
      ap (λ ys. (e.spelling x.c0.c0 ++ e.spelling x.c0.c1) ++ ys) (two_spelled x.c1)
      ∙ append_assoc (e.spelling x.c0.c0) (e.spelling x.c0.c1) (flat_map e.spelling (x.c1.c0 ∷ x.c1.c1 ∷ []))
