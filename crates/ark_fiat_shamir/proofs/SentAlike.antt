-- Proofs of the same values have the same rounds, and clones have the same values.
use Rattle.std.proofs.Common.{◌≡◌, List, [], ◌∷◌, map, refl, ap, ap₂, Vec, Global}
use Rattle.std.specs.List.{AllZip}
use Rattle.ark_sum_check.specs.Rounds.{rounds_at}
use Rattle.ark_sum_check.proofs.Vectors.{first, rest}

module _ {F : Type 0} where
  pub same_rounds : (us vs : List (Vec F Global)) (xs : List F) → map (λ v. v.items) us ≡ map (λ v. v.items) vs → rounds_at us xs ≡ rounds_at vs xs
  same_rounds [] [] xs e = refl
  same_rounds [] (v ∷ vs) xs e = cc
  same_rounds (u ∷ us) [] xs e = cc
  same_rounds (u ∷ us) (v ∷ vs) [] e = refl
  same_rounds (u ∷ us) (v ∷ vs) (x ∷ xs) e =
      ap₂ (λ values rs. record { values = values; challenge = x } ∷ rs) (ap (first u.items) e) (same_rounds us vs xs (ap rest e))

-- values in pairs, of which both have one key
pub same_keys : {X Y : Type 0} (R : X → X → Type 0) (key : X → Y) → ((x y : X) → R x y → key y ≡ key x) → (xs ys : List X) → AllZip R xs ys → map key ys ≡ map key xs
same_keys R key same [] [] h = refl
same_keys R key same [] (y ∷ ys) h = absurd h
same_keys R key same (x ∷ xs) [] h = absurd h
same_keys R key same (x ∷ xs) (y ∷ ys) h = ap₂ (λ k ks. k ∷ ks) (same x y h.0) (same_keys R key same xs ys h.1)
