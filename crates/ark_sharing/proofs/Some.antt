-- Some of the shares of a sharing: the first ones, and the last.
use Rattle.std.proofs.Common.{◌≡◌, ℕ, ◌+◌, ◌<◌, List, length, take, drop, get_or, sym, ap, subst₂, arith}
use Rattle.std.proofs.lemmas.List.{get_or-take, get_or-drop, length-take, length-drop}
use Rattle.ark_math.specs.Field.{FieldOn}
use Rattle.ark_math.specs.Univariate.{IsValue}
use Rattle.ark_sharing.specs.Sharing.{AreShares}

module _ {F : Type 0} (K : FieldOn F) (a : ℕ → F) (shares : List (F × F)) (m : ℕ) where
  moved : (p q : F × F) → p ≡ q → IsValue K a q.0 q.1 → IsValue K a p.0 p.1
  moved p q e = subst₂ (IsValue K a) (ap (λ t. t.0) (sym e)) (ap (λ t. t.1) (sym e))

  pub first_shares : AreShares K a shares → AreShares K a (take m shares)
  first_shares h i l =
      let short = length-take m shares in
      let inside : (i < m) × (i < length shares) = (omega (arith, l, short), omega (arith, l, short)) in
      moved (get_or (take m shares) i (K.zero, K.zero)) (get_or shares i (K.zero, K.zero)) (get_or-take m shares i (K.zero, K.zero) inside.0) (h i inside.1)

  pub last_shares : AreShares K a shares → AreShares K a (drop m shares)
  last_shares h i l =
      let short = length-drop m shares in
      let inside : m + i < length shares = omega (arith, l, short) in
      moved (get_or (drop m shares) i (K.zero, K.zero)) (get_or shares (m + i) (K.zero, K.zero)) (get_or-drop m shares i (K.zero, K.zero)) (h (m + i) inside)
