-- Lists one after another.
use Rattle.std.proofs.Common.{◌≡◌, ℕ, ◌+◌, ◌<◌, suc, List, [], ◌∷◌, ◌++◌, length, take, drop, get_or, flat_map, arith, sym, ◌∙◌, ap, append_assoc, append-nil, length-append}
use Rattle.std.proofs.Math.Seq.{take-suc}
use Rattle.std.proofs.lemmas.Grind.{flat_map-append}
use Rattle.std.proofs.lemmas.List.{take_at, drop_at, drop_more, take-append-drop}

module _ {X : Type 0} (f : X → List ℕ) (xs : List X) (i : ℕ) (d : X) (inside : i < length xs) where
  -- one list more
  pub one_more : flat_map f (take (i + 1) xs) ≡ flat_map f (take i xs) ++ f (get_or xs i d)
  one_more =
      let next : i + 1 ≡ suc i = omega arith in
      ap (λ m. flat_map f (take m xs)) next ∙ ap (flat_map f) (take-suc xs i d inside) ∙ flat_map-append f (take i xs) (get_or xs i d ∷ [])
      ∙ ap (λ ys. flat_map f (take i xs) ++ ys) (append-nil (f (get_or xs i d)))

  pub longer : length (flat_map f (take (i + 1) xs)) ≡ length (flat_map f (take i xs)) + length (f (get_or xs i d))
  longer = ap length one_more ∙ length-append (flat_map f (take i xs)) (f (get_or xs i d))

  -- the next list was written behind those that were before
  pub copied : (front mid rest : List ℕ) (size : ℕ) → front ≡ flat_map f (take i xs) → mid ≡ f (get_or xs i d) → size ≡ length front + length mid
      → take size (front ++ (mid ++ rest)) ≡ flat_map f (take (i + 1) xs)
  copied front mid rest size is here size_is =
      ap (take size) (sym (append_assoc front mid rest)) ∙ take_at (front ++ mid) rest size (length-append front mid ∙ sym size_is)
      ∙ ap (λ ys. ys ++ mid) is ∙ ap (λ ys. flat_map f (take i xs) ++ ys) here ∙ sym one_more

  -- those before it, it, and those behind it
  pub parted : flat_map f xs ≡ flat_map f (take i xs) ++ (f (get_or xs i d) ++ flat_map f (drop (i + 1) xs))
  parted =
      ap (flat_map f) (sym (take-append-drop i xs)) ∙ flat_map-append f (take i xs) (drop i xs)
      ∙ ap (λ ys. flat_map f (take i xs) ++ flat_map f ys) (drop_more xs i d inside)

  -- it is found where it stands
  pub found : (start size : ℕ) → start ≡ length (flat_map f (take i xs)) → size ≡ length (f (get_or xs i d)) → take size (drop start (flat_map f xs)) ≡ f (get_or xs i d)
  found start size begin is =
      ap (λ ys. take size (drop start ys)) parted
      ∙ ap (take size) (drop_at (flat_map f (take i xs)) (f (get_or xs i d) ++ flat_map f (drop (i + 1) xs)) start (sym begin))
      ∙ take_at (f (get_or xs i d)) (flat_map f (drop (i + 1) xs)) size (sym is)
