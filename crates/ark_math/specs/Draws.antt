-- Values that are drawn one after another.
use Rattle.std.specs.Prelude.{◌≡◌, List, [], ◌∷◌}

-- the values come one after another, each as `draws` says of the state that the one before it left
abbrev pub AreDrawn : {V S : Type 0} → (S → V → S → Type 0) → S → List V → S → Type 0
AreDrawn draws old [] new = old ≡ new
AreDrawn {S = S} draws old (value ∷ values) new = (next : S) × draws old value next × AreDrawn draws next values new
