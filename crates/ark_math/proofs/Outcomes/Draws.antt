-- Values that are drawn one after another.
use Rattle.std.proofs.Common.{List, [], ◌∷◌, ◌++◌, refl, sym, subst}
use Rattle.ark_math.specs.Draws.{AreDrawn}

-- and one more
pub AreDrawn-push : {V S : Type 0} (draws : S → V → S → Type 0) (old : S) (values : List V) (mid : S) (value : V) (new : S) → AreDrawn draws old values mid → draws mid value new → AreDrawn draws old (values ++ value ∷ []) new
AreDrawn-push draws old [] mid value new h d = (new, subst (λ s. draws s value new) (sym h) d, refl)
AreDrawn-push draws old (v ∷ vs) mid value new h d = (h.0, h.1, AreDrawn-push draws h.0 vs mid value new h.2 d)
