-- Addends in words, one after another.
use Rattle.std.proofs.Common.{◌≡◌, ℕ, List, [], ◌∷◌, ◌++◌, length, length-append, refl, sym, ap, ap₂, subst, ◌∙◌, arith}
use Rattle.ark_math.specs.Words.{number_of_words}
use Rattle.ark_sum_check.specs.Cube.{Product}
use Rattle.ark_sum_check.proofs.Vectors.{first, rest}
use Rattle.ark_words.specs.Numbers.{Spelled}
use Rattle.ark_word_sums.specs.Sums.{AreAddends}

-- lists of one length before others
pub one_front : {X : Type 0} (a b x y : List X) → length a ≡ length b → a ++ x ≡ b ++ y → (a ≡ b) × (x ≡ y)
one_front [] [] x y l e = (refl, e)
one_front [] (v ∷ b) x y l e = absurd (omega (arith, l))
one_front (u ∷ a) [] x y l e = absurd (omega (arith, l))
one_front (u ∷ a) (v ∷ b) x y l e =
    let h = one_front a b x y (omega (arith, l)) (ap rest e) in
    (ap₂ (λ w ws. w ∷ ws) (ap (first u) e) h.0, h.1)

module _ (f : Spelled) where
  -- an addend's words stand before others in one way
  pub one_addend : (words coefficient factors next : List ℕ) (a : Product ℕ) (ps : List (Product ℕ)) → length coefficient ≡ f.width
      → words ≡ coefficient ++ length factors ∷ (factors ++ next) → AreAddends f (a ∷ ps) words
      → (number_of_words coefficient ≡ a.coefficient) × (factors ≡ a.factors) × AreAddends f ps next
  one_addend words coefficient factors next a ps width is (other, after, long, number, spelled, more) =
      let all = one_front coefficient other _ _ (width ∙ sym long) (sym is ∙ spelled) in
      let count : length factors ≡ length a.factors = ap (first 0) all.1 in
      let behind = one_front factors a.factors next after count (ap rest all.1) in
      (ap number_of_words all.0 ∙ number, behind.0, subst (AreAddends f ps) (sym behind.1) more)

  -- words spell addends in one way
  pub one_reading : (ps qs : List (Product ℕ)) (words : List ℕ) → AreAddends f ps words → AreAddends f qs words → ps ≡ qs
  one_reading [] [] words s t = refl
  one_reading [] (b ∷ qs) words s (c, after, long, number, is, more) =
      absurd (omega (arith, ap length (sym s ∙ is), length-append c (length b.factors ∷ (b.factors ++ after))))
  one_reading (a ∷ ps) [] words (c, after, long, number, is, more) t =
      absurd (omega (arith, ap length (sym t ∙ is), length-append c (length a.factors ∷ (a.factors ++ after))))
  one_reading (a ∷ ps) (b ∷ qs) words (c, after, long, number, is, more) t =
      let h = one_addend words c a.factors after b qs long is t in
      ap₂ (λ v vs. v ∷ vs) (ap₂ (λ (n : ℕ) (is : List ℕ). record { coefficient = n; factors = is }) (sym number ∙ h.0) h.1) (one_reading ps qs after more h.2)
