-- Words have at most one answer, and rows at most one verdict each.
use Rattle.std.proofs.Common.{◌≡◌, ℕ, Bool, true, false, IsTrue, List, [], ◌∷◌, get_or, inl, inr, refl, sym, ap, ap₂, subst, ◌∙◌}
use Rattle.polyrun_lib.specs.Commands.{Command}
use Rattle.polyrun_lib.specs.Vectors.{Row, rows_5, rows_433, rows_65537, rows_babybear, rows_koalabear, rows_goldilocks, rows_bls12_381, rows_bn254, HasRows}
use Rattle.ark_numbers.specs.Fields.{Known, field_5, field_433, field_65537, babybear, koalabear, goldilocks, bls12_381, bn254}
use Rattle.polyrun_lib.specs.Answer.{Names, Writes, IsPlainAnswer, HasAtMostOne}
use Rattle.polyrun_lib.specs.Check.{IsVerdict, AreVerdicts, lines_text, status_of, IsChecked, IsAnswer}
use Rattle.polyrun_lib.proofs.OneCommand.{by_name, one_command}

-- the commands over a field write at most one text each
abbrev pub WritesOne : Known → Type 0
WritesOne f = (c : Command) → HasAtMostOne (Writes f c)

same_truth : (a b : Bool) → (IsTrue a → IsTrue b) → (IsTrue b → IsTrue a) → b ≡ a
same_truth true b f h = f refl
same_truth false true f h = sym (h refl)
same_truth false false f h = refl

-- a field's name tells its rows
rows_of : List ℕ → List Row
rows_of = by_name rows_5 rows_433 rows_65537 rows_babybear rows_koalabear rows_goldilocks rows_bls12_381 rows_bn254

rows_named : (field : List ℕ) (rows : List Row) → HasRows field rows → rows ≡ rows_of field
unfolding rows_of
rows_named field rows (inl is) = is.1 ∙ ap rows_of (sym is.0)
rows_named field rows (inr (inl is)) = is.1 ∙ ap rows_of (sym is.0)
rows_named field rows (inr (inr (inl is))) = is.1 ∙ ap rows_of (sym is.0)
rows_named field rows (inr (inr (inr (inl is)))) = is.1 ∙ ap rows_of (sym is.0)
rows_named field rows (inr (inr (inr (inr (inl is))))) = is.1 ∙ ap rows_of (sym is.0)
rows_named field rows (inr (inr (inr (inr (inr (inl is)))))) = is.1 ∙ ap rows_of (sym is.0)
rows_named field rows (inr (inr (inr (inr (inr (inr (inl is))))))) = is.1 ∙ ap rows_of (sym is.0)
rows_named field rows (inr (inr (inr (inr (inr (inr (inr is))))))) = is.1 ∙ ap rows_of (sym is.0)

-- each field that has a name is one of these
pub each_by_name : WritesOne field_5 → WritesOne field_433 → WritesOne field_65537 → WritesOne babybear → WritesOne koalabear → WritesOne goldilocks → WritesOne bls12_381 → WritesOne bn254
    → (word : List ℕ) (f : Known) → Names word f → WritesOne f
each_by_name a b c d e h i j word f (inl is) = subst WritesOne (sym is.1) a
each_by_name a b c d e h i j word f (inr (inl is)) = subst WritesOne (sym is.1) b
each_by_name a b c d e h i j word f (inr (inr (inl is))) = subst WritesOne (sym is.1) c
each_by_name a b c d e h i j word f (inr (inr (inr (inl is)))) = subst WritesOne (sym is.1) d
each_by_name a b c d e h i j word f (inr (inr (inr (inr (inl is))))) = subst WritesOne (sym is.1) e
each_by_name a b c d e h i j word f (inr (inr (inr (inr (inr (inl is)))))) = subst WritesOne (sym is.1) h
each_by_name a b c d e h i j word f (inr (inr (inr (inr (inr (inr (inl is))))))) = subst WritesOne (sym is.1) i
each_by_name a b c d e h i j word f (inr (inr (inr (inr (inr (inr (inr is))))))) = subst WritesOne (sym is.1) j

module _ (each : (word : List ℕ) (f : Known) → Names word f → WritesOne f) where
  one_plain_answer : (words : List (List ℕ)) → HasAtMostOne (IsPlainAnswer words)
  one_plain_answer words text other status ending (inl a) (inl b) =
      let same = one_command words a.0 b.0 a.1 b.1 a.2 b.2 in
      let writes = subst (λ f. Writes f a.1 other ending) same.0 (subst (λ c. Writes b.0 c other ending) same.1 b.3) in
      each a.2.0 a.0 a.2.3 a.1 text other status ending a.3 writes
  one_plain_answer words text other status ending (inl a) (inr b) = absurd (b.0 a.0 a.1 a.2)
  one_plain_answer words text other status ending (inr a) (inl b) = absurd (a.0 b.0 b.1 b.2)
  one_plain_answer words text other status ending (inr a) (inr b) = (b.1 ∙ sym a.1, b.2 ∙ sym a.2)

  one_verdict : (field : List ℕ) (row : Row) (good other : Bool) → IsVerdict field row good → IsVerdict field row other → other ≡ good
  one_verdict field row good other (inl a) (inl b) = b.1 ∙ sym a.1
  one_verdict field row good other (inl a) (inr b) = absurd (b.0 a.0)
  one_verdict field row good other (inr a) (inl b) = absurd (a.0 b.0)
  one_verdict field row good other (inr a) (inr b) =
      let x = a.1 in
      let y = b.1 in
      let same = (one_plain_answer (field ∷ row.0) x.0 y.0 x.1 y.1 x.2 y.2).0 in
      same_truth good other (λ told. y.3.1 (same ∙ x.3.0 told)) (λ told. x.3.1 (sym same ∙ y.3.0 told))

  one_verdicts : (field : List ℕ) (rows : List Row) (verdicts others : List Bool) → AreVerdicts field rows verdicts → AreVerdicts field rows others → others ≡ verdicts
  one_verdicts field [] [] [] a b = refl
  one_verdicts field [] [] (w ∷ ws) a b = absurd b
  one_verdicts field [] (v ∷ vs) others a b = absurd a
  one_verdicts field (row ∷ rows) [] others a b = absurd a
  one_verdicts field (row ∷ rows) (v ∷ vs) [] a b = absurd b
  one_verdicts field (row ∷ rows) (v ∷ vs) (w ∷ ws) a b = ap₂ (λ x xs. x ∷ xs) (one_verdict field row v w a.0 b.0) (one_verdicts field rows vs ws a.1 b.1)

  pub one_check : (field : List ℕ) (rows : List Row) → HasAtMostOne (IsChecked field rows)
  one_check field rows text other status ending a b =
      let same = one_verdicts field rows a.0 b.0 a.1 b.1 in
      (b.2 ∙ ap lines_text same ∙ sym a.2, b.3 ∙ ap status_of same ∙ sym a.3)

  pub one_answer : (words : List (List ℕ)) → HasAtMostOne (IsAnswer words)
  one_answer words text other status ending (inl a) (inl b) =
      let field : b.0 ≡ a.0 = ap (λ l. get_or l 0 []) (sym b.2.0 ∙ a.2.0) in
      let rows : b.1 ≡ a.1 = rows_named b.0 b.1 b.2.1 ∙ ap rows_of field ∙ sym (rows_named a.0 a.1 a.2.1) in
      let checked = subst (λ f. IsChecked f a.1 other ending) field (subst (λ r. IsChecked b.0 r other ending) rows b.3) in
      one_check a.0 a.1 text other status ending a.3 checked
  one_answer words text other status ending (inl a) (inr b) = absurd (b.0 a.0 a.1 a.2)
  one_answer words text other status ending (inr a) (inl b) = absurd (a.0 b.0 b.1 b.2)
  one_answer words text other status ending (inr a) (inr b) = one_plain_answer words text other status ending a.1 b.1
