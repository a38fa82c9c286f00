-- What is written of rows, line by line, up to the end of the rows, a failure of the writer or want of memory.
use Rattle.std.proofs.Common.{◌≡◌, ◌⊎◌, ◌≢◌, ℕ, ◌+◌, ◌<◌, Bool, true, false, List, [], ◌∷◌, ◌++◌, length, map, take, get_or, inl, inr, refl, sym, ap, ap₂, subst, ◌∙◌, suc, arith, append-nil, codes, ltb, ltb-true, ltb-false, IsTrue, ◌↔◌, true≢false, bytes_eq, string_bytes, Result, Ok, Err, not, zero}
use Rattle.std.specs.List.{concat}
use Rattle.std.proofs.KnownBytes.{Appends-trans}
use Rattle.std.proofs.lemmas.List.{append_cancel_right, length-map, length-take, take_more, take_all}
use Rattle.std.proofs.lemmas.List.Folds.{concat-append}
use Rattle.ark_bytes.proofs.Transfer.{AppendsBeginning-more, AppendsBeginning-after}
use Rattle.ark_traits.specs.declared.error.PolyError.{PolyError}
use Rattle.std.specs.declared.string.String.{String}
use Rattle.std.specs.declared.alloc.Global.{Global}
use Rattle.std.proofs.lemmas.Slice.Eq.{bytes_eq-Decides}
use Rattle.ark_traits.specs.declared.error.PolyError.TheVariants.{Memory}
use Rattle.polyrun_lib.specs.Lines.{ended, row_line_of, refusal_line_of, usage_text}
use Rattle.ark_numbers.specs.Fields.{Known}
use Rattle.polyrun_lib.specs.Answer.{IsCommand, IsPlainAnswer}
use Rattle.polyrun_lib.specs.Written.{Writer, TookAll, TookBeginning, IsWritten, IsOneWritten}
use Rattle.polyrun_lib.specs.Commands.{Command}
use Rattle.polyrun_lib.specs.Outcome.{MayRefuse, IsOutcome, IsOutcomeOf}
use Rattle.polyrun_lib.specs.Vectors.{Row}
use Rattle.polyrun_lib.specs.Check.{IsVectors, IsVerdict, HasLine, EndsAt, AreVerdicts, lines_from, lines_text, status_of, MayCheck}

-- ---- one more verdict

AreVerdicts-length : (field : List ℕ) (rows : List Row) (verdicts : List Bool) → AreVerdicts field rows verdicts → length verdicts ≡ length rows
AreVerdicts-length field [] [] are = refl
AreVerdicts-length field [] (v ∷ vs) are = absurd are
AreVerdicts-length field (row ∷ rows) [] are = absurd are
AreVerdicts-length field (row ∷ rows) (v ∷ vs) are = ap suc (AreVerdicts-length field rows vs are.1)

AreVerdicts-push : (field : List ℕ) (rows : List Row) (row : Row) (verdicts : List Bool) (good : Bool) → AreVerdicts field rows verdicts → IsVerdict field row good → AreVerdicts field (rows ++ row ∷ []) (verdicts ++ good ∷ [])
AreVerdicts-push field [] row [] good are is = (is, tt)
AreVerdicts-push field [] row (v ∷ vs) good are is = absurd are
AreVerdicts-push field (first ∷ rows) row [] good are is = absurd are
AreVerdicts-push field (first ∷ rows) row (v ∷ vs) good are is = (are.0, AreVerdicts-push field rows row vs good are.1 is)

lines_from-push : (n : ℕ) (verdicts : List Bool) (good : Bool) → lines_from n (verdicts ++ good ∷ []) ≡ lines_from n verdicts ++ row_line_of (n + length verdicts) good ∷ []
lines_from-push n [] good = let e : n ≡ n + 0 = omega arith in ap (λ m. row_line_of m good ∷ []) e
lines_from-push n (v ∷ vs) good =
    let e : n + 1 + length vs ≡ n + length (v ∷ vs) = omega arith in
    ap (λ lines. row_line_of n v ∷ lines) (lines_from-push (n + 1) vs good ∙ ap (λ m. lines_from (n + 1) vs ++ row_line_of m good ∷ []) e)

lines_text-push : (verdicts : List Bool) (good : Bool) → lines_text (verdicts ++ good ∷ []) ≡ lines_text verdicts ++ row_line_of (1 + length verdicts) good
lines_text-push verdicts good =
    ap concat (lines_from-push 1 verdicts good) ∙ concat-append (lines_from 1 verdicts) (row_line_of (1 + length verdicts) good ∷ [])
    ∙ ap (λ line. lines_text verdicts ++ line) (append-nil (row_line_of (1 + length verdicts) good))

-- a bad row makes the status 1, and a good one keeps it
status_of-good : (verdicts : List Bool) → status_of (verdicts ++ true ∷ []) ≡ status_of verdicts
status_of-good [] = refl
status_of-good (true ∷ vs) = status_of-good vs
status_of-good (false ∷ vs) = refl

status_of-bad : (verdicts : List Bool) → status_of (verdicts ++ false ∷ []) ≡ 1
status_of-bad [] = refl
status_of-bad (true ∷ vs) = status_of-bad vs
status_of-bad (false ∷ vs) = refl

-- the status after a row
abbrev pub status_after : Bool → ℕ → ℕ
status_after true status = status
status_after false status = 1

status_of-push : (verdicts : List Bool) (good : Bool) → status_of (verdicts ++ good ∷ []) ≡ status_after good (status_of verdicts)
status_of-push verdicts true = status_of-good verdicts
status_of-push verdicts false = status_of-bad verdicts

-- ---- what a writer takes in turn

TookAll-after : (old now next : Writer) (first text : List ℕ) → TookAll old now first → TookAll now next text → TookAll old next (first ++ text)
TookAll-after old now next first text before after = (Appends-trans old.contents now.contents next.contents first text before.0 after.0, after.1 ∙ before.1)

TookBeginning-after : (old now next : Writer) (first text : List ℕ) → TookAll old now first → TookBeginning now next text → TookBeginning old next (first ++ text)
TookBeginning-after old now next first text before after =
    (AppendsBeginning-after old.contents now.contents next.contents first text before.0 after.0, after.1 ∙ ap (λ n. n + 1) before.1)

IsWritten-after : (old now next : Writer) (first text : List ℕ) (status result : ℕ) → TookAll old now first → IsWritten now next text status result → IsWritten old next (first ++ text) status result
IsWritten-after old now next first text status result before (inl written) = inl (TookAll-after old now next first text before written.0, written.1)
IsWritten-after old now next first text status result before (inr failed) = inr (TookBeginning-after old now next first text before failed.0, failed.1)

-- ---- what the writer has after some rows

pub record IsUnderWay (field : List ℕ) (rows : List Row) (i status : ℕ) (old now : Writer) : Type 0 where
  pub verdicts : List Bool
  pub are : AreVerdicts field (take i rows) verdicts
  pub took : TookAll old now (lines_text verdicts)
  pub ends : status ≡ status_of verdicts

-- what is to be shown of `check`
abbrev pub IsDone : List ℕ → List Row → Writer → Writer → ℕ → Type 0
IsDone field rows old new result = IsOneWritten (MayCheck field rows) old new result

-- the verdicts with a row's
verdicts_more : (field : List ℕ) (rows : List Row) (i : ℕ) (row : Row) (verdicts : List Bool) (good : Bool) → i < length rows → get_or rows i row ≡ row → AreVerdicts field (take i rows) verdicts → IsVerdict field row good
    → AreVerdicts field (take (i + 1) rows) (verdicts ++ good ∷ [])
verdicts_more field rows i row verdicts good below is are verdict =
    rw (take_more rows i row below, is) (AreVerdicts-push field (take i rows) row verdicts good are verdict)

lines_more : (field : List ℕ) (rows : List Row) (i : ℕ) (verdicts : List Bool) (good : Bool) → i < length rows → AreVerdicts field (take i rows) verdicts
    → lines_text (verdicts ++ good ∷ []) ≡ lines_text verdicts ++ row_line_of (i + 1) good
lines_more field rows i verdicts good below are =
    let e : 1 + length verdicts ≡ i + 1 = omega (arith, AreVerdicts-length field (take i rows) verdicts are, length-take i rows) in
    lines_text-push verdicts good ∙ ap (λ m. lines_text verdicts ++ row_line_of m good) e

-- a line that was written
pub under_way-more : (field : List ℕ) (rows : List Row) (i : ℕ) (row : Row) (good : Bool) (status : ℕ) (old now next : Writer)
    → IsUnderWay field rows i status old now → i < length rows → get_or rows i row ≡ row → HasLine field row (i + 1) now next good
    → (status_next : ℕ) → status_next ≡ status_after good status → IsUnderWay field rows (i + 1) status_next old next
under_way-more field rows i row good status old now next way below at has status_next after = record {
  verdicts = way.verdicts ++ good ∷ [];
  are = verdicts_more field rows i row way.verdicts good below at way.are has.0;
  took = rw (lines_more field rows i way.verdicts good below way.are) (TookAll-after old now next (lines_text way.verdicts) (row_line_of (i + 1) good) way.took has.1);
  ends = after ∙ ap (status_after good) way.ends ∙ sym (status_of-push way.verdicts good);
}

-- no line of these rows is left, or one is
rest_cases : (i n : ℕ) → i < n → (n ≡ i + 1) ⊎ (i + 1 < n)
rest_cases i n below = by_test (ltb (i + 1) n) refl
  where
    by_test : (b : Bool) → ltb (i + 1) n ≡ b → (n ≡ i + 1) ⊎ (i + 1 < n)
    by_test true e = inr (ltb-true (i + 1) n e)
    by_test false e = let most = ltb-false (i + 1) n e in inl (omega arith)

-- a beginning of the lines of the first rows is one of what may be written
done-beginning : (field : List ℕ) (rows : List Row) (i : ℕ) (verdicts : List Bool) (old new : Writer) → i < length rows → AreVerdicts field (take (i + 1) rows) verdicts
    → TookBeginning old new (lines_text verdicts) → IsDone field rows old new 3
done-beginning field rows i verdicts old new below are took = by_cases (rest_cases i (length rows) below)
  where
    by_cases : (length rows ≡ i + 1) ⊎ (i + 1 < length rows) → IsDone field rows old new 3
    by_cases (inl all) = (
      lines_text verdicts,
      status_of verdicts,
      inl (verdicts, subst (λ l. AreVerdicts field l verdicts) (take_all (i + 1) rows (omega (arith, all))) are, refl, refl),
      inr (took, refl),
    )
    by_cases (inr more) = (
      lines_text verdicts ++ refusal_line_of Memory,
      1,
      inr (i + 1, more, (verdicts, are, refl, refl)),
      inr ((AppendsBeginning-more old.contents new.contents (lines_text verdicts) (refusal_line_of Memory) took.0, took.1), refl),
    )

-- no line comes after a row's
pub done-ended : (field : List ℕ) (rows : List Row) (i : ℕ) (row : Row) (status : ℕ) (old now next : Writer) (result : ℕ)
    → IsUnderWay field rows i status old now → i < length rows → get_or rows i row ≡ row → EndsAt field row (i + 1) now next result → IsDone field rows old next result
done-ended field rows i row status old now next result way below at (inl refused) = (
  lines_text way.verdicts ++ refusal_line_of Memory,
  1,
  inr (i, below, (way.verdicts, way.are, refl, refl)),
  IsWritten-after old now next (lines_text way.verdicts) (refusal_line_of Memory) 1 result way.took refused,
)
done-ended field rows i row status old now next result way below at (inr failed) =
    let good = failed.0 in
    subst (IsDone field rows old next) (sym failed.3)
    (done-beginning field rows i (way.verdicts ++ good ∷ []) old next below (verdicts_more field rows i row way.verdicts good below at way.are failed.1)
    (rw (lines_more field rows i way.verdicts good below way.are) (TookBeginning-after old now next (lines_text way.verdicts) (row_line_of (i + 1) good) way.took failed.2)))

-- ---- one line

-- the writer failed
pub ends_failed : (field : List ℕ) (row : Row) (n : ℕ) (good : Bool) (line : List ℕ) (old new : Writer) (result : ℕ) → IsVerdict field row good → line ≡ row_line_of n good
    → IsWritten old new line 0 result → result ≡ 3 → EndsAt field row n old new 3
ends_failed field row n good line old new result verdict is (inl written) e = let none = written.1 in absurd (omega (arith, none, e))
ends_failed field row n good line old new result verdict is (inr failed) e = inr (good, verdict, subst (TookBeginning old new) is failed.0, refl)

-- ---- a verdict

-- the answer of other words
verdict-answer : (field : List ℕ) (words : List (List ℕ)) (text answer line : List ℕ) (status : ℕ) (is good : Bool) → IsTrue is ↔ IsVectors words → is ≡ false → IsPlainAnswer (field ∷ words) answer status
    → line ≡ answer → IsTrue good ↔ (line ≡ ended text) → IsVerdict field (words, text) good
verdict-answer field words text answer line status is good tells e plain lines good_tells = inr (
  (λ vectors. true≢false (sym (tells.1 vectors) ∙ e)),
  (line, status, subst (λ a. IsPlainAnswer (field ∷ words) a status) (sym lines) plain, good_tells),
)

pub verdict-text : (field : List ℕ) (words : List (List ℕ)) (text line : List ℕ) (outcome : Result (String Global) PolyError) (answer : String Global) (is good : Bool) → IsTrue is ↔ IsVectors words → is ≡ false
    → IsOutcomeOf (field ∷ words) outcome → outcome ≡ Ok answer → line ≡ string_bytes answer → IsTrue good ↔ (line ≡ ended text) → IsVerdict field (words, text) good
verdict-text field words text line outcome answer is good tells e of is_ok lines good_tells =
    verdict-answer field words text (string_bytes answer) line 0 is good tells e (inl (of.0, of.1, of.2, inl (subst (IsOutcome of.0 of.1) is_ok of.3, refl))) lines good_tells

pub verdict-error : (field : List ℕ) (words : List (List ℕ)) (text line : List ℕ) (outcome : Result (String Global) PolyError) (error : PolyError) (is good : Bool) → IsTrue is ↔ IsVectors words → is ≡ false
    → IsOutcomeOf (field ∷ words) outcome → outcome ≡ Err error → error ≢ Memory → line ≡ refusal_line_of error → IsTrue good ↔ (line ≡ ended text) → IsVerdict field (words, text) good
verdict-error field words text line outcome error is good tells e of is_err other lines good_tells =
    verdict-answer field words text (refusal_line_of error) line 1 is good tells e (by_cause (subst (IsOutcome of.0 of.1) is_err of.3)) lines good_tells
  where
    by_cause : MayRefuse of.0 of.1 error → IsPlainAnswer (field ∷ words) (refusal_line_of error) 1
    by_cause (inl refuses) = inl (of.0, of.1, of.2, inr (error, refuses, refl, refl))
    by_cause (inr memory) = absurd (other memory.1)

pub verdict-usage : (field : List ℕ) (words : List (List ℕ)) (text line : List ℕ) (is good : Bool) → IsTrue is ↔ IsVectors words → is ≡ false
    → ((f : Known) (c : Command) → IsCommand (field ∷ words) f c → ⊥) → line ≡ usage_text → IsTrue good ↔ (line ≡ ended text) → IsVerdict field (words, text) good
verdict-usage field words text line is good tells e none lines good_tells =
    verdict-answer field words text usage_text line 2 is good tells e (inr (none, refl, refl)) lines good_tells

-- two texts are one where their bytes are
bytes-tell : (a b : List ℕ) (same : Bool) → same ≡ bytes_eq a b → IsTrue same ↔ (a ≡ b)
bytes-tell a b same e = subst (λ t. IsTrue t ↔ (a ≡ b)) (sym e) (bytes_eq-Decides a b)

-- a line is its text's where it is the text before a newline
pub ended-tells : (answer line text : List ℕ) (same : Bool) → answer ≡ line ++ 10 ∷ [] → same ≡ bytes_eq line text → IsTrue same ↔ (answer ≡ ended text)
ended-tells answer line text same is e =
    let tells = bytes-tell line text same e in
    ((λ told. is ∙ ap (λ l. l ++ 10 ∷ []) (tells.0 told)), (λ e. tells.1 (append_cancel_right line text (10 ∷ []) (sym is ∙ e))))

-- the first word tells whether the command is `vectors`
pub vectors-tells : (words : List (List ℕ)) (name : List ℕ) (rest : List (List ℕ)) (same : Bool) → words ≡ name ∷ rest → same ≡ bytes_eq name (codes "vectors") → IsTrue same ↔ IsVectors words
vectors-tells words name rest same is e =
    let tells = bytes-tell name (codes "vectors") same e in
    ((λ told. (rest, is ∙ ap (λ n. n ∷ rest) (tells.0 told))), (λ vectors. tells.1 (ap (λ l. get_or l 0 []) (sym is ∙ vectors.1))))

-- ---- what may be written for any words

-- a field's word and `vectors`
pub two_words : (words : List (List ℕ)) (field name field_text name_text number : List ℕ) (differ : Bool) → words ≡ field ∷ name ∷ [] → field_text ≡ field → field_text ≡ number → name_text ≡ name
    → differ ≡ not (bytes_eq name_text (codes "vectors")) → differ ≡ false → words ≡ number ∷ codes "vectors" ∷ []
two_words words field name field_text name_text number differ e a b d f g =
    e ∙ ap₂ (λ l n. l ∷ n ∷ []) (sym a ∙ b) (sym d ∙ (bytes_eq-Decides name_text (codes "vectors")).0 (not_false _ (sym f ∙ g)))
  where
    not_false : (b : Bool) → not b ≡ false → b ≡ true
    not_false true e = refl
    not_false false e = absurd (true≢false e)

-- ---- a row of the list that is passed

get_or-map : {A B : Type 0} (f : A → B) (xs : List A) (i : ℕ) (x : A) → get_or (map f xs) i (f x) ≡ f (get_or xs i x)
get_or-map f [] i x = refl
get_or-map f (y ∷ ys) zero x = refl
get_or-map f (y ∷ ys) (suc i) x = get_or-map f ys i x

pub row_at : {R : Type 0} (row : R → Row) (rows : List R) (i : ℕ) (item : R) → item ≡ get_or rows i item → get_or (map row rows) i (row item) ≡ row item
row_at row rows i item e = get_or-map row rows i item ∙ ap row (sym e)

pub below_map : {A B : Type 0} (f : A → B) (xs : List A) (i : ℕ) → i < length xs → i < length (map f xs)
below_map f xs i below = subst (λ n. i < n) (sym (length-map xs f)) below

-- ---- the status after a row, as the branches set it

pub after_false : (good : Bool) (status next : ℕ) → good ≡ false → next ≡ 1 → next ≡ status_after good status
after_false true status next e is = absurd (true≢false e)
after_false false status next e is = is

pub after_true : (good : Bool) (status next : ℕ) → good ≡ true → next ≡ status → next ≡ status_after good status
after_true true status next e is = is
after_true false status next e is = absurd (true≢false (sym e))
