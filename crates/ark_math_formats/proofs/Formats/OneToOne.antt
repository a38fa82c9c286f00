-- A spelling tells its value, or what a view shows of it, and where it ends.
use Rattle.std.proofs.Common.{◌≡◌, ℕ, List, [], ◌∷◌, ◌++◌, length, map, map-id, inl, inr, refl, sym, ap, ◌∙◌, arith}
use Rattle.std.proofs.lemmas.List.{append_cancel_left}
use Rattle.ark_math_formats.specs.Format.{Format, IsFormat, Tells, IsOneToOne, AreSpelledAlike, number, word, ◌⊗◌, items, HaveSpellings, list, lawful, either, shown_either}
use Rattle.ark_math_formats.proofs.Formats.Ends.{one_number, spelled, number_is_format}

pub number_tells : (width : ℕ) → IsOneToOne (number width)
number_tells width x y p q e = one_number width x y p q e

module _ {X Y V W : Type 0} (first : Format X) (second : Format Y) (A : IsFormat first) (left : X → V) (right : Y → W) (one : Tells left first) (two : Tells right second) where
  -- a pair tells what both of its spellings do
  pub pair_shows : Tells {V = V × W} (λ p. (left p.0, right p.1)) (first ⊗ second)
  pair_shows x y p q e =
      let fronts = A.one_end (first.spelling x.0) (first.spelling y.0) (second.spelling x.1) (second.spelling y.1) (inl (spelled first x.0 p.0)) (inl (spelled first y.0 q.0)) e in
      let rests = append_cancel_left (first.spelling x.0) (second.spelling x.1) (second.spelling y.1) (e ∙ ap (λ l. l ++ second.spelling y.1) (sym fronts)) in
      let same = one x.0 y.0 p.0 q.0 fronts in
      let other = two x.1 y.1 p.1 q.1 rests in
      λ i. (same i, other i)

pub pair_tells : {X Y : Type 0} (first : Format X) (second : Format Y) → IsFormat first → IsOneToOne first → IsOneToOne second → IsOneToOne (first ⊗ second)
pair_tells first second A one two = pair_shows first second A (λ x. x) (λ y. y) one two

module _ {X V : Type 0} (item : Format X) (I : IsFormat item) (view : X → V) (one : Tells view item) where
  items_show : (us vs : List X) → HaveSpellings item us → HaveSpellings item vs → length us ≡ length vs → items item us ≡ items item vs → map view us ≡ map view vs
  items_show [] [] p q l e = refl
  items_show [] (v ∷ vs) p q l e = absurd (omega (arith, l))
  items_show (u ∷ us) [] p q l e = absurd (omega (arith, l))
  items_show (u ∷ us) (v ∷ vs) p q l e =
      let s = item.spelling u in
      let t = item.spelling v in
      let fronts = I.one_end s t (items item us) (items item vs) (inl (spelled item u p.0)) (inl (spelled item v q.0)) e in
      let rests = append_cancel_left s (items item us) (items item vs) (e ∙ ap (λ l. l ++ items item vs) (sym fronts)) in
      ap (λ w. w ∷ map view us) (one u v p.0 q.0 fronts) ∙ ap (λ l. view v ∷ l) (items_show us vs p.1 q.1 (omega (arith, l)) rests)

  -- a list tells what the spelling of each item does
  pub list_shows : Tells (map view) (list item)
  list_shows x y p q e =
      let s = word.spelling (length x) in
      let t = word.spelling (length y) in
      let words = (number_is_format 8).one_end s t (items item x) (items item y) (inl (spelled word (length x) p.0)) (inl (spelled word (length y) q.0)) e in
      let rests = append_cancel_left s (items item x) (items item y) (e ∙ ap (λ l. l ++ items item y) (sym words)) in
      items_show x y p.1 q.1 (one_number 8 (length x) (length y) p.0 q.0 words) rests

pub list_tells : {X : Type 0} (item : Format X) → IsFormat item → IsOneToOne item → IsOneToOne (list item)
list_tells item I one x y p q e = sym (map-id x) ∙ list_shows item I (λ v. v) one x y p q e ∙ map-id y

-- a value tells what its fields do
pub lawful_shows : {X Y V W : Type 0} (layout : Format X) (fields : Y → X) (IsLawful : Y → Type 0) (view : X → V) (shown : Y → W) → Tells view layout
    → ((x y : Y) → view (fields x) ≡ view (fields y) → shown x ≡ shown y) → Tells shown (lawful layout fields IsLawful)
lawful_shows layout fields IsLawful view shown one told x y p q e = told x y (one (fields x) (fields y) p.0 q.0 e)

pub lawful_tells : {X Y : Type 0} (layout : Format X) (fields : Y → X) (IsLawful : Y → Type 0) → IsOneToOne layout → ((x y : Y) → fields x ≡ fields y → x ≡ y) → IsOneToOne (lawful layout fields IsLawful)
lawful_tells layout fields IsLawful one told = lawful_shows layout fields IsLawful (λ x. x) (λ y. y) one told

module _ {X Y V W : Type 0} (first : Format X) (second : Format Y) (left : X → V) (right : Y → W) (one : Tells left first) (two : Tells right second) where
  -- one of two tells what the spelling of that one does
  pub either_shows : Tells (shown_either left right) (either first second)
  either_shows (inl x) (inl y) p q e = let tails : first.spelling x ≡ first.spelling y = cc in ap (λ v. inl v) (one x y p q tails)
  either_shows (inl x) (inr y) p q e = cc
  either_shows (inr x) (inl y) p q e = cc
  either_shows (inr x) (inr y) p q e = let tails : second.spelling x ≡ second.spelling y = cc in ap (λ v. inr v) (two x y p q tails)

-- no value's spelling begins another's, and where one does, what is shown is one
pub shown_front : {X V : Type 0} (format : Format X) (view : X → V) → IsFormat format → Tells view format → (x y : X) (a b : List ℕ) → format.HasSpelling x → format.HasSpelling y
    → format.spelling x ++ a ≡ format.spelling y ++ b → (view x ≡ view y) × (a ≡ b)
shown_front format view I one x y a b p q e =
    let fronts = I.one_end (format.spelling x) (format.spelling y) a b (inl (spelled format x p)) (inl (spelled format y q)) e in
    (one x y p q fronts, append_cancel_left (format.spelling x) a b (e ∙ ap (λ l. l ++ b) (sym fronts)))

pub no_front : {X : Type 0} (format : Format X) → IsFormat format → IsOneToOne format → (x y : X) (a b : List ℕ) → format.HasSpelling x → format.HasSpelling y
    → format.spelling x ++ a ≡ format.spelling y ++ b → (x ≡ y) × (a ≡ b)
no_front format I one = shown_front format (λ x. x) I one

-- what a spelling tells is one of values that are spelled alike
pub alike_tells : {X V : Type 0} (format : Format X) (view : X → V) → Tells view format → (x y : X) → AreSpelledAlike format x y → view x ≡ view y
alike_tells format view tells x y a = tells x y a.has a.other a.same
