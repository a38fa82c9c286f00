-- Modes that are alike, and modes that tell the same: what is made of such formats is.
use Rattle.std.proofs.Common.{◌≡◌, ℕ, List, [], ◌∷◌, ◌++◌, length, inl, inr, refl, sym, ap, ◌∙◌, arith}
use Rattle.std.proofs.lemmas.List.{append_cancel_left}
use Rattle.ark_math_formats.specs.Format.{Format, IsFormat, IsSpelled, IsLaterFault, IsItemFault, HaveSpellings, KeepsAlike, items, word, ◌⊗◌, list, lawful, either}
use Rattle.ark_math_formats.specs.Format.{AreAlike}
use Rattle.ark_math_formats.proofs.Formats.Ends.{one_number, spelled, number_is_format}

-- where both modes have one format
pub one_format : {F : Type 0} (e : Format F) → AreAlike e e
one_format e = record { spellings = λ x. refl; have = λ x. ((λ h. h), (λ h. h)); faults = λ bytes. ((λ h. h), (λ h. h)) }

alike_sym : {F : Type 0} (e other : Format F) → AreAlike e other → AreAlike other e
alike_sym e other A = record { spellings = λ x. sym (A.spellings x); have = λ x. ((A.have x).1, (A.have x).0); faults = λ bytes. ((A.faults bytes).1, (A.faults bytes).0) }

module _ {X Y : Type 0} where
  later_fault : (a c : Format X) (b d : Format Y) → AreAlike a c → AreAlike b d → (bytes : List ℕ) → IsLaterFault a b bytes → IsLaterFault c d bytes
  later_fault a c b d A B bytes f = record {
    value = f.value;
    has = (A.have f.value).0 f.has;
    fault = f.fault;
    faulty = (B.faults f.fault).0 f.faulty;
    is = f.is ∙ ap (λ s. s ++ f.fault) (A.spellings f.value);
  }

  pair_fault : (a c : Format X) (b d : Format Y) → AreAlike a c → AreAlike b d → (bytes : List ℕ) → (a ⊗ b).IsFault bytes → (c ⊗ d).IsFault bytes
  pair_fault a c b d A B bytes (inl f) = inl ((A.faults bytes).0 f)
  pair_fault a c b d A B bytes (inr f) = inr (later_fault a c b d A B bytes f)

  pub pair_alike : (a c : Format X) (b d : Format Y) → AreAlike a c → AreAlike b d → AreAlike (a ⊗ b) (c ⊗ d)
  pair_alike a c b d A B = record {
    spellings = λ p. ap (λ s. s ++ b.spelling p.1) (A.spellings p.0) ∙ ap (λ s. c.spelling p.0 ++ s) (B.spellings p.1);
    have = λ p. ((λ h. ((A.have p.0).0 h.0, (B.have p.1).0 h.1)), (λ h. ((A.have p.0).1 h.0, (B.have p.1).1 h.1)));
    faults = λ bytes. (pair_fault a c b d A B bytes, pair_fault c a d b (alike_sym a c A) (alike_sym b d B) bytes);
  }

module _ {X : Type 0} where
  items_alike : (e other : Format X) → AreAlike e other → (xs : List X) → items e xs ≡ items other xs
  items_alike e other A [] = refl
  items_alike e other A (x ∷ xs) = ap (λ s. s ++ items e xs) (A.spellings x) ∙ ap (λ s. other.spelling x ++ s) (items_alike e other A xs)

  have_alike : (e other : Format X) → AreAlike e other → (xs : List X) → HaveSpellings e xs → HaveSpellings other xs
  have_alike e other A [] h = tt
  have_alike e other A (x ∷ xs) h = ((A.have x).0 h.0, have_alike e other A xs h.1)

  item_fault : (e other : Format X) → AreAlike e other → (bytes : List ℕ) → IsItemFault e bytes → IsItemFault other bytes
  item_fault e other A bytes f = record {
    count = f.count;
    counts = f.counts;
    front = f.front;
    have = have_alike e other A f.front f.have;
    fewer = f.fewer;
    fault = f.fault;
    faulty = (A.faults f.fault).0 f.faulty;
    is = f.is ∙ ap (λ s. word.spelling f.count ++ (s ++ f.fault)) (items_alike e other A f.front);
  }

  pub list_alike : (e other : Format X) → AreAlike e other → AreAlike (list e) (list other)
  list_alike e other A = record {
    spellings = λ xs. ap (λ s. word.spelling (length xs) ++ s) (items_alike e other A xs);
    have = λ xs. ((λ h. (h.0, have_alike e other A xs h.1)), (λ h. (h.0, have_alike other e (alike_sym e other A) xs h.1)));
    faults = λ bytes. (item_fault e other A bytes, item_fault other e (alike_sym e other A) bytes);
  }

module _ {X Y : Type 0} (fields : Y → X) (IsLawful : Y → Type 0) where
  spelled_alike : (e other : Format X) → AreAlike e other → (bytes : List ℕ) → IsSpelled e bytes → IsSpelled other bytes
  spelled_alike e other A bytes s = record { value = s.value; has = (A.have s.value).0 s.has; is = s.is ∙ A.spellings s.value }

  unlawful_alike : (e other : Format X) → AreAlike e other → (bytes : List ℕ) → (lawful e fields IsLawful).IsFault bytes → (lawful other fields IsLawful).IsFault bytes
  unlawful_alike e other A bytes (inl f) = inl ((A.faults bytes).0 f)
  unlawful_alike e other A bytes (inr f) = inr (record {
    whole = spelled_alike e other A bytes f.whole;
    none = λ y has good same. f.none y ((A.have (fields y)).1 has) good (same ∙ sym (A.spellings (fields y)));
  })

  pub lawful_alike : (e other : Format X) → AreAlike e other → AreAlike (lawful e fields IsLawful) (lawful other fields IsLawful)
  lawful_alike e other A = record {
    spellings = λ y. A.spellings (fields y);
    have = λ y. ((λ h. ((A.have (fields y)).0 h.0, h.1)), (λ h. ((A.have (fields y)).1 h.0, h.1)));
    faults = λ bytes. (unlawful_alike e other A bytes, unlawful_alike other e (alike_sym e other A) bytes);
  }

-- pairs of a number and such a value
module _ {F : Type 0} (e other : Format F) (A : AreAlike e other) where
  pub pairs_alike : AreAlike (list (word ⊗ e)) (list (word ⊗ other))
  pairs_alike = list_alike (word ⊗ e) (word ⊗ other) (pair_alike word word e other (one_format word) A)

-- ---- what is spelled alike in one format and in another one

-- where both modes have one format
pub keeps_itself : {X : Type 0} (e : Format X) → KeepsAlike e e
keeps_itself e x y h = h

pub keeps_alike : {X : Type 0} (e other : Format X) → AreAlike e other → KeepsAlike e other
keeps_alike e other A x y h = record {
  has = (A.have x).0 h.has;
  other = (A.have y).0 h.other;
  same = sym (A.spellings x) ∙ h.same ∙ A.spellings y;
}

pub keeps_in_pairs : {X Y : Type 0} (a c : Format X) (b d : Format Y) → IsFormat a → KeepsAlike a c → KeepsAlike b d → KeepsAlike (a ⊗ b) (c ⊗ d)
keeps_in_pairs a c b d A P Q x y h =
    let fronts = A.one_end (a.spelling x.0) (a.spelling y.0) (b.spelling x.1) (b.spelling y.1) (inl (spelled a x.0 h.has.0)) (inl (spelled a y.0 h.other.0)) h.same in
    let rests = append_cancel_left (a.spelling x.0) (b.spelling x.1) (b.spelling y.1) (h.same ∙ ap (λ l. l ++ b.spelling y.1) (sym fronts)) in
    let p = P x.0 y.0 (record { has = h.has.0; other = h.other.0; same = fronts }) in
    let q = Q x.1 y.1 (record { has = h.has.1; other = h.other.1; same = rests }) in
    record {
      has = (p.has, q.has);
      other = (p.other, q.other);
      same = ap (λ s. s ++ d.spelling x.1) p.same ∙ ap (λ s. c.spelling y.0 ++ s) q.same;
    }

module _ {X : Type 0} (e other : Format X) (E : IsFormat e) (K : KeepsAlike e other) where
  items_keep : (us vs : List X) → HaveSpellings e us → HaveSpellings e vs → length us ≡ length vs → items e us ≡ items e vs
      → HaveSpellings other us × HaveSpellings other vs × (items other us ≡ items other vs)
  items_keep [] [] p q l h = (tt, tt, refl)
  items_keep [] (v ∷ vs) p q l h = absurd (omega (arith, l))
  items_keep (u ∷ us) [] p q l h = absurd (omega (arith, l))
  items_keep (u ∷ us) (v ∷ vs) p q l h =
      let s = e.spelling u in
      let t = e.spelling v in
      let fronts = E.one_end s t (items e us) (items e vs) (inl (spelled e u p.0)) (inl (spelled e v q.0)) h in
      let rests = append_cancel_left s (items e us) (items e vs) (h ∙ ap (λ l. l ++ items e vs) (sym fronts)) in
      let first = K u v (record { has = p.0; other = q.0; same = fronts }) in
      let more = items_keep us vs p.1 q.1 (omega (arith, l)) rests in (
        (first.has, more.0),
        (first.other, more.1),
        ap (λ l. l ++ items other us) first.same ∙ ap (λ l. other.spelling v ++ l) more.2,
      )

  pub keeps_in_lists : KeepsAlike (list e) (list other)
  keeps_in_lists x y h =
      let s = word.spelling (length x) in
      let t = word.spelling (length y) in
      let words = (number_is_format 8).one_end s t (items e x) (items e y) (inl (spelled word (length x) h.has.0)) (inl (spelled word (length y) h.other.0)) h.same in
      let rests = append_cancel_left s (items e x) (items e y) (h.same ∙ ap (λ l. l ++ items e y) (sym words)) in
      let all = items_keep x y h.has.1 h.other.1 (one_number 8 (length x) (length y) h.has.0 h.other.0 words) rests in
      record {
        has = (h.has.0, all.0);
        other = (h.other.0, all.1);
        same = ap (λ l. l ++ items other x) words ∙ ap (λ l. t ++ l) all.2;
      }

pub keeps_by_fields : {X Y : Type 0} (e other : Format X) (fields : Y → X) (IsLawful : Y → Type 0) → KeepsAlike e other → KeepsAlike (lawful e fields IsLawful) (lawful other fields IsLawful)
keeps_by_fields e other fields IsLawful K x y h =
    let k = K (fields x) (fields y) (record { has = h.has.0; other = h.other.0; same = h.same }) in
    record { has = (k.has, h.has.1); other = (k.other, h.other.1); same = k.same }

pub keeps_in_either : {X Y : Type 0} (a c : Format X) (b d : Format Y) → KeepsAlike a c → KeepsAlike b d → KeepsAlike (either a b) (either c d)
keeps_in_either a c b d P Q (inl x) (inl y) h =
    let e = h.same in
    let tails : a.spelling x ≡ a.spelling y = cc in
    let k = P x y (record { has = h.has; other = h.other; same = tails }) in
    record { has = k.has; other = k.other; same = ap (λ l. 0 ∷ l) k.same }
keeps_in_either a c b d P Q (inl x) (inr y) h = let e = h.same in cc
keeps_in_either a c b d P Q (inr x) (inl y) h = let e = h.same in cc
keeps_in_either a c b d P Q (inr x) (inr y) h =
    let e = h.same in
    let tails : b.spelling x ≡ b.spelling y = cc in
    let k = Q x y (record { has = h.has; other = h.other; same = tails }) in
    record { has = k.has; other = k.other; same = ap (λ l. 1 ∷ l) k.same }
