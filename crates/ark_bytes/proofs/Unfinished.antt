-- Bytes within which reading doesn't stop.
use Rattle.std.proofs.Common.{◌≡◌, ℕ, suc, zero, ◌^◌, ◌<◌, List, [], ◌∷◌, ◌++◌, length, ◌⊎◌, inl, inr, sym, ap, ◌∙◌, append_assoc, length-append, arith, subst, lit<, mod-eq_of_lt}
use Rattle.std.proofs.lemmas.List.{append_cancel_left}
use Rattle.ark_math_formats.specs.Format.{Format, IsSpelled, IsEnd, IsUnfinished, IsFormat, number, word, ◌⊗◌, items, HaveSpellings, list, lawful, either}
use Rattle.ark_math_formats.proofs.Formats.Ends.{length-little_endian, one_number, spelled, fault_not_front, number_is_format, IsPast, past, Stops, all, at_fault, run, less, lawful_end, TagEnd, of_first, of_second, of_neither, tagged}

short_number : (width : ℕ) (bytes front rest : List ℕ) → length bytes < width → bytes ≡ front ++ rest → IsEnd (number width) front → ⊥
short_number width bytes front rest few e (inl s) =
    omega (arith, few, ap length e, length-append front rest, ap length s.is, length-little_endian width s.value)
short_number width bytes front rest few e (inr f) = f

-- fewer bytes than a number has
pub unfinished_number : (width : ℕ) (bytes : List ℕ) → length bytes < width → IsUnfinished (number width) bytes
unfinished_number width bytes few front rest e end = short_number width bytes front rest few e end

-- where a value is spelled as its fields, what is unfinished of these
pub unfinished_fields : {X Y : Type 0} (layout : Format X) (fields : Y → X) (IsLawful : Y → Type 0) (bytes : List ℕ)
    → IsUnfinished layout bytes → IsUnfinished (lawful layout fields IsLawful) bytes
unfinished_fields layout fields IsLawful bytes h front rest e end = h front rest e (lawful_end layout fields IsLawful front end)

module _ {X Y : Type 0} (first : Format X) (second : Format Y) (A : IsFormat first) where
  in_first : (bytes front rest : List ℕ) → IsUnfinished first bytes → bytes ≡ front ++ rest → first.IsFault front ⊎ IsPast first second front → ⊥
  in_first bytes front rest h e (inl f) = h front rest e (inr f)
  in_first bytes front rest h e (inr p) =
      h p.front (p.rest ++ rest) (e ∙ ap (λ l. l ++ rest) p.is ∙ append_assoc p.front p.rest rest) (inl p.whole)

  pub unfinished_first : (bytes : List ℕ) → IsUnfinished first bytes → IsUnfinished (first ⊗ second) bytes
  unfinished_first bytes h front rest e end = in_first bytes front rest h e (past first second front end)

  in_second : (a b front rest : List ℕ) → IsSpelled first a → IsUnfinished second b → a ++ b ≡ front ++ rest → first.IsFault front ⊎ IsPast first second front → ⊥
  in_second a b front rest s h e (inl f) = fault_not_front first A front a rest b f s (sym e)
  in_second a b front rest s h e (inr p) =
      let joined : a ++ b ≡ p.front ++ (p.rest ++ rest) = e ∙ ap (λ l. l ++ rest) p.is ∙ append_assoc p.front p.rest rest in
      let fronts = A.one_end a p.front b (p.rest ++ rest) (inl s) (inl p.whole) joined in
      let rests = append_cancel_left a b (p.rest ++ rest) (joined ∙ ap (λ l. l ++ (p.rest ++ rest)) (sym fronts)) in
      h p.rest rest rests p.end

  pub unfinished_second : (a b : List ℕ) → IsSpelled first a → IsUnfinished second b → IsUnfinished (first ⊗ second) (a ++ b)
  unfinished_second a b s h front rest e end = in_second a b front rest s h e (past first second front end)

module _ {X : Type 0} (item : Format X) (I : IsFormat item) where
  -- in the length
  pub unfinished_length : (bytes : List ℕ) → IsUnfinished word bytes → IsUnfinished (list item) bytes
  unfinished_length bytes h front rest e end =
      let r = run item I front end in
      h (word.spelling r.count) ((items item r.front ++ r.rest) ++ rest)
      (e ∙ ap (λ l. l ++ rest) r.is ∙ append_assoc (word.spelling r.count) (items item r.front ++ r.rest) rest)
      (inl (spelled word r.count r.counts))

  -- items of which one is unfinished, and a run of as many
  in_items : (count : ℕ) (us vs : List X) (b c rest : List ℕ) → HaveSpellings item us → HaveSpellings item vs → length us < count → IsUnfinished item b → Stops item count vs c
      → items item us ++ b ≡ items item vs ++ (c ++ rest) → ⊥
  in_items count [] [] b c rest hu hv few h (all l z) e = omega (arith, l, few)
  in_items count [] [] b c rest hu hv few h (at_fault l f) e = h c rest e (inr f)
  in_items count [] (v ∷ vs) b c rest hu hv few h q e =
      h (item.spelling v) (items item vs ++ (c ++ rest)) (e ∙ append_assoc (item.spelling v) (items item vs) (c ++ rest)) (inl (spelled item v hv.0))
  in_items count (u ∷ us) [] b c rest hu hv few h (all l z) e = omega (arith, l, few)
  in_items count (u ∷ us) [] b c rest hu hv few h (at_fault l f) e =
      fault_not_front item I c (item.spelling u) rest (items item us ++ b) f (spelled item u hu.0) (sym e ∙ append_assoc (item.spelling u) (items item us) b)
  in_items zero (u ∷ us) (v ∷ vs) b c rest hu hv few h q e = omega (arith, few)
  in_items (suc count) (u ∷ us) (v ∷ vs) b c rest hu hv few h q e =
      let s = item.spelling u in
      let t = item.spelling v in
      let joined : s ++ (items item us ++ b) ≡ t ++ (items item vs ++ (c ++ rest)) = sym (append_assoc s (items item us) b) ∙ e ∙ append_assoc t (items item vs) (c ++ rest) in
      let fronts = I.one_end s t _ _ (inl (spelled item u hu.0)) (inl (spelled item v hv.0)) joined in
      let rests = append_cancel_left s _ _ (joined ∙ ap (λ l. l ++ (items item vs ++ (c ++ rest))) (sym fronts)) in
      in_items count us vs b c rest hu.1 hv.1 (omega (arith, few)) h (less item count v vs c q) rests

  -- in an item after fewer than the length says
  pub unfinished_item : (count : ℕ) (us : List X) (b : List ℕ) → count < 256 ^ 8 → HaveSpellings item us → length us < count → IsUnfinished item b
      → IsUnfinished (list item) (word.spelling count ++ (items item us ++ b))
  unfinished_item count us b counts have few h front rest e end =
      let r = run item I front end in
      let s = word.spelling count in
      let t = word.spelling r.count in
      let v = items item r.front ++ r.rest in
      let joined : s ++ (items item us ++ b) ≡ t ++ (v ++ rest) = e ∙ ap (λ l. l ++ rest) r.is ∙ append_assoc t v rest in
      let words = (number_is_format 8).one_end s t _ _ (inl (spelled word count counts)) (inl (spelled word r.count r.counts)) joined in
      let same = one_number 8 count r.count counts r.counts words in
      let rests = append_cancel_left s _ _ (joined ∙ ap (λ l. l ++ (v ++ rest)) (sym words)) in
      in_items count us r.front b r.rest rest have r.have few h (subst (λ n. Stops item n r.front r.rest) (sym same) r.stops)
      (rests ∙ append_assoc (items item r.front) r.rest rest)

module _ {X Y : Type 0} (first : Format X) (second : Format Y) where
  before_tag : (bytes front rest : List ℕ) → IsUnfinished (number 1) bytes → bytes ≡ front ++ rest → TagEnd first second front → ⊥
  before_tag bytes _ rest h e (of_first a p) = h (0 ∷ []) (a ++ rest) e (inl (spelled (number 1) 0 (lit< tt)))
  before_tag bytes _ rest h e (of_second a p) = h (1 ∷ []) (a ++ rest) e (inl (spelled (number 1) 1 (lit< tt)))
  before_tag bytes _ rest h e (of_neither tag above below) =
      h (tag ∷ []) rest e (inl (record { value = tag; has = below; is = ap (λ n. n ∷ []) (sym (mod-eq_of_lt below)) }))

  -- in the tag
  pub unfinished_tag : (bytes : List ℕ) → IsUnfinished (number 1) bytes → IsUnfinished (either first second) bytes
  unfinished_tag bytes h front rest e end = before_tag bytes front rest h e (tagged first second front end)

  in_left : (bytes front rest : List ℕ) → IsUnfinished first bytes → 0 ∷ bytes ≡ front ++ rest → TagEnd first second front → ⊥
  in_left bytes _ rest h e (of_first a p) = let tails : bytes ≡ a ++ rest = cc in h a rest tails p
  in_left bytes _ rest h e (of_second a p) = cc
  in_left bytes _ rest h e (of_neither tag above below) = let heads : 0 ≡ tag = cc in omega (arith, heads, above)

  -- after the tag, what is unfinished of that one
  pub unfinished_left : (bytes : List ℕ) → IsUnfinished first bytes → IsUnfinished (either first second) (0 ∷ bytes)
  unfinished_left bytes h front rest e end = in_left bytes front rest h e (tagged first second front end)

  in_right : (bytes front rest : List ℕ) → IsUnfinished second bytes → 1 ∷ bytes ≡ front ++ rest → TagEnd first second front → ⊥
  in_right bytes _ rest h e (of_first a p) = cc
  in_right bytes _ rest h e (of_second a p) = let tails : bytes ≡ a ++ rest = cc in h a rest tails p
  in_right bytes _ rest h e (of_neither tag above below) = let heads : 1 ≡ tag = cc in omega (arith, heads, above)

  pub unfinished_right : (bytes : List ℕ) → IsUnfinished second bytes → IsUnfinished (either first second) (1 ∷ bytes)
  unfinished_right bytes h front rest e end = in_right bytes front rest h e (tagged first second front end)
