-- What several writes append together.
use Rattle.std.proofs.Common.{◌≡◌, ℕ, ◌+◌, length, List, [], ◌∷◌, ◌++◌, append_assoc, length-append, inl, inr, Result, Ok, Err, refl, sym, ap, ◌∙◌, subst}
use Rattle.std.proofs.KnownBytes.{Appends-trans}
use Rattle.ark_math_formats.specs.Format.{Format, ◌⊗◌, word, number, items, HaveSpellings, list, lawful, either}
use Rattle.ark_bytes.specs.Writing.{SinkState, Puts, PutsSpelling, Stops, Writes}
use Rattle.ark_bytes.proofs.Transfer.{AppendsBeginning-more, AppendsBeginning-after}
use Rattle.ark_bytes.specs.declared.error.SerializationError.{SerializationError}
use Rattle.ark_bytes.specs.declared.error.SerializationError.TheVariants.{IoError, InvalidData, Memory}

-- a writer that failed within some bytes failed within these and more
pub stops_before : (a b : SinkState) (x y : List ℕ) (e : SerializationError) → Stops x a b e → Stops (x ++ y) a b e
stops_before a b x y IoError f = record { appends = AppendsBeginning-more a.contents b.contents x y f.appends; failures = f.failures }
stops_before a b x y InvalidData f = f
stops_before a b x y Memory f = f

stops_after : (a b c : SinkState) (x y : List ℕ) (e : SerializationError) → Puts a b x → Stops y b c e → Stops (x ++ y) a c e
stops_after a b c x y IoError s f = record {
  appends = AppendsBeginning-after a.contents b.contents c.contents x y s.appends f.appends;
  failures = f.failures ∙ ap (λ n. n + 1) s.failures;
}
stops_after a b c x y InvalidData s f = f
stops_after a b c x y Memory s f = f

Puts-trans : (a b c : SinkState) (x y : List ℕ) → Puts a b x → Puts b c y → Puts a c (x ++ y)
Puts-trans a b c x y s t = record {
  appends = Appends-trans a.contents b.contents c.contents x y s.appends t.appends;
  failures = t.failures ∙ s.failures;
}

pub write_pair : {X Y A : Type 0} (first : Format X) (second : Format Y) (a b c : SinkState) (x : X) (y : Y) (r : Result A SerializationError)
    → PutsSpelling first a b x → Writes second y b c r → Writes (first ⊗ second) (x, y) a c r
write_pair first second a b c x y (Ok u) s t = record {
  has = (s.has, t.has);
  puts = Puts-trans a b c (first.spelling x) (second.spelling y) s.puts t.puts;
}
write_pair first second a b c x y (Err e) s t = stops_after a b c (first.spelling x) (second.spelling y) e s.puts t

-- ---- lists

module _ {X : Type 0} (item : Format X) where
  items-append : (xs ys : List X) → items item (xs ++ ys) ≡ items item xs ++ items item ys
  items-append [] ys = refl
  items-append (x ∷ xs) ys = ap (λ l. item.spelling x ++ l) (items-append xs ys) ∙ sym (append_assoc (item.spelling x) (items item xs) (items item ys))

  pub HaveSpellings-push : (xs : List X) (v : X) → HaveSpellings item xs → item.HasSpelling v → HaveSpellings item (xs ++ v ∷ [])
  HaveSpellings-push [] v h has = (has, tt)
  HaveSpellings-push (x ∷ xs) v h has = (h.0, HaveSpellings-push xs v h.1 has)

  -- the length and these items were written
  pub record PutsItems (a b : SinkState) (count : ℕ) (xs : List X) : Type 0 where
    pub have : HaveSpellings item xs
    pub puts : Puts a b (word.spelling count ++ items item xs)

  pub stops_at_item : (a b c : SinkState) (all front rest : List X) (v : X) (e : SerializationError) → all ≡ front ++ (v ∷ rest) → PutsItems a b (length all) front → Stops (item.spelling v) b c e
      → Stops ((list item).spelling all) a c e
  stops_at_item a b c all front rest v e is p s =
      let w = word.spelling (length all) in
      let same : (w ++ items item front) ++ (item.spelling v ++ items item rest) ≡ w ++ items item all =
      append_assoc w (items item front) (item.spelling v ++ items item rest) ∙ ap (λ l. w ++ l) (sym (items-append front (v ∷ rest)) ∙ ap (items item) (sym is)) in
      subst (λ l. Stops l a c e) same
      (stops_after a b c (w ++ items item front) (item.spelling v ++ items item rest) e p.puts (stops_before b c (item.spelling v) (items item rest) e s))

-- ---- sizes

module _ {X : Type 0} (item : Format X) where
  pub length_items : (all front rest : List X) (v : X) → all ≡ front ++ (v ∷ rest) → length (items item all) ≡ length (items item front) + (length (item.spelling v) + length (items item rest))
  length_items all front rest v e =
      ap (λ l. length (items item l)) e ∙ ap length (items-append item front (v ∷ rest)) ∙ length-append (items item front) (item.spelling v ++ items item rest)
      ∙ ap (λ n. length (items item front) + n) (length-append (item.spelling v) (items item rest))

-- ---- values spelled as their fields, and one of two

pub write_fields : {X Y A : Type 0} (layout : Format X) (fields : Y → X) (IsLawful : Y → Type 0) (a b : SinkState) (y : Y) (r : Result A SerializationError)
    → IsLawful y → Writes layout (fields y) a b r → Writes (lawful layout fields IsLawful) y a b r
write_fields layout fields IsLawful a b y (Ok u) h p = record { has = (p.has, h); puts = p.puts }
write_fields layout fields IsLawful a b y (Err e) h s = s

module _ {X Y A : Type 0} (first : Format X) (second : Format Y) (a b c : SinkState) where
  pub write_left : (x : X) (r : Result A SerializationError) → PutsSpelling (number 1) a b 0 → Writes first x b c r → Writes (either first second) (inl x) a c r
  write_left x (Ok u) s t = record { has = t.has; puts = Puts-trans a b c (0 ∷ []) (first.spelling x) s.puts t.puts }
  write_left x (Err e) s t = stops_after a b c (0 ∷ []) (first.spelling x) e s.puts t

  pub write_right : (y : Y) (r : Result A SerializationError) → PutsSpelling (number 1) a b 1 → Writes second y b c r → Writes (either first second) (inr y) a c r
  write_right y (Ok u) s t = record { has = t.has; puts = Puts-trans a b c (1 ∷ []) (second.spelling y) s.puts t.puts }
  write_right y (Err e) s t = stops_after a b c (1 ∷ []) (second.spelling y) e s.puts t
