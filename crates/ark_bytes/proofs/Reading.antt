-- What several reads take together.
use Rattle.std.proofs.Common.{◌≡◌, ℕ, ◌^◌, ◌<◌, List, [], ◌∷◌, ◌++◌, length, Result, Ok, Err, inl, inr, refl, sym, ap, ◌∙◌, append_assoc, arith, subst}
use Rattle.std.specs.Io.KnownBytes.{Consumes}
use Rattle.std.proofs.KnownBytes.{Consumes-nil, Consumes-trans}
use Rattle.ark_math_formats.specs.Format.{Format, IsFormat, IsOneToOne, ◌⊗◌, number, little_endian, word, items, HaveSpellings, list, lawful, stored, either}
use Rattle.ark_math_formats.proofs.Formats.Ends.{spelled}
use Rattle.ark_bytes.proofs.Unfinished.{unfinished_fields, unfinished_number, unfinished_length, unfinished_item, unfinished_first, unfinished_second, unfinished_tag, unfinished_left, unfinished_right}
use Rattle.ark_bytes.specs.declared.error.SerializationError.{SerializationError}
use Rattle.ark_bytes.specs.declared.error.SerializationError.TheVariants.{IoError, InvalidData, Memory}
use Rattle.ark_bytes.specs.Reading.{SourceState, Takes, TakesFault, TakesSpelling, HasStopped, Refuses, ReadsAs, Reads, Fills}

pub Takes-nil : (a : SourceState) → Takes a a []
Takes-nil a = record { consumes = Consumes-nil a.remaining; failures = refl }

pub Takes-trans : (a b c : SourceState) (x y : List ℕ) → Takes a b x → Takes b c y → Takes a c (x ++ y)
Takes-trans a b c x y p q = record {
  consumes = Consumes-trans a.remaining b.remaining c.remaining x y p.consumes q.consumes;
  failures = q.failures ∙ p.failures;
}

pub stopped_later : (a b c : SourceState) → b.failures ≡ a.failures → HasStopped b c → HasStopped a c
stopped_later a b c e (inl more) = inl (omega (arith, e, more))
stopped_later a b c e (inr end) = inr end

-- where a reader takes memory for what a part of it does
pub refused_weaker : {X : Type 0} (format : Format X) (M N : Type 0) → (M → N) → (a b : SourceState) (e : SerializationError) → Refuses format M a b e → Refuses format N a b e
refused_weaker format M N takes a b IoError r = r
refused_weaker format M N takes a b InvalidData r = r
refused_weaker format M N takes a b Memory r = takes r

-- ---- values

module _ {X Y : Type 0} (first : Format X) (second : Format Y) (A : IsFormat first) where
  pub refused_first : (M : Type 0) (a b : SourceState) (e : SerializationError) → Refuses first M a b e → Refuses (first ⊗ second) M a b e
  refused_first M a b IoError r = record {
    taken = r.taken;
    consumes = r.consumes;
    unfinished = unfinished_first first second A r.taken r.unfinished;
    stopped = r.stopped;
  }
  refused_first M a b InvalidData r = record { taken = r.taken; takes = r.takes; fault = inl r.fault }
  refused_first M a b Memory r = r

  pub refused_second : (M : Type 0) (a b c : SourceState) (x : X) (e : SerializationError) → TakesSpelling first a b x → Refuses second M b c e → Refuses (first ⊗ second) M a c e
  refused_second M a b c x IoError t r = record {
    taken = first.spelling x ++ r.taken;
    consumes = Consumes-trans a.remaining b.remaining c.remaining (first.spelling x) r.taken t.takes.consumes r.consumes;
    unfinished = unfinished_second first second A (first.spelling x) r.taken (spelled first x t.has) r.unfinished;
    stopped = stopped_later a b c t.takes.failures r.stopped;
  }
  refused_second M a b c x InvalidData t r = record {
    taken = first.spelling x ++ r.taken;
    takes = Takes-trans a b c (first.spelling x) r.taken t.takes r.takes;
    fault = inr (record { value = x; has = t.has; fault = r.taken; faulty = r.fault; is = refl });
  }
  refused_second M a b c x Memory t r = r

  pub read_pair : (a b c : SourceState) (x : X) (y : Y) → TakesSpelling first a b x → TakesSpelling second b c y → TakesSpelling (first ⊗ second) a c (x, y)
  read_pair a b c x y s t = record { has = (s.has, t.has); takes = Takes-trans a b c (first.spelling x) (second.spelling y) s.takes t.takes }

-- ---- numbers

pub read_bytes : (a b : SourceState) (width n : ℕ) (bytes read : List ℕ) → read ≡ bytes → length bytes ≡ width → little_endian (length read) n ≡ read → n < 256 ^ length read
    → Takes a b bytes → TakesSpelling (number width) a b n
read_bytes a b width n bytes read same size spelled_so below t =
    let long = ap length same ∙ size in
    record {
      has = subst (λ k. n < 256 ^ k) long below;
      takes = subst (Takes a b) (sym same ∙ sym spelled_so ∙ ap (λ k. little_endian k n) long) t;
    }

pub refused_number : (a b : SourceState) (width : ℕ) (bytes : List ℕ) (e : SerializationError) → length bytes ≡ width → Fills {A = Unit {0}} bytes a b (Err e) → Refuses (number width) ⊥ a b e
refused_number a b width bytes IoError size f = record {
  taken = f.taken;
  consumes = f.consumes;
  unfinished = unfinished_number width f.taken (omega (arith, f.fewer, size));
  stopped = f.stopped;
}
refused_number a b width bytes InvalidData size f = absurd f
refused_number a b width bytes Memory size f = f

pub same_number : (a b : SourceState) (width m n : ℕ) → m ≡ n → TakesSpelling (number width) a b m → TakesSpelling (number width) a b n
same_number a b width m n e t = subst (TakesSpelling (number width) a b) e t

-- ---- lists

module _ {X : Type 0} (item : Format X) (I : IsFormat item) where
  -- the length and these items were taken, of so many
  pub record TakesItems (a b : SourceState) (count : ℕ) (xs : List X) : Type 0 where
    pub counts : count < 256 ^ 8
    pub have : HaveSpellings item xs
    pub takes : Takes a b (word.spelling count ++ items item xs)

  pub refused_length : (M : Type 0) (a b : SourceState) (e : SerializationError) → Refuses word ⊥ a b e → Refuses (list item) M a b e
  refused_length M a b IoError r = record {
    taken = r.taken;
    consumes = r.consumes;
    unfinished = unfinished_length item I r.taken r.unfinished;
    stopped = r.stopped;
  }
  refused_length M a b InvalidData r = absurd r.fault
  refused_length M a b Memory r = absurd r

  pub refused_item : (M : Type 0) (a b c : SourceState) (count : ℕ) (xs : List X) (e : SerializationError) → length xs < count → TakesItems a b count xs → Refuses item M b c e → Refuses (list item) (Unit {0}) a c e
  refused_item M a b c count xs IoError few p r =
      let w = word.spelling count in
      record {
        taken = w ++ (items item xs ++ r.taken);
        consumes = subst (Consumes a.remaining c.remaining) (append_assoc w (items item xs) r.taken)
            (Consumes-trans a.remaining b.remaining c.remaining (w ++ items item xs) r.taken p.takes.consumes r.consumes);
        unfinished = unfinished_item item I count xs r.taken p.counts p.have few r.unfinished;
        stopped = stopped_later a b c p.takes.failures r.stopped;
      }
  refused_item M a b c count xs InvalidData few p r =
      let w = word.spelling count in
      record {
        taken = w ++ (items item xs ++ r.taken);
        takes = subst (Takes a c) (append_assoc w (items item xs) r.taken) (Takes-trans a b c (w ++ items item xs) r.taken p.takes r.takes);
        fault = record { count = count; counts = p.counts; front = xs; have = p.have; fewer = few; fault = r.taken; faulty = r.fault; is = refl };
      }
  refused_item M a b c count xs Memory few p r = tt

-- ---- values spelled as their fields

module _ {X Y : Type 0} (layout : Format X) (fields : Y → X) (IsLawful : Y → Type 0) where
  pub refused_fields : (M : Type 0) (a b : SourceState) (e : SerializationError) → Refuses layout M a b e → Refuses (lawful layout fields IsLawful) M a b e
  refused_fields M a b IoError r = record {
    taken = r.taken;
    consumes = r.consumes;
    unfinished = unfinished_fields layout fields IsLawful r.taken r.unfinished;
    stopped = r.stopped;
  }
  refused_fields M a b InvalidData r = record { taken = r.taken; takes = r.takes; fault = inl r.fault }
  refused_fields M a b Memory r = r

  pub read_fields : (a b : SourceState) (x : X) (y : Y) → x ≡ fields y → IsLawful y → TakesSpelling layout a b x → TakesSpelling (lawful layout fields IsLawful) a b y
  read_fields a b x y e h t = record { has = (subst layout.HasSpelling e t.has, h); takes = subst (λ v. Takes a b (layout.spelling v)) e t.takes }

  -- whole fields that no lawful value has
  pub unlawful : (a b : SourceState) (x : X) → ((y : Y) → layout.HasSpelling (fields y) → IsLawful y → layout.spelling x ≡ layout.spelling (fields y) → ⊥) → TakesSpelling layout a b x
      → TakesFault (lawful layout fields IsLawful) a b
  unlawful a b x none t = record {
    taken = layout.spelling x;
    takes = t.takes;
    fault = inr (record { whole = spelled layout x t.has; none = none });
  }

-- a value of a type of lawful values alone, whose fields were read
pub reads_fields : {X Y : Type 0} (layout : Format X) (fields : Y → X) (M : Type 0) (a b : SourceState) (r : Result Y SerializationError) → ReadsAs fields layout M a b r → Reads (stored layout fields) M a b r
reads_fields layout fields M a b (Ok y) t = read_fields layout fields (λ _. Unit {0}) a b (fields y) y refl tt t
reads_fields layout fields M a b (Err e) t = refused_fields layout fields (λ _. Unit {0}) M a b e t

-- a value that is none of the lawful ones, where a spelling tells its value
pub unlawful_value : {X : Type 0} (layout : Format X) (IsLawful : X → Type 0) → IsOneToOne layout → (a b : SourceState) (x : X) → (IsLawful x → ⊥) → TakesSpelling layout a b x
    → TakesFault (lawful layout (λ (y : X). y) IsLawful) a b
unlawful_value {X = X} layout IsLawful one a b x none t =
    unlawful layout (λ (y : X). y) IsLawful a b x (λ y has is same. none (subst IsLawful (sym (one x y t.has has same)) is)) t

-- ---- one of two

module _ {X Y : Type 0} (first : Format X) (second : Format Y) where
  pub refused_tag : (M : Type 0) (a b : SourceState) (e : SerializationError) → Refuses (number 1) ⊥ a b e → Refuses (either first second) M a b e
  refused_tag M a b IoError r = record {
    taken = r.taken;
    consumes = r.consumes;
    unfinished = unfinished_tag first second r.taken r.unfinished;
    stopped = r.stopped;
  }
  refused_tag M a b InvalidData r = absurd r.fault
  refused_tag M a b Memory r = absurd r

  pub refused_left : (M : Type 0) (a b c : SourceState) (e : SerializationError) → TakesSpelling (number 1) a b 0 → Refuses first M b c e → Refuses (either first second) M a c e
  refused_left M a b c IoError t r = record {
    taken = 0 ∷ r.taken;
    consumes = Consumes-trans a.remaining b.remaining c.remaining (0 ∷ []) r.taken t.takes.consumes r.consumes;
    unfinished = unfinished_left first second r.taken r.unfinished;
    stopped = stopped_later a b c t.takes.failures r.stopped;
  }
  refused_left M a b c InvalidData t r = record {
    taken = 0 ∷ r.taken;
    takes = Takes-trans a b c (0 ∷ []) r.taken t.takes r.takes;
    fault = inl (refl, r.fault);
  }
  refused_left M a b c Memory t r = r

  pub refused_right : (M : Type 0) (a b c : SourceState) (e : SerializationError) → TakesSpelling (number 1) a b 1 → Refuses second M b c e → Refuses (either first second) M a c e
  refused_right M a b c IoError t r = record {
    taken = 1 ∷ r.taken;
    consumes = Consumes-trans a.remaining b.remaining c.remaining (1 ∷ []) r.taken t.takes.consumes r.consumes;
    unfinished = unfinished_right first second r.taken r.unfinished;
    stopped = stopped_later a b c t.takes.failures r.stopped;
  }
  refused_right M a b c InvalidData t r = record {
    taken = 1 ∷ r.taken;
    takes = Takes-trans a b c (1 ∷ []) r.taken t.takes r.takes;
    fault = inr (inl (refl, r.fault));
  }
  refused_right M a b c Memory t r = r
