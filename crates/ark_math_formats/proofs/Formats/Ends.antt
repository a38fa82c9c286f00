-- Each way to make a format makes one at whose ends reading stops once.
use Rattle.std.proofs.Common.{◌≡◌, ℕ, suc, zero, ◌/◌, ◌%◌, ◌^◌, ◌<◌, List, [], ◌∷◌, ◌++◌, length, ◌⊎◌, inl, inr, refl, sym, ap, ◌∙◌, append_assoc, append-nil, arith, subst}
use Rattle.std.proofs.lemmas.List.{append_cancel_left}
use Rattle.std.proofs.Math.Nat.{pow-zero, pow-succ'}
use Rattle.ark_math_formats.specs.Format.{Format, IsSpelled, IsEnd, IsFormat, little_endian, number, word, ◌⊗◌, items, HaveSpellings, IsItemFault, list, lawful, either, either_spelling, EitherHas, IsTagFault}

-- two lists of one length that begin one list are one
same_front : (a b x y : List ℕ) → length a ≡ length b → a ++ x ≡ b ++ y → a ≡ b
same_front [] [] x y l e = refl
same_front [] (b ∷ bs) x y l e = absurd (omega (arith, l))
same_front (a ∷ more) [] x y l e = absurd (omega (arith, l))
same_front (a ∷ more) (b ∷ bs) x y l e =
    let tails : more ++ x ≡ bs ++ y = cc in
    let same = same_front more bs x y (omega (arith, l)) tails in
    cc

pub length-little_endian : (width n : ℕ) → length (little_endian width n) ≡ width
length-little_endian zero n = refl
length-little_endian (suc width) n = ap suc (length-little_endian width (n / 256))

pub spelled : {X : Type 0} (format : Format X) (value : X) → format.HasSpelling value → IsSpelled format (format.spelling value)
spelled format value has = record { value = value; has = has; is = refl }

-- the same, with what follows on each side regrouped
regrouped : (h t x k u y : List ℕ) → (h ++ t) ++ x ≡ (k ++ u) ++ y → h ++ (t ++ x) ≡ k ++ (u ++ y)
regrouped h t x k u y e = sym (append_assoc h t x) ∙ e ∙ append_assoc k u y

-- ---- what the laws of a format give

module _ {X : Type 0} (format : Format X) (F : IsFormat format) where
  -- a fault begins no spelling, and a spelling no fault
  pub fault_not_front : (f s x y : List ℕ) → format.IsFault f → IsSpelled format s → f ++ x ≡ s ++ y → ⊥
  fault_not_front f s x y fault spell e =
      F.no_fault f (subst (IsSpelled format) (sym (F.one_end f s x y (inr fault) (inl spell) e)) spell) fault

-- ---- numbers

number_ends : (width : ℕ) (a b x y : List ℕ) → IsEnd (number width) a → IsEnd (number width) b → a ++ x ≡ b ++ y → a ≡ b
number_ends width a b x y (inl s) (inl t) e =
    same_front a b x y (ap length s.is ∙ length-little_endian width s.value ∙ sym (ap length t.is ∙ length-little_endian width t.value)) e
number_ends width a b x y (inl s) (inr f) e = absurd f
number_ends width a b x y (inr f) eb e = absurd f

pub number_is_format : (width : ℕ) → IsFormat (number width)
number_is_format width = record { one_end = number_ends width; no_fault = λ bytes s f. f }

pub one_number : (width m n : ℕ) → m < 256 ^ width → n < 256 ^ width → little_endian width m ≡ little_endian width n → m ≡ n
one_number zero m n p q e = omega (arith, pow-zero 256)
one_number (suc width) m n p q e =
    let low : m % 256 ≡ n % 256 = cc in
    let tails : little_endian width (m / 256) ≡ little_endian width (n / 256) = cc in
    let power = pow-succ' 256 width in
    let high = one_number width (m / 256) (n / 256) (omega (arith, power)) (omega (arith, power)) tails in
    omega (arith, low, high)

-- ---- pairs

module _ {X Y : Type 0} (first : Format X) (second : Format Y) where
  -- an end of a pair that is no fault of its first
  pub record IsPast (bytes : List ℕ) : Type 0 where
    pub front : List ℕ
    pub rest : List ℕ
    pub whole : IsSpelled first front
    pub end : IsEnd second rest
    pub is : bytes ≡ front ++ rest

  pub past : (bytes : List ℕ) → IsEnd (first ⊗ second) bytes → first.IsFault bytes ⊎ IsPast bytes
  past bytes (inl s) = inr (record {
    front = first.spelling s.value.0;
    rest = second.spelling s.value.1;
    whole = spelled first s.value.0 s.has.0;
    end = inl (spelled second s.value.1 s.has.1);
    is = s.is;
  })
  past bytes (inr (inl f)) = inl f
  past bytes (inr (inr l)) = inr (record {
    front = first.spelling l.value;
    rest = l.fault;
    whole = spelled first l.value l.has;
    end = inr l.faulty;
    is = l.is;
  })

  module _ (A : IsFormat first) (B : IsFormat second) where
    past_ends : (a b x y : List ℕ) → first.IsFault a ⊎ IsPast a → first.IsFault b ⊎ IsPast b → a ++ x ≡ b ++ y → a ≡ b
    past_ends a b x y (inl f) (inl g) e = A.one_end a b x y (inr f) (inr g) e
    past_ends a b x y (inl f) (inr q) e =
        absurd (fault_not_front first A a q.front x (q.rest ++ y) f q.whole (e ∙ ap (λ l. l ++ y) q.is ∙ append_assoc q.front q.rest y))
    past_ends a b x y (inr p) (inl g) e =
        absurd (fault_not_front first A b p.front y (p.rest ++ x) g p.whole (sym e ∙ ap (λ l. l ++ x) p.is ∙ append_assoc p.front p.rest x))
    past_ends a b x y (inr p) (inr q) e =
        let joined = regrouped p.front p.rest x q.front q.rest y (sym (ap (λ l. l ++ x) p.is) ∙ e ∙ ap (λ l. l ++ y) q.is) in
        let fronts = A.one_end p.front q.front (p.rest ++ x) (q.rest ++ y) (inl p.whole) (inl q.whole) joined in
        let rests = append_cancel_left p.front (p.rest ++ x) (q.rest ++ y) (joined ∙ ap (λ l. l ++ (q.rest ++ y)) (sym fronts)) in
        let ends = B.one_end p.rest q.rest x y p.end q.end rests in
        p.is ∙ ap (λ l. l ++ p.rest) fronts ∙ ap (λ l. q.front ++ l) ends ∙ sym q.is

    whole_no_fault : (bytes : List ℕ) → IsSpelled (first ⊗ second) bytes → (first ⊗ second).IsFault bytes → ⊥
    whole_no_fault bytes s (inl f) =
        let a = first.spelling s.value.0 in
        fault_not_front first A bytes a [] (second.spelling s.value.1) f (spelled first s.value.0 s.has.0) (append-nil bytes ∙ s.is)
    whole_no_fault bytes s (inr l) =
        let a = first.spelling s.value.0 in
        let b = second.spelling s.value.1 in
        let joined : a ++ b ≡ first.spelling l.value ++ l.fault = sym s.is ∙ l.is in
        let fronts = A.one_end a (first.spelling l.value) b l.fault (inl (spelled first s.value.0 s.has.0)) (inl (spelled first l.value l.has)) joined in
        let rests = append_cancel_left a b l.fault (joined ∙ ap (λ k. k ++ l.fault) (sym fronts)) in
        B.no_fault b (spelled second s.value.1 s.has.1) (subst second.IsFault (sym rests) l.faulty)

    pub pair_is_format : IsFormat (first ⊗ second)
    pair_is_format = record {
      one_end = λ a b x y p q e. past_ends a b x y (past a p) (past b q) e;
      no_fault = whole_no_fault;
    }

-- ---- lists

module _ {X : Type 0} (item : Format X) where
  -- after these items of so many: all of them, or a fault
  pub data Stops (count : ℕ) (front : List X) (rest : List ℕ) : Type 0 where
    all : length front ≡ count → rest ≡ [] → Stops count front rest
    at_fault : length front < count → item.IsFault rest → Stops count front rest

  pub less : (count : ℕ) (x : X) (xs : List X) (rest : List ℕ) → Stops (suc count) (x ∷ xs) rest → Stops count xs rest
  less count x xs rest (all l e) = all (omega (arith, l)) e
  less count x xs rest (at_fault l f) = at_fault (omega (arith, l)) f

  pub positive : (count : ℕ) (x : X) (xs : List X) (rest : List ℕ) → Stops count (x ∷ xs) rest → 0 < count
  positive count x xs rest (all l e) = omega (arith, l)
  positive count x xs rest (at_fault l f) = omega (arith, l)

  module _ (I : IsFormat item) where
    no_items : (count : ℕ) (a b x y : List ℕ) → Stops count [] a → Stops count [] b → a ++ x ≡ b ++ y → a ≡ b
    no_items count a b x y (all l e) (all m f) h = e ∙ sym f
    no_items count a b x y (all l e) (at_fault m f) h = absurd (omega (arith, l, m))
    no_items count a b x y (at_fault l f) (all m e) h = absurd (omega (arith, l, m))
    no_items count a b x y (at_fault l f) (at_fault m g) h = I.one_end a b x y (inr f) (inr g) h

    -- a list of items doesn't end where another one goes on
    more_items : (count : ℕ) (a x : List ℕ) (v : X) (vs : List X) (b : List ℕ) → Stops count [] a → 0 < count → item.HasSpelling v → a ++ x ≡ item.spelling v ++ b → ⊥
    more_items count a x v vs b (all l e) positive has h = omega (arith, l, positive)
    more_items count a x v vs b (at_fault l f) positive has h = fault_not_front item I a (item.spelling v) x b f (spelled item v has) h

    pub runs : (count : ℕ) (us vs : List X) (a b x y : List ℕ) → HaveSpellings item us → HaveSpellings item vs → Stops count us a → Stops count vs b
        → items item us ++ (a ++ x) ≡ items item vs ++ (b ++ y) → (items item us ++ a ≡ items item vs ++ b) × (length us ≡ length vs)
    runs count [] [] a b x y hu hv p q e = (no_items count a b x y p q e, refl)
    runs count [] (v ∷ vs) a b x y hu hv p q e =
        absurd (more_items count a x v vs _ p (positive count v vs b q) hv.0 (e ∙ append_assoc (item.spelling v) (items item vs) (b ++ y)))
    runs count (u ∷ us) [] a b x y hu hv p q e =
        absurd (more_items count b y u us _ q (positive count u us a p) hu.0 (sym e ∙ append_assoc (item.spelling u) (items item us) (a ++ x)))
    runs zero (u ∷ us) (v ∷ vs) a b x y hu hv p q e = absurd (omega (arith, positive zero u us a p))
    runs (suc count) (u ∷ us) (v ∷ vs) a b x y hu hv p q e =
        let s = item.spelling u in
        let t = item.spelling v in
        let joined = sym (append_assoc s (items item us) (a ++ x)) ∙ e ∙ append_assoc t (items item vs) (b ++ y) in
        let fronts = I.one_end s t _ _ (inl (spelled item u hu.0)) (inl (spelled item v hv.0)) joined in
        let rests = append_cancel_left s _ _ (joined ∙ ap (λ l. l ++ (items item vs ++ (b ++ y))) (sym fronts)) in
        let (same, lengths) = runs count us vs a b x y hu.1 hv.1 (less count u us a p) (less count v vs b q) rests in
        (append_assoc s (items item us) a ∙ ap (λ l. s ++ l) same ∙ ap (λ l. l ++ (items item vs ++ b)) fronts ∙ sym (append_assoc t (items item vs) b), ap suc lengths)

    -- a spelling or a fault of a list, after its length
    pub record IsRun (bytes : List ℕ) : Type 0 where
      pub count : ℕ
      pub counts : word.HasSpelling count
      pub front : List X
      pub have : HaveSpellings item front
      pub rest : List ℕ
      pub stops : Stops count front rest
      pub is : bytes ≡ word.spelling count ++ (items item front ++ rest)

    abbrev run_of_spelled : (bytes : List ℕ) → IsSpelled (list item) bytes → IsRun bytes
    run_of_spelled bytes s = record {
      count = length s.value;
      counts = s.has.0;
      front = s.value;
      have = s.has.1;
      rest = [];
      stops = all refl refl;
      is = s.is ∙ ap (λ l. word.spelling (length s.value) ++ l) (sym (append-nil (items item s.value)));
    }

    abbrev run_of_fault : (bytes : List ℕ) → IsItemFault item bytes → IsRun bytes
    run_of_fault bytes f = record {
      count = f.count;
      counts = f.counts;
      front = f.front;
      have = f.have;
      rest = f.fault;
      stops = at_fault f.fewer f.faulty;
      is = f.is;
    }

    pub run : (bytes : List ℕ) → IsEnd (list item) bytes → IsRun bytes
    run bytes (inl s) = run_of_spelled bytes s
    run bytes (inr f) = run_of_fault bytes f

    -- two runs that begin one list are one, with as many items
    run_ends : (a b x y : List ℕ) (p : IsRun a) (q : IsRun b) → a ++ x ≡ b ++ y → (a ≡ b) × (length p.front ≡ length q.front) × (p.count ≡ q.count)
    run_ends a b x y p q e =
        let s = word.spelling p.count in
        let t = word.spelling q.count in
        let u = items item p.front ++ p.rest in
        let v = items item q.front ++ q.rest in
        let joined : s ++ (u ++ x) ≡ t ++ (v ++ y) = sym (append_assoc s u x) ∙ sym (ap (λ l. l ++ x) p.is) ∙ e ∙ ap (λ l. l ++ y) q.is ∙ append_assoc t v y in
        let words = number_ends 8 s t (u ++ x) (v ++ y) (inl (spelled word p.count p.counts)) (inl (spelled word q.count q.counts)) joined in
        let counts = one_number 8 p.count q.count p.counts q.counts words in
        let rests = append_cancel_left s (u ++ x) (v ++ y) (joined ∙ ap (λ l. l ++ (v ++ y)) (sym words)) in
        let regroup = sym (append_assoc (items item p.front) p.rest x) ∙ rests ∙ append_assoc (items item q.front) q.rest y in
        let (same, lengths) = runs p.count p.front q.front p.rest q.rest x y p.have q.have p.stops (subst (λ n. Stops n q.front q.rest) (sym counts) q.stops) regroup in
        (p.is ∙ ap (λ l. s ++ l) same ∙ ap (λ l. l ++ v) words ∙ sym q.is, lengths, counts)

    list_ends : (a b x y : List ℕ) → IsEnd (list item) a → IsEnd (list item) b → a ++ x ≡ b ++ y → a ≡ b
    list_ends a b x y p q e = (run_ends a b x y (run a p) (run b q) e).0

    list_no_fault : (bytes : List ℕ) → IsSpelled (list item) bytes → IsItemFault item bytes → ⊥
    list_no_fault bytes s f =
        let (same, lengths, counts) = run_ends bytes bytes [] [] (run_of_spelled bytes s) (run_of_fault bytes f) refl in
        omega (arith, lengths, counts, f.fewer)

    pub list_is_format : IsFormat (list item)
    list_is_format = record { one_end = list_ends; no_fault = list_no_fault }

-- ---- lawful values of fields

module _ {X Y : Type 0} (layout : Format X) (fields : Y → X) (IsLawful : Y → Type 0) where
  lawful_spelled : (bytes : List ℕ) → IsSpelled (lawful layout fields IsLawful) bytes → IsSpelled layout bytes
  lawful_spelled bytes s = record { value = fields s.value; has = s.has.0; is = s.is }

  pub lawful_end : (bytes : List ℕ) → IsEnd (lawful layout fields IsLawful) bytes → IsEnd layout bytes
  lawful_end bytes (inl s) = inl (lawful_spelled bytes s)
  lawful_end bytes (inr (inl f)) = inr f
  lawful_end bytes (inr (inr u)) = inl u.whole

  module _ (L : IsFormat layout) where
    lawful_no_fault : (bytes : List ℕ) → IsSpelled (lawful layout fields IsLawful) bytes → (lawful layout fields IsLawful).IsFault bytes → ⊥
    lawful_no_fault bytes s (inl f) = L.no_fault bytes (lawful_spelled bytes s) f
    lawful_no_fault bytes s (inr u) = u.none s.value s.has.0 s.has.1 s.is

    pub lawful_is_format : IsFormat (lawful layout fields IsLawful)
    lawful_is_format = record {
      one_end = λ a b x y p q e. L.one_end a b x y (lawful_end a p) (lawful_end b q) e;
      no_fault = lawful_no_fault;
    }

-- ---- one of two, with a tag

module _ {X Y : Type 0} (first : Format X) (second : Format Y) where
  -- an end by its tag
  pub data TagEnd : List ℕ → Type 0 where
    of_first : (bytes : List ℕ) → IsEnd first bytes → TagEnd (0 ∷ bytes)
    of_second : (bytes : List ℕ) → IsEnd second bytes → TagEnd (1 ∷ bytes)
    of_neither : (tag : ℕ) → 1 < tag → tag < 256 → TagEnd (tag ∷ [])

  module _ (A : IsFormat first) (B : IsFormat second) where
    tag_ends : (a b x y : List ℕ) → TagEnd a → TagEnd b → a ++ x ≡ b ++ y → a ≡ b
    tag_ends _ _ x y (of_first a p) (of_first b q) e = let tails : a ++ x ≡ b ++ y = cc in ap (λ l. 0 ∷ l) (A.one_end a b x y p q tails)
    tag_ends _ _ x y (of_first a p) (of_second b q) e = cc
    tag_ends _ _ x y (of_first a p) (of_neither t h k) e = let heads : 0 ≡ t = cc in absurd (omega (arith, heads, h))
    tag_ends _ _ x y (of_second a p) (of_first b q) e = cc
    tag_ends _ _ x y (of_second a p) (of_second b q) e = let tails : a ++ x ≡ b ++ y = cc in ap (λ l. 1 ∷ l) (B.one_end a b x y p q tails)
    tag_ends _ _ x y (of_second a p) (of_neither t h k) e = let heads : 1 ≡ t = cc in absurd (omega (arith, heads, h))
    tag_ends _ _ x y (of_neither t h k) (of_first b q) e = let heads : t ≡ 0 = cc in absurd (omega (arith, heads, h))
    tag_ends _ _ x y (of_neither t h k) (of_second b q) e = let heads : t ≡ 1 = cc in absurd (omega (arith, heads, h))
    tag_ends _ _ x y (of_neither t h k) (of_neither s g j) e = let heads : t ≡ s = cc in ap (λ n. n ∷ []) heads

  tagged_value : (v : X ⊎ Y) (bytes : List ℕ) → EitherHas first second v → bytes ≡ either_spelling first second v → TagEnd bytes
  tagged_value (inl x) bytes has e = subst TagEnd (sym e) (of_first (first.spelling x) (inl (spelled first x has)))
  tagged_value (inr y) bytes has e = subst TagEnd (sym e) (of_second (second.spelling y) (inl (spelled second y has)))

  tagged_fault : (bytes : List ℕ) → IsTagFault first second bytes → TagEnd bytes
  tagged_fault [] f = absurd f
  tagged_fault (tag ∷ bytes) (inl f) = subst (λ n. TagEnd (n ∷ bytes)) (sym f.0) (of_first bytes (inr f.1))
  tagged_fault (tag ∷ bytes) (inr (inl f)) = subst (λ n. TagEnd (n ∷ bytes)) (sym f.0) (of_second bytes (inr f.1))
  tagged_fault (tag ∷ bytes) (inr (inr f)) = subst (λ l. TagEnd (tag ∷ l)) (sym f.2) (of_neither tag f.0 f.1)

  pub tagged : (bytes : List ℕ) → IsEnd (either first second) bytes → TagEnd bytes
  tagged bytes (inl s) = tagged_value s.value bytes s.has s.is
  tagged bytes (inr f) = tagged_fault bytes f

  module _ (A : IsFormat first) (B : IsFormat second) where
    tagged_no_fault : (v : X ⊎ Y) (bytes : List ℕ) → EitherHas first second v → bytes ≡ either_spelling first second v → IsTagFault first second bytes → ⊥
    tagged_no_fault v [] has e f = f
    tagged_no_fault (inl x) (tag ∷ bytes) has e (inl f) = let tails : bytes ≡ first.spelling x = cc in A.no_fault bytes (record { value = x; has = has; is = tails }) f.1
    tagged_no_fault (inl x) (tag ∷ bytes) has e (inr (inl f)) = let heads : tag ≡ 0 = cc in omega (arith, heads, f.0)
    tagged_no_fault (inl x) (tag ∷ bytes) has e (inr (inr f)) = let heads : tag ≡ 0 = cc in omega (arith, heads, f.0)
    tagged_no_fault (inr y) (tag ∷ bytes) has e (inl f) = let heads : tag ≡ 1 = cc in omega (arith, heads, f.0)
    tagged_no_fault (inr y) (tag ∷ bytes) has e (inr (inl f)) = let tails : bytes ≡ second.spelling y = cc in B.no_fault bytes (record { value = y; has = has; is = tails }) f.1
    tagged_no_fault (inr y) (tag ∷ bytes) has e (inr (inr f)) = let heads : tag ≡ 1 = cc in omega (arith, heads, f.0)

    pub either_is_format : IsFormat (either first second)
    either_is_format = record {
      one_end = λ a b x y p q e. tag_ends A B a b x y (tagged a p) (tagged b q) e;
      no_fault = λ bytes s f. tagged_no_fault s.value bytes s.has s.is f;
    }
