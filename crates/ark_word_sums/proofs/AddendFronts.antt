-- Addends that are read from the front of words, one after another.
use Rattle.std.proofs.Common.{◌≡◌, ◌≢◌, ◌↔◌, ◌<◌, ◌==◌, ℕ, Bool, true, false, true≢false, List, [], ◌∷◌, ◌++◌, All, length, length-append, max, refl, sym, ap, ap₂, subst, ◌∙◌, arith}
use Rattle.std.specs.List.{AllByRecursion}
use Rattle.std.proofs.lemmas.Bool.{eq-eqb, eqb-true}
use Rattle.std.proofs.lemmas.List.{append-nil, append_assoc, map-append}
use Rattle.ark_math.specs.Words.{number_of_words}
use Rattle.ark_numbers.specs.Fields.{Known}
use Rattle.ark_sum_check.specs.Cube.{Product, longest}
use Rattle.ark_sum_check.specs.declared.addend.Addend.{Addend}
use Rattle.ark_words.specs.Numbers.{Spelled, in_words}
use Rattle.ark_word_sums.specs.Read.{numbered}
use Rattle.ark_word_sums.specs.Sums.{AreAddends, AreCoefficients, AreOfTables}
use Rattle.ark_word_sums.proofs.AddendWords.{one_addend}
use Rattle.ark_word_sums.proofs.Spelling.{width_is}

-- an addend by its words
abbrev pub addend_by : List ℕ → List ℕ → Product ℕ
addend_by coefficient factors = record { coefficient = number_of_words coefficient; factors = factors }

-- words that begin with an addend's
pub record AreSplit (f : Spelled) (words coefficient factors next : List ℕ) : Type 0 where
  pub width : length coefficient ≡ f.width
  pub whole : words ≡ coefficient ++ length factors ∷ (factors ++ next)

-- no words do
abbrev pub HaveNone : Spelled → List ℕ → Type 0
HaveNone f words = (coefficient factors next : List ℕ) → length coefficient ≡ f.width → words ≢ coefficient ++ length factors ∷ (factors ++ next)

-- the addends that the words spell begin with these, and the others are those that the rest spells
pub record StandBefore (f : Spelled) (words : List ℕ) (ps : List (Product ℕ)) (rest : List ℕ) : Type 0 where
  pub together : (qs : List (Product ℕ)) → AreAddends f qs rest → AreAddends f (ps ++ qs) words
  pub apart : (qs : List (Product ℕ)) → AreAddends f qs words → (rs : List (Product ℕ)) × (qs ≡ ps ++ rs) × AreAddends f rs rest

-- ---- by the width that a program has

module _ (f : Spelled) (w : ℕ) (known : Known) (law : f ≡ in_words w known) (width : ℕ) (given : width ≡ w) (words : List ℕ) where
  pub split_given : (coefficient factors next : List ℕ) → length coefficient ≡ width → words ≡ coefficient ++ length factors ∷ (factors ++ next) → AreSplit f words coefficient factors next
  split_given coefficient factors next long is = record { width = long ∙ given ∙ sym (width_is f w known law); whole = is }

  pub none_given : ((coefficient factors next : List ℕ) → length coefficient ≡ width → words ≢ coefficient ++ length factors ∷ (factors ++ next)) → HaveNone f words
  none_given none coefficient factors next long = none coefficient factors next (long ∙ width_is f w known law ∙ sym given)

-- ---- whether words are left

pub some_left : (words : List ℕ) (none : Bool) → none ≡ (length words == 0) → none ≡ false → words ≢ []
some_left words none is some e = true≢false (sym (eq-eqb (length words) 0 (ap length e)) ∙ sym is ∙ some)

pub none_left : (words : List ℕ) (none : Bool) → none ≡ (length words == 0) → none ≡ true → words ≡ []
none_left [] none is e = refl
none_left (word ∷ words) none is e = absurd (omega (arith, eqb-true (length (word ∷ words)) 0 (sym is ∙ e)))

-- ---- what holds of each addend, and the longest one

module _ {A : Type 0} (P : A → Type 0) where
  pub each_more : (ps : List A) (a : A) → AllByRecursion P ps → P a → AllByRecursion P (ps ++ a ∷ [])
  each_more [] a h p = (p, tt)
  each_more (b ∷ ps) a h p = (h.0, each_more ps a h.1 p)

  pub each_one : (ps : List A) (a : A) (rs : List A) → AllByRecursion P ((ps ++ a ∷ []) ++ rs) → P a
  each_one [] a rs h = h.0
  each_one (b ∷ ps) a rs h = each_one ps a rs h.1

longest_more : (ps : List (Product ℕ)) (a : Product ℕ) → longest (ps ++ a ∷ []) ≡ max (longest ps) (length a.factors)
longest_more [] a = omega arith
longest_more (b ∷ ps) a = omega (arith, longest_more ps a)

module _ (f : Spelled) where
  -- words with an addend in front are some
  some_words : (words coefficient factors next : List ℕ) → words ≡ coefficient ++ length factors ∷ (factors ++ next) → words ≢ []
  some_words words coefficient factors next is none =
      omega (arith, ap length (sym none ∙ is), length-append coefficient (length factors ∷ (factors ++ next)))

  module _ (words : List ℕ) where
    -- none yet
    pub front_none : StandBefore f words [] words
    front_none = record { together = λ qs h. h; apart = λ qs h. (qs, refl, h) }

    module _ (ps : List (Product ℕ)) (rest : List ℕ) (before : StandBefore f words ps rest) where
      -- one more
      module _ (coefficient factors next : List ℕ) (is : AreSplit f rest coefficient factors next) where
        apart_more : (qs rs : List (Product ℕ)) → qs ≡ ps ++ rs → AreAddends f rs rest → (us : List (Product ℕ)) × (qs ≡ (ps ++ addend_by coefficient factors ∷ []) ++ us) × AreAddends f us next
        apart_more qs [] e t = absurd (some_words rest coefficient factors next is.whole t)
        apart_more qs (a ∷ us) e t =
            let h = one_addend f rest coefficient factors next a us is.width is.whole t in
            let same : a ≡ addend_by coefficient factors = sym (ap₂ (λ (n : ℕ) (is : List ℕ). record { coefficient = n; factors = is }) h.0 h.1) in
            (us, e ∙ ap (λ v. ps ++ v ∷ us) same ∙ sym (append_assoc ps (addend_by coefficient factors ∷ []) us), h.2)

        pub front_more : StandBefore f words (ps ++ addend_by coefficient factors ∷ []) next
        front_more = record {
          together = λ qs h. subst (λ us. AreAddends f us words) (sym (append_assoc ps (addend_by coefficient factors ∷ []) qs))
              (before.together (addend_by coefficient factors ∷ qs) (coefficient, next, is.width, refl, is.whole, h));
          apart = λ qs h. let r = before.apart qs h in apart_more qs r.0 r.1 r.2;
        }

      -- none comes next
      stuck : (rs : List (Product ℕ)) → rest ≢ [] → HaveNone f rest → ¬ AreAddends f rs rest
      stuck [] some none t = some t
      stuck (a ∷ rs) some none (coefficient, next, width, number, is, more) = none coefficient a.factors next width is

      pub front_stuck : rest ≢ [] → HaveNone f rest → (qs : List (Product ℕ)) → ¬ AreAddends f qs words
      front_stuck some none qs h = let r = before.apart qs h in stuck r.0 some none r.2

      -- all
      pub front_all : rest ≡ [] → AreAddends f ps words
      front_all end = subst (λ us. AreAddends f us words) (append-nil ps) (before.together [] end)

      ended : (qs rs : List (Product ℕ)) → rest ≡ [] → qs ≡ ps ++ rs → AreAddends f rs rest → qs ≡ ps
      ended qs [] end e t = e ∙ append-nil ps
      ended qs (a ∷ rs) end e (coefficient, next, width, number, is, more) = absurd (some_words rest coefficient a.factors next is end)

      pub front_only : rest ≡ [] → (qs : List (Product ℕ)) → AreAddends f qs words → qs ≡ ps
      front_only end qs h = let r = before.apart qs h in ended qs r.0 end r.1 r.2

-- ---- addends of which each is P

-- some of them stand before the rest
abbrev pub BeginWith : Spelled → (Product ℕ → Type 0) → List ℕ → List ℕ → Type 0
BeginWith f P words rest = (ps : List (Product ℕ)) × StandBefore f words ps rest × AllByRecursion P ps

module _ (f : Spelled) (P : Product ℕ → Type 0) (words : List ℕ) where
  pub begin_none : BeginWith f P words words
  begin_none = ([], front_none f words, tt)

  module _ (rest : List ℕ) (h : BeginWith f P words rest) where
    module _ (coefficient factors next : List ℕ) (is : AreSplit f rest coefficient factors next) where
      pub begin_more : P (addend_by coefficient factors) → BeginWith f P words next
      begin_more p =
          let a = addend_by coefficient factors in
          (h.0 ++ a ∷ [], front_more f words h.0 rest h.1 coefficient factors next is, each_more P h.0 a h.2 p)

      pub begin_bad : ¬ P (addend_by coefficient factors) → (qs : List (Product ℕ)) → AreAddends f qs words → ¬ AllByRecursion P qs
      begin_bad bad qs s all =
          let a = addend_by coefficient factors in
          let r = (front_more f words h.0 rest h.1 coefficient factors next is).apart qs s in
          bad (each_one P h.0 a r.0 (subst (AllByRecursion P) r.1 all))

    pub begin_stuck : rest ≢ [] → HaveNone f rest → (qs : List (Product ℕ)) → ¬ AreAddends f qs words
    begin_stuck = front_stuck f words h.0 rest h.1

    pub begin_all : rest ≡ [] → (qs : List (Product ℕ)) → AreAddends f qs words → AllByRecursion P qs
    begin_all end qs s = subst (AllByRecursion P) (sym (front_only f words h.0 rest h.1 end qs s)) h.2

-- ---- addends of n tables

-- some stand before the rest, and the longest has so many factors
abbrev pub BeginOfTables : Spelled → ℕ → List ℕ → List ℕ → ℕ → Type 0
BeginOfTables f n words rest most =
    (ps : List (Product ℕ)) × StandBefore f words ps rest × AllByRecursion (λ a. All (λ i. i < n) a.factors) ps × (most ≡ max 1 (longest ps))

module _ (f : Spelled) (n : ℕ) (words : List ℕ) where
  pub tables_none : BeginOfTables f n words words 1
  tables_none = ([], front_none f words, tt, omega arith)

  module _ (rest : List ℕ) (most : ℕ) (h : BeginOfTables f n words rest most) where
    module _ (coefficient factors next : List ℕ) (is : AreSplit f rest coefficient factors next) where
      pub tables_more : All (λ i. i < n) factors → BeginOfTables f n words next (max most (length factors))
      tables_more below =
          let a = addend_by coefficient factors in (
            h.0 ++ a ∷ [],
            front_more f words h.0 rest h.1 coefficient factors next is,
            each_more (λ a. All (λ i. i < n) a.factors) h.0 a h.2 below,
            omega (arith, longest_more h.0 a, h.3),
          )

      pub tables_bad : (d : ℕ) → ¬ All (λ i. i < n) factors → (qs : List (Product ℕ)) → AreAddends f qs words → ¬ AreOfTables n d qs
      tables_bad d bad qs s fits =
          begin_bad f (λ a. All (λ i. i < n) a.factors) words rest (h.0, h.1, h.2) coefficient factors next is bad qs s fits.0

    pub tables_stuck : rest ≢ [] → HaveNone f rest → (qs : List (Product ℕ)) → ¬ AreAddends f qs words
    tables_stuck = front_stuck f words h.0 rest h.1

    pub tables_all : (d : ℕ) → rest ≡ [] → (most ≡ d) ↔ ((ps : List (Product ℕ)) × AreAddends f ps words × AreOfTables n d ps)
    tables_all d end = (
      (λ e. (h.0, front_all f words h.0 rest h.1 end, (h.2, sym h.3 ∙ e))),
      (λ p. h.3 ∙ sym (ap (λ qs. max 1 (longest qs)) (front_only f words h.0 rest h.1 end p.0 p.1)) ∙ p.2.1),
    )

-- ---- addends by their elements

module _ {F : Type 0} (number : F → ℕ) (f : Spelled) where
  pub read_more : (words rest coefficient factors next : List ℕ) (before after : List (Addend F)) (x : Addend F) → StandBefore f words (numbered number before) rest → AreSplit f rest coefficient factors next
      → after ≡ before ++ x ∷ [] → number x.coefficient ≡ number_of_words coefficient → x.factors.items ≡ factors → StandBefore f words (numbered number after) next
  read_more words rest coefficient factors next before after x h is e number_is factors_are =
      let one : Addend F → Product ℕ = λ a. record { coefficient = number a.coefficient; factors = a.factors.items } in
      let all : numbered number after ≡ numbered number before ++ addend_by coefficient factors ∷ [] =
      ap (numbered number) e ∙ map-append one before (x ∷ [])
      ∙ ap₂ (λ (n : ℕ) (is : List ℕ). numbered number before ++ record { coefficient = n; factors = is } ∷ []) number_is factors_are in
      subst (λ ps. StandBefore f words ps next) (sym all) (front_more f words (numbered number before) rest h coefficient factors next is)

  -- the coefficients of elements are below the modulus
  pub coefficients_below : ((x : F) → number x < f.known.modulus) → (ps : List (Addend F)) → AreCoefficients f (numbered number ps)
  coefficients_below below [] = tt
  coefficients_below below (a ∷ ps) = (below a.coefficient, coefficients_below below ps)
