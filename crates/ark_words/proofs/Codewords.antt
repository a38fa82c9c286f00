-- What a decoder gives, in plain numbers, and words one after another.
use Rattle.std.proofs.Common.{◌≡◌, zero, suc, ◌+◌, ◌*◌, ◌<◌, ◌≤◌, ◌==◌, ℕ, not, true, false, List, [], ◌∷◌, ◌++◌, length, map, get_or, slice_range, take, drop, refl, sym, ap, subst, ◌∙◌, arith, rules, below_more}
use Rattle.std.proofs.lemmas.List.{length-append, length-map, take-append-le, take-map, drop-map, drop_at}
use Rattle.std.proofs.lemmas.Slice.{between_is, between_to_end}
use Rattle.ark_math.specs.Module.{ModuleOn, IsItself, itself, item}
use Rattle.ark_math.specs.Domain.{Domain}
use Rattle.ark_math.specs.Transform.{transform, fit}
use Rattle.ark_math_domains.proofs.Callers.Transforms.{same_from_meanings, fit-same}
use Rattle.ark_math_transforms.proofs.Transforms.Carried.{same_carries, meaning_linear, transform-linear}
use Rattle.ark_numbers.specs.Fields.{Known, operations}
use Rattle.ark_numbers.specs.Answers.{coset_of}
use Rattle.ark_numbers.proofs.Values.{NumberField, shown_field, number_carries, elements_of, residue}
use Rattle.rs_code.specs.Code.{DecoderOver}
use Rattle.rs_code.specs.Codeword.{AgreesElsewhere}
use Rattle.rs_code.specs.Codeword.{IsCodeword as IsOverCode}
use Rattle.ark_words.specs.Codes.{AgreesWith, HasCodeword, IsRestored, IsFound, word_at}
use Rattle.ark_words.specs.Decoders.{IsDecoderFor, marks}
use Rattle.ark_words.proofs.CodesInNumbers.{IsSubgroup, transform_numbers, values_numbers, codeword_numbers, codeword_elements, codeword_length}
use Rattle.ark_words.proofs.Interpolated.{numbers_back}
use Rattle.ark_words.proofs.WordLists.{number_end, numbers_below}

-- ---- words one after another

-- a part of a list, under a function
pub part_under : {X Y : Type 0} (f : X → Y) (xs : List X) (a b : ℕ) → map f (slice_range xs a b) ≡ slice_range (map f xs) a b
part_under f xs a b =
    ap (map f) (between_is xs a b) ∙ sym (drop-map f a (take b xs))
    ∙ ap (drop a) (sym (take-map f b xs)) ∙ sym (between_is (map f xs) a b)

word_before : (m i j : ℕ) (xs ys : List ℕ) → length xs ≡ j * m → i < j → word_at m (xs ++ ys) i ≡ word_at m xs i
word_before m i j xs ys len l =
    let fits = number_end m j i l in
    between_is (xs ++ ys) (i * m) ((i + 1) * m)
    ∙ ap (drop (i * m)) (take-append-le ((i + 1) * m) xs ys (omega arith))
    ∙ sym (between_is xs (i * m) ((i + 1) * m))

word_here : (m j : ℕ) (xs ys : List ℕ) → length xs ≡ j * m → length ys ≡ m → word_at m (xs ++ ys) j ≡ ys
word_here m j xs ys len here =
    let all = length-append xs ys in
    between_to_end (xs ++ ys) (j * m) ((j + 1) * m) (omega arith) ∙ drop_at xs ys (j * m) len

-- one word more
pub more_words : (P : List ℕ → List ℕ → Type 0) (n m j : ℕ) (all xs ys : List ℕ) → length xs ≡ j * m → length ys ≡ m → P (word_at n all j) ys
    → ((i : ℕ) → i < j → P (word_at n all i) (word_at m xs i)) → (i : ℕ) → i < j + 1 → P (word_at n all i) (word_at m (xs ++ ys) i)
more_words P n m j all xs ys len here_len here before =
    below_more (λ i. P (word_at n all i) (word_at m (xs ++ ys) i)) j
    (λ i l. subst (P (word_at n all i)) (sym (word_before m i j xs ys len l)) (before i l))
    (subst (P (word_at n all j)) (sym (word_here m j xs ys len here_len)) here)

-- ---- places that are left

-- past the end too
get_or-under : {X Y : Type 0} (f : X → Y) (z : X) (xs : List X) (i : ℕ) → get_or (map f xs) i (f z) ≡ f (get_or xs i z)
get_or-under f z [] i = refl
get_or-under f z (x ∷ xs) zero = refl
get_or-under f z (x ∷ xs) (suc i) = get_or-under f z xs i

left_unmarked : (erased : List ℕ) (i : ℕ) → get_or erased i 1 ≡ 0 → get_or (marks erased) i true ≡ false
left_unmarked erased i e = get_or-under (λ byte. not (byte == 0)) 1 erased i ∙ ap (λ byte. not (byte == 0)) e

is_left : (byte : ℕ) → not (byte == 0) ≡ false → byte ≡ 0
is_left zero e = refl
is_left (suc byte) e = absurd (search rules)

unmarked_left : (erased : List ℕ) (i : ℕ) → get_or (marks erased) i true ≡ false → get_or erased i 1 ≡ 0
unmarked_left erased i e = is_left (get_or erased i 1) (sym (get_or-under (λ byte. not (byte == 0)) 1 erased i) ∙ e)

-- ---- the decoder's words as numbers

module _ {F M : Type 0} (S : NumberField F) (V : ModuleOn F M) (meaning : F → M) (own : IsItself S.field V meaning)
    (d : DecoderOver F) (erased : List ℕ) (D : IsDecoderFor S.field S.adicity S.root erased d) where
  abbrev k : ℕ
  k = d.code.k

  abbrev f : Known
  f = shown_field S

  abbrev number : F → ℕ
  number = S.numbering.number

  abbrev over : Domain F
  over = d.code.domain

  subgroup : IsSubgroup S (length erased) over
  subgroup = record { lawful = D.lawful; offset = D.subgroup; size = D.size }

  agrees_numbers : (word c : List F) → AgreesElsewhere V d.erased (map meaning word) (map meaning c) → AgreesWith erased (map number word) (map number c)
  agrees_numbers word c agrees i left =
      let K = S.field in
      let value : (xs : List F) → item V (map meaning xs) i ≡ meaning (get_or xs i K.zero) = λ xs. ap (get_or (map meaning xs) i) (sym own.zero_kept) ∙ get_or-under meaning K.zero xs i in
      let plain : (xs : List F) → get_or (map number xs) i 0 ≡ number (get_or xs i K.zero) = λ xs. ap (get_or (map number xs) i) (sym (number_carries S).zero_kept) ∙ get_or-under number K.zero xs i in
      let same = agrees i (ap (λ places. get_or places i true) D.marked ∙ left_unmarked erased i left) in
      plain c ∙ ap number (own.one_to_one _ _ (sym (value c) ∙ same ∙ value word)) ∙ sym (plain word)

  numbers_agree : (word c : List F) → AgreesWith erased (map number word) (map number c) → AgreesElsewhere V d.erased (map meaning word) (map meaning c)
  numbers_agree word c agrees i mark =
      let K = S.field in
      let value : (xs : List F) → item V (map meaning xs) i ≡ meaning (get_or xs i K.zero) = λ xs. ap (get_or (map meaning xs) i) (sym own.zero_kept) ∙ get_or-under meaning K.zero xs i in
      let plain : (xs : List F) → get_or (map number xs) i 0 ≡ number (get_or xs i K.zero) = λ xs. ap (get_or (map number xs) i) (sym (number_carries S).zero_kept) ∙ get_or-under number K.zero xs i in
      let same = agrees i (unmarked_left erased i (ap (λ places. get_or places i true) (sym D.marked) ∙ mark)) in
      value c ∙ ap meaning (S.numbering.same _ _ (sym (plain c) ∙ same ∙ plain word)) ∙ sym (value word)

  -- what `restore` gives
  pub restored_numbers : (word c : List F) → IsOverCode S.field V over k (map meaning c) → AgreesElsewhere V d.erased (map meaning word) (map meaning c)
      → ((other : List M) → IsOverCode S.field V over k other → AgreesElsewhere V d.erased (map meaning word) other → other ≡ map meaning c)
      → IsRestored f erased k (map number word) (map number c)
  restored_numbers word c codeword agrees only = record {
    codeword = codeword_numbers S V meaning own over (length erased) subgroup k c codeword;
    agrees = agrees_numbers word c agrees;
    only = λ other w same.
        let found = codeword_elements S V meaning own over (length erased) subgroup k other w in
        let there = numbers_agree word found.0 (subst (AgreesWith erased (map number word)) (sym found.1) same) in
        sym found.1 ∙ ap (map number) (same_from_meanings S.field V own found.0 c (only (map meaning found.0) found.2 there));
  }

  -- what `message` gives
  pub found_numbers : (word m : List F) → length m ≡ k → AgreesElsewhere V d.erased (map meaning word) (transform S.field V over (map meaning m))
      → ((other : List M) → length other ≤ k → AgreesElsewhere V d.erased (map meaning word) (transform S.field V over other) → fit V other k ≡ map meaning m)
      → IsFound f erased k (map number word) (map number m)
  found_numbers word m len agrees only =
      let K = S.field in
      let L = operations f in
      let values : (xs : List F) → map meaning (transform K (itself K) over xs) ≡ transform K V over (map meaning xs) = λ xs. transform-linear (same_carries K) (meaning_linear own) over xs in
      let c = transform K (itself K) over m in
      record {
        message = (length-map m number ∙ len, numbers_below S.numbering m);
        agrees = (map number c, values_numbers S V meaning own over (length erased) subgroup m c refl, agrees_numbers word c (subst (AgreesElsewhere V d.erased (map meaning word)) (sym (values m)) agrees));
        only = λ other w same.
            let xs = elements_of S other in
            let ys = transform K (itself K) over xs in
            let numbers = numbers_back S other w.1 in
            let long : length (map meaning xs) ≡ k = length-map xs meaning ∙ length-map other (residue S) ∙ w.0 in
            let plain = transform_numbers S V meaning own over (length erased) subgroup xs ∙ ap (transform L (itself L) (coset_of f (length erased) 1)) numbers ∙ sym same.1 in
            let there = subst (AgreesElsewhere V d.erased (map meaning word)) (values xs) (numbers_agree word ys (subst (AgreesWith erased (map number word)) (sym plain) same.2)) in
            let whole = sym (fit-same V (map meaning xs) k long) ∙ only (map meaning xs) (omega (arith, long)) there in
            sym numbers ∙ ap (map number) (same_from_meanings K V own xs m whole);
      }

  -- and where it gives none
  pub no_codeword_numbers : (word : List F) → ((other : List M) → IsOverCode S.field V over k other → AgreesElsewhere V d.erased (map meaning word) other → ⊥)
      → HasCodeword f erased k (map number word) → ⊥
  no_codeword_numbers word none has =
      let found = codeword_elements S V meaning own over (length erased) subgroup k has.0 has.1 in
      none (map meaning found.0) found.2 (numbers_agree word found.0 (subst (AgreesWith erased (map number word)) (sym found.1) has.2))

  pub decoded_length : (c : List F) → IsOverCode S.field V over k (map meaning c) → length c ≡ length erased
  decoded_length c w = codeword_length S V meaning own over (length erased) subgroup k c w
