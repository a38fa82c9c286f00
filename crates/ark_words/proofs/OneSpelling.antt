-- Words of 64 bits are told by the numbers that they spell.
use Rattle.std.proofs.Common.{◌≡◌, zero, suc, ◌+◌, ◌-◌, ◌*◌, ◌/◌, ◌%◌, ◌^◌, ◌<◌, ◌≤◌, ℕ, List, [], ◌∷◌, ◌++◌, All, length, take, get_or, slice_range, refl, sym, ap, ap₂, subst, ◌∙◌, arith}
use Rattle.std.proofs.lemmas.List.{length-drop, length-take-le, take-append-drop, take_all, take-take}
use Rattle.std.proofs.lemmas.List.Elements.{All-drop, All-head, All-tail, All-take}
use Rattle.std.proofs.lemmas.Nat.{div-add-mod'}
use Rattle.std.proofs.lemmas.Slice.{between_is}
use Rattle.ark_math.specs.Words.{number_of_words}
use Rattle.ark_math.proofs.Lists.Tabulated.{get_or-tabulate}
use Rattle.ark_words.specs.Numbers.{number_at, numbers}
use Rattle.ark_words.proofs.WordLists.{number_fits}

-- a word of 64 bits
abbrev pub IsWord : ℕ → Type 0
IsWord w = w < 2 ^ 64

-- of one number
one_words : (words others : List ℕ) → length words ≡ length others → All IsWord words → All IsWord others
    → number_of_words words ≡ number_of_words others → words ≡ others
one_words [] [] len below beneath e = refl
one_words [] (y ∷ ys) len below beneath e = absurd (omega (arith, len))
one_words (x ∷ xs) [] len below beneath e = absurd (omega (arith, len))
one_words (x ∷ xs) (y ∷ ys) len below beneath e =
    let small : x < 2 ^ 64 = All-head IsWord x xs below in
    let least : y < 2 ^ 64 = All-head IsWord y ys beneath in
    let low : x ≡ y = omega (arith, e, small, least) in
    let rest : number_of_words xs ≡ number_of_words ys = omega (arith, e, small, least) in
    ap₂ (λ u us. u ∷ us) low (one_words xs ys (omega (arith, len)) (All-tail IsWord x xs below) (All-tail IsWord y ys beneath) rest)

-- a front and what follows it
pub front_and : {X : Type 0} (a e : ℕ) (xs : List X) → a ≤ e → take e xs ≡ take a xs ++ slice_range xs a e
front_and a e xs l =
    sym (take-append-drop a (take e xs)) ∙ ap₂ (λ us vs. us ++ vs) (take-take a e xs l) (sym (between_is xs a e))

part_below : (words : List ℕ) (a e : ℕ) → All IsWord words → All IsWord (slice_range words a e)
part_below words a e below = subst (All IsWord) (sym (between_is words a e)) (All-drop IsWord a (take e words) (All-take IsWord e words below))

part_length : (words : List ℕ) (a e : ℕ) → e ≤ length words → length (slice_range words a e) ≡ e - a
part_length words a e l = ap length (between_is words a e) ∙ length-drop a (take e words) ∙ ap (λ n. n - a) (length-take-le e words l)

module _ (width : ℕ) (some : 0 < width) (words others : List ℕ) (len : length words ≡ length others) (whole : length words % width ≡ 0)
    (below : All IsWord words) (beneath : All IsWord others) (e : numbers width words ≡ numbers width others) where
  abbrev count : ℕ
  count = length words / width

  all_words : count * width ≡ length words
  all_words =
      let parts : count * width + length words % width ≡ length words = div-add-mod' (length words) width in
      omega (arith, parts, whole)

  one_number : (i : ℕ) → i < count → number_at width words i ≡ number_at width others i
  one_number i l =
      sym (get_or-tabulate count (number_at width words) i 0 l) ∙ ap (λ ns. get_or ns i 0) e
      ∙ get_or-tabulate (length others / width) (number_at width others) i 0 (subst (λ n. i < n / width) len l)

  -- the first numbers' words
  one_front : (i : ℕ) → i ≤ count → take (i * width) words ≡ take (i * width) others
  one_front zero l = let none : 0 * width ≡ 0 = omega arith in ap (λ n. take n words) none ∙ sym (ap (λ n. take n others) none)
  one_front (suc i) l =
      let a = i * width in
      let b = (i + 1) * width in
      let forward : a ≤ b = omega arith in
      let fits : b ≤ length words = number_fits width i words (omega (arith, l)) in
      let within : b ≤ length others = subst (λ n. b ≤ n) len fits in
      let part : slice_range words a b ≡ slice_range others a b = one_words (slice_range words a b) (slice_range others a b)
      (part_length words a b fits ∙ sym (part_length others a b within)) (part_below words a b below) (part_below others a b beneath) (one_number i (omega (arith, l))) in
      let here : take b words ≡ take b others = front_and a b words forward ∙ ap₂ (λ us vs. us ++ vs) (one_front i (omega (arith, l))) part ∙ sym (front_and a b others forward) in
      let same : suc i * width ≡ b = omega arith in
      ap (λ n. take n words) same ∙ here ∙ ap (λ n. take n others) (sym same)

  pub one_spelling : words ≡ others
  one_spelling =
      sym (take_all (count * width) words (omega (arith, all_words))) ∙ one_front count (omega arith) ∙ take_all (count * width) others (omega (arith, all_words, len))
