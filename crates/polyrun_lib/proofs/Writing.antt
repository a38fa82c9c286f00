-- How a line grows, and that it spells its numbers.
use Rattle.std.proofs.Common.{◌≡◌, ℕ, ◌+◌, ◌<◌, List, [], ◌∷◌, ◌++◌, length, map, take, get_or, refl, ap, ◌∙◌, arith, append_assoc, sym, suc, zero}
use Rattle.std.proofs.lemmas.List.{map_more, length-map, length-take}
use Rattle.ark_base.specs.Numerals.{decimal_text}
use Rattle.ark_base.proofs.Numerals.{decimal_text_writes}
use Rattle.polyrun_lib.specs.Words.{comma, joined, AreNumbers, IsList}

-- one more word, after others
pub joined-push : (words : List (List ℕ)) (word : List ℕ) → 0 < length words → joined (words ++ word ∷ []) ≡ joined words ++ comma ∷ word
joined-push [] word some = absurd (omega arith)
joined-push (first ∷ []) word some = refl
joined-push (first ∷ second ∷ words) word some = ap (λ text. first ++ comma ∷ text) (joined-push (second ∷ words) word (omega arith)) ∙ rw append_assoc refl

-- the numbers before place i, as they are written
abbrev pub written : List ℕ → ℕ → List ℕ
written numbers i = joined (map decimal_text (take i numbers))

pub written-first : (numbers : List ℕ) → 0 < length numbers → written numbers 1 ≡ decimal_text (get_or numbers 0 0)
written-first [] some = absurd (omega arith)
written-first (n ∷ numbers) some = refl

pub written-more : (numbers : List ℕ) (i : ℕ) → i < length numbers → 0 < i → written numbers (i + 1) ≡ written numbers i ++ comma ∷ decimal_text (get_or numbers i 0)
written-more numbers i below later = ap joined (map_more decimal_text numbers i 0 below) ∙ joined-push (map decimal_text (take i numbers)) (decimal_text (get_or numbers i 0)) (omega (arith, length-map (take i numbers) decimal_text, length-take i numbers))

-- a turn of the loop, from what was written before the number to what is written after it
pub written-later : (numbers : List ℕ) (i : ℕ) (before after : List ℕ) → i < length numbers → 0 < i → before ≡ written numbers i ++ comma ∷ [] → after ≡ before ++ decimal_text (get_or numbers i 0) → after ≡ written numbers (i + 1)
written-later numbers i before after below later e f = rw (f, e, append_assoc, written-more numbers i below later) refl

pub written-start : (numbers : List ℕ) (i : ℕ) (before after : List ℕ) → i < length numbers → i ≡ 0 → before ≡ written numbers i → after ≡ before ++ decimal_text (get_or numbers i 0) → after ≡ written numbers (i + 1)
written-start numbers i before after below start e f = rw (f, e, start, written-first numbers (omega arith)) refl

-- a number at its place, and that there is one
pub number_at : {A : Type 0} (number : A → ℕ) (xs : List A) (i : ℕ) (x : A) → i < length xs → x ≡ get_or xs i x → get_or (map number xs) i 0 ≡ number x
number_at number [] i x below is = absurd (omega arith)
number_at number (y ∷ ys) zero x below is = ap number (sym is)
number_at number (y ∷ ys) (suc i) x below is = number_at number ys i x (omega arith) is

pub below_all : {A : Type 0} (number : A → ℕ) (xs : List A) (i : ℕ) → i < length xs → i < length (map number xs)
below_all number xs i below = omega (arith, below, length-map xs number)

-- what is written of numbers spells them
pub IsList-joined : (numbers : List ℕ) → IsList (joined (map decimal_text numbers)) numbers
IsList-joined numbers = record { words = map decimal_text numbers; joins = refl; spelled = each numbers }
  where
    each : (numbers : List ℕ) → AreNumbers (map decimal_text numbers) numbers
    each [] = tt
    each (n ∷ ns) = (decimal_text_writes n, each ns)
