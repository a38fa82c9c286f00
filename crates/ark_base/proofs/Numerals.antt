-- What a number's text is, digit by digit, and that it writes the number.
use Rattle.std.proofs.Common.{◌≡◌, ℕ, suc, zero, ◌+◌, ◌*◌, ◌/◌, ◌%◌, ◌^◌, ◌<◌, ◌≤◌, false, cond, List, [], ◌∷◌, ◌++◌, length, map, refl, sym, ap, ap₂, subst, ◌∙◌, ⊎_elim, arith, eq-eqb, ne_eqb, append_assoc, mod-eq_of_lt, pow-suc, div-lt_iff_lt-mul, le-div_iff_mul-le, codes, length-append, append-nil, take, get_or, one-mul, Option, Some, None, IfSome}
use Rattle.std.proofs.Math.Nat.{pow-zero}
use Rattle.std.proofs.lemmas.Bool.{cases_lt}
use Rattle.std.specs.Char.{digit_value}
use Rattle.std.specs.Fmt.{digit_glyph, digits_onto, digits}
use Rattle.std.specs.Int.Digits.{digits_of, number_from_digits, AllBelowBase}
use Rattle.std.specs.Str.Parse.{AllDigits, IsNumeral, digits_value}
use Rattle.std.proofs.lemmas.Fmt.{hex_one_digit, digits_is_IsNumeral}
use Rattle.std.proofs.lemmas.Int.Digits.{digits_of_step, digits_value_is, digits_value_more, number_digits_of, all_below_base_digits_of}
use Rattle.ark_math.specs.Field.{FieldOn, IsField, natural}
use Rattle.ark_math.proofs.Algebra.Powers.{natural-add, natural-mul}
use Rattle.ark_math.specs.Prime.{IsPrime}
use Rattle.ark_base.specs.Residues.{Numbering, residues}
use Rattle.ark_base.specs.ResiduesLaws.{natural_number}
use Rattle.ark_base.specs.Numerals.{IsDecimal, IsHexadecimal, numeral, decimal_text, hexadecimal_text}

abbrev glyph : ℕ → ℕ
glyph d = digit_glyph false d

below_is_zero : (base n : ℕ) → 2 ≤ base → n < base → n / base ≡ 0
below_is_zero base n two small =
    let some : 0 < base = omega arith in
    let low : n / base < 1 = (div-lt_iff_lt-mul some).1 (omega arith) in
    omega arith

above_is_some : (base n : ℕ) → 2 ≤ base → base ≤ n → 0 < n / base
above_is_some base n two large =
    let some : 0 < base = omega arith in
    (le-div_iff_mul-le some).1 (omega arith)

-- ---- digit by digit

numeral_some : (base n : ℕ) → 0 < n → numeral base n ≡ map glyph (digits_of base n)
unfolding numeral
numeral_some base n some = ap (λ t. cond t (codes "0") (map glyph (digits_of base n))) (ne_eqb n 0 (λ e. omega arith))

map-push : (ds : List ℕ) (d : ℕ) → map glyph (ds ++ d ∷ []) ≡ map glyph ds ++ glyph d ∷ []
map-push [] d = refl
map-push (e ∷ ds) d = ap (λ l. glyph e ∷ l) (map-push ds d)

numeral_last : (base n : ℕ) → 2 ≤ base → 0 < n → numeral base n ≡ map glyph (digits_of base (n / base)) ++ glyph (n % base) ∷ []
numeral_last base n two some = numeral_some base n some ∙ ap (map glyph) (digits_of_step base n two some) ∙ map-push (digits_of base (n / base)) (n % base)

-- one digit
pub numeral_one : (base n : ℕ) → 2 ≤ base → n < base → numeral base n ≡ glyph n ∷ []
unfolding numeral
numeral_one base zero two small = refl
numeral_one base (suc n) two small =
    let none = below_is_zero base (suc n) two small in
    numeral_last base (suc n) two (omega arith) ∙ ap₂ (λ q r. map glyph (digits_of base q) ++ glyph r ∷ []) none (mod-eq_of_lt small)

-- one digit after others
pub numeral_more : (base n : ℕ) → 2 ≤ base → base ≤ n → numeral base n ≡ numeral base (n / base) ++ glyph (n % base) ∷ []
numeral_more base n two large =
    let some = above_is_some base n two large in
    numeral_last base n two (omega arith) ∙ ap (λ l. l ++ glyph (n % base) ∷ []) (sym (numeral_some base (n / base) some))

-- what `{}` and `{:x}` write of a number that is not too long for them
-- `{}` and `{:x}` take the last digit first, and go on with the others
onto_one : (k base n : ℕ) (acc : List ℕ) → 2 ≤ base → n < base → digits_onto (suc k) base false n acc ≡ numeral base n ++ acc
onto_one k base n acc two less =
    let none = below_is_zero base n two less in
    ap (λ t. cond t (glyph (n % base) ∷ acc) (digits_onto k base false (n / base) (glyph (n % base) ∷ acc))) (eq-eqb (n / base) 0 none)
    ∙ ap (λ d. glyph d ∷ acc) (mod-eq_of_lt less) ∙ ap (λ l. l ++ acc) (sym (numeral_one base n two less))

onto_more : (k base n : ℕ) (acc : List ℕ) → 2 ≤ base → base ≤ n
    → digits_onto k base false (n / base) (glyph (n % base) ∷ acc) ≡ numeral base (n / base) ++ glyph (n % base) ∷ acc
    → digits_onto (suc k) base false n acc ≡ numeral base n ++ acc
onto_more k base n acc two large rest =
    let some : (n / base ≡ 0 → ⊥) = λ e. let h = above_is_some base n two large in omega arith in
    ap (λ t. cond t (glyph (n % base) ∷ acc) (digits_onto k base false (n / base) (glyph (n % base) ∷ acc))) (ne_eqb (n / base) 0 some)
    ∙ rest ∙ sym (append_assoc (numeral base (n / base)) (glyph (n % base) ∷ []) acc)
    ∙ ap (λ l. l ++ acc) (sym (numeral_more base n two large))

front_below : (k base n : ℕ) → 2 ≤ base → n < base ^ suc k → n / base < base ^ k
front_below k base n two small = let positive : 0 < base = omega arith in (div-lt_iff_lt-mul positive).1 (omega (arith, pow-suc base k))

onto : (k base n : ℕ) (acc : List ℕ) → 2 ≤ base → n < base ^ suc k → digits_onto (suc k) base false n acc ≡ numeral base n ++ acc
onto zero base n acc two small = onto_one 0 base n acc two (omega (arith, pow-suc base 0 ∙ ap (λ x. x * base) (pow-zero base) ∙ one-mul base))
onto (suc k) base n acc two small = ⊎_elim (onto_one (suc k) base n acc two)
    (λ large. onto_more (suc k) base n acc two large (onto k base (n / base) (glyph (n % base) ∷ acc) two (front_below (suc k) base n two small)))
    (cases_lt n base)

-- what they write of a number that is not too long for them
pub digits_is_numeral : (base n : ℕ) → 2 ≤ base → n < base ^ 64 → digits base false n ≡ numeral base n
unfolding digits
digits_is_numeral base n two small = onto 63 base n [] two small ∙ append-nil (numeral base n)

pub decimal_is_text : (n : ℕ) → n < 2 ^ 64 → digits 10 false n ≡ decimal_text n
decimal_is_text n small = digits_is_numeral 10 n (omega arith) (omega arith)

pub hexadecimal_is_text : (n : ℕ) → n < 2 ^ 64 → codes "0x" ++ digits 16 false n ≡ hexadecimal_text n
hexadecimal_is_text n small = ap (λ l. codes "0x" ++ l) (digits_is_numeral 16 n (omega arith) (omega arith))

-- ---- what the text writes

value_of_glyph : (d : ℕ) → d < 16 → digit_value (glyph d) ≡ d
value_of_glyph d small =
    let read = digits_is_IsNumeral 16 false (omega arith) (omega arith) d (omega arith) in
    let one : digits_value 16 (glyph d ∷ []) ≡ d = ap (digits_value 16) (sym (hex_one_digit false d small)) ∙ read.1 in
    omega (arith, one)

values_of_glyphs : (base : ℕ) (ds : List ℕ) → base ≤ 16 → AllBelowBase base ds → map digit_value (map glyph ds) ≡ ds
values_of_glyphs base [] most below = refl
values_of_glyphs base (d ∷ ds) most below =
    let small : d < 16 = omega (arith, below.0) in
    ap₂ (λ e es. e ∷ es) (value_of_glyph d small) (values_of_glyphs base ds most below.1)

glyphs_are_digits : (base : ℕ) (ds : List ℕ) → base ≤ 16 → AllBelowBase base ds → AllDigits base (map glyph ds)
glyphs_are_digits base [] most below = tt
glyphs_are_digits base (d ∷ ds) most below =
    let small : d < 16 = omega (arith, below.0) in
    (omega (arith, below.0, value_of_glyph d small), glyphs_are_digits base ds most below.1)

abbrev Writes : ℕ → ℕ → List ℕ → Type 0
Writes base n text = IsNumeral base text × (digits_value base text ≡ n)

numeral_writes_some : (base n : ℕ) → 2 ≤ base → base ≤ 16 → 0 < n → Writes base n (map glyph (digits_of base n))
numeral_writes_some base n two most some =
    let ds = digits_of base n in
    let below = all_below_base_digits_of base n two in
    let some_digits : 0 < length (map glyph ds) =
    omega (arith, ap length (map-push (digits_of base (n / base)) (n % base)), ap (λ l. length (map glyph l)) (digits_of_step base n two some), length-append (map glyph (digits_of base (n / base))) (glyph (n % base) ∷ [])) in (
      (some_digits, glyphs_are_digits base ds most below),
      digits_value_is base (map glyph ds) ∙ ap (number_from_digits base) (values_of_glyphs base ds most below) ∙ number_digits_of base n two,
    )

pub numeral_writes : (base n : ℕ) → 2 ≤ base → base ≤ 16 → IsNumeral base (numeral base n) × (digits_value base (numeral base n) ≡ n)
unfolding numeral
numeral_writes base zero two most = ((omega arith, (omega arith, tt)), omega arith)
numeral_writes base (suc n) two most = subst (Writes base (suc n)) (sym (numeral_some base (suc n) (omega arith))) (numeral_writes_some base (suc n) two most (omega arith))

-- it is written in decimal, and in hexadecimal
pub decimal_text_writes : (n : ℕ) → IsDecimal (decimal_text n) n
decimal_text_writes n = let written = numeral_writes 10 n (omega arith) (omega arith) in record { digits = written.0; value = sym written.1 }

pub hexadecimal_text_writes : (n : ℕ) → IsHexadecimal (hexadecimal_text n) n
hexadecimal_text_writes n =
    let written = numeral_writes 16 n (omega arith) (omega arith) in
    record { rest = numeral 16 n; begins = refl; digits = written.0; value = sym written.1 }

-- ---- reading by Horner's rule

-- one more digit
pub horner : {F : Type 0} {K : FieldOn F} → IsField K → (base : ℕ) (text : List ℕ) (i d : ℕ) (x times digit : F) → i < length text
    → x ≡ natural K (digits_value base (take i text)) → times ≡ natural K base → digit ≡ natural K d → d ≡ digit_value (get_or text i 0)
    → K.plus (K.times x times) digit ≡ natural K (digits_value base (take (i + 1) text))
horner {K = K} L base text i d x times digit below so_far base_is digit_is is =
    let n = digits_value base (take i text) in
    ap₂ K.plus (ap₂ K.times so_far base_is ∙ sym (natural-mul K L n base)) digit_is ∙ sym (natural-add K L (n * base) d)
    ∙ ap (natural K) (ap (λ c. n * base + c) is ∙ sym (digits_value_more base text i below))

-- each of the digits is one
pub digit_of_all : (base : ℕ) (text : List ℕ) (i : ℕ) → AllDigits base text → i < length text → digit_value (get_or text i 0) < base
digit_of_all base [] i all below = absurd (omega arith)
digit_of_all base (c ∷ text) zero all below = all.0
digit_of_all base (c ∷ text) (suc i) all below = digit_of_all base text i all.1 (omega arith)

-- ---- elements of what is read

module _ {F : Type 0} {p : ℕ} (N : Numbering F p) (P : IsPrime p) (K : FieldOn F) (is : K ≡ residues N P) where
  -- so many ones added up are the number's element
  pub number_of_natural : (n : ℕ) (x : F) → x ≡ natural K n → N.number x ≡ n % p
  number_of_natural n x e = ap N.number (e ∙ ap (λ k. natural k n) is) ∙ natural_number N P n

  pub read_decimal : (text digits : List ℕ) (r : Option F) → digits ≡ text → 0 < length text
      → IfSome r (λ x. AllDigits 10 digits × (x ≡ natural K (digits_value 10 digits))) → IfSome r (λ x. (n : ℕ) × IsDecimal text n × (N.number x ≡ n % p))
  read_decimal text digits None same some read = tt
  read_decimal text digits (Some x) same some read =
      let n = digits_value 10 digits in
      (n, record { digits = (some, subst (AllDigits 10) same read.0); value = ap (digits_value 10) same }, number_of_natural n x read.1)

  pub read_hexadecimal : (text rest digits : List ℕ) (r : Option F) → text ≡ codes "0x" ++ rest → digits ≡ rest → 0 < length rest
      → IfSome r (λ x. AllDigits 16 digits × (x ≡ natural K (digits_value 16 digits))) → IfSome r (λ x. (n : ℕ) × IsHexadecimal text n × (N.number x ≡ n % p))
  read_hexadecimal text rest digits None begins same some read = tt
  read_hexadecimal text rest digits (Some x) begins same some read =
      let n = digits_value 16 digits in (
        n,
        record { rest = rest; begins = begins; digits = (some, subst (AllDigits 16) same read.0); value = ap (digits_value 16) same },
        number_of_natural n x read.1,
      )
