-- A number's text from that of its front and its last digit.
use Rattle.std.proofs.Common.{◌≡◌, ℕ, ◌+◌, ◌*◌, ◌/◌, ◌%◌, ◌<◌, ◌≤◌, false, [], ◌∷◌, ◌++◌, sym, ap, ap₂, ◌∙◌, arith, mul-le-mul_right, div-add-mod'}
use Rattle.std.specs.Fmt.{digits, digit_glyph}
use Rattle.std.proofs.lemmas.Fmt.{hex_one_digit}
use Rattle.std.proofs.lemmas.Nat.{div-mul-add}
use Rattle.ark_base.specs.Numerals.{numeral}
use Rattle.ark_base.proofs.Numerals.{numeral_one, numeral_more}

module _ (base n q d : ℕ) (two : 2 ≤ base) (most : base ≤ 16) (whole : q * base + d ≡ n) (below : d < base) where
  front_is : n / base ≡ q
  front_is = ap (λ m. m / base) (sym whole) ∙ div-mul-add q base d below

  last_is : n % base ≡ d
  last_is = let parts : q * base + n % base ≡ n = ap (λ k. k * base + n % base) (sym front_is) ∙ div-add-mod' n base in omega (arith, parts, whole)

  digit_is : digits 16 false d ≡ digit_glyph false d ∷ []
  digit_is = hex_one_digit false d (omega arith)

  pub numeral_by_front : 0 < q → numeral base q ++ digits 16 false d ≡ numeral base n
  numeral_by_front some =
      let least : 1 * base ≤ q * base = mul-le-mul_right base some in
      ap (λ l. numeral base q ++ l) digit_is
      ∙ sym (numeral_more base n two (omega (arith, least, whole)) ∙ ap₂ (λ k r. numeral base k ++ digit_glyph false r ∷ []) front_is last_is)

  pub numeral_alone : q ≤ 0 → digits 16 false d ≡ numeral base n
  numeral_alone none =
      let zero : q * base ≡ 0 = ap (λ k. k * base) {x = q} {y = 0} (omega arith) ∙ omega arith in
      let same : n ≡ d = omega (arith, zero, whole) in
      digit_is ∙ sym (ap (numeral base) same ∙ numeral_one base d two below)
