-- The constants of a field as elements, and the roots of unity that they give.
use Rattle.std.proofs.Common.{◌≡◌, ℕ, ◌-◌, ◌*◌, ◌/◌, ◌%◌, ◌^◌, ◌<◌, Option, Some, None, option_map, arith, sym, ap, refl, ◌∙◌, mod-eq_of_lt, mul-one, mul_comm, mul_assoc}
use Rattle.std.proofs.Math.Nat.{pow-zero, mod-add-div, div-eq_of_eq-mul_left}
use Rattle.ark_math.specs.Field.{power}
use Rattle.ark_math.specs.Root.{Adicity, greatest_size, odd_base, odd_most}
use Rattle.ark_base.specs.Generator.{for_odd}
use Rattle.ark_math.proofs.Algebra.Powers.{power-mul}
use Rattle.ark_base.specs.GeneratorLaws.{from_odd}
use Rattle.ark_prime256.specs.Words.{integer, words_of}
use Rattle.ark_prime256.specs.WordsLaws.{integer_of_words}
use Rattle.ark_base.specs.Modulus.{power_below}
use Rattle.ark_base.specs.ModulusLaws.{power_below-lt}
use Rattle.ark_base.specs.Residues.{residue_of, root_of, generator_of}
use Rattle.ark_base.specs.ResiduesLaws.{number_of_residue, root_number, residues_laws}
use Rattle.ark_prime256.specs.Element.{Shown, adicity, number, numbering, field_of, element, number_of_element, same_by_number}
use Rattle.ark_prime256.specs.declared.words.BigInteger256.{BigInteger256}
use Rattle.ark_prime256.specs.declared.prime_field.PrimeField256.{PrimeField256}
use Rattle.ark_prime256.specs.declared.prime_field.PrimeModulus256.{Ghosts}

-- ---- options

some_word : (l : Option ℕ) (w : BigInteger256) → option_map words_of l ≡ Some w → (v : ℕ) × (l ≡ Some v) × (words_of v ≡ w)
some_word None w e = cc
some_word (Some v) w e = (v, refl, cc)

no_word : (l : Option ℕ) → option_map words_of l ≡ None → l ≡ None
no_word None e = refl
no_word (Some v) e = cc

no_odd : (o : Option (ℕ × ℕ)) (v : ℕ) → for_odd o v ≡ None → o ≡ None
no_odd None v e = refl
no_odd (Some q) v e = cc

greatest_of_two : (s : Adicity) → s.odd ≡ None → greatest_size s ≡ 2 ^ s.two
greatest_of_two s e =
    ap (λ o. 2 ^ s.two * odd_base o ^ odd_most o) e ∙ ap (λ k. 2 ^ s.two * k) (pow-zero 1) ∙ mul-one (2 ^ s.two)

-- ---- parts of p - 1

whole_part : (t n : ℕ) → t % n ≡ 0 → t / n * n ≡ t
whole_part t n e = mul_comm (t / n) n ∙ omega (arith, mod-add-div t n, e)

pub part_of_part : (t g n : ℕ) → 0 < n → t % g ≡ 0 → g % n ≡ 0 → t / g * (g / n) ≡ t / n
part_of_part t g n some e f =
    let whole : t ≡ t / g * (g / n) * n = sym (mul_assoc (t / g) (g / n) n ∙ ap (λ k. t / g * k) (whole_part g n f) ∙ whole_part t g e) in
    sym (div-eq_of_eq-mul_left some whole)

-- ---- elements

module _ {M : Type 0} {g : Ghosts M} (S : Shown g) where
  pub element_is : (x : PrimeField256 M g) (v : ℕ) (h : v < g.MODULUS) → number x ≡ v % g.MODULUS → x ≡ element {M = M} {g = g} S v h
  element_is x v h e = same_by_number S _ _ (e ∙ mod-eq_of_lt h ∙ sym (number_of_element g S v h))

  pub constant_number : (x : PrimeField256 M g) (w : BigInteger256) (v : ℕ) → number x ≡ integer w % g.MODULUS → w ≡ words_of v → number x ≡ v % g.MODULUS
  constant_number x w v e f = e ∙ ap (λ n. n % g.MODULUS) (ap integer f ∙ integer_of_words v)

  -- a constant that is there, or not
  pub some_constant : (l : Option ℕ) (w : BigInteger256) (x : PrimeField256 M g) → option_map words_of l ≡ Some w → number x ≡ integer w % g.MODULUS →
      Some x ≡ option_map (residue_of (numbering {M = M} {g = g} S) S.numbers.prime) l
  some_constant l w x e f =
      let h = some_word l w e in
      let same : x ≡ residue_of (numbering {M = M} {g = g} S) S.numbers.prime h.0 =
      same_by_number S _ _ (constant_number x w h.0 f (sym h.2) ∙ sym (number_of_residue (numbering {M = M} {g = g} S) S.numbers.prime h.0)) in
      ap Some same ∙ ap (option_map (residue_of (numbering {M = M} {g = g} S) S.numbers.prime)) (sym h.1)

  -- ---- the root of the greatest order

  power_is_root : (x : PrimeField256 M g) (v n : ℕ) → number x ≡ v % g.MODULUS → v ≡ power_below 255 g.MODULUS g.GENERATOR ((g.MODULUS - 1) / n) →
      x ≡ root_of (numbering {M = M} {g = g} S) S.numbers n
  power_is_root x v n e f =
      same_by_number S _ _ (e ∙ ap (λ y. y % g.MODULUS) f
      ∙ mod-eq_of_lt (power_below-lt S.numbers.prime 255 g.GENERATOR ((g.MODULUS - 1) / n))
      ∙ sym (root_number (numbering {M = M} {g = g} S) S.numbers n))

  pub large_is_greatest : (w : BigInteger256) (x : PrimeField256 M g) → g.LARGE_SUBGROUP_ROOT_WORDS ≡ Some w → number x ≡ integer w % g.MODULUS →
      x ≡ root_of (numbering {M = M} {g = g} S) S.numbers g.GREATEST_SIZE
  large_is_greatest w x e f =
      let h = some_word g.LARGE_SUBGROUP_ROOT_OF_UNITY w (sym S.words.large_is ∙ e) in
      let power : h.0 ≡ power_below 255 g.MODULUS g.GENERATOR ((g.MODULUS - 1) / greatest_size (adicity g)) =
      from_odd (adicity g).odd _ h.0 (sym S.numbers.large_is ∙ h.1) in
      power_is_root x h.0 (greatest_size (adicity g)) (constant_number x w h.0 f (sym h.2)) power
      ∙ ap (root_of (numbering {M = M} {g = g} S) S.numbers) (sym S.numbers.greatest_is)

  pub two_adic_is_greatest : (w : BigInteger256) (x : PrimeField256 M g) → g.LARGE_SUBGROUP_ROOT_WORDS ≡ None → w ≡ g.TWO_ADIC_ROOT_WORDS →
      number x ≡ integer w % g.MODULUS → x ≡ root_of (numbering {M = M} {g = g} S) S.numbers g.GREATEST_SIZE
  two_adic_is_greatest w x none e f =
      let no_large = no_word g.LARGE_SUBGROUP_ROOT_OF_UNITY (sym S.words.large_is ∙ none) in
      let none_odd = no_odd (adicity g).odd _ (sym S.numbers.large_is ∙ no_large) in
      power_is_root x g.TWO_ADIC_ROOT_OF_UNITY (2 ^ (adicity g).two) (constant_number x w g.TWO_ADIC_ROOT_OF_UNITY f (e ∙ S.words.two_adic_is)) S.numbers.two_adic_is
      ∙ ap (root_of (numbering {M = M} {g = g} S) S.numbers) (sym (S.numbers.greatest_is ∙ greatest_of_two (adicity g) none_odd))

  -- and of each other one
  pub root_of_part : (n : ℕ) → 0 < n → g.GREATEST_SIZE % n ≡ 0 →
      power (field_of {M = M} {g = g} S) (root_of (numbering {M = M} {g = g} S) S.numbers g.GREATEST_SIZE) (g.GREATEST_SIZE / n)
      ≡ root_of (numbering {M = M} {g = g} S) S.numbers n
  root_of_part n some e =
      let K = field_of {M = M} {g = g} S in
      let y = generator_of (numbering {M = M} {g = g} S) S.numbers in
      let divided : (g.MODULUS - 1) % g.GREATEST_SIZE ≡ 0 = ap (λ k. (g.MODULUS - 1) % k) S.numbers.greatest_is ∙ S.numbers.generator.sizes.divided in
      sym (power-mul K (residues_laws (numbering {M = M} {g = g} S) S.numbers.prime) y ((g.MODULUS - 1) / g.GREATEST_SIZE) (g.GREATEST_SIZE / n))
      ∙ ap (power K y) (part_of_part (g.MODULUS - 1) g.GREATEST_SIZE n some divided e)
