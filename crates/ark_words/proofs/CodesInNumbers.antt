-- The codewords of a code, in plain numbers: those over a domain of n elements with offset 1.
use Rattle.std.proofs.Common.{◌≡◌, ◌≤◌, ℕ, List, [], ◌∷◌, length, map, take, refl, sym, ap, ap₂, subst, ◌∙◌, arith, mod-eq_of_lt}
use Rattle.std.proofs.lemmas.List.{length-map, take-map}
use Rattle.ark_math.specs.Module.{ModuleOn, IsItself, itself, item}
use Rattle.ark_math.specs.Domain.{Domain, IsDomain}
use Rattle.ark_math.specs.Transform.{transform, fit}
use Rattle.ark_math_domains.proofs.Callers.Transforms.{same_from_meanings, transform-length, transform-meanings}
use Rattle.ark_math.proofs.Lists.Lists.{same_from_map}
use Rattle.ark_math.proofs.Lists.Tabulated.{length-tabulate}
use Rattle.ark_math_transforms.proofs.Transforms.Carried.{same_carries, meaning_linear, transform-linear, transform-carried}
use Rattle.ark_numbers.specs.Fields.{Known, operations}
use Rattle.ark_numbers.specs.Answers.{coset_of, AreValues}
use Rattle.ark_numbers.proofs.Values.{NumberField, shown_field, field_laws, module_laws, number_carries, domain_carried, elements_of, residue}
use Rattle.rs_code.specs.Codeword.{IsCodeword as IsOverCode}
use Rattle.rs_code.proofs.Messages.{transform-fitted}
use Rattle.ark_words.specs.Codes.{IsCodeword, IsSystematic}
use Rattle.ark_words.proofs.Interpolated.{numbers_back}
use Rattle.ark_words.proofs.WordLists.{numbers_below}

-- the domain of n elements with offset 1
pub record IsSubgroup {F : Type 0} (S : NumberField F) (n : ℕ) (d : Domain F) : Type 0 where
  pub lawful : IsDomain S.field S.adicity S.root d
  pub offset : d.offset ≡ S.field.one
  pub size : d.size ≡ n

module _ {F M : Type 0} (S : NumberField F) (V : ModuleOn F M) (meaning : F → M) (own : IsItself S.field V meaning)
    (over : Domain F) (n : ℕ) (D : IsSubgroup S n over) where
  abbrev f : Known
  f = shown_field S

  abbrev number : F → ℕ
  number = S.numbering.number

  -- values over the domain are those over the domain of n elements
  pub transform_numbers : (xs : List F) → map number (transform S.field (itself S.field) over xs) ≡ transform (operations f) (itself (operations f)) (coset_of f n 1) (map number xs)
  transform_numbers xs =
      let L = operations f in
      let one = ap number D.offset ∙ (number_carries S).one_kept ∙ sym (mod-eq_of_lt S.prime.above_one) in
      transform-carried (number_carries S) over xs ∙ ap (λ e. transform L (itself L) e (map number xs)) (domain_carried S over 1 D.lawful one)
      ∙ ap (λ m. transform L (itself L) (coset_of f m 1) (map number xs)) D.size

  pub values_numbers : (xs c : List F) → c ≡ transform S.field (itself S.field) over xs → AreValues f (coset_of f n 1) (map number xs) (map number c)
  values_numbers xs c e = ap (map number) e ∙ transform_numbers xs

  -- every meaning is some element's
  abbrev preimages : List M → List F
  preimages m = map (λ y. (own.onto y).0) m

  meanings_back : (m : List M) → map meaning (preimages m) ≡ m
  meanings_back [] = refl
  meanings_back (y ∷ m) = ap₂ (λ z zs. z ∷ zs) (own.onto y).1 (meanings_back m)

  pub codeword_numbers : (k : ℕ) (c : List F) → IsOverCode S.field V over k (map meaning c) → IsCodeword f n k (map number c)
  codeword_numbers k c w =
      let K = S.field in
      let xs = preimages w.0 in
      let short : length xs ≤ k = omega (arith, length-map w.0 (λ y. (own.onto y).0), w.1) in
      let whole = fit (itself K) xs k in
      let plain = transform-meanings K V own over xs c (w.2 ∙ ap (transform K V over) (sym (meanings_back w.0))) in (
        map number whole,
        (length-map whole number ∙ length-tabulate k (item (itself K) xs), numbers_below S.numbering whole),
        values_numbers whole c (plain ∙ sym (transform-fitted (field_laws S) (module_laws S) over k xs short)),
      )

  -- a codeword in numbers is one of elements
  pub codeword_elements : (k : ℕ) (other : List ℕ) → IsCodeword f n k other → (ys : List F) × (map number ys ≡ other) × IsOverCode S.field V over k (map meaning ys)
  codeword_elements k other w =
      let K = S.field in
      let L = operations f in
      let xs = elements_of S w.0 in (
        transform K (itself K) over xs,
        transform_numbers xs ∙ ap (transform L (itself L) (coset_of f n 1)) (numbers_back S w.0 w.1.1) ∙ sym w.2,
        (map meaning xs, omega (arith, length-map xs meaning, length-map w.0 (residue S), w.1.0), transform-linear (same_carries K) (meaning_linear own) over xs),
      )

  pub codeword_length : (k : ℕ) (c : List F) → IsOverCode S.field V over k (map meaning c) → length c ≡ n
  codeword_length k c w = sym (length-map c meaning) ∙ ap length w.2 ∙ transform-length S.field V over w.0 ∙ D.size

  -- what `encode_systematic` gives
  pub systematic_numbers : (m c : List F) → IsOverCode S.field V over (length m) (map meaning c) → take (length m) (map meaning c) ≡ map meaning m
      → ((other : List M) → IsOverCode S.field V over (length m) other → take (length m) other ≡ map meaning m → other ≡ map meaning c)
      → IsSystematic f n (map number m) (map number c)
  systematic_numbers m c codeword begins only =
      let k = length m in
      let long : length (map number m) ≡ k = length-map m number in
      let first : take k c ≡ m = same_from_meanings S.field V own (take k c) m (sym (take-map meaning k c) ∙ begins) in
      record {
        codeword = subst (λ j. IsCodeword f n j (map number c)) (sym long) (codeword_numbers k c codeword);
        begins = ap (λ j. take j (map number c)) long ∙ take-map number k c ∙ ap (map number) first;
        only = λ other w same.
            let found = codeword_elements k other (subst (λ j. IsCodeword f n j other) long w) in
            let there : map number (take k found.0) ≡ map number m = sym (take-map number k found.0) ∙ ap (take k) found.1 ∙ ap (λ j. take j other) (sym long) ∙ same in
            let same_first = same_from_map number S.numbering.same (take k found.0) m there in
            let is = only (map meaning found.0) found.2 (take-map meaning k found.0 ∙ ap (map meaning) same_first) in
            sym found.1 ∙ ap (map number) (same_from_meanings S.field V own found.0 c is);
      }
