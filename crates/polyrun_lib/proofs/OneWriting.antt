-- A command over a field writes at most one text, with one status.
use Rattle.std.proofs.Common.{◌≡◌, ◌≢◌, ◌⊎◌, ℕ, ◌-◌, ◌/◌, ◌%◌, ◌<◌, ◌==◌, List, [], ◌∷◌, ◌++◌, length, map, inl, inr, refl, sym, ap, ap₂, subst, ◌∙◌, mod-eq_of_lt, mod-lt, le_of_lt, arith}
use Rattle.std.proofs.lemmas.Bool.Decides.{Decides-eqb}
use mathlib.Core.Path.{fun_ext}
use Rattle.ark_math.specs.Field.{FieldOn, power}
use Rattle.ark_math.specs.Domain.{Kind, Domain, IsSize}
use Rattle.ark_math.specs.Univariate.{of_list, nothing, product, IsQuotient}
use Rattle.ark_math_transforms.proofs.Domains.Domains.{root_order, size_not_zero}
use Rattle.ark_math_transforms.proofs.Domains.GeneralSizes.{general_sizes, one_general_size}
use Rattle.ark_math_polynomials.proofs.Polynomials.Quotients.{one_quotient, zero_quotient}
use Rattle.ark_math_polynomials.proofs.Polynomials.Trimmed.{trim-same}
use Rattle.ark_math_polynomials.proofs.Polynomials.UnivariateLists.{same_trimmed}
use Rattle.ark_math_transforms.proofs.Transforms.Carried.{carried, power-carried, of_list-carried, product-carried, IsInverse-carried}
use Rattle.ark_math_transforms.proofs.Transforms.Inverses.{one_inverse}
use Rattle.ark_traits.specs.declared.error.PolyError.{PolyError}
use Rattle.ark_base.specs.ResiduesLaws.{number_of_residue}
use Rattle.polyrun_lib.specs.declared.command.Direction.{Direction}
use Rattle.polyrun_lib.specs.declared.command.Direction.TheVariants.{Forward, Inverse}
use Rattle.polyrun_lib.specs.Lines.{line_of, refusal_line_of}
use Rattle.polyrun_lib.specs.Commands.{Command, transform_of, product_of, division_of, value_of, extension_of, size_for}
use Rattle.ark_numbers.specs.Fields.{Known, operations, reduced}
use Rattle.ark_numbers.specs.Answers.{coefficients, domain_of, IsDomainFor, AreCoefficients, HasNoDomain}
use Rattle.polyrun_lib.specs.Answer.{IsTransformed, Gives, Refuses, Writes, HasAtMostOne}
use Rattle.ark_numbers.proofs.Values.{NumberField, shown_field, residue, IsOurs, field_laws, module_laws, number_carries, residue_carries, elements_of, values_of_elements}

-- ---- answers over any field

one_domain : (f : Known) (k h : ℕ) (d e : Domain ℕ) → IsDomainFor f k h d → IsDomainFor f k h e → e ≡ d
one_domain f k h d e a b =
    let same = one_general_size f.adicity k b.0 a.0 b.1 a.1 b.2 a.2 in
    b.4 ∙ ap₂ (λ kind n. domain_of f kind n h) same.0 same.1 ∙ sym a.4

one_refusal : (f : Known) (c : Command) (error other : PolyError) → Refuses f c error → Refuses f c other → other ≡ error
one_refusal f (transform_of direction k h xs) error other a b = b.1 ∙ sym a.1
one_refusal f (product_of xs ys) error other a b = b.1 ∙ sym a.1
one_refusal f (division_of xs ys) error other a b = b.1 ∙ sym a.1
one_refusal f (value_of xs x) error other a b = absurd a
one_refusal f (extension_of n xs x) error other a b = absurd a
one_refusal f (size_for k) error other a b = b.1 ∙ sym a.1

abbrev IsDivided : Known → List ℕ → List ℕ → List ℕ → List ℕ → Type 0
IsDivided f xs ys qs rs =
    ((xs ≡ []) × (qs ≡ []) × (rs ≡ []))
    ⊎ IsQuotient (operations f) (of_list (operations f) xs) (of_list (operations f) ys) (of_list (operations f) qs) (of_list (operations f) rs)

-- what has an answer isn't refused
not_both : (f : Known) (c : Command) (text : List ℕ) (error : PolyError) → Gives f c text → Refuses f c error → ⊥
not_both f (transform_of direction k h xs) text error gives refuses = by_cause refuses.0
  where
    by_cause : HasNoDomain f k h → ⊥
    by_cause (inl none) = none gives.2.0 gives.2.1 gives.2.2
    by_cause (inr zero) = gives.2.3 zero
not_both f (product_of xs ys) text error gives refuses = gives.2 refuses.0
not_both f (division_of xs ys) text error gives refuses = by_cases gives.2.0
  where
    by_cases : IsDivided f (coefficients f xs) (coefficients f ys) gives.0 gives.1 → ⊥
    by_cases (inl zero) = let none = ap length zero.0 in let some = refuses.0.0 in absurd (omega (arith, some, none))
    by_cases (inr Q) = Q.degree.1 (ap (λ l. of_list (operations f) l Q.degree.0) refuses.0.1)
not_both f (value_of xs x) text error gives refuses = refuses
not_both f (extension_of n xs x) text error gives refuses = refuses
not_both f (size_for k) text error gives refuses = refuses.0 gives.0 gives.1 gives.2

-- ---- answers over one field

module _ {F : Type 0} (S : NumberField F) where
  abbrev K : FieldOn F
  K = S.field

  abbrev L : FieldOn ℕ
  L = operations (shown_field S)

  abbrev number : F → ℕ
  number = S.numbering.number

  mod_twice : (v : ℕ) → v % S.modulus % S.modulus ≡ v % S.modulus
  mod_twice v = mod-eq_of_lt (mod-lt v (le_of_lt S.prime.above_one))

  -- reduced lists are told apart by their residues
  elements_tell : (ys zs : List ℕ) → reduced (shown_field S) ys ≡ ys → reduced (shown_field S) zs ≡ zs → elements_of S ys ≡ elements_of S zs → ys ≡ zs
  elements_tell ys zs a b e = sym a ∙ sym (values_of_elements S ys) ∙ ap (map number) e ∙ values_of_elements S zs ∙ b

  reduced_twice : (xs : List ℕ) → reduced (shown_field S) (reduced (shown_field S) xs) ≡ reduced (shown_field S) xs
  reduced_twice [] = refl
  reduced_twice (x ∷ xs) = ap₂ (λ y ys. y ∷ ys) (mod_twice x) (reduced_twice xs)

  -- what a list denotes, by residues
  abbrev residues : List ℕ → ℕ → F
  residues zs i = residue S (of_list L zs i)

  residues_value : (zs : List ℕ) → reduced (shown_field S) zs ≡ zs → (i : ℕ) → number (residues zs i) ≡ of_list L zs i
  residues_value zs e i =
      ap number (of_list-carried (residue_carries S) zs i) ∙ of_list-carried (number_carries S) (elements_of S zs) i
      ∙ ap (λ l. of_list L l i) (values_of_elements S zs ∙ e)

  residues_tell : (zs ws : List ℕ) → AreCoefficients (shown_field S) zs → AreCoefficients (shown_field S) ws → residues zs ≡ residues ws → zs ≡ ws
  residues_tell zs ws a b e =
      same_trimmed L zs ws a.0 b.0 (fun_ext (λ i. sym (residues_value zs a.1 i) ∙ ap (λ h. number (h i)) e ∙ residues_value ws b.1 i))

  -- ---- transforms

  lawful : (kind : Kind) (n h : ℕ) → IsSize S.adicity kind n → h % S.modulus ≢ 0 → IsOurs S (carried (residue S) (domain_of (shown_field S) kind n h))
  lawful kind n h is some =
      let k = (S.modulus - 1) / n in
      let below : S.generator < S.modulus = subst (λ v. v < S.modulus) S.first_is (S.numbering.below S.first) in
      let same : residue S S.generator ≡ S.first = S.numbering.same _ _ (number_of_residue S.numbering S.prime S.generator ∙ mod-eq_of_lt below ∙ sym S.first_is) in
      record {
        size_of = is;
        root_of = power-carried (residue_carries S) S.generator k ∙ ap (λ x. power K x k) same ∙ sym (S.root_is n);
        offset_not_zero = λ e. some (sym (mod_twice h) ∙ sym (number_of_residue S.numbering S.prime (h % S.modulus)) ∙ ap number e ∙ (number_carries S).zero_kept);
      }

  one_inverse_list : (kind : Kind) (n h : ℕ) (xs ys zs : List ℕ) → IsSize S.adicity kind n → h % S.modulus ≢ 0
      → IsTransformed (shown_field S) Inverse (domain_of (shown_field S) kind n h) xs ys → IsTransformed (shown_field S) Inverse (domain_of (shown_field S) kind n h) xs zs → ys ≡ zs
  one_inverse_list kind n h xs ys zs is some a b =
      let given = domain_of (shown_field S) kind n h in
      let d = carried (residue S) given in
      let ours = lawful kind n h is some in
      elements_tell ys zs a.1 b.1
      (one_inverse (field_laws S) (module_laws S) d (root_order K S.adicity S.root d S.roots ours) (size_not_zero K S.adicity S.root d S.roots ours) ours.offset_not_zero
      (elements_of S xs) (elements_of S ys) (elements_of S zs) (IsInverse-carried (residue_carries S) given xs ys a.0) (IsInverse-carried (residue_carries S) given xs zs b.0))

  one_transformed : (direction : Direction) (k h : ℕ) (d : Domain ℕ) (xs ys zs : List ℕ) → IsDomainFor (shown_field S) k h d → IsTransformed (shown_field S) direction d xs ys → IsTransformed (shown_field S) direction d xs zs → ys ≡ zs
  one_transformed Forward k h d xs ys zs is a b = a ∙ sym b
  one_transformed Inverse k h d xs ys zs is a b =
      let over = λ (l : List ℕ) (e : Domain ℕ). IsTransformed (shown_field S) Inverse e xs l in
      one_inverse_list is.0 is.1 h xs ys zs (general_sizes S.adicity k is.0 is.1 is.2).0 is.3 (subst (over ys) is.4 a) (subst (over zs) is.4 b)

  -- ---- quotients

  -- what the coefficients of a list denote
  coefficients_value : (ys : List ℕ) (i : ℕ) → number (residues (coefficients (shown_field S) ys) i) ≡ of_list L (coefficients (shown_field S) ys) i
  coefficients_value ys i =
      subst (λ a. number (residue S (a i)) ≡ a i) (sym (trim-same L (λ x. x == 0) (λ x. Decides-eqb x 0) (reduced (shown_field S) ys)))
      (residues_value (reduced (shown_field S) ys) (reduced_twice ys) i)

  quotient_residues : (xs ys qs rs : List ℕ) → IsQuotient L (of_list L xs) (of_list L (coefficients (shown_field S) ys)) (of_list L qs) (of_list L rs)
      → IsQuotient K (residues xs) (residues (coefficients (shown_field S) ys)) (residues qs) (residues rs)
  quotient_residues xs ys qs rs Q =
      let C = residue_carries S in
      let d = of_list L (coefficients (shown_field S) ys) in
      let k = Q.degree.0 in
      record {
        finite = (Q.finite.0, (λ i l. ap (residue S) (Q.finite.1 i l) ∙ C.zero_kept));
        whole = fun_ext (λ i. ap (λ a. residue S (a i)) Q.whole ∙ C.plus_kept (product L (of_list L qs) d i) (of_list L rs i) ∙ ap (λ t. K.plus t (residues rs i)) (product-carried C (of_list L qs) d i));
        degree = (k, (λ e. Q.degree.1 (sym (coefficients_value ys k) ∙ ap number e ∙ (number_carries S).zero_kept)), (λ i l. ap (residue S) (Q.degree.2 i l) ∙ C.zero_kept), (λ i l. ap (residue S) (Q.degree.3 i l) ∙ C.zero_kept));
      }

  no_residues : (zs : List ℕ) → zs ≡ [] → residues zs ≡ nothing K
  no_residues zs e = fun_ext (λ i. ap (λ l. residue S (of_list L l i)) e ∙ (residue_carries S).zero_kept)

  one_division : (xs ys qs rs ps ss : List ℕ) → IsDivided (shown_field S) xs (coefficients (shown_field S) ys) qs rs → IsDivided (shown_field S) xs (coefficients (shown_field S) ys) ps ss → (residues qs ≡ residues ps) × (residues rs ≡ residues ss)
  one_division xs ys qs rs ps ss (inl a) (inl b) = (no_residues qs a.1 ∙ sym (no_residues ps b.1), no_residues rs a.2 ∙ sym (no_residues ss b.2))
  one_division xs ys qs rs ps ss (inl a) (inr B) =
      let none = zero_quotient K (field_laws S) _ _ _ _ (no_residues xs a.0) (quotient_residues xs ys ps ss B) in
      (no_residues qs a.1 ∙ sym none.0, no_residues rs a.2 ∙ sym none.1)
  one_division xs ys qs rs ps ss (inr A) (inl b) =
      let none = zero_quotient K (field_laws S) _ _ _ _ (no_residues xs b.0) (quotient_residues xs ys qs rs A) in
      (none.0 ∙ sym (no_residues ps b.1), none.1 ∙ sym (no_residues ss b.2))
  one_division xs ys qs rs ps ss (inr A) (inr B) =
      one_quotient K (field_laws S) _ _ _ _ _ _ (quotient_residues xs ys qs rs A) (quotient_residues xs ys ps ss B)

  -- ---- any command

  one_gift : (c : Command) (text other : List ℕ) → Gives (shown_field S) c text → Gives (shown_field S) c other → other ≡ text
  one_gift (transform_of direction k h xs) text other a b =
      let f = shown_field S in
      let is = subst (λ d. IsTransformed f direction d (reduced f xs) b.1) (one_domain f k h a.0 b.0 a.2 b.2) b.3 in
      b.4 ∙ ap line_of (one_transformed direction k h a.0 (reduced f xs) b.1 a.1 a.2 is a.3) ∙ sym a.4
  one_gift (product_of xs ys) text other a b = b.3 ∙ ap line_of (same_trimmed L b.0 a.0 b.1.1.0 a.1.1.0 (b.1.0 ∙ sym a.1.0)) ∙ sym a.3
  one_gift (division_of xs ys) text other a b =
      let same = one_division (coefficients (shown_field S) xs) ys b.0 b.1 a.0 a.1 b.2.0 a.2.0 in
      b.3 ∙ ap₂ (λ qs rs. line_of qs ++ line_of rs) (residues_tell b.0 a.0 b.2.1 a.2.1 same.0) (residues_tell b.1 a.1 b.2.2 a.2.2 same.1) ∙ sym a.3
  one_gift (value_of xs x) text other a b = b ∙ sym a
  one_gift (extension_of n xs x) text other a b = b ∙ sym a
  one_gift (size_for k) text other a b =
      b.3 ∙ ap (λ n. line_of (n ∷ [])) (one_general_size S.adicity k b.0 a.0 b.1 a.1 b.2 a.2).1 ∙ sym a.3

  pub one_writing : (c : Command) → HasAtMostOne (Writes (shown_field S) c)
  one_writing c text other status ending (inl a) (inl b) = (one_gift c text other a.0 b.0, b.1 ∙ sym a.1)
  one_writing c text other status ending (inl a) (inr b) = absurd (not_both (shown_field S) c text b.0 a.0 b.1)
  one_writing c text other status ending (inr a) (inl b) = absurd (not_both (shown_field S) c other a.0 b.0 a.1)
  one_writing c text other status ending (inr a) (inr b) =
      (b.2 ∙ ap refusal_line_of (one_refusal (shown_field S) c a.0 b.0 a.1 b.1) ∙ sym a.2, b.3 ∙ sym a.3)
