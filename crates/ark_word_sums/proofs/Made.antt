-- What a prover makes, as a proof of what the words claim.
use Rattle.std.proofs.Common.{◌≡◌, ℕ, ◌+◌, ◌*◌, ◌≤◌, List, [], ◌∷◌, length, map, refl, sym, ap, ap₂, subst, subst₂, ◌∙◌, arith}
use mathlib.Core.Path.{fun_ext}
use Rattle.ark_math.specs.Field.{FieldOn, natural, IsFieldEmbedding}
use Rattle.ark_math_formats.specs.Format.{Format, list, AreElements}
use Rattle.ark_numbers.proofs.Values.{NumberField}
use Rattle.ark_transcript.specs.Calls.{Call}
use Rattle.ark_sum_check.specs.Cube.{Product, SumOfProducts, cube_sum, sum_value}
use Rattle.ark_sum_check.specs.Embedded.{embedded_products, embedded_sum}
use Rattle.ark_sum_check.specs.Rounds.{AreAccepted, AreTrueRounds, Round, challenges, rounds_at}
use Rattle.ark_sum_check.specs.declared.verifier.Claim.{Claim}
use Rattle.ark_sum_check.proofs.Embeddings.{cube_sum_kept}
use Rattle.ark_sum_check.proofs.Verified.{challenges-rounds_at, length-rounds_at}
use Rattle.ark_fiat_shamir.specs.Derived.{AreDerived}
use Rattle.ark_fiat_shamir.specs.ProofBytes.{proof_format}
use Rattle.ark_fiat_shamir.specs.declared.proof.SumCheckProof.{SumCheckProof}
use Rattle.ark_words.specs.Numbers.{Spelled}
use Rattle.ark_word_sums.specs.Challenges.{Checked}
use Rattle.ark_word_sums.specs.Proofs.{IsProof, begun, claim_by, size_of_proof}
use Rattle.ark_word_sums.proofs.Bytes.{proof_length, sent_spelled, values_at}
use Rattle.ark_word_sums.proofs.Numbers.{by_number}

-- ---- numbers in place of elements

module _ {F E : Type 0} (S : NumberField F) (L : FieldOn E) (w : F → E) (embeds : IsFieldEmbedding S.field L w) where
  products_within : (ps : List (Product F)) → embedded_products w ps ≡ embedded_products (natural L) (embedded_products S.numbering.number ps)
  products_within [] = refl
  products_within (a ∷ ps) =
      ap₂ (λ c qs. record { coefficient = c; factors = a.factors } ∷ qs) (sym (by_number S L w embeds a.coefficient)) (products_within ps)

  -- a sum over the field below is by its numbers what it is by its elements
  pub sum_within : (s : SumOfProducts F) (t : SumOfProducts ℕ) → embedded_sum S.numbering.number s ≡ t → embedded_sum w s ≡ embedded_sum (natural L) t
  sum_within s t same =
      ap₂ (λ (ts : ℕ → ℕ → E) ps. record { tables = ts; addends = ps })
      (fun_ext (λ i. fun_ext (λ b. sym (by_number S L w embeds (s.tables i b)))))
      (products_within s.addends)
      ∙ ap (embedded_sum (natural L)) same

  -- and so is the sum over the cube
  pub total_within : (m : ℕ) (s : SumOfProducts F) (x : F) → x ≡ cube_sum S.field m s → cube_sum L m (embedded_sum w s) ≡ natural L (S.numbering.number x)
  total_within m s x is =
      sym (cube_sum_kept S.field L w embeds m s) ∙ ap w (sym is) ∙ sym (by_number S L w embeds x)

-- ---- rounds in bytes

-- a field of challenges, with the numbers of the coefficients
abbrev pub checked_by : {F E : Type 0} → Spelled → FieldOn E → Format E → ℕ → ℕ → (F → ℕ) → (E → List F) → Checked E
checked_by f L e size degree number coefficients =
    record { spelled = f; field = L; format = e; size = size; degree = degree; coefficients = λ x. map number (coefficients x) }

abbrev claim_at : {E : Type 0} → ℕ → ℕ → E → Claim E
claim_at m d y = record { num_vars = m; degree = d; sum = y }

module _ {E : Type 0} (c : Checked E) (m d : ℕ) (p : SumCheckProof E) (xs : List E) (rounds : length p.rounds.items ≡ m) (point : length xs ≡ m) (bytes : List ℕ) (spells : bytes ≡ (proof_format c.format).spelling p) where
  abbrev made : List (Round E)
  made = rounds_at p.rounds.items xs

  many : length xs ≤ length p.rounds.items
  many = omega (arith, rounds, point)

  spelled_values : bytes ≡ (list (list c.format)).spelling (map (λ r. r.values) made)
  spelled_values =
      spells ∙ sent_spelled c.format p ∙ ap (list (list c.format)).spelling (sym (values_at p.rounds.items xs (rounds ∙ sym point)))

  -- how many bytes
  pub made_length : (k : ℕ) (s : SumOfProducts E) → k ≡ d → AreElements c.format c.size → AreTrueRounds c.field k s made → length bytes ≡ size_of_proof c m d
  made_length k s degree A truth =
      ap length spelled_values ∙ proof_length c.field c.format c.size A k s made truth
      ∙ ap₂ (λ n j. 8 + n * (8 + (j + 1) * c.size)) (length-rounds_at p.rounds.items xs many ∙ point) degree

  -- a proof of the number n
  pub made_proof : (label statement : List ℕ) (n v k : ℕ) (y total : E) (s t : SumOfProducts E) (calls after : List Call)
      → v ≡ m → k ≡ d → y ≡ natural c.field n → total ≡ natural c.field n → s ≡ t → calls ≡ begun label statement
      → AreDerived c.field c.format c.size (claim_at v k y) calls made after → AreAccepted c.field k total made (sum_value c.field s xs)
      → (rs : List (Round E)) × IsProof c label statement (claim_by c m d n) bytes rs (sum_value c.field t (challenges rs))
  made_proof label statement n v k y total s t calls after variables degree claimed of_number same start derived accepted =
      let claim : claim_at v k y ≡ claim_by c m d n =
      ap (λ j. claim_at j k y) variables ∙ ap (λ j. claim_at m j y) degree ∙ ap (λ z. claim_at m d z) claimed in
      let value : sum_value c.field s xs ≡ sum_value c.field t (challenges made) =
      ap₂ (sum_value c.field) same (sym (challenges-rounds_at p.rounds.items xs many)) in (
        made,
        record {
          count = length-rounds_at p.rounds.items xs many ∙ point;
          spelled = spelled_values;
          after = after;
          derived = subst₂ (λ u us. AreDerived c.field c.format c.size u us made after) claim start derived;
          accepted = subst (λ z. AreAccepted c.field d (natural c.field n) made z) value
              (subst₂ (λ j z. AreAccepted c.field j z made (sum_value c.field s xs)) degree of_number accepted);
        },
      )
