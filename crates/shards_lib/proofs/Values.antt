-- The values of rows, lane by lane.
use Rattle.std.proofs.Common.{◌≡◌, ◌≢◌, ℕ, zero, suc, ◌+◌, ◌==◌, ◌<◌, ◌≤◌, cond, inl, inr, List, [], ◌∷◌, length, map, take, set, get_or, sym, ◌∙◌, ap, ap₂, refl, subst, arith, below_more, get_or-set_same, get_or-set_other}
use Rattle.std.proofs.lemmas.Bool.{cases_eq, eq-eqb, ne_eqb}
use Rattle.std.proofs.lemmas.List.{length-map, take-map, get_or-take}
use Rattle.ark_math.specs.Field.{FieldOn, IsField, power}
use Rattle.ark_math.specs.Module.{itself}
use Rattle.ark_math.specs.Domain.{Domain, element}
use Rattle.ark_math.specs.Transform.{transform}
use Rattle.ark_math.specs.Univariate.{IsBelow, of_list, value_below}
use Rattle.ark_math.proofs.Lists.Lists.{written_same, written_other}
use Rattle.ark_math.proofs.Algebra.Sums.{sum_below-same}
use Rattle.ark_math.proofs.Algebra.Groups.{one_times}
use Rattle.ark_math_polynomials.proofs.Polynomials.Univariate.{IsBelow-more}
use Rattle.ark_math_polynomials.proofs.Polynomials.UnivariateLists.{of_list-below}
use Rattle.ark_math_polynomials.proofs.Polynomials.UnivariateValues.{value_is}
use Rattle.ark_math_domains.proofs.OverDomains.PlaceValues.{transform-values, values-item}
use Rattle.ark_rows.specs.Lanewise.{lane, lanewise}
use Rattle.ark_rows.specs.Row.{lanes}
use Rattle.ark_rows.specs.declared.row.Row.{Row}
use Rattle.ark_rows.proofs.Lanes.{transform-lane}
use Rattle.rs_code.specs.Codeword.{IsCodeword}
use Rattle.shards_lib.specs.Numbers.{IsNumberDomain, place_element}
use Rattle.shards_lib.specs.Rows.{entry}

-- ---- entries

-- an item of a lane is an entry
lane_item : {F : Type 0} (z : F) (t : ℕ) (xs : List (ℕ → F)) (j : ℕ) → get_or (lane t xs) j z ≡ get_or xs j (λ i. z) t
lane_item z t [] j = refl
lane_item z t (x ∷ xs) zero = refl
lane_item z t (x ∷ xs) (suc j) = lane_item z t xs j

module _ {F : Type 0} {N : ℕ} (K : FieldOn F) where
  -- a loop that writes a row at place a
  pub places_written : (P : ℕ → ℕ → F) (places : List ℕ) (rows : List (Row F N)) (a count : ℕ) (row : Row F N) → get_or places a 0 < length rows
      → ((b : ℕ) → b < a → get_or places b 0 ≢ get_or places a 0)
      → ((b t : ℕ) → b < a → t < count → entry K rows (get_or places b 0) t ≡ P b t) → ((t : ℕ) → t < count → lanes K row t ≡ P a t)
      → (b t : ℕ) → b < a + 1 → t < count → entry K (set rows (get_or places a 0) row) (get_or places b 0) t ≡ P b t
  places_written P places rows a count row inside apart before here b t c l = below_more (λ b. entry K (set rows (get_or places a 0) row) (get_or places b 0) t ≡ P b t) a
      (λ b e. ap (λ f. f t) (written_other (lanes K) (λ i. K.zero) rows (get_or places a 0) (get_or places b 0) row (apart b e)) ∙ before b t e l)
      (ap (λ f. f t) (written_same (lanes K) (λ i. K.zero) rows (get_or places a 0) row inside) ∙ here t l) b c

-- ---- values

module _ {F : Type 0} (K : FieldOn F) (root : ℕ → F) (n : ℕ) (N : IsField K) (d : Domain F) (over : IsNumberDomain K root n d) where
  pub element_is : (i : ℕ) → element K d i ≡ place_element K root n i
  element_is i = ap₂ (λ o r. K.times o (power K r i)) over.offset (over.root_is ∙ ap root over.size) ∙ one_times K N _

  -- a lane of a codeword has the values of one polynomial
  pub lane_polynomial : (k : ℕ) → k ≤ d.size → (c : List (ℕ → F)) → IsCodeword K (lanewise (itself K)) d k c → (t : ℕ) → (a : ℕ → F) × IsBelow K k a × ((i : ℕ) → i < d.size → get_or c i (λ j. K.zero) t ≡ value_below K k a (place_element K root n i))
  lane_polynomial k fits c (m, short, is) t =
      let a = of_list K (lane t m) in
      let len : length (lane t m) ≤ k = subst (λ x. x ≤ k) (sym (length-map m (λ r. r t))) short in
      let below : IsBelow K k a = IsBelow-more K (length (lane t m)) k a len (of_list-below K (lane t m)) in (
        a,
        below,
        λ i l.
            ap (λ (x : List (ℕ → F)). get_or x i (λ j. K.zero) t) is
            ∙ sym (lane_item K.zero t (transform K (lanewise (itself K)) d m) i)
            ∙ ap (λ (x : List F). get_or x i K.zero) (transform-lane K (itself K) t d m)
            ∙ value_is K N k a (element K d i) _ below (values-item K N d a (transform K (itself K) d (lane t m)) (transform-values K N d (lane t m) (omega (arith, len, fits))) i l)
            ∙ ap (value_below K k a) (element_is i),
      )
