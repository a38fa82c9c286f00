-- Refusals: that one is right, and one told in other words.
use Rattle.std.proofs.Common.{◌≡◌, ◌≢◌, ◌⊎◌, inl, inr, ℕ, ◌+◌, ◌≤◌, List, Result, Ok, Err, IfErr, refl, subst, subst₂, arith}
use Rattle.ark_math.specs.Field.{FieldOn}
use Rattle.ark_math.specs.Module.{ModuleOn}
use Rattle.rs_code.specs.Code.{CodeOver}
use Rattle.rs_code.specs.Codeword.{IsCodeword}
use Rattle.rs_code.specs.Refusals.{RefusesRightly}
use Rattle.rs_code.specs.declared.error.RsError.{RsError}
use Rattle.rs_code.specs.declared.error.RsError.TheVariants.{Memory, WrongLength, TooManyErased, NoCodeword}

module _ {F M X : Type 0} (K : FieldOn F) (V : ModuleOn F M) (r : Result X RsError) where
  -- of a word with values that no codeword has, where a place is to spare
  pub refused_values : (c : CodeOver F) (places erased : ℕ) (Agrees : List M → Type 0) → r ≡ Err NoCodeword → places ≡ c.domain.size → c.k + erased ≤ c.domain.size → c.k + erased ≢ c.domain.size →
      ((other : List M) → IsCodeword K V c.domain c.k other → Agrees other → ⊥) → RefusesRightly K V c places erased Agrees r
  refused_values c places erased Agrees is all few spare none = record {
    wrong_length = (λ (e : r ≡ Err WrongLength). cc, λ other. absurd (other all));
    too_many_erased = (λ (e : r ≡ Err TooManyErased). cc, λ many. absurd (omega (arith, few, many.1)));
    no_codeword = λ _. none;
    always = λ full _. spare full;
  }

  -- of the same code, and of the same number of erased places, where what agrees then agrees now
  pub refused_same : (c d : CodeOver F) (places more erased others : ℕ) (Agrees Same : List M → Type 0) → c ≡ d → places ≡ more → erased ≡ others →
      ((other : List M) → Same other → Agrees other) → RefusesRightly K V c places erased Agrees r → RefusesRightly K V d more others Same r
  refused_same c d places more erased others Agrees Same code places_are erased_are same h =
      let first : RefusesRightly K V c places erased Same r = record {
        wrong_length = h.wrong_length;
        too_many_erased = h.too_many_erased;
        no_codeword = λ e other is agrees. h.no_codeword e other is (same other agrees);
        always = h.always;
      } in
      subst (λ x. RefusesRightly K V x more others Same r) code (subst₂ (λ p e. RefusesRightly K V c p e Same r) places_are erased_are first)

-- that no other errors come
pub few_errors : {X : Type 0} (r : Result X RsError) → r ≢ Err TooManyErased → r ≢ Err NoCodeword → IfErr r (λ e. (e ≡ Memory) ⊎ (e ≡ WrongLength))
few_errors (Ok x) many none = tt
few_errors (Err Memory) many none = inl refl
few_errors (Err WrongLength) many none = inr refl
few_errors (Err TooManyErased) many none = absurd (many refl)
few_errors (Err NoCodeword) many none = absurd (none refl)
