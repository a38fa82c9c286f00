-- Which words are refused, and why.
use Rattle.std.specs.Prelude.{◌≡◌, ◌≢◌, ◌↔◌, ℕ, ◌+◌, ◌-◌, ◌<◌, List, Result, Err}
use Rattle.ark_math.specs.Field.{FieldOn}
use Rattle.ark_math.specs.Module.{ModuleOn}
use Rattle.rs_code.specs.Code.{CodeOver}
use Rattle.rs_code.specs.Codeword.{IsCodeword}
use Rattle.rs_code.specs.declared.error.RsError.{RsError}
use Rattle.rs_code.specs.declared.error.RsError.TheVariants.{WrongLength, TooManyErased, NoCodeword}

-- the result refuses a word with so many places, so many of them erased, where it must, and nowhere else; the lists that have
-- the word's values at its other places are those that agree with it
pub record RefusesRightly {F M X : Type 0} (K : FieldOn F) (V : ModuleOn F M) (c : CodeOver F) (places erased : ℕ) (Agrees : List M → Type 0)
    (result : Result X RsError) : Type 0 where
  pub wrong_length : (result ≡ Err WrongLength) ↔ (places ≢ c.domain.size)
  pub too_many_erased : (result ≡ Err TooManyErased) ↔ (places ≡ c.domain.size) × (c.domain.size - c.k < erased)
  -- no codeword agrees; where exactly n - k places are erased one does
  pub no_codeword : result ≡ Err NoCodeword → (other : List M) → IsCodeword K V c.domain c.k other → Agrees other → ⊥
  pub always : c.k + erased ≡ c.domain.size → result ≢ Err NoCodeword
