-- The layouts of polynomials in one variable, of domains of either kind and of values over a domain, over the format e of
-- their field's elements.
use Rattle.std.specs.Prelude.{◌⊎◌, ℕ, List}
use Rattle.ark_math.specs.Field.{FieldOn}
use Rattle.ark_math.specs.Univariate.{IsTrimmed, IsSparse}
use Rattle.ark_math_formats.specs.Format.{Format, word, ◌⊗◌, list, lawful, stored, either}

-- coefficients, the last one not zero
abbrev pub dense : {F : Type 0} → FieldOn F → Format F → Format (List F)
dense K e = lawful (list e) (λ cs. cs) (IsTrimmed K)

-- pairs (degree, coefficient), degrees rising, no coefficient zero
abbrev pub sparse : {F : Type 0} → FieldOn F → Format F → Format (List (ℕ × F))
sparse K e = lawful (list (word ⊗ e)) (λ ps. ps) (IsSparse K)

-- 0 for a radix 2 domain, 1 for a mixed one, and then that domain
abbrev pub general_domain : {A B D : Type 0} → Format A → Format B → (D → A ⊎ B) → Format D
general_domain radix2 mixed kind = stored (either radix2 mixed) kind

-- values, and their domain, of as many elements
abbrev pub evaluations : {F D V : Type 0} → Format F → Format D → (V → List F × D) → (V → Type 0) → Format V
evaluations e d fields AreAsMany = lawful (list e ⊗ d) fields AreAsMany
