-- What the program answers to the words of one command.
use Rattle.std.specs.Prelude.{◌≡◌, ℕ, ◌%◌, ◌⊎◌, List, [], ◌∷◌, ◌++◌, codes}
use Rattle.ark_math.specs.Module.{itself}
use Rattle.ark_math.specs.Domain.{Kind, Domain, HasNoSize}
use Rattle.ark_math.specs.Transform.{value_at}
use Rattle.ark_math.specs.Univariate.{of_list}
use Rattle.ark_math_variables.specs.Multilinear.{extension}
use Rattle.ark_traits.specs.declared.error.PolyError.{PolyError}
use Rattle.ark_traits.specs.declared.error.PolyError.TheVariants.{Memory, NoDomain, ZeroDivisor}
use Rattle.ark_numbers.specs.Fields.{Known, field_5, field_433, field_65537, babybear, koalabear, goldilocks, bls12_381, bn254, operations, reduced}
use Rattle.ark_numbers.specs.Answers.{coefficients, IsChosen, IsDomainFor, HasNoDomain, AreValues, AreInterpolated, AreProduct, HasNoProduct, AreQuotient, HasNoQuotient}
use Rattle.polyrun_lib.specs.declared.command.Direction.{Direction}
use Rattle.polyrun_lib.specs.declared.command.Direction.TheVariants.{Forward, Inverse}
use Rattle.polyrun_lib.specs.Commands.{Command, transform_of, product_of, division_of, value_of, extension_of, size_for, Reads}
use Rattle.polyrun_lib.specs.Lines.{line_of, refusal_line_of, usage_text}

-- ---- fields

abbrev pub Names : List ℕ → Known → Type 0
Names word f =
    ((word ≡ codes "5") × (f ≡ field_5))
    ⊎ ((word ≡ codes "433") × (f ≡ field_433))
    ⊎ ((word ≡ codes "65537") × (f ≡ field_65537))
    ⊎ ((word ≡ codes "babybear") × (f ≡ babybear))
    ⊎ ((word ≡ codes "koalabear") × (f ≡ koalabear))
    ⊎ ((word ≡ codes "goldilocks") × (f ≡ goldilocks))
    ⊎ ((word ≡ codes "bls12-381") × (f ≡ bls12_381))
    ⊎ ((word ≡ codes "bn254") × (f ≡ bn254))

-- ---- answers

-- the list that a transform gives, or the one of numbers below the modulus whose transform is given
abbrev pub IsTransformed : Known → Direction → Domain ℕ → List ℕ → List ℕ → Type 0
IsTransformed f Forward d xs ys = AreValues f d xs ys
IsTransformed f Inverse d xs ys = AreInterpolated f d xs ys

-- what a command writes where it has an answer
abbrev pub Gives : Known → Command → List ℕ → Type 0
Gives f (transform_of direction k h xs) text = (d : Domain ℕ) × (ys : List ℕ) × IsDomainFor f k h d
    × IsTransformed f direction d (reduced f xs) ys × (text ≡ line_of ys)
Gives f (product_of xs ys) text = (zs : List ℕ) × AreProduct f (coefficients f xs) (coefficients f ys) zs
    × (HasNoProduct f (coefficients f xs) (coefficients f ys) → ⊥) × (text ≡ line_of zs)
Gives f (division_of xs ys) text = (qs : List ℕ) × (rs : List ℕ) × AreQuotient f (coefficients f xs) (coefficients f ys) qs rs
    × (text ≡ line_of qs ++ line_of rs)
Gives f (value_of xs x) text = text ≡ line_of (value_at (operations f) (itself (operations f)) (reduced f xs) (x % f.modulus) ∷ [])
Gives f (extension_of n xs x) text = text ≡ line_of (extension (operations f) (of_list (operations f) (reduced f xs)) (reduced f x) ∷ [])
Gives f (size_for k) text = (kind : Kind) × (n : ℕ) × IsChosen f.adicity k kind n × (text ≡ line_of (n ∷ []))

-- the error that a command comes to where it has no answer
abbrev pub Refuses : Known → Command → PolyError → Type 0
Refuses f (transform_of direction k h xs) error = HasNoDomain f k h × (error ≡ NoDomain)
Refuses f (product_of xs ys) error = HasNoProduct f (coefficients f xs) (coefficients f ys) × (error ≡ NoDomain)
Refuses f (division_of xs ys) error = HasNoQuotient (coefficients f xs) (coefficients f ys) × (error ≡ ZeroDivisor)
Refuses f (value_of xs x) error = ⊥
Refuses f (extension_of n xs x) error = ⊥
Refuses f (size_for k) error = HasNoSize (IsChosen f.adicity) k × (error ≡ NoDomain)

-- a command for which want of memory may be reported: one that has an answer, and any product and any division, whose
-- lists are read before it is known whether there is an answer
abbrev pub TakesMemory : Known → Command → Type 0
TakesMemory f c = ((text : List ℕ) × Gives f c text) ⊎ ((xs : List ℕ) × (ys : List ℕ) × ((c ≡ product_of xs ys) ⊎ (c ≡ division_of xs ys)))

abbrev pub Writes : Known → Command → List ℕ → ℕ → Type 0
Writes f c text status = (Gives f c text × (status ≡ 0)) ⊎ ((error : PolyError) × Refuses f c error × (text ≡ refusal_line_of error) × (status ≡ 1))

-- the words are a field and a command
abbrev pub IsCommand : List (List ℕ) → Known → Command → Type 0
IsCommand words f c = (word : List ℕ) × (rest : List (List ℕ)) × (words ≡ word ∷ rest) × Names word f × Reads rest c

-- the answer to words that don't ask for `vectors`: usage where they are no command
abbrev pub IsPlainAnswer : List (List ℕ) → List ℕ → ℕ → Type 0
IsPlainAnswer words text status =
    ((f : Known) × (c : Command) × IsCommand words f c × Writes f c text status)
    ⊎ (((f : Known) (c : Command) → IsCommand words f c → ⊥) × (text ≡ usage_text) × (status ≡ 2))

-- the answer, or want of memory in its place
abbrev pub MayAnswer : List (List ℕ) → List ℕ → ℕ → Type 0
MayAnswer words text status =
    IsPlainAnswer words text status
    ⊎ (((f : Known) × (c : Command) × IsCommand words f c × TakesMemory f c) × (text ≡ refusal_line_of Memory) × (status ≡ 1))

-- no two texts or statuses are P
abbrev pub HasAtMostOne : (List ℕ → ℕ → Type 0) → Type 0
HasAtMostOne P = (text other : List ℕ) (status ending : ℕ) → P text status → P other ending → (other ≡ text) × (ending ≡ status)
