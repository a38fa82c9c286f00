-- Words of the private steps: the polynomial that is zero at the erased places, and x times its derivative.
use Rattle.std.specs.Prelude.{◌≡◌, ℕ, zero, suc, ◌<◌, Bool, true, false, List, [], ◌∷◌, length, get_or}
use Rattle.ark_math.specs.Field.{FieldOn, natural, minus}
use Rattle.ark_math.specs.Module.{ModuleOn}
use Rattle.ark_math.specs.Domain.{Domain, element}
use Rattle.ark_math.specs.Univariate.{of_list}

-- the elements at the marked places, of which the first one is place i
abbrev pub lost_from : {F : Type 0} → FieldOn F → Domain F → ℕ → List Bool → List F
lost_from K d i [] = []
lost_from K d i (true ∷ marks) = element K d i ∷ lost_from K d (suc i) marks
lost_from K d i (false ∷ marks) = lost_from K d (suc i) marks

abbrev pub lost : {F : Type 0} → FieldOn F → Domain F → List Bool → List F
lost K d marks = lost_from K d 0 marks

-- the product of x - r for each r of a list
abbrev pub locator_at : {F : Type 0} → FieldOn F → List F → F → F
locator_at K [] x = K.one
locator_at K (r ∷ rs) x = K.times (minus K x r) (locator_at K rs x)

-- the value of its derivative
abbrev pub derivative_at : {F : Type 0} → FieldOn F → List F → F → F
derivative_at K [] x = K.zero
derivative_at K (r ∷ rs) x = K.plus (locator_at K rs x) (K.times (minus K x r) (derivative_at K rs x))

-- the coefficients of a polynomial over a module times x - r
abbrev pub by_factor : {F M : Type 0} → FieldOn F → ModuleOn F M → F → (ℕ → M) → ℕ → M
by_factor K V r a zero = V.scale (K.negated r) (a zero)
by_factor K V r a (suc i) = V.plus (a i) (V.scale (K.negated r) (a (suc i)))

-- times x - r for each r of a list
abbrev pub by_factors : {F M : Type 0} → FieldOn F → ModuleOn F M → List F → (ℕ → M) → ℕ → M
by_factors K V [] a = a
by_factors K V (r ∷ rs) a = by_factor K V r (by_factors K V rs a)

-- x times the formal derivative of a polynomial by its coefficients (Euler's operator)
abbrev pub euler : {F M : Type 0} → FieldOn F → ModuleOn F M → (ℕ → M) → ℕ → M
euler K V a i = V.scale (natural K i) (a i)

-- a factor for a place: the polynomial's value, or at a marked one the inverse of x times its derivative's
abbrev pub IsFactor : {F : Type 0} → FieldOn F → List F → F → Bool → F → Type 0
IsFactor K rs x true f = K.times f (K.times x (derivative_at K rs x)) ≡ K.one
IsFactor K rs x false f = f ≡ locator_at K rs x

-- one for each place
pub record AreFactors {F : Type 0} (K : FieldOn F) (d : Domain F) (marks : List Bool) (factors : List F) : Type 0 where
  pub len : length factors ≡ d.size
  pub each : (i : ℕ) → i < d.size → IsFactor K (lost K d marks) (element K d i) (get_or marks i true) (of_list K factors i)

-- what is interpolated: a value times its factor, and zero at a marked place
abbrev pub weighed : {F M : Type 0} → ModuleOn F M → Bool → F → M → M
weighed V true f y = V.zero
weighed V false f y = V.scale f y

-- the word's value as it is, and at a marked place z times the factor
abbrev pub filled : {F M : Type 0} → ModuleOn F M → Bool → F → M → M → M
filled V true f y z = V.scale f z
filled V false f y z = y
