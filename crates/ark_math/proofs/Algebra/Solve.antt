-- Equations of sums and products, by a normal form of both sides.
use Rattle.std.proofs.Common.{◌≡◌, ℕ, zero, suc, Bool, true, false, ltb, List, [], ◌∷◌, get_or, sym, ◌∙◌, ap, refl}
use Rattle.ark_math.specs.Field.{FieldOn, IsField, power, natural}
use Rattle.ark_math.specs.Module.{ModuleOn, IsModule, itself}
use Rattle.ark_math.proofs.Algebra.Groups.{itself_is_module, scale_zero, cancel_left, one_times}
use Rattle.ark_math.proofs.Algebra.Signed.{Signed, total, add, negate, multiply, add_is, negate_is, multiply_is}

infixl 60 ◌⊕◌
infixl 60 ◌⊖◌
infixl 70 ◌⊗◌
infixr 70 ◌•◌
infixl 60 ◌⊞◌
infixl 60 ◌⊟◌
-- an expression for a value of the field
pub data Scalar : Type 0 where
  scalar_at : ℕ → Scalar
  nought : Scalar
  unit : Scalar
  ◌⊕◌ : Scalar → Scalar → Scalar
  ◌⊗◌ : Scalar → Scalar → Scalar
  negative : Scalar → Scalar
  number : ℕ → Scalar
  raised : Scalar → ℕ → Scalar

-- an expression for a value of a module
pub data Vector : Type 0 where
  vector_at : ℕ → Vector
  origin : Vector
  ◌⊞◌ : Vector → Vector → Vector
  opposite : Vector → Vector
  ◌•◌ : Scalar → Vector → Vector

abbrev pub ◌⊖◌ : Scalar → Scalar → Scalar
◌⊖◌ a b = a ⊕ negative b

abbrev pub ◌⊟◌ : Vector → Vector → Vector
◌⊟◌ a b = a ⊞ opposite b

abbrev pub scalar : {F : Type 0} → FieldOn F → List F → Scalar → F
scalar K env (scalar_at i) = get_or env i K.zero
scalar K env nought = K.zero
scalar K env unit = K.one
scalar K env (a ⊕ b) = K.plus (scalar K env a) (scalar K env b)
scalar K env (a ⊗ b) = K.times (scalar K env a) (scalar K env b)
scalar K env (negative a) = K.negated (scalar K env a)
scalar K env (number n) = natural K n
scalar K env (raised a n) = power K (scalar K env a) n

abbrev pub vector : {F M : Type 0} → FieldOn F → ModuleOn F M → List F → List M → Vector → M
vector K V env at (vector_at i) = get_or at i V.zero
vector K V env at origin = V.zero
vector K V env at (a ⊞ b) = V.plus (vector K V env at a) (vector K V env at b)
vector K V env at (opposite a) = V.negated (vector K V env at a)
vector K V env at (e • a) = V.scale (scalar K env e) (vector K V env at a)

-- a product's variables in order
abbrev pub put : Bool → ℕ → ℕ → List ℕ → List ℕ → List ℕ
put true i j m r = j ∷ r
put false i j m r = i ∷ (j ∷ m)

abbrev pub put_in : ℕ → List ℕ → List ℕ
put_in i [] = i ∷ []
put_in i (j ∷ m) = put (ltb j i) i j m (put_in i m)

abbrev pub merge : List ℕ → List ℕ → List ℕ
merge [] n = n
merge (i ∷ m) n = put_in i (merge m n)

-- a key of a module's value: its variable, and then the variables of the scalar
abbrev pub attach : List ℕ → List ℕ → List ℕ
attach m [] = []
attach m (v ∷ k) = v ∷ merge m k

abbrev pub ones : ℕ → List Signed
ones zero = []
ones (suc n) = (false, []) ∷ ones n

abbrev pub flat_power : List Signed → ℕ → List Signed
flat_power p zero = (false, []) ∷ []
flat_power p (suc n) = multiply merge p (flat_power p n)

abbrev pub flat : Scalar → List Signed
flat (scalar_at i) = (false, i ∷ []) ∷ []
flat nought = []
flat unit = (false, []) ∷ []
flat (a ⊕ b) = add (flat a) (flat b)
flat (a ⊗ b) = multiply merge (flat a) (flat b)
flat (negative a) = negate (flat a)
flat (number n) = ones n
flat (raised a n) = flat_power (flat a) n

abbrev pub flat_vector : Vector → List Signed
flat_vector (vector_at i) = (false, i ∷ []) ∷ []
flat_vector origin = []
flat_vector (a ⊞ b) = add (flat_vector a) (flat_vector b)
flat_vector (opposite a) = negate (flat_vector a)
flat_vector (e • a) = multiply attach (flat e) (flat_vector a)

abbrev mono : {F : Type 0} → FieldOn F → List F → List ℕ → F
mono K env [] = K.one
mono K env (i ∷ m) = K.times (get_or env i K.zero) (mono K env m)

abbrev keyed : {F M : Type 0} → FieldOn F → ModuleOn F M → List F → List M → List ℕ → M
keyed K V env at [] = V.zero
keyed K V env at (v ∷ m) = V.scale (mono K env m) (get_or at v V.zero)

module _ {F : Type 0} (K : FieldOn F) (N : IsField K) (env : List F) where
  put_is : (b : Bool) (i j : ℕ) (m r : List ℕ) → mono K env r ≡ K.times (get_or env i K.zero) (mono K env m) → mono K env (put b i j m r) ≡ K.times (get_or env i K.zero) (mono K env (j ∷ m))
  put_is false i j m r h = refl
  put_is true i j m r h =
      let x = get_or env i K.zero in
      let y = get_or env j K.zero in
      ap (K.times y) h ∙ (sym (N.times_assoc y x (mono K env m)) ∙ (ap (λ t. K.times t (mono K env m)) (N.times_comm y x) ∙ N.times_assoc x y (mono K env m)))

  put_in_is : (i : ℕ) (m : List ℕ) → mono K env (put_in i m) ≡ K.times (get_or env i K.zero) (mono K env m)
  put_in_is i [] = refl
  put_in_is i (j ∷ m) = put_is (ltb j i) i j m (put_in i m) (put_in_is i m)

  merge_is : (m n : List ℕ) → mono K env (merge m n) ≡ K.times (mono K env m) (mono K env n)
  merge_is [] n = sym (one_times K N (mono K env n))
  merge_is (i ∷ m) n = put_in_is i (merge m n) ∙ (ap (K.times (get_or env i K.zero)) (merge_is m n) ∙ sym (N.times_assoc (get_or env i K.zero) (mono K env m) (mono K env n)))

  ones_is : (n : ℕ) → total (itself K) (mono K env) (ones n) ≡ natural K n
  ones_is zero = refl
  ones_is (suc n) = ap (K.plus K.one) (ones_is n) ∙ N.plus_comm K.one (natural K n)

  flat_power_is : (p : List Signed) (n : ℕ) → total (itself K) (mono K env) (flat_power p n) ≡ power K (total (itself K) (mono K env) p) n
  flat_power_is p zero = N.plus_zero K.one
  flat_power_is p (suc n) =
      multiply_is N (itself_is_module K N) (mono K env) (mono K env) merge merge_is p (flat_power p n)
      ∙ ap (K.times (total (itself K) (mono K env) p)) (flat_power_is p n)

  flat_is : (e : Scalar) → total (itself K) (mono K env) (flat e) ≡ scalar K env e
  flat_is (scalar_at i) = N.plus_zero _ ∙ N.times_one _
  flat_is nought = refl
  flat_is unit = N.plus_zero _
  flat_is (a ⊕ b) = add_is (itself_is_module K N) (mono K env) (flat a) (flat b) ∙ (ap (λ t. K.plus t (total (itself K) (mono K env) (flat b))) (flat_is a) ∙ ap (K.plus (scalar K env a)) (flat_is b))
  flat_is (a ⊗ b) = multiply_is N (itself_is_module K N) (mono K env) (mono K env) merge merge_is (flat a) (flat b) ∙ (ap (λ t. K.times t (total (itself K) (mono K env) (flat b))) (flat_is a) ∙ ap (K.times (scalar K env a)) (flat_is b))
  flat_is (negative a) = negate_is (itself_is_module K N) (mono K env) (flat a) ∙ ap K.negated (flat_is a)
  flat_is (number n) = ones_is n
  flat_is (raised a n) = flat_power_is (flat a) n ∙ ap (λ t. power K t n) (flat_is a)

  pub solve : (a b : Scalar) → flat a ≡ flat b → scalar K env a ≡ scalar K env b
  solve a b h = sym (flat_is a) ∙ (ap (total (itself K) (mono K env)) h ∙ flat_is b)

  -- from l ≡ r, where a + r and b + l are the same
  pub solve_by : (a b l r : Scalar) → scalar K env l ≡ scalar K env r → flat (a ⊕ r) ≡ flat (b ⊕ l) → scalar K env a ≡ scalar K env b
  solve_by a b l r e h =
      let x = scalar K env r in
      cancel_left (itself_is_module K N) x (scalar K env a) (scalar K env b)
      (N.plus_comm x (scalar K env a) ∙ (solve (a ⊕ r) (b ⊕ l) h ∙ (ap (K.plus (scalar K env b)) e ∙ N.plus_comm (scalar K env b) x)))

module _ {F M : Type 0} {K : FieldOn F} {V : ModuleOn F M} (N : IsField K) (L : IsModule K V) (env : List F) (at : List M) where
  attach_is : (m k : List ℕ) → keyed K V env at (attach m k) ≡ V.scale (mono K env m) (keyed K V env at k)
  attach_is m [] = sym (scale_zero L (mono K env m))
  attach_is m (v ∷ k) = ap (λ t. V.scale t (get_or at v V.zero)) (merge_is K N env m k) ∙ L.times_scale (mono K env m) (mono K env k) (get_or at v V.zero)

  flat_vector_is : (e : Vector) → total V (keyed K V env at) (flat_vector e) ≡ vector K V env at e
  flat_vector_is (vector_at i) = L.plus_zero _ ∙ L.one_scale _
  flat_vector_is origin = refl
  flat_vector_is (a ⊞ b) = add_is L (keyed K V env at) (flat_vector a) (flat_vector b) ∙ (ap (λ t. V.plus t (total V (keyed K V env at) (flat_vector b))) (flat_vector_is a) ∙ ap (V.plus (vector K V env at a)) (flat_vector_is b))
  flat_vector_is (opposite a) = negate_is L (keyed K V env at) (flat_vector a) ∙ ap V.negated (flat_vector_is a)
  flat_vector_is (e • a) = multiply_is N L (mono K env) (keyed K V env at) attach attach_is (flat e) (flat_vector a) ∙ (ap (λ t. V.scale t (total V (keyed K V env at) (flat_vector a))) (flat_is K N env e) ∙ ap (V.scale (scalar K env e)) (flat_vector_is a))

  pub solve_vector : (a b : Vector) → flat_vector a ≡ flat_vector b → vector K V env at a ≡ vector K V env at b
  solve_vector a b h = sym (flat_vector_is a) ∙ (ap (total V (keyed K V env at)) h ∙ flat_vector_is b)

  pub solve_vector_by : (a b l r : Vector) → vector K V env at l ≡ vector K V env at r → flat_vector (a ⊞ r) ≡ flat_vector (b ⊞ l) → vector K V env at a ≡ vector K V env at b
  solve_vector_by a b l r e h =
      let x = vector K V env at r in
      cancel_left L x (vector K V env at a) (vector K V env at b)
      (L.plus_comm x (vector K V env at a) ∙ (solve_vector (a ⊞ r) (b ⊞ l) h ∙ (ap (V.plus (vector K V env at b)) e ∙ L.plus_comm (vector K V env at b) x)))
