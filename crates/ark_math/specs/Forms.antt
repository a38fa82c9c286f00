-- What all forms of polynomials share: the laws of what they denote.
use Rattle.std.specs.Prelude.{◌≡◌, ◌↔◌, ℕ}
use Rattle.ark_math.specs.Field.{FieldOn}
use Rattle.ark_math.specs.Module.{ModuleOn}

-- values of M that are polynomials: which have a sum, the degree of each, and the value of each at points of X
pub record IsPolynomials {F M X : Type 0} (K : FieldOn F) (V : ModuleOn F M) (addable : M → M → Type 0) (has_degree : M → ℕ → Type 0) (has_value : M → X → F → Type 0) : Type 0 where
  pub addable_zero : (a : M) → addable a V.zero
  pub addable_comm : (a b : M) → addable a b → addable b a
  pub addable_negated : (a b : M) → addable a b → addable a (V.negated b)
  pub addable_scale : (s : F) (a b : M) → addable a b → addable a (V.scale s b)
  pub plus_zero : (a : M) → V.plus a V.zero ≡ a
  pub plus_comm : (a b : M) → addable a b → V.plus a b ≡ V.plus b a
  pub plus_assoc : (a b c : M) → addable a b → addable b c → V.plus (V.plus a b) c ≡ V.plus a (V.plus b c)
  pub scale_plus : (s : F) (a b : M) → addable a b → V.scale s (V.plus a b) ≡ V.plus (V.scale s a) (V.scale s b)
  pub scale_zero : (s : F) → V.scale s V.zero ≡ V.zero
  pub plus_scale : (s t : F) (a : M) → V.scale (K.plus s t) a ≡ V.plus (V.scale s a) (V.scale t a)
  pub times_scale : (s t : F) (a : M) → V.scale (K.times s t) a ≡ V.scale s (V.scale t a)
  pub one_scale : (a : M) → V.scale K.one a ≡ a
  pub degree_zero : has_degree V.zero 0
  pub one_degree : (a : M) (d e : ℕ) → has_degree a d → has_degree a e → d ≡ e
  pub one_value : (a : M) (x : X) (y z : F) → has_value a x y → has_value a x z → y ≡ z
  pub value_plus : (a b : M) (x : X) (y z : F) → addable a b → has_value a x y → has_value b x z → has_value (V.plus a b) x (K.plus y z)
  pub value_negated : (a : M) (x : X) (y : F) → has_value a x y → has_value (V.negated a) x (K.negated y)
  pub value_scale : (s : F) (a : M) (x : X) (y : F) → has_value a x y → has_value (V.scale s a) x (K.times s y)

-- f takes the operations of V to those of W, and no two values to one
pub record IsEmbedding {F M N : Type 0} (V : ModuleOn F M) (W : ModuleOn F N) (f : M → N) : Type 0 where
  pub one_to_one : (a b : M) → f a ≡ f b → a ≡ b
  pub zero_kept : f V.zero ≡ W.zero
  pub plus_kept : (a b : M) → f (V.plus a b) ≡ W.plus (f a) (f b)
  pub negated_kept : (a : M) → f (V.negated a) ≡ W.negated (f a)
  pub scale_kept : (s : F) (a : M) → f (V.scale s a) ≡ W.scale s (f a)

-- what calls say of the meanings of values, said of what the values show
pub record IsShown {F M N S : Type 0} (V : ModuleOn F M) (W : ModuleOn F N) (meaning : S → M) (shown : S → N) : Type 0 where
  pub same : (p q : S) → (meaning p ≡ meaning q) ↔ (shown p ≡ shown q)
  pub zero : (p : S) → (meaning p ≡ V.zero) ↔ (shown p ≡ W.zero)
  pub sum : (p q r : S) → meaning r ≡ V.plus (meaning p) (meaning q) → shown r ≡ W.plus (shown p) (shown q)
  pub difference : (p q r : S) → meaning r ≡ V.plus (meaning p) (V.negated (meaning q)) → shown r ≡ W.plus (shown p) (W.negated (shown q))
  pub opposite : (p r : S) → meaning r ≡ V.negated (meaning p) → shown r ≡ W.negated (shown p)
  pub sum_with_multiple : (s : F) (p q r : S) → meaning r ≡ V.plus (meaning p) (V.scale s (meaning q)) → shown r ≡ W.plus (shown p) (W.scale s (shown q))
