-- The laws of a module that follow from its definition.
use Rattle.std.proofs.Common.{◌≡◌, Bool, ◌&&◌, Decides, sym, ◌∙◌, ap, ap₂, refl}
use Rattle.std.proofs.lemmas.Bool.Decides.{Decides-and}
use Rattle.ark_math.specs.Field.{FieldOn, IsField}
use Rattle.ark_math.specs.Forms.{IsEmbedding}
use Rattle.ark_math.specs.Module.{ModuleOn, IsModule, itself, paired}

-- a field is a module over itself
pub itself_is_module : {F : Type 0} (K : FieldOn F) → IsField K → IsModule K (itself K)
itself_is_module K L = record {
  plus_assoc = L.plus_assoc;
  plus_comm = L.plus_comm;
  plus_zero = L.plus_zero;
  plus_negated = L.plus_negated;
  scale_plus = L.times_plus;
  plus_scale = λ a b x. L.times_comm (K.plus a b) x ∙ (L.times_plus x a b ∙ (ap (λ t. K.plus t (K.times x b)) (L.times_comm x a) ∙ ap (K.plus (K.times a x)) (L.times_comm x b)));
  times_scale = L.times_assoc;
  one_scale = λ x. L.times_comm K.one x ∙ L.times_one x;
}

-- pairs of the values of two modules are a module
pub paired_is_module : {F M N : Type 0} {K : FieldOn F} {V : ModuleOn F M} {W : ModuleOn F N} → IsModule K V → IsModule K W → IsModule K (paired V W)
paired_is_module L R = record {
  plus_assoc = λ x y z. ap₂ (λ a b. (a, b)) (L.plus_assoc x.0 y.0 z.0) (R.plus_assoc x.1 y.1 z.1);
  plus_comm = λ x y. ap₂ (λ a b. (a, b)) (L.plus_comm x.0 y.0) (R.plus_comm x.1 y.1);
  plus_zero = λ x. ap₂ (λ a b. (a, b)) (L.plus_zero x.0) (R.plus_zero x.1);
  plus_negated = λ x. ap₂ (λ a b. (a, b)) (L.plus_negated x.0) (R.plus_negated x.1);
  scale_plus = λ a x y. ap₂ (λ a b. (a, b)) (L.scale_plus a x.0 y.0) (R.scale_plus a x.1 y.1);
  plus_scale = λ a b x. ap₂ (λ a b. (a, b)) (L.plus_scale a b x.0) (R.plus_scale a b x.1);
  times_scale = λ a b x. ap₂ (λ a b. (a, b)) (L.times_scale a b x.0) (R.times_scale a b x.1);
  one_scale = λ x. ap₂ (λ a b. (a, b)) (L.one_scale x.0) (R.one_scale x.1);
}

pub pair_Decides : {M N : Type 0} {a c : M} {b d : N} {s t : Bool} → Decides s (a ≡ c) → Decides t (b ≡ d) → Decides (s && t) (◌≡◌ {A = M × N} (a, b) (c, d))
pair_Decides {s = s} {t = t} left right =
    let both = Decides-and s t left right in
    (λ h. let e = both.0 h in ap₂ (λ x y. (x, y)) e.0 e.1, λ e. both.1 (ap (λ p. p.0) e, ap (λ p. p.1) e))

module _ {F M : Type 0} {K : FieldOn F} {V : ModuleOn F M} (L : IsModule K V) where
  pub zero_plus : (x : M) → V.plus V.zero x ≡ x
  zero_plus x = L.plus_comm V.zero x ∙ L.plus_zero x

  pub negated_plus : (x : M) → V.plus (V.negated x) x ≡ V.zero
  negated_plus x = L.plus_comm (V.negated x) x ∙ L.plus_negated x

  cancelled : (x a : M) → V.plus (V.negated x) (V.plus x a) ≡ a
  cancelled x a = sym (L.plus_assoc (V.negated x) x a) ∙ (ap (λ t. V.plus t a) (negated_plus x) ∙ zero_plus a)

  pub cancel_left : (x a b : M) → V.plus x a ≡ V.plus x b → a ≡ b
  cancel_left x a b h = sym (cancelled x a) ∙ (ap (V.plus (V.negated x)) h ∙ cancelled x b)

  pub negated_unique : (x a : M) → V.plus x a ≡ V.zero → a ≡ V.negated x
  negated_unique x a h = cancel_left x a (V.negated x) (h ∙ sym (L.plus_negated x))

  pub minus_zero : (x : M) → V.plus x (V.negated V.zero) ≡ x
  minus_zero x = ap (V.plus x) (sym (negated_unique V.zero V.zero (L.plus_zero V.zero))) ∙ L.plus_zero x

  zero_unique : (a : M) → V.plus a a ≡ a → a ≡ V.zero
  zero_unique a h = cancel_left a a V.zero (h ∙ sym (L.plus_zero a))

  pub plus_swap : (a b c d : M) → V.plus (V.plus a b) (V.plus c d) ≡ V.plus (V.plus a c) (V.plus b d)
  plus_swap a b c d =
      L.plus_assoc a b (V.plus c d)
      ∙ (ap (V.plus a) (sym (L.plus_assoc b c d) ∙ (ap (λ t. V.plus t d) (L.plus_comm b c) ∙ L.plus_assoc c b d))
      ∙ sym (L.plus_assoc a c (V.plus b d)))

  pub scale_zero : (a : F) → V.scale a V.zero ≡ V.zero
  scale_zero a = zero_unique (V.scale a V.zero) (sym (L.scale_plus a V.zero V.zero) ∙ ap (V.scale a) (L.plus_zero V.zero))

pub one_times : {F : Type 0} (K : FieldOn F) → IsField K → (x : F) → K.times K.one x ≡ x
one_times K L x = L.times_comm K.one x ∙ L.times_one x

module _ {F M : Type 0} {K : FieldOn F} {V : ModuleOn F M} (N : IsField K) (L : IsModule K V) where
  pub zero_scale : (x : M) → V.scale K.zero x ≡ V.zero
  zero_scale x = zero_unique L (V.scale K.zero x) (sym (L.plus_scale K.zero K.zero x) ∙ ap (λ t. V.scale t x) (N.plus_zero K.zero))

-- the identity is an embedding
pub identity_embeds : {F M : Type 0} (V : ModuleOn F M) → IsEmbedding V V (λ a. a)
identity_embeds V = record { one_to_one = λ a b e. e; zero_kept = refl; plus_kept = λ a b. refl; negated_kept = λ a. refl; scale_kept = λ s a. refl }
