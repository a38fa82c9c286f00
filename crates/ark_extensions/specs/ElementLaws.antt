-- Why the elements of a quadratic extension are a field, and which of them are the field below.
use Rattle.std.proofs.Common.{◌≡◌, ℕ, zero, suc, ap, ap₂, ◌∙◌, refl, sym}
use Rattle.std.specs.Prelude.{Decides, Bool, true, false, ◌&&◌}
use Rattle.std.proofs.lemmas.Bool.{false≢true}
use Rattle.ark_math.specs.Field.{FieldOn, IsField, natural, power, IsFieldEmbedding}
use Rattle.ark_math.specs.Module.{IsModule}
use Rattle.ark_math.proofs.Algebra.Solve.{◌⊕◌, ◌⊗◌, nought, unit}
use Rattle.ark_math.proofs.Algebra.Ring.{ring1, ring2, ring3, ring4}
use Rattle.ark_math.proofs.Algebra.Groups.{pair_Decides, itself_is_module, paired_is_module, negated_unique}
use Rattle.ark_extensions.specs.Quadratics.{IsNonResidue, norm}
use Rattle.ark_extensions.specs.QuadraticLaws.{quadratic_laws, inverted, norm_not_zero, root_is_no_square}
use Rattle.ark_extensions.specs.Elements.{coefficients, element, embedded, extension, root, in_pairs, in_fours, four_coefficients, multiple}
use Rattle.ark_extensions.specs.declared.quadratic.Quadratic.{Quadratic}

pub same_element : {F M : Type 0} (x y : Quadratic F M) → coefficients x ≡ coefficients y → x ≡ y
same_element x y e = ap element e

-- an element by what its coefficients are
pub is_pair : {F M : Type 0} (x : Quadratic F M) {a b : F} → x.c0 ≡ a → x.c1 ≡ b → x ≡ element (a, b)
is_pair x e f = ap₂ (λ a b. element (a, b)) e f

pub pair_is : {F M : Type 0} {a b c d : F} → a ≡ c → b ≡ d → ◌≡◌ {A = Quadratic F M} (element (a, b)) (element (c, d))
pair_is e f = ap₂ (λ a b. element (a, b)) e f

pub equal_elements : {F M : Type 0} (eq : F → F → Bool) → ((a b : F) → Decides (eq a b) (a ≡ b)) → (x y : Quadratic F M) → Decides (eq x.c0 y.c0 && eq x.c1 y.c1) (x ≡ y)
equal_elements eq decides x y =
    let both = pair_Decides (decides x.c0 y.c0) (decides x.c1 y.c1) in
    (λ t. same_element x y (both.0 t), λ e. both.1 (ap coefficients e))

-- ---- as a module over the field below

pub both_are : {A B : Type 0} {a c : A} {b d : B} → a ≡ c → b ≡ d → ◌≡◌ {A = A × B} (a, b) (c, d)
both_are e f = ap₂ (λ x y. (x, y)) e f

pub pairs_are_module : {F : Type 0} (K : FieldOn F) → IsField K → IsModule K (in_pairs K)
pairs_are_module K L = paired_is_module (itself_is_module K L) (itself_is_module K L)

pub fours_are_module : {F : Type 0} (K : FieldOn F) → IsField K → IsModule K (in_fours K)
fours_are_module K L = paired_is_module (pairs_are_module K L) (pairs_are_module K L)

pub equal_fours : {F M N : Type 0} (eq : F → F → Bool) → ((a b : F) → Decides (eq a b) (a ≡ b)) → (x y : Quadratic (Quadratic F M) N)
    → Decides ((eq x.c0.c0 y.c0.c0 && eq x.c0.c1 y.c0.c1) && (eq x.c1.c0 y.c1.c0 && eq x.c1.c1 y.c1.c1)) (four_coefficients x ≡ four_coefficients y)
equal_fours eq decides x y =
    pair_Decides (pair_Decides (decides x.c0.c0 y.c0.c0) (decides x.c0.c1 y.c0.c1)) (pair_Decides (decides x.c1.c0 y.c1.c0) (decides x.c1.c1 y.c1.c1))

-- ---- embeddings one after the other

pub embedding_through : {F G H : Type 0} {K : FieldOn F} {E : FieldOn G} {T : FieldOn H} {f : F → G} {g : G → H} → IsFieldEmbedding K E f → IsFieldEmbedding E T g → IsFieldEmbedding K T (λ a. g (f a))
embedding_through {f = f} {g = g} first second = record {
  one_to_one = λ a b e. first.one_to_one a b (second.one_to_one (f a) (f b) e);
  zero_kept = ap g first.zero_kept ∙ second.zero_kept;
  one_kept = ap g first.one_kept ∙ second.one_kept;
  plus_kept = λ a b. ap g (first.plus_kept a b) ∙ second.plus_kept (f a) (f b);
  times_kept = λ a b. ap g (first.times_kept a b) ∙ second.times_kept (f a) (f b);
  negated_kept = λ a. ap g (first.negated_kept a) ∙ second.negated_kept (f a);
}

-- ---- as a field

negated_nought : {F : Type 0} (K : FieldOn F) → IsField K → K.zero ≡ K.negated K.zero
negated_nought K L = negated_unique (itself_is_module K L) K.zero K.zero (L.plus_zero K.zero)

module _ {F M : Type 0} (K : FieldOn F) (L : IsField K) (w : F) where
  abbrev E : FieldOn (Quadratic F M)
  E = extension K w

  pub extension_laws : IsNonResidue K w → IsField E
  extension_laws none =
      let Q = quadratic_laws K L w none in
      record {
        plus_assoc = λ x y z. ap element (Q.plus_assoc (coefficients x) (coefficients y) (coefficients z));
        plus_comm = λ x y. ap element (Q.plus_comm (coefficients x) (coefficients y));
        plus_zero = λ x. ap element (Q.plus_zero (coefficients x));
        plus_negated = λ x. ap element (Q.plus_negated (coefficients x));
        times_assoc = λ x y z. ap element (Q.times_assoc (coefficients x) (coefficients y) (coefficients z));
        times_comm = λ x y. ap element (Q.times_comm (coefficients x) (coefficients y));
        times_one = λ x. ap element (Q.times_one (coefficients x));
        times_plus = λ x y z. ap element (Q.times_plus (coefficients x) (coefficients y) (coefficients z));
        one_not_zero = λ e. Q.one_not_zero (ap coefficients e);
        inverts = λ x ne.
            let y = Q.inverts (coefficients x) (λ e. ne (same_element x E.zero e)) in
            (element y.0, ap element y.1);
      }

  pub root_no_square : IsNonResidue K w → (i : F) → K.times i i ≡ K.negated K.one → IsNonResidue E (root K)
  root_no_square none i minus_one x e = root_is_no_square K L w none i minus_one (coefficients x) (ap coefficients e)

  -- ---- the field below

  abbrev within : F → Quadratic F M
  within a = embedded K a

  abbrev element_of : F → F → Quadratic F M
  element_of a b = element (a, b)

  pub embedded_plus : (a b : F) → within (K.plus a b) ≡ E.plus (within a) (within b)
  embedded_plus a b = ap (element_of (K.plus a b)) (sym (L.plus_zero K.zero))

  pub embedded_negated : (a : F) → within (K.negated a) ≡ E.negated (within a)
  embedded_negated a = ap (element_of (K.negated a)) (negated_nought K L)

  pub embedded_times : (a b : F) → within (K.times a b) ≡ E.times (within a) (within b)
  embedded_times a b =
      ap₂ element_of
      (ring3 K L (λ w a b. (a ⊗ b, (a ⊗ b) ⊕ (w ⊗ (nought ⊗ nought)))) refl w a b)
      (ring2 K L (λ a b. (nought, (a ⊗ nought) ⊕ (nought ⊗ b))) refl a b)

  pub embedded_power : (a : F) (n : ℕ) → within (power K a n) ≡ power E (within a) n
  embedded_power a zero = refl
  embedded_power a (suc n) = embedded_times a (power K a n) ∙ ap (E.times (within a)) (embedded_power a n)

  pub embedded_natural : (n : ℕ) → within (natural K n) ≡ natural E n
  embedded_natural zero = refl
  embedded_natural (suc n) = embedded_plus (natural K n) K.one ∙ ap (λ t. E.plus t E.one) (embedded_natural n)

  pub natural_embedded : (n : ℕ) (r : Quadratic F M) → r ≡ within (natural K n) → r ≡ natural E n
  natural_embedded n r e = e ∙ embedded_natural n

  pub embedding : IsFieldEmbedding K E within
  embedding = record {
    one_to_one = λ a b e. ap (λ x. x.c0) e;
    zero_kept = refl;
    one_kept = refl;
    plus_kept = embedded_plus;
    times_kept = embedded_times;
    negated_kept = embedded_negated;
  }

  -- a product by an element of the field below
  pub multiple_is_product : (s : F) (x : Quadratic F M) → multiple K s x ≡ E.times (within s) x
  multiple_is_product s x =
      ap₂ element_of
      (ring4 K L (λ w s a b. (s ⊗ a, (s ⊗ a) ⊕ (w ⊗ (nought ⊗ b)))) refl w s x.c0 x.c1)
      (ring3 K L (λ s a b. (s ⊗ b, (s ⊗ b) ⊕ (nought ⊗ a))) refl s x.c0 x.c1)

  -- x * x is w
  pub square_of_root : E.times (root K) (root K) ≡ within w
  square_of_root =
      ap₂ element_of
      (ring1 K L (λ w. ((nought ⊗ nought) ⊕ (w ⊗ (unit ⊗ unit)), w)) refl w)
      (ring1 K L (λ w. ((nought ⊗ unit) ⊕ (unit ⊗ nought), nought)) refl w)

  -- ---- what the calls compute

  pub inverted_element : (x : Quadratic F M) (y : F) → K.times (norm K w (coefficients x)) y ≡ K.one → E.times x (element (K.times x.c0 y, K.negated (K.times x.c1 y))) ≡ E.one
  inverted_element x y e = ap element (inverted K L w (coefficients x) y e)

  -- only zero has the norm zero, where equality is decided
  pub zero_from_norm : IsNonResidue K w → (x : Quadratic F M) (b : Bool) → Decides b (x ≡ E.zero) → norm K w (coefficients x) ≡ K.zero → x ≡ E.zero
  zero_from_norm none x true decides z = decides.0 refl
  zero_from_norm none x false decides z =
      absurd (norm_not_zero K L w none (coefficients x) (λ e. false≢true (decides.1 (ap element e))) z)

  -- a product by x
  pub root_times : (x : Quadratic F M) → element (K.times w x.c1, x.c0) ≡ E.times (root K) x
  root_times x =
      ap₂ element_of
      (ring3 K L (λ w a b. (w ⊗ b, (nought ⊗ a) ⊕ (w ⊗ (unit ⊗ b)))) refl w x.c0 x.c1)
      (ring2 K L (λ a b. (a, (nought ⊗ b) ⊕ (unit ⊗ a))) refl x.c0 x.c1)
