-- Why F[x] / (x * x - w) is a field where w is no square, and why then x is no square in it, if minus one is one.
use Rattle.std.proofs.Common.{◌≡◌, ◌≢◌, refl, sym, ap, ap₂, ◌∙◌}
use Rattle.ark_math.specs.Field.{FieldOn, IsField, minus}
use Rattle.ark_math.proofs.Algebra.Solve.{◌⊕◌, ◌⊖◌, ◌⊗◌, nought, unit, negative}
use Rattle.ark_math.proofs.Algebra.Ring.{ring1, ring2, ring3, ring4, ring5, ring6, ring7}
use Rattle.ark_extensions.specs.Quadratics.{IsNonResidue, quadratic, norm}

module _ {F : Type 0} (K : FieldOn F) (L : IsField K) (w : F) where
  abbrev Q : FieldOn (F × F)
  Q = quadratic K w

  same_pair : {a b c d : F} → a ≡ c → b ≡ d → ◌≡◌ {A = F × F} (a, b) (c, d)
  same_pair e f = ap₂ (λ x y. (x, y)) e f

  -- a number is zero with its square
  square_zero : (a : F) → K.times a a ≡ K.zero → a ≢ K.zero → ⊥
  square_zero a e ne =
      let y = L.inverts a ne in
      L.one_not_zero
      (sym (L.times_one K.one) ∙ ap₂ K.times (sym y.1) (sym y.1)
      ∙ ring2 K L (λ a y. ((a ⊗ y) ⊗ (a ⊗ y), (a ⊗ a) ⊗ (y ⊗ y))) refl a y.0
      ∙ ap (λ t. K.times t (K.times y.0 y.0)) e
      ∙ ring1 K L (λ y. (nought ⊗ (y ⊗ y), nought)) refl y.0)

  -- the inverse, by the inverse of the norm
  pub inverted : (a : F × F) (y : F) → K.times (norm K w a) y ≡ K.one → Q.times a (K.times a.0 y, K.negated (K.times a.1 y)) ≡ Q.one
  inverted a y e =
      same_pair
      (ring4 K L (λ w a b y. ((a ⊗ (a ⊗ y)) ⊕ (w ⊗ (b ⊗ negative (b ⊗ y))), ((a ⊗ a) ⊖ (w ⊗ (b ⊗ b))) ⊗ y)) refl w a.0 a.1 y ∙ e)
      (ring3 K L (λ a b y. ((a ⊗ negative (b ⊗ y)) ⊕ (b ⊗ (a ⊗ y)), nought)) refl a.0 a.1 y)

  pub norm_of_zero : norm K w Q.zero ≡ K.zero
  norm_of_zero = ring1 K L (λ w. ((nought ⊗ nought) ⊖ (w ⊗ (nought ⊗ nought)), nought)) refl w

  -- the middle coefficient of a product, by Karatsuba's three products
  pub karatsuba : (a b c d : F) → minus K (minus K (K.times (K.plus a b) (K.plus c d)) (K.times a c)) (K.times b d) ≡ K.plus (K.times a d) (K.times b c)
  karatsuba a b c d = ring4 K L (λ a b c d. ((((a ⊕ b) ⊗ (c ⊕ d)) ⊖ (a ⊗ c)) ⊖ (b ⊗ d), (a ⊗ d) ⊕ (b ⊗ c))) refl a b c d

  module _ (none : IsNonResidue K w) where
    -- a square is no other one times w
    no_ratio : (a b : F) → K.times a a ≡ K.times w (K.times b b) → b ≢ K.zero → ⊥
    no_ratio a b e ne =
        let y = L.inverts b ne in
        none (K.times a y.0)
        (ring2 K L (λ a y. ((a ⊗ y) ⊗ (a ⊗ y), (a ⊗ a) ⊗ (y ⊗ y))) refl a y.0
        ∙ ap (λ t. K.times t (K.times y.0 y.0)) e
        ∙ ring3 K L (λ w b y. ((w ⊗ (b ⊗ b)) ⊗ (y ⊗ y), w ⊗ ((b ⊗ y) ⊗ (b ⊗ y)))) refl w b y.0
        ∙ ap (λ t. K.times w (K.times t t)) y.1
        ∙ ring1 K L (λ w. (w ⊗ (unit ⊗ unit), w)) refl w)

    same_squares : (a : F × F) → norm K w a ≡ K.zero → K.times a.0 a.0 ≡ K.times w (K.times a.1 a.1)
    same_squares a z =
        ring2 K L (λ s t. (s, (s ⊖ t) ⊕ t)) refl (K.times a.0 a.0) (K.times w (K.times a.1 a.1))
        ∙ ap (λ t. K.plus t (K.times w (K.times a.1 a.1))) z
        ∙ ring1 K L (λ t. (nought ⊕ t, t)) refl (K.times w (K.times a.1 a.1))

    -- only zero has the norm zero
    pub norm_not_zero : (a : F × F) → a ≢ Q.zero → norm K w a ≢ K.zero
    norm_not_zero a ne z =
        let e = same_squares a z in
        no_ratio a.0 a.1 e
        (λ second. square_zero a.0 (e ∙ ap (λ t. K.times w (K.times t t)) second ∙ ring1 K L (λ w. (w ⊗ (nought ⊗ nought), nought)) refl w)
        (λ first. ne (same_pair first second)))

    pub quadratic_laws : IsField (quadratic K w)
    quadratic_laws = record {
      plus_assoc = λ x y z. same_pair (L.plus_assoc x.0 y.0 z.0) (L.plus_assoc x.1 y.1 z.1);
      plus_comm = λ x y. same_pair (L.plus_comm x.0 y.0) (L.plus_comm x.1 y.1);
      plus_zero = λ x. same_pair (L.plus_zero x.0) (L.plus_zero x.1);
      plus_negated = λ x. same_pair (L.plus_negated x.0) (L.plus_negated x.1);
      times_assoc = λ x y z. same_pair
          (ring7 K L (λ w a b c d e f. (
            (((a ⊗ c) ⊕ (w ⊗ (b ⊗ d))) ⊗ e) ⊕ (w ⊗ (((a ⊗ d) ⊕ (b ⊗ c)) ⊗ f)),
            (a ⊗ ((c ⊗ e) ⊕ (w ⊗ (d ⊗ f)))) ⊕ (w ⊗ (b ⊗ ((c ⊗ f) ⊕ (d ⊗ e)))),
          )) refl w x.0 x.1 y.0 y.1 z.0 z.1)
          (ring7 K L (λ w a b c d e f. (
            (((a ⊗ c) ⊕ (w ⊗ (b ⊗ d))) ⊗ f) ⊕ (((a ⊗ d) ⊕ (b ⊗ c)) ⊗ e),
            (a ⊗ ((c ⊗ f) ⊕ (d ⊗ e))) ⊕ (b ⊗ ((c ⊗ e) ⊕ (w ⊗ (d ⊗ f)))),
          )) refl w x.0 x.1 y.0 y.1 z.0 z.1);
      times_comm = λ x y. same_pair
          (ring5 K L (λ w a b c d. ((a ⊗ c) ⊕ (w ⊗ (b ⊗ d)), (c ⊗ a) ⊕ (w ⊗ (d ⊗ b)))) refl w x.0 x.1 y.0 y.1)
          (ring4 K L (λ a b c d. ((a ⊗ d) ⊕ (b ⊗ c), (c ⊗ b) ⊕ (d ⊗ a))) refl x.0 x.1 y.0 y.1);
      times_one = λ x. same_pair
          (ring3 K L (λ w a b. ((a ⊗ unit) ⊕ (w ⊗ (b ⊗ nought)), a)) refl w x.0 x.1)
          (ring2 K L (λ a b. ((a ⊗ nought) ⊕ (b ⊗ unit), b)) refl x.0 x.1);
      times_plus = λ x y z. same_pair
          (ring7 K L (λ w a b c d e f. ((a ⊗ (c ⊕ e)) ⊕ (w ⊗ (b ⊗ (d ⊕ f))), ((a ⊗ c) ⊕ (w ⊗ (b ⊗ d))) ⊕ ((a ⊗ e) ⊕ (w ⊗ (b ⊗ f))))) refl w x.0 x.1 y.0 y.1 z.0 z.1)
          (ring6 K L (λ a b c d e f. ((a ⊗ (d ⊕ f)) ⊕ (b ⊗ (c ⊕ e)), ((a ⊗ d) ⊕ (b ⊗ c)) ⊕ ((a ⊗ f) ⊕ (b ⊗ e)))) refl x.0 x.1 y.0 y.1 z.0 z.1);
      one_not_zero = λ e. L.one_not_zero (ap (λ p. p.0) e);
      inverts = λ x ne.
          let y = L.inverts (norm K w x) (norm_not_zero x ne) in
          ((K.times x.0 y.0, K.negated (K.times x.1 y.0)), inverted x y.0 y.1);
    }

    -- x is no square: (a + b x) (a + b x) = x makes w the square of i a / b, where i * i is minus one
    pub root_is_no_square : (i : F) → K.times i i ≡ K.negated K.one → IsNonResidue Q (K.zero, K.one)
    root_is_no_square i minus_one p e =
        let first : K.plus (K.times p.0 p.0) (K.times w (K.times p.1 p.1)) ≡ K.zero = ap (λ q. q.0) e in
        let second : K.plus (K.times p.0 p.1) (K.times p.1 p.0) ≡ K.one = ap (λ q. q.1) e in
        let other : K.times (K.times i p.0) (K.times i p.0) ≡ K.times w (K.times p.1 p.1) =
        ring2 K L (λ i a. ((i ⊗ a) ⊗ (i ⊗ a), (i ⊗ i) ⊗ (a ⊗ a))) refl i p.0
        ∙ ap (λ t. K.times t (K.times p.0 p.0)) minus_one
        ∙ ring3 K L (λ w a b. (negative unit ⊗ (a ⊗ a), (w ⊗ (b ⊗ b)) ⊖ ((a ⊗ a) ⊕ (w ⊗ (b ⊗ b))))) refl w p.0 p.1
        ∙ ap (minus K (K.times w (K.times p.1 p.1))) first
        ∙ ring1 K L (λ t. (t ⊖ nought, t)) refl (K.times w (K.times p.1 p.1)) in
        no_ratio (K.times i p.0) p.1 other
        (λ z. L.one_not_zero (sym second ∙ ap (λ b. K.plus (K.times p.0 b) (K.times b p.0)) z
        ∙ ring1 K L (λ a. ((a ⊗ nought) ⊕ (nought ⊗ a), nought)) refl p.0))
