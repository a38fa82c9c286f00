-- Sums of signed keys, kept in order, where a key stands for a value of a module.
use Rattle.std.proofs.Common.{◌≡◌, ℕ, Bool, true, false, not, eqb, ltb, List, [], ◌∷◌, sym, ◌∙◌, ap, refl}
use Rattle.std.proofs.lemmas.Bool.{eqb-true}
use Rattle.ark_math.specs.Field.{FieldOn, IsField}
use Rattle.ark_math.specs.Module.{ModuleOn, IsModule, itself}
use Rattle.ark_math.proofs.Algebra.Groups.{zero_plus, negated_plus, negated_unique, plus_swap, scale_zero, zero_scale}

pub data Place : Type 0 where
  ahead : Place
  level : Place
  behind : Place

abbrev pub choose : Bool → Bool → Place → Place
choose true lt p = p
choose false true p = ahead
choose false false p = behind

abbrev pub place : List ℕ → List ℕ → Place
place [] [] = level
place [] (b ∷ y) = ahead
place (a ∷ x) [] = behind
place (a ∷ x) (b ∷ y) = choose (eqb a b) (ltb a b) (place x y)

choose_level : (e l : Bool) (p : Place) → choose e l p ≡ level → (e ≡ true) × (p ≡ level)
choose_level true l p h = (refl, h)
choose_level false true p h = cc
choose_level false false p h = cc

place_level : (x y : List ℕ) → place x y ≡ level → x ≡ y
place_level [] [] h = refl
place_level [] (b ∷ y) h = cc
place_level (a ∷ x) [] h = cc
place_level (a ∷ x) (b ∷ y) h =
    let c = choose_level (eqb a b) (ltb a b) (place x y) h in
    let e : a ≡ b = eqb-true a b c.0 in
    let f : x ≡ y = place_level x y c.1 in
    cc

-- a sign (true for minus) and a key
abbrev pub Signed : Type 0
Signed = Bool × List ℕ

abbrev pub signs : Bool → Bool → Bool
signs false t = t
signs true t = not t

-- the last list waits, so that it is computed only where it is wanted
abbrev pub settle : Place → Bool → Signed → Signed → List Signed → (Unit {0} → List Signed) → List Signed
settle ahead d t u us r = t ∷ (u ∷ us)
settle level false t u us r = t ∷ (u ∷ us)
settle level true t u us r = us
settle behind d t u us r = u ∷ r tt

abbrev pub insert : Signed → List Signed → List Signed
insert t [] = t ∷ []
insert t (u ∷ us) = settle (place t.1 u.1) (signs t.0 u.0) t u us (λ o. insert t us)

abbrev pub add : List Signed → List Signed → List Signed
add [] q = q
add (t ∷ p) q = insert t (add p q)

abbrev pub negate : List Signed → List Signed
negate [] = []
negate (t ∷ p) = (not t.0, t.1) ∷ negate p

abbrev pub multiply_one : (List ℕ → List ℕ → List ℕ) → Signed → List Signed → List Signed
multiply_one join t [] = []
multiply_one join t (u ∷ us) = insert (signs t.0 u.0, join t.1 u.1) (multiply_one join t us)

abbrev pub multiply : (List ℕ → List ℕ → List ℕ) → List Signed → List Signed → List Signed
multiply join [] q = []
multiply join (t ∷ p) q = add (multiply_one join t q) (multiply join p q)

abbrev pub signed : {F M : Type 0} → ModuleOn F M → Bool → M → M
signed V false x = x
signed V true x = V.negated x

abbrev pub total : {F M : Type 0} → ModuleOn F M → (List ℕ → M) → List Signed → M
total V val [] = V.zero
total V val (t ∷ ts) = V.plus (signed V t.0 (val t.1)) (total V val ts)

module _ {F M : Type 0} {K : FieldOn F} {V : ModuleOn F M} (L : IsModule K V) where
  left_comm : (a b c : M) → V.plus b (V.plus a c) ≡ V.plus a (V.plus b c)
  left_comm a b c = sym (L.plus_assoc b a c) ∙ (ap (λ t. V.plus t c) (L.plus_comm b a) ∙ L.plus_assoc a b c)

  negated_twice : (x : M) → V.negated (V.negated x) ≡ x
  negated_twice x = sym (negated_unique L (V.negated x) x (negated_plus L x))

  negated_sum : (x y : M) → V.negated (V.plus x y) ≡ V.plus (V.negated x) (V.negated y)
  negated_sum x y =
      sym (negated_unique L (V.plus x y) (V.plus (V.negated x) (V.negated y))
      (plus_swap L x y (V.negated x) (V.negated y) ∙ (ap (λ t. V.plus t (V.plus y (V.negated y))) (L.plus_negated x) ∙ (zero_plus L (V.plus y (V.negated y)) ∙ L.plus_negated y))))

  negated_zero : V.negated V.zero ≡ V.zero
  negated_zero = sym (negated_unique L V.zero V.zero (L.plus_zero V.zero))

  opposite : (s t : Bool) (x : M) → signs s t ≡ true → V.plus (signed V s x) (signed V t x) ≡ V.zero
  opposite false false x h = cc
  opposite false true x h = L.plus_negated x
  opposite true false x h = negated_plus L x
  opposite true true x h = cc

  signed_not : (s : Bool) (x : M) → signed V (not s) x ≡ V.negated (signed V s x)
  signed_not false x = refl
  signed_not true x = sym (negated_twice x)

module _ {F M : Type 0} {K : FieldOn F} {V : ModuleOn F M} (L : IsModule K V) (val : List ℕ → M) where
  settle_is : (p : Place) (d : Bool) (t u : Signed) (us : List Signed) (r : Unit {0} → List Signed) → (p ≡ level → t.1 ≡ u.1) → signs t.0 u.0 ≡ d → total V val (r tt) ≡ V.plus (signed V t.0 (val t.1)) (total V val us) → total V val (settle p d t u us r) ≡ V.plus (signed V t.0 (val t.1)) (V.plus (signed V u.0 (val u.1)) (total V val us))
  settle_is ahead d t u us r same opp h = refl
  settle_is level false t u us r same opp h = refl
  settle_is level true t u us r same opp h =
      sym (sym (L.plus_assoc (signed V t.0 (val t.1)) (signed V u.0 (val u.1)) (total V val us))
      ∙ (ap (λ k. V.plus (V.plus (signed V t.0 (val k)) (signed V u.0 (val u.1))) (total V val us)) (same refl)
      ∙ (ap (λ k. V.plus k (total V val us)) (opposite L t.0 u.0 (val u.1) opp)
      ∙ zero_plus L (total V val us))))
  settle_is behind d t u us r same opp h =
      ap (V.plus (signed V u.0 (val u.1))) h ∙ left_comm L (signed V t.0 (val t.1)) (signed V u.0 (val u.1)) (total V val us)

  insert_is : (t : Signed) (p : List Signed) → total V val (insert t p) ≡ V.plus (signed V t.0 (val t.1)) (total V val p)
  insert_is t [] = refl
  insert_is t (u ∷ us) = settle_is (place t.1 u.1) (signs t.0 u.0) t u us (λ o. insert t us) (place_level t.1 u.1) refl (insert_is t us)

  pub add_is : (p q : List Signed) → total V val (add p q) ≡ V.plus (total V val p) (total V val q)
  add_is [] q = sym (zero_plus L (total V val q))
  add_is (t ∷ p) q =
      insert_is t (add p q)
      ∙ (ap (V.plus (signed V t.0 (val t.1))) (add_is p q)
      ∙ sym (L.plus_assoc (signed V t.0 (val t.1)) (total V val p) (total V val q)))

  pub negate_is : (p : List Signed) → total V val (negate p) ≡ V.negated (total V val p)
  negate_is [] = sym (negated_zero L)
  negate_is (t ∷ p) =
      ap (λ k. V.plus k (total V val (negate p))) (signed_not L t.0 (val t.1))
      ∙ (ap (V.plus (V.negated (signed V t.0 (val t.1)))) (negate_is p)
      ∙ sym (negated_sum L (signed V t.0 (val t.1)) (total V val p)))

module _ {F M : Type 0} {K : FieldOn F} {V : ModuleOn F M} (N : IsField K) (L : IsModule K V) where
  scale_negated : (a : F) (x : M) → V.scale a (V.negated x) ≡ V.negated (V.scale a x)
  scale_negated a x =
      negated_unique L (V.scale a x) (V.scale a (V.negated x))
      (sym (L.scale_plus a x (V.negated x)) ∙ (ap (V.scale a) (L.plus_negated x) ∙ scale_zero L a))

  negated_scale : (a : F) (x : M) → V.scale (K.negated a) x ≡ V.negated (V.scale a x)
  negated_scale a x =
      negated_unique L (V.scale a x) (V.scale (K.negated a) x)
      (sym (L.plus_scale a (K.negated a) x) ∙ (ap (λ t. V.scale t x) (N.plus_negated a) ∙ zero_scale N L x))

  signs_scale : (s t : Bool) (a : F) (x : M) → signed V (signs s t) (V.scale a x) ≡ V.scale (signed (itself K) s a) (signed V t x)
  signs_scale false false a x = refl
  signs_scale false true a x = sym (scale_negated a x)
  signs_scale true false a x = sym (negated_scale a x)
  signs_scale true true a x = sym (negated_scale a (V.negated x) ∙ (ap V.negated (scale_negated a x) ∙ negated_twice L (V.scale a x)))

module _ {F M : Type 0} {K : FieldOn F} {V : ModuleOn F M} (N : IsField K) (L : IsModule K V) (mono : List ℕ → F) (val : List ℕ → M) (join : List ℕ → List ℕ → List ℕ) (joined : (m k : List ℕ) → val (join m k) ≡ V.scale (mono m) (val k)) where
  multiply_one_is : (t : Signed) (q : List Signed) → total V val (multiply_one join t q) ≡ V.scale (signed (itself K) t.0 (mono t.1)) (total V val q)
  multiply_one_is t [] = sym (scale_zero L (signed (itself K) t.0 (mono t.1)))
  multiply_one_is t (u ∷ us) =
      insert_is L val (signs t.0 u.0, join t.1 u.1) (multiply_one join t us)
      ∙ (ap (λ k. V.plus (signed V (signs t.0 u.0) k) (total V val (multiply_one join t us))) (joined t.1 u.1)
      ∙ (ap (λ k. V.plus k (total V val (multiply_one join t us))) (signs_scale N L t.0 u.0 (mono t.1) (val u.1))
      ∙ (ap (V.plus (V.scale (signed (itself K) t.0 (mono t.1)) (signed V u.0 (val u.1)))) (multiply_one_is t us)
      ∙ sym (L.scale_plus (signed (itself K) t.0 (mono t.1)) (signed V u.0 (val u.1)) (total V val us)))))

  pub multiply_is : (p q : List Signed) → total V val (multiply join p q) ≡ V.scale (total (itself K) mono p) (total V val q)
  multiply_is [] q = sym (zero_scale N L (total V val q))
  multiply_is (t ∷ p) q =
      add_is L val (multiply_one join t q) (multiply join p q)
      ∙ (ap (λ k. V.plus k (total V val (multiply join p q))) (multiply_one_is t q)
      ∙ (ap (V.plus (V.scale (signed (itself K) t.0 (mono t.1)) (total V val q))) (multiply_is p q)
      ∙ sym (L.plus_scale (signed (itself K) t.0 (mono t.1)) (total (itself K) mono p) (total V val q))))
