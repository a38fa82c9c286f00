-- The laws of the field of four elements and of its roots, by computation over all elements.
use Rattle.std.proofs.Common.{◌≡◌, ◌≢◌, ◌⊎◌, ℕ, suc, zero, ◌*◌, ◌%◌, ◌^◌, ◌<◌, ◌≤◌, ◌==◌, Some, ◌&&◌, Bool, true, false, Decides, inl, inr, refl, sym, ap, ap₂, subst, ◌∙◌, arith, lit<, lit≤, true≢false}
use Rattle.std.proofs.lemmas.Bool.{and_parts}
use Rattle.std.specs.Bool.{beq}
use Rattle.ark_math.specs.Field.{IsField, power, natural}
use Rattle.ark_math.specs.Module.{IsModule, IsItself, itself}
use Rattle.ark_math.specs.Root.{IsSupported, HasOrder, AreRoots, AreGreatest}
use Rattle.ark_math.proofs.Algebra.Groups.{itself_is_module}
use Rattle.test_types.specs.declared.four.Four.{Four}
use Rattle.test_types.specs.Four.{bits, four, thirds, root_of_four}

-- ---- what holds of all elements by computation

same_bit : (a b : Bool) → beq a b ≡ true → a ≡ b
same_bit true true e = refl
same_bit true false e = cc
same_bit false true e = cc
same_bit false false e = refl

same : (x y : Four) → beq x.high y.high && beq x.low y.low ≡ true → x ≡ y
same x y e =
    let parts = and_parts _ _ e in
    ap₂ bits (same_bit _ _ parts.0) (same_bit _ _ parts.1)

all_bits : (Bool → Bool) → Bool
all_bits p = p true && p false

each_bit : (p : Bool → Bool) → all_bits p ≡ true → (b : Bool) → p b ≡ true
unfolding all_bits
each_bit p e true = (and_parts _ _ e).0
each_bit p e false = (and_parts _ _ e).1

all : (Four → Bool) → Bool
all p = all_bits (λ h. all_bits (λ l. p (bits h l)))

each : (p : Four → Bool) → all p ≡ true → (x : Four) → p x ≡ true
unfolding all
each p e x = each_bit (λ l. p (bits x.high l)) (each_bit (λ h. all_bits (λ l. p (bits h l))) e x.high) x.low

equal : Four → Four → Bool
equal x y = beq x.high y.high && beq x.low y.low

one_law : (f g : Four → Four) → all (λ x. equal (f x) (g x)) ≡ true → (x : Four) → f x ≡ g x
unfolding equal
one_law f g e x = same _ _ (each (λ x. equal (f x) (g x)) e x)

two_law : (f g : Four → Four → Four) → all (λ x. all (λ y. equal (f x y) (g x y))) ≡ true → (x y : Four) → f x y ≡ g x y
two_law f g e x = one_law (f x) (g x) (each (λ x. all (λ y. equal (f x y) (g x y))) e x)

three_law : (f g : Four → Four → Four → Four) → all (λ x. all (λ y. all (λ z. equal (f x y z) (g x y z)))) ≡ true → (x y z : Four) → f x y z ≡ g x y z
three_law f g e x = two_law (f x) (g x) (each (λ x. all (λ y. all (λ z. equal (f x y z) (g x y z)))) e x)

-- ---- the field

-- an element is inverted by its square
inverted : (h l : Bool) → bits h l ≢ four.zero → four.times (bits h l) (four.times (bits h l) (bits h l)) ≡ four.one
inverted true true ne = refl
inverted true false ne = refl
inverted false true ne = refl
inverted false false ne = absurd (ne refl)

pub four_inverted : (x : Four) → x ≢ four.zero → four.times x (four.times x x) ≡ four.one
four_inverted x ne = inverted x.high x.low ne

pub four_laws : IsField four
unfolding all all_bits equal
four_laws = record {
  plus_assoc = three_law (λ x y z. four.plus (four.plus x y) z) (λ x y z. four.plus x (four.plus y z)) refl;
  plus_comm = two_law (λ x y. four.plus x y) (λ x y. four.plus y x) refl;
  plus_zero = one_law (λ x. four.plus x four.zero) (λ x. x) refl;
  plus_negated = one_law (λ x. four.plus x (four.negated x)) (λ x. four.zero) refl;
  times_assoc = three_law (λ x y z. four.times (four.times x y) z) (λ x y z. four.times x (four.times y z)) refl;
  times_comm = two_law (λ x y. four.times x y) (λ x y. four.times y x) refl;
  times_one = one_law (λ x. four.times x four.one) (λ x. x) refl;
  times_plus = three_law (λ x y z. four.times x (four.plus y z)) (λ x y z. four.plus (four.times x y) (four.times x z)) refl;
  one_not_zero = λ e. true≢false (ap (λ x. x.low) e);
  inverts = λ x ne. (four.times x x, four_inverted x ne);
}

pub four_module : IsModule four (itself four)
four_module = itself_is_module four four_laws

pub four_itself : IsItself four (itself four) (λ x. x)
four_itself = record {
  one_to_one = λ x y e. e;
  onto = λ m. (m, refl);
  zero_kept = refl;
  plus_kept = λ x y. refl;
  negated_kept = λ x. refl;
  times_kept = λ a x. refl;
}

-- two ones more are nothing
two_more : (x : Four) → x ≡ four.plus (four.plus x four.one) four.one
unfolding all all_bits equal
two_more = one_law (λ x. x) (λ x. four.plus (four.plus x four.one) four.one) refl

-- ones added up: zero and one in turn
pub four_natural : (n : ℕ) → bits false (n % 2 == 1) ≡ natural four n
four_natural zero = refl
four_natural (suc zero) = refl
four_natural (suc (suc n)) =
    let again : suc (suc n) % 2 ≡ n % 2 = omega arith in
    ap (λ r. bits false (r == 1)) again ∙ four_natural n ∙ two_more (natural four n)

-- ---- the roots

supported : (n : ℕ) → IsSupported thirds n → (n ≡ 1) ⊎ (n ≡ 3)
supported n (twos, odds, h) = by_odds odds h.odds_within (h.product ∙ ap (λ t. 2 ^ t * 3 ^ odds) none)
  where
    none : twos ≡ 0
    none = let l = h.twos_within in omega arith

    by_odds : (k : ℕ) → k ≤ 1 → n ≡ 2 ^ 0 * 3 ^ k → (n ≡ 1) ⊎ (n ≡ 3)
    by_odds zero l e = inl e
    by_odds (suc zero) l e = inr e
    by_odds (suc (suc k)) l e = absurd (omega arith)

order_one : HasOrder four four.one 1
order_one = record { one = refl; least = λ k lo hi. absurd (omega arith) }

order_three : HasOrder four (bits true false) 3
order_three = record { one = refl; least = least }
  where
    least : (k : ℕ) → 0 < k → k < 3 → power four (bits true false) k ≢ four.one
    least zero lo hi = absurd (omega arith)
    least (suc zero) lo hi = λ e. true≢false (ap (λ x. x.high) e)
    least (suc (suc zero)) lo hi = λ e. true≢false (ap (λ x. x.high) e)
    least (suc (suc (suc k))) lo hi = absurd (omega arith)

tower_at : (m n k : ℕ) → n ≡ m * k → (m ≡ 1) ⊎ (m ≡ 3) → (n ≡ 1) ⊎ (n ≡ 3) → root_of_four m ≡ power four (root_of_four n) k
tower_at m n k h (inl e) (inl f) =
    let g : n ≡ 1 * k = h ∙ ap (λ t. t * k) e in
    let one : k ≡ 1 = omega arith in
    ap root_of_four e ∙ sym (ap₂ (λ t j. power four (root_of_four t) j) f one)
tower_at m n k h (inl e) (inr f) =
    let g : n ≡ 1 * k = h ∙ ap (λ t. t * k) e in
    let three : k ≡ 3 = omega arith in
    ap root_of_four e ∙ sym (ap₂ (λ t j. power four (root_of_four t) j) f three)
tower_at m n k h (inr e) (inl f) =
    let g : n ≡ 3 * k = h ∙ ap (λ t. t * k) e in
    absurd (omega arith)
tower_at m n k h (inr e) (inr f) =
    let g : n ≡ 3 * k = h ∙ ap (λ t. t * k) e in
    let one : k ≡ 1 = omega arith in
    ap root_of_four e ∙ sym (ap₂ (λ t j. power four (root_of_four t) j) f one)

pub four_roots : AreRoots four thirds root_of_four
four_roots = record {
  base = λ p e. let f : (3, 1) ≡ p = cc in subst (λ p. (3 ≤ p.0) × (p.0 % 2 ≡ 1)) f (lit≤ tt, refl);
  order = λ n h. elim (supported n h) [
    | inl e ↦ subst (λ t. HasOrder four (root_of_four t) t) (sym e) order_one
    | inr e ↦ subst (λ t. HasOrder four (root_of_four t) t) (sym e) order_three
  ];
  tower = λ m k a b. tower_at m (m * k) k refl (supported m a) (supported (m * k) b);
  invertible = λ n h o. elim (supported n h) [
    | inl e ↦ true≢false (ap (λ x. x.low) (subst (λ t. natural four t ≡ four.zero) e o))
    | inr e ↦ true≢false (ap (λ x. x.low) (subst (λ t. natural four t ≡ four.zero) e o))
  ];
}

pub four_greatest : AreGreatest thirds root_of_four four.one (Some (bits true false))
four_greatest = record {
  two_adic_is = λ fits. refl;
  large_is = λ x e fits. let f : bits true false ≡ x = cc in sym f;
  together = ((λ h. refl), (λ h. refl));
}

-- there are no other sizes than one and three
pub not_supported : (n : ℕ) → n ≢ 1 → n ≢ 3 → IsSupported thirds n → ⊥
not_supported n a b h = elim (supported n h) [ inl e ↦ a e | inr e ↦ b e ]

-- equality, bit by bit
pub four_equality : (a b : Four) → Decides (beq a.high b.high && beq a.low b.low) (a ≡ b)
four_equality a b = (same a b, λ e. subst (λ c. beq a.high c.high && beq a.low c.low ≡ true) e (itself_equal a.high a.low))
  where
    itself_equal : (h l : Bool) → beq h h && beq l l ≡ true
    itself_equal true true = refl
    itself_equal true false = refl
    itself_equal false true = refl
    itself_equal false false = refl
