-- Why the numbers below a prime are a field with roots of unity: over any type whose elements they are.
use Rattle.std.specs.Prelude.{◌≡◌, ◌≢◌, ℕ, suc, zero, ◌+◌, ◌*◌, ◌-◌, ◌/◌, ◌%◌, ◌^◌, ◌<◌}
use Rattle.std.proofs.Common.{option_map, Option, None, Some, IsSome, ◌↔◌, subst, refl, sym, ap, ◌∙◌, arith, mod-eq_of_lt, mod-lt, le_of_lt, lt_of_le_of_lt, lt_trans, mul_comm, add_comm, mul-one, add-zero, suc-ne-zero, ne_of_gt, div-le_self}
use Rattle.std.proofs.Math.Nat.{mod-add-mod, add-mod-mod, pow-zero, pow-succ', zero-mod}
use Rattle.std.proofs.lemmas.Nat.{mul-mod_second}
use Rattle.ark_math.specs.Field.{FieldOn, IsField, power, natural, minus}
use Rattle.ark_math.specs.Prime.{IsPrime}
use Rattle.ark_math.specs.Module.{IsModule, IsItself, itself}
use Rattle.ark_math.specs.Root.{Adicity, AreRoots, AreGreatest, odd_base, greatest_size}
use Rattle.ark_base.specs.Generator.{Generates, for_odd, root_by}
use Rattle.ark_base.specs.ModulusLaws.{half_part, odd_part, power_below-is, power_below-lt}
use Rattle.ark_math.proofs.Algebra.Groups.{itself_is_module}
use Rattle.ark_math.proofs.Algebra.Powers.{power-one, power_comm}
use Rattle.ark_base.specs.ResidueNumbers.{plus_assoc, plus_negated, times_assoc, times_plus, inverts}
use Rattle.ark_base.specs.RootLaws.{roots_from_generator}
use Rattle.ark_base.specs.Residues.{Numbering, residue_of, residues, generator_of, root_of, two_adic_root, large_root}
use Rattle.ark_base.specs.Modulus.{IsGeneratorFor, IsModulus, power_below}

one_less : (n : ℕ) → 1 < n → n - 1 < n
one_less n above = omega arith

module _ {F : Type 0} {p : ℕ} (N : Numbering F p) (P : IsPrime p) where
  abbrev K : FieldOn F
  K = residues N P

  pub number_of_residue : (v : ℕ) → N.number (residue_of N P v) ≡ v % p
  number_of_residue v = N.number_of (v % p) (mod-lt v (le_of_lt P.above_one))

  pub number_of_zero : N.number K.zero ≡ 0
  number_of_zero = N.number_of 0 (le_of_lt P.above_one)

  pub number_of_one : N.number K.one ≡ 1
  number_of_one = N.number_of 1 P.above_one

  pub residue_of_number : (x : F) → residue_of N P (N.number x) ≡ x
  residue_of_number x = N.same _ _ (number_of_residue (N.number x) ∙ mod-eq_of_lt (N.below x))

  -- an operation's number, and with it another operation's
  plus_number : (x y : F) → N.number (K.plus x y) ≡ (N.number x + N.number y) % p
  plus_number x y = number_of_residue (N.number x + N.number y)

  times_number : (x y : F) → N.number (K.times x y) ≡ (N.number x * N.number y) % p
  times_number x y = number_of_residue (N.number x * N.number y)

  negated_number : (x : F) → N.number (K.negated x) ≡ (p - N.number x) % p
  negated_number x = number_of_residue (p - N.number x)

  pub minus_number : (x y : F) → N.number (minus K x y) ≡ (N.number x + (p - N.number y)) % p
  minus_number x y =
      plus_number x (K.negated y) ∙ ap (λ v. (N.number x + v) % p) (negated_number y) ∙ add-mod-mod (N.number x) (p - N.number y) p

  pub residues_laws : IsField (residues N P)
  residues_laws = record {
    plus_assoc = λ x y z. N.same _ _ (plus_number (K.plus x y) z ∙ ap (λ v. (v + N.number z) % p) (plus_number x y)
        ∙ plus_assoc p (N.number x) (N.number y) (N.number z)
        ∙ sym (plus_number x (K.plus y z) ∙ ap (λ v. (N.number x + v) % p) (plus_number y z)));
    plus_comm = λ x y. N.same _ _ (plus_number x y ∙ ap (λ v. v % p) (add_comm (N.number x) (N.number y)) ∙ sym (plus_number y x));
    plus_zero = λ x. N.same _ _ (plus_number x K.zero ∙ ap (λ v. (N.number x + v) % p) number_of_zero
        ∙ ap (λ v. v % p) (add-zero (N.number x)) ∙ mod-eq_of_lt (N.below x));
    plus_negated = λ x. N.same _ _ (plus_number x (K.negated x) ∙ ap (λ v. (N.number x + v) % p) (negated_number x)
        ∙ plus_negated p (N.number x) (N.below x) ∙ sym number_of_zero);
    times_assoc = λ x y z. N.same _ _ (times_number (K.times x y) z ∙ ap (λ v. (v * N.number z) % p) (times_number x y)
        ∙ times_assoc p (N.number x) (N.number y) (N.number z)
        ∙ sym (times_number x (K.times y z) ∙ ap (λ v. (N.number x * v) % p) (times_number y z)));
    times_comm = λ x y. N.same _ _ (times_number x y ∙ ap (λ v. v % p) (mul_comm (N.number x) (N.number y)) ∙ sym (times_number y x));
    times_one = λ x. N.same _ _ (times_number x K.one ∙ ap (λ v. (N.number x * v) % p) number_of_one
        ∙ ap (λ v. v % p) (mul-one (N.number x)) ∙ mod-eq_of_lt (N.below x));
    times_plus = λ x y z. N.same _ _ (times_number x (K.plus y z) ∙ ap (λ v. (N.number x * v) % p) (plus_number y z)
        ∙ times_plus p (N.number x) (N.number y) (N.number z)
        ∙ sym (plus_number (K.times x y) (K.times x z) ∙ ap (λ v. (v + N.number (K.times x z)) % p) (times_number x y)
        ∙ ap (λ v. ((N.number x * N.number y) % p + v) % p) (times_number x z)));
    one_not_zero = λ e. suc-ne-zero 0 (sym number_of_one ∙ ap N.number e ∙ number_of_zero);
    inverts = λ x ne.
        let y = inverts p P (N.number x) (N.below x) (λ e. ne (N.same _ _ (e ∙ sym number_of_zero))) in
        (residue_of N P y.0, N.same _ _ (times_number x (residue_of N P y.0) ∙ ap (λ v. (N.number x * v) % p) (number_of_residue y.0) ∙ y.1 ∙ sym number_of_one));
  }

  pub power_number : (x : F) (n : ℕ) → N.number (power K x n) ≡ N.number x ^ n % p
  power_number x zero = number_of_one ∙ sym (ap (λ v. v % p) (pow-zero (N.number x)) ∙ mod-eq_of_lt P.above_one)
  power_number x (suc n) =
      times_number x (power K x n) ∙ ap (λ v. (N.number x * v) % p) (power_number x n)
      ∙ mul-mod_second (N.number x) (N.number x ^ n) p ∙ ap (λ v. v % p) (sym (pow-succ' (N.number x) n))

  pub natural_number : (n : ℕ) → N.number (natural K n) ≡ n % p
  natural_number zero = number_of_zero ∙ sym (zero-mod p)
  natural_number (suc n) =
      plus_number (natural K n) K.one ∙ ap (λ v. (v + N.number K.one) % p) (natural_number n) ∙ ap (λ v. (n % p + v) % p) number_of_one
      ∙ mod-add-mod n p 1 ∙ ap (λ v. v % p) (omega arith)

  -- a number's residue is one, that many times over
  pub natural_residue : (n : ℕ) (r : F) → N.number r ≡ n % p → r ≡ natural K n
  natural_residue n r e = N.same _ _ (e ∙ sym (natural_number n))

  pub residue_is_natural : (n : ℕ) (r : F) → r ≡ residue_of N P n → r ≡ natural K n
  residue_is_natural n r e = natural_residue n r (ap N.number e ∙ number_of_residue n)

  -- every element is so many ones added up
  pub natural_of_number : (x : F) → x ≡ natural K (N.number x)
  natural_of_number x = natural_residue (N.number x) x (sym (mod-eq_of_lt (N.below x)))

  pub residues_module_laws : IsModule (residues N P) (itself (residues N P))
  residues_module_laws = itself_is_module (residues N P) residues_laws

  pub residues_itself : IsItself (residues N P) (itself (residues N P)) (λ x. x)
  residues_itself = record {
    one_to_one = λ x y e. e;
    onto = λ m. (m, refl);
    zero_kept = refl;
    plus_kept = λ x y. refl;
    negated_kept = λ x. refl;
    times_kept = λ a x. refl;
  }

  -- ---- roots of unity

  -- the power of a residue, and by squaring
  plain_power : (v n : ℕ) → v < p → N.number (power K (residue_of N P v) n) ≡ v ^ n % p
  plain_power v n h = power_number (residue_of N P v) n ∙ ap (λ w. w ^ n % p) (number_of_residue v ∙ mod-eq_of_lt h)

  fast_power : (b v n : ℕ) → v < p → n < 2 ^ b → N.number (power K (residue_of N P v) n) ≡ power_below b p v n
  fast_power b v n h small = plain_power v n h ∙ sym (power_below-is b p v n small)

  generates : {b : ℕ} {s : Adicity} {g : ℕ} → p < 2 ^ b → IsGeneratorFor b p s g → Generates K s (p - 1) (residue_of N P g)
  generates {b = b} {s = s} {g = g} small G =
      let above = P.above_one in
      let powers = G.powers in
      record {
        positive = omega arith;
        odd = G.sizes.odd;
        divided = G.sizes.divided;
        base = G.sizes.base;
        whole = N.same _ _ (fast_power b g (p - 1) powers.below (lt_trans (one_less p above) small) ∙ powers.whole ∙ sym number_of_one);
        half = λ lo e.
            let part = half_part P G.sizes lo in
            powers.order ((p - 1) / 2) part.some part.less (sym (plain_power g ((p - 1) / 2) powers.below) ∙ ap N.number e ∙ number_of_one);
        part = λ lo e.
            let part = odd_part P G.sizes lo in
            let n = (p - 1) / odd_base s.odd in
            powers.order n part.some part.less (sym (plain_power g n powers.below) ∙ ap N.number e ∙ number_of_one);
      }

module _ {F : Type 0} {b p : ℕ} {s : Adicity} {g two_adic : ℕ} {large : Option ℕ} {greatest : ℕ} (N : Numbering F p) (S : IsModulus b p s g two_adic large greatest) where
  abbrev R : FieldOn F
  R = residues N S.prime

  generator_residue : generator_of N S ≡ residue_of N S.prime g
  generator_residue = N.same _ _ (N.number_of g S.generator.powers.below ∙ sym (mod-eq_of_lt S.generator.powers.below) ∙ sym (number_of_residue N S.prime g))

  pub residue_roots : AreRoots (residues N S.prime) s (root_of N S)
  residue_roots =
      let above = S.prime.above_one in
      subst (λ x. AreRoots R s (root_by R (p - 1) x)) (sym generator_residue)
      (roots_from_generator R (residues_laws N S.prime) s (p - 1) (residue_of N S.prime g) (generates N S.prime S.small S.generator)
      (λ n lo hi e. ne_of_gt lo (sym (mod-eq_of_lt (omega arith)) ∙ sym (natural_number N S.prime n) ∙ ap N.number e ∙ number_of_zero N S.prime)))

  pub generator_not_zero : generator_of N S ≢ (residues N S.prime).zero
  generator_not_zero e = ne_of_gt S.generator.powers.positive (sym (N.number_of g S.generator.powers.below) ∙ ap N.number e ∙ number_of_zero N S.prime)

  -- a power of the generator, by squaring
  pub root_number : (n : ℕ) → N.number (root_of N S n) ≡ power_below b p g ((p - 1) / n)
  root_number n =
      let k = (p - 1) / n in
      ap (λ x. N.number (power R x k)) generator_residue
      ∙ fast_power N S.prime b g k S.generator.powers.below (lt_of_le_of_lt (div-le_self (p - 1) n) (lt_trans (one_less p S.prime.above_one) S.small))

  -- a constant is there exactly with the base, and is the power that it has to be
  record IsLarge (o : Option (ℕ × ℕ)) (l : Option ℕ) (v : ℕ) : Type 0 where
    together : IsSome (option_map (residue_of N S.prime) l) ↔ IsSome o
    is : (x : F) → option_map (residue_of N S.prime) l ≡ Some x → x ≡ residue_of N S.prime v

  large_one : (o : Option (ℕ × ℕ)) (l : Option ℕ) (v : ℕ) → l ≡ for_odd o v → IsLarge o l v
  large_one None l v e = subst (λ m. IsLarge None m v) (sym e) (record { together = ((λ h. h), (λ h. h)); is = λ x h. cc })
  large_one (Some q) l v e = subst (λ m. IsLarge (Some q) m v) (sym e) (record { together = ((λ h. refl), (λ h. refl)); is = λ x h. cc })

  pub residue_greatest : AreGreatest s (root_of N S) (two_adic_root N S) (large_root N S)
  residue_greatest =
      let l = large_one s.odd large _ S.large_is in
      record {
        two_adic_is = λ fits. N.same _ _ (N.number_of two_adic _ ∙ S.two_adic_is ∙ sym (root_number (2 ^ s.two)));
        large_is = λ x e fits. l.is x e ∙ N.same _ _ (number_of_residue N S.prime _ ∙ mod-eq_of_lt (power_below-lt S.prime b g ((p - 1) / greatest_size s)) ∙ sym (root_number (greatest_size s)));
        together = l.together;
      }

  -- ---- inverses

  power_of_generator : (x : F) → x ≢ R.zero → (k : ℕ) × (x ≡ power R (residue_of N S.prime g) k)
  power_of_generator x ne =
      let some : N.number x ≢ 0 = λ z. ne (N.same _ _ (z ∙ sym (number_of_zero N S.prime))) in
      let h = S.generator.powers.every (N.number x) (omega arith) (N.below x) in
      (h.0, N.same _ _ (sym h.2 ∙ sym (plain_power N S.prime g h.0 S.generator.powers.below)))

  -- Fermat's little theorem, by the generator
  pub fermat : (x : F) → x ≢ R.zero → power R x (p - 1) ≡ R.one
  fermat x ne =
      let L = residues_laws N S.prime in
      let y = residue_of N S.prime g in
      let h = power_of_generator x ne in
      let whole : power R y (p - 1) ≡ R.one = (generates N S.prime S.small S.generator).whole in
      ap (λ z. power R z (p - 1)) h.1 ∙ power_comm R L y h.0 (p - 1) ∙ ap (λ z. power R z h.0) whole ∙ power-one R L h.0

  pub inverse_by_power : (x : F) → x ≢ R.zero → R.times x (power R x (p - 2)) ≡ R.one
  inverse_by_power x ne =
      let above = S.prime.above_one in
      let e : suc (p - 2) ≡ p - 1 = omega arith in
      ap (power R x) e ∙ fermat x ne

-- numbers below the prime are different elements
pub numbers_differ : {F : Type 0} {p : ℕ} (N : Numbering F p) (P : IsPrime p) (i j : ℕ) → i < j → j < p → natural (residues N P) i ≢ natural (residues N P) j
numbers_differ {p = p} N P i j l below e =
    let same : i % p ≡ j % p = sym (natural_number N P i) ∙ ap N.number e ∙ natural_number N P j in
    omega (arith, l, below, sym (mod-eq_of_lt (omega arith)) ∙ same ∙ mod-eq_of_lt below)
