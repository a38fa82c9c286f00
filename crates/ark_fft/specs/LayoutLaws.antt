-- Domains in bytes: their layouts are formats, a spelling tells size and offset, all other fields follow from these, and so
-- both modes tell the same.
use Rattle.std.proofs.Common.{◌≡◌, ℕ, ◌^◌, ◌<◌, ◌==◌, ◌&&◌, Bool, true, Decides, sym, ap, ap₂, ◌∙◌, subst, arith}
use Rattle.std.proofs.lemmas.Bool.{and_parts, and_from, eqb-true, eq-eqb}
use Rattle.ark_math.specs.Field.{FieldOn, IsField, power, natural}
use Rattle.ark_math.specs.Root.{Adicity, IsAdicity, Splits}
use Rattle.ark_math_formats.specs.Format.{Format, IsFormat, KeepsAlike, Tells, IsOneToOne, word, number, ◌⊗◌, AreAlike}
use Rattle.ark_fft.specs.Layouts.{DomainFields, long_domain, short_domain}
use Rattle.ark_math_transforms.proofs.Domains.Costs.{one_split}
use Rattle.ark_math_transforms.proofs.Domains.Exponents.{twos_below}
use Rattle.ark_math_formats.proofs.Formats.Ends.{number_is_format, pair_is_format, lawful_is_format}
use Rattle.ark_math_formats.proofs.Formats.Modes.{one_format, pair_alike, lawful_alike, keeps_alike}
use Rattle.ark_math_formats.proofs.Formats.OneToOne.{number_tells, pair_shows, pair_tells, lawful_shows}

-- ---- layouts

-- the offset among a domain's fields
abbrev pub offset_of : {F : Type 0} → DomainFields F → F
offset_of fields = fields.1.1.0.0

module _ {F : Type 0} (e : Format F) (E : IsFormat e) where
  two_is_format : IsFormat (e ⊗ e)
  two_is_format = pair_is_format e e E E

  pub long_is_format : {D : Type 0} (fields : D → DomainFields F) → IsFormat (long_domain e fields)
  long_is_format fields =
      let numbers = pair_is_format word (number 4) (number_is_format 8) (number_is_format 4) in
      let front = pair_is_format (e ⊗ e) (e ⊗ e) two_is_format two_is_format in
      let back = pair_is_format (e ⊗ e) e two_is_format E in
      let elements = pair_is_format ((e ⊗ e) ⊗ (e ⊗ e)) ((e ⊗ e) ⊗ e) front back in
      let layout = (word ⊗ number 4) ⊗ (((e ⊗ e) ⊗ (e ⊗ e)) ⊗ ((e ⊗ e) ⊗ e)) in
      lawful_is_format layout fields (λ _. Unit {0}) (pair_is_format (word ⊗ number 4) (((e ⊗ e) ⊗ (e ⊗ e)) ⊗ ((e ⊗ e) ⊗ e)) numbers elements)

  pub short_is_format : {D : Type 0} (fields : D → ℕ × F) → IsFormat (short_domain e fields)
  short_is_format fields = lawful_is_format (word ⊗ e) fields (λ _. Unit {0}) (pair_is_format word e (number_is_format 8) E)

  module _ {V : Type 0} (view : F → V) (one : Tells view e) where
    two_tell : Tells {V = V × V} (λ p. (view p.0, view p.1)) (e ⊗ e)
    two_tell = pair_shows e e E view view one one

    -- size, and what is shown of the offset
    pub short_tells : {D : Type 0} (fields : D → ℕ × F) → Tells {V = ℕ × V} (λ d. ((fields d).0, view (fields d).1)) (short_domain e fields)
    short_tells fields =
        lawful_shows (word ⊗ e) fields (λ _. Unit {0}) (λ p. (p.0, view p.1)) (λ d. ((fields d).0, view (fields d).1))
        (pair_shows word e (number_is_format 8) (λ n. n) view (number_tells 8) one) (λ x y same. same)

    pub long_tells : {D : Type 0} (fields : D → DomainFields F) → Tells {V = ℕ × V} (λ d. ((fields d).0.0, view (offset_of (fields d)))) (long_domain e fields)
    long_tells fields =
        let numbers = pair_shows word (number 4) (number_is_format 8) (λ n. n) (λ n. n) (number_tells 8) (number_tells 4) in
        let front = pair_shows (e ⊗ e) (e ⊗ e) two_is_format _ _ two_tell two_tell in
        let back = pair_shows (e ⊗ e) e two_is_format _ view two_tell one in
        let elements = pair_shows ((e ⊗ e) ⊗ (e ⊗ e)) ((e ⊗ e) ⊗ e) (pair_is_format (e ⊗ e) (e ⊗ e) two_is_format two_is_format) _ _ front back in
        let layout = (word ⊗ number 4) ⊗ (((e ⊗ e) ⊗ (e ⊗ e)) ⊗ ((e ⊗ e) ⊗ e)) in
        lawful_shows layout fields (λ _. Unit {0}) _ (λ d. ((fields d).0.0, view (offset_of (fields d))))
        (pair_shows (word ⊗ number 4) (((e ⊗ e) ⊗ (e ⊗ e)) ⊗ ((e ⊗ e) ⊗ e)) (pair_is_format word (number 4) (number_is_format 8) (number_is_format 4)) _ _ numbers elements)
        (λ x y same. λ i. ((same i).0.0, (same i).1.1.0.0))

  module _ (one : IsOneToOne e) where
    -- the layouts tell all that they have
    pub short_one_to_one : IsOneToOne (word ⊗ e)
    short_one_to_one = pair_tells word e (number_is_format 8) (number_tells 8) one

    pub long_one_to_one : IsOneToOne ((word ⊗ number 4) ⊗ (((e ⊗ e) ⊗ (e ⊗ e)) ⊗ ((e ⊗ e) ⊗ e)))
    long_one_to_one =
        let two = pair_tells e e E one one in
        let numbers = pair_tells word (number 4) (number_is_format 8) (number_tells 8) (number_tells 4) in
        let front = pair_tells (e ⊗ e) (e ⊗ e) two_is_format two two in
        let back = pair_tells (e ⊗ e) e two_is_format two one in
        let elements = pair_tells ((e ⊗ e) ⊗ (e ⊗ e)) ((e ⊗ e) ⊗ e) (pair_is_format (e ⊗ e) (e ⊗ e) two_is_format two_is_format) front back in
        pair_tells (word ⊗ number 4) (((e ⊗ e) ⊗ (e ⊗ e)) ⊗ ((e ⊗ e) ⊗ e)) (pair_is_format word (number 4) (number_is_format 8) (number_is_format 4)) numbers elements

-- ---- fields

-- what a domain keeps is what its size and offset make
pub record AreKept {F : Type 0} (K : FieldOn F) (s : Adicity) (root : ℕ → F) (eq : F → F → Bool) (odds : ℕ) (d : DomainFields F) : Type 0 where
  pub splits : Splits s d.0.0 d.0.1 odds
  pub size_element_is : eq d.1.0.0.0 (natural K d.0.0) ≡ true
  pub size_inverse_is : eq (K.times d.1.0.0.0 d.1.0.0.1) K.one ≡ true
  pub root_is : eq d.1.0.1.0 (root d.0.0) ≡ true
  pub root_inverse_is : eq (K.times d.1.0.1.0 d.1.0.1.1) K.one ≡ true
  pub offset_inverse_is : eq (K.times d.1.1.0.0 d.1.1.0.1) K.one ≡ true
  pub offset_power_is : eq d.1.1.1 (power K d.1.1.0.0 d.0.0) ≡ true

module _ {F : Type 0} (K : FieldOn F) (N : IsField K) where
  one_inverse : (x y a b : F) → x ≡ y → K.times x a ≡ K.one → K.times y b ≡ K.one → a ≡ b
  one_inverse x y a b e p q =
      sym (N.times_one a) ∙ ap (K.times a) (sym q) ∙ sym (N.times_assoc a y b) ∙ ap (λ t. K.times t b) (ap (K.times a) (sym e) ∙ N.times_comm a x ∙ p) ∙ N.times_comm K.one b ∙ N.times_one b

  -- of one size and one offset there is one domain
  pub one_kept : (s : Adicity) (root : ℕ → F) (eq : F → F → Bool) → IsAdicity s → ((x y : F) → Decides (eq x y) (x ≡ y)) → (c d : DomainFields F) (m n : ℕ)
      → AreKept K s root eq m c → AreKept K s root eq n d → c.0.0 ≡ d.0.0 → offset_of c ≡ offset_of d → c ≡ d
  one_kept s root eq adicity decides c d m n p q size offset =
      let is = λ (x y : F) (e : eq x y ≡ true). (decides x y).0 e in
      let logs : c.0.1 ≡ d.0.1 = (one_split s d.0.0 c.0.1 m d.0.1 n adicity (at_size size p.splits) q.splits).0 in
      let sizes : c.1.0.0.0 ≡ d.1.0.0.0 = is _ _ p.size_element_is ∙ ap (natural K) size ∙ sym (is _ _ q.size_element_is) in
      let inverses : c.1.0.0.1 ≡ d.1.0.0.1 = one_inverse _ _ _ _ sizes (is _ _ p.size_inverse_is) (is _ _ q.size_inverse_is) in
      let roots : c.1.0.1.0 ≡ d.1.0.1.0 = is _ _ p.root_is ∙ ap root size ∙ sym (is _ _ q.root_is) in
      let back : c.1.0.1.1 ≡ d.1.0.1.1 = one_inverse _ _ _ _ roots (is _ _ p.root_inverse_is) (is _ _ q.root_inverse_is) in
      let offsets : c.1.1.0.1 ≡ d.1.1.0.1 = one_inverse _ _ _ _ offset (is _ _ p.offset_inverse_is) (is _ _ q.offset_inverse_is) in
      let powers : c.1.1.1 ≡ d.1.1.1 = is _ _ p.offset_power_is ∙ ap₂ (power K) offset size ∙ sym (is _ _ q.offset_power_is) in
      λ i. ((size i, logs i), (((sizes i, inverses i), (roots i, back i)), ((offset i, offsets i), powers i)))
    where
      at_size : (size : c.0.0 ≡ d.0.0) → Splits s c.0.0 c.0.1 m → Splits s d.0.0 c.0.1 m
      at_size size h = subst (λ x. Splits s x c.0.1 m) size h

-- ---- both modes

-- the exponent of two in a size of 64 bits fits 32
exponent_fits : (s : Adicity) (n twos odds : ℕ) → IsAdicity s → Splits s n twos odds → twos < 256 ^ 4
exponent_fits s n twos odds adicity split = omega (arith, twos_below s n adicity (twos, odds, split))

module _ {F D : Type 0} (K : FieldOn F) (N : IsField K) (s : Adicity) (root : ℕ → F) (eq : F → F → Bool) (adicity : IsAdicity s) (decides : (x y : F) → Decides (eq x y) (x ≡ y))
    (fields : D → DomainFields F) (odds : D → ℕ) (kept : (d : D) → AreKept K s root eq (odds d) (fields d)) (e other : Format F) (E : IsFormat e) (one : IsOneToOne e) (all : (x : F) → other.HasSpelling x) where
  same_fields : (x y : D) → ◌≡◌ {A = ℕ × F} ((fields x).0.0, offset_of (fields x)) ((fields y).0.0, offset_of (fields y)) → fields x ≡ fields y
  same_fields x y h = one_kept K N s root eq adicity decides (fields x) (fields y) (odds x) (odds y) (kept x) (kept y) (ap (λ p. p.0) h) (ap (λ p. p.1) h)

  -- a size and its exponent of two that fit, and elements
  has_long : (d : D) → (fields d).0.0 < 256 ^ 8 → (long_domain other fields).HasSpelling d
  has_long d fits =
      let a = (fields d).1 in
      let exponent = exponent_fits s (fields d).0.0 (fields d).0.1 (odds d) adicity (kept d).splits in
      (((fits, exponent), (((all a.0.0.0, all a.0.0.1), (all a.0.1.0, all a.0.1.1)), ((all a.1.0.0, all a.1.0.1), all a.1.1))), tt)

  pub short_keeps_long : KeepsAlike (short_domain e (λ d. ((fields d).0.0, offset_of (fields d)))) (long_domain other fields)
  short_keeps_long x y h =
      let told = short_one_to_one e E one ((fields x).0.0, offset_of (fields x)) ((fields y).0.0, offset_of (fields y)) h.has.0 h.other.0 h.same in
      record {
        has = has_long x h.has.0.0;
        other = has_long y h.other.0.0;
        same = ap (λ f. ((word ⊗ number 4) ⊗ (((other ⊗ other) ⊗ (other ⊗ other)) ⊗ ((other ⊗ other) ⊗ other))).spelling f) (same_fields x y told);
      }

-- size and offset are among the fields
pub long_keeps_short : {F D : Type 0} (fields : D → DomainFields F) (e other : Format F) → IsFormat e → IsOneToOne e → ((x : F) → other.HasSpelling x)
    → KeepsAlike (long_domain e fields) (short_domain other (λ d. ((fields d).0.0, offset_of (fields d))))
long_keeps_short {F = F} fields e other E one all x y h =
    let told = long_one_to_one e E one (fields x) (fields y) h.has.0 h.other.0 h.same in
    record {
      has = ((h.has.0.0.0, all (offset_of (fields x))), tt);
      other = ((h.other.0.0.0, all (offset_of (fields y))), tt);
      same = ap (λ (f : DomainFields F). (word ⊗ other).spelling (f.0.0, offset_of f)) told;
    }

pub short_keeps : {F D : Type 0} (e other : Format F) → AreAlike e other → (fields : D → ℕ × F) → KeepsAlike (short_domain e fields) (short_domain other fields)
short_keeps e other A fields = keeps_alike (short_domain e fields) (short_domain other fields) (lawful_alike fields (λ _. Unit {0}) (word ⊗ e) (word ⊗ other) (pair_alike word word e other (one_format word) A))

pub long_keeps : {F D : Type 0} (e other : Format F) → AreAlike e other → (fields : D → DomainFields F) → KeepsAlike (long_domain e fields) (long_domain other fields)
long_keeps e other A fields =
    let two = pair_alike e other e other A A in
    let front = pair_alike (e ⊗ e) (other ⊗ other) (e ⊗ e) (other ⊗ other) two two in
    let back = pair_alike (e ⊗ e) (other ⊗ other) e other two A in
    let elements = pair_alike ((e ⊗ e) ⊗ (e ⊗ e)) ((other ⊗ other) ⊗ (other ⊗ other)) ((e ⊗ e) ⊗ e) ((other ⊗ other) ⊗ other) front back in
    let layout = (word ⊗ number 4) ⊗ (((e ⊗ e) ⊗ (e ⊗ e)) ⊗ ((e ⊗ e) ⊗ e)) in
    let layout_too = (word ⊗ number 4) ⊗ (((other ⊗ other) ⊗ (other ⊗ other)) ⊗ ((other ⊗ other) ⊗ other)) in
    keeps_alike (long_domain e fields) (long_domain other fields)
    (lawful_alike fields (λ _. Unit {0}) layout layout_too (pair_alike (word ⊗ number 4) (word ⊗ number 4) (((e ⊗ e) ⊗ (e ⊗ e)) ⊗ ((e ⊗ e) ⊗ e)) (((other ⊗ other) ⊗ (other ⊗ other)) ⊗ ((other ⊗ other) ⊗ other)) (one_format (word ⊗ number 4)) elements))

-- ---- comparing

both : {A B : Type 0} (p : A → A → Bool) (q : B → B → Bool) → ((x y : A) → Decides (p x y) (x ≡ y)) → ((x y : B) → Decides (q x y) (x ≡ y)) → (x y : A × B) → Decides (p x.0 y.0 && q x.1 y.1) (x ≡ y)
both p q d e x y = (
  (λ h.
      let parts = and_parts (p x.0 y.0) (q x.1 y.1) h in
      let firsts = (d x.0 y.0).0 parts.0 in
      let seconds = (e x.1 y.1).0 parts.1 in
      λ i. (firsts i, seconds i)),
  λ h.
      and_from (p x.0 y.0) (q x.1 y.1) ((d x.0 y.0).1 (ap (λ v. v.0) h)) ((e x.1 y.1).1 (ap (λ v. v.1) h)),
)

numbers : (m n : ℕ) → Decides (m == n) (m ≡ n)
numbers m n = (eqb-true m n, eq-eqb m n)

-- fields are compared one by one
pub fields_decide : {F : Type 0} (eq : F → F → Bool) → ((x y : F) → Decides (eq x y) (x ≡ y)) → (c d : DomainFields F)
    → Decides ((((c.0.0 == d.0.0) && (c.0.1 == d.0.1)) && (((eq c.1.0.0.0 d.1.0.0.0 && eq c.1.0.0.1 d.1.0.0.1) && (eq c.1.0.1.0 d.1.0.1.0 && eq c.1.0.1.1 d.1.0.1.1)) && ((eq c.1.1.0.0 d.1.1.0.0 && eq c.1.1.0.1 d.1.1.0.1) && eq c.1.1.1 d.1.1.1)))) (c ≡ d)
fields_decide eq e = both _ _ (both _ _ numbers numbers) (both _ _ (both _ _ (both _ _ e e) (both _ _ e e)) (both _ _ (both _ _ e e) e))
