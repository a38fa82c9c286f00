-- The least power of two, and the domain that has this size.
use Rattle.std.proofs.Common.{◌≡◌, ℕ, zero, suc, ◌*◌, ◌^◌, ◌<◌, ◌≤◌, Bool, true, false, if◌then◌else◌, inl, inr, sym, ◌∙◌, ap, refl, arith, pow-suc}
use Rattle.std.specs.Prelude.{nat_le}
use Rattle.std.proofs.Math.Nat.{pow-zero, one-le-pow}
use Rattle.std.proofs.lemmas.Bool.{cases_lt, leb-true, leb-false}
use Rattle.ark_math.specs.Field.{FieldOn}
use Rattle.ark_math.specs.Root.{Adicity, Splits, odd_base}
use Rattle.ark_math.specs.Domain.{Kind, radix2, mixed_radix, Domain, domain_of, IsDomain, IsSize, IsLeast, IsRadix2, HasNoSize}
use Rattle.ark_math_transforms.proofs.Domains.GeneralSizes.{none_from_no_least}
use Rattle.ark_math.proofs.Domains.Sizes.{power_lt}
use Rattle.shards_lib.specs.Numbers.{doubled, domain_size, IsNumberDomain}

times_more : (x m : ℕ) → 1 ≤ x → m ≤ x * m
times_more x m h = grind arith

twice_first : (x m : ℕ) → x * 2 * m ≡ 2 * (x * m)
twice_first x m = grind arith

twice_second : (x m : ℕ) → x * 2 * m ≡ x * (2 * m)
twice_second x m = grind arith

-- one doubling
doubled-step : (b : Bool) (times m n e size : ℕ) → nat_le n m ≡ b
    → ((e : ℕ) → e ≤ times → size ≡ 2 ^ e * (2 * m) → (0 < e → size < 2 * n) → doubled times (2 * m) n ≡ size)
    → e ≤ suc times → size ≡ 2 ^ e * m → n ≤ size → (0 < e → size < 2 * n) → (if b then m else doubled times (2 * m) n) ≡ size
doubled-step true times m n zero size t next few is above half = let one : 2 ^ 0 * m ≡ m = omega arith in sym (is ∙ one)
doubled-step true times m n (suc e) size t next few is above half =
    let bound : n ≤ m = leb-true n m t in
    let short : size < 2 * n = half (omega arith) in
    let some : 1 ≤ 2 ^ e = one-le-pow e 2 (omega arith) in
    let more : m ≤ 2 ^ e * m = times_more (2 ^ e) m some in
    let twice : 2 ^ suc e * m ≡ 2 * (2 ^ e * m) = ap (λ x. x * m) (pow-suc 2 e) ∙ twice_first (2 ^ e) m in
    absurd (omega (arith, bound, short, more, twice, is))
doubled-step false times m n zero size t next few is above half =
    let bound : m < n = leb-false n m t in
    let one : 2 ^ 0 * m ≡ m = omega arith in
    absurd (omega (arith, bound, above, one, is))
doubled-step false times m n (suc e) size t next few is above half =
    next e (omega (arith, few)) (is ∙ ap (λ x. x * m) (pow-suc 2 e) ∙ twice_second (2 ^ e) m) (λ some. half (omega arith))

-- doubling finds the power of two whose half is too small
doubled-is : (times m n e size : ℕ) → e ≤ times → size ≡ 2 ^ e * m → n ≤ size → (0 < e → size < 2 * n) → doubled times m n ≡ size
unfolding doubled
doubled-is zero m n zero size few is above half = let one : 2 ^ 0 * m ≡ m = omega arith in sym (is ∙ one)
doubled-is zero m n (suc e) size few is above half = absurd (omega (arith, few))
doubled-is (suc times) m n e size few is above half =
    doubled-step (nat_le n m) times m n e size refl (λ e few is half. doubled-is times (2 * m) n e size few is above half) few is above half

module _ (s : Adicity) (n size : ℕ) (is : IsLeast (IsSize s radix2) n size) where
  plain : (twos : ℕ) → 2 ^ twos * odd_base s.odd ^ 0 ≡ 2 ^ twos * 1
  plain twos = ap (λ x. 2 ^ twos * x) (pow-zero (odd_base s.odd))

  -- half of it is too small
  half : (twos : ℕ) → Splits s size twos 0 → 0 < twos → size < 2 * n
  half zero split some = absurd (omega (arith, some))
  half (suc w) split some =
      let e : 2 ^ suc w ≡ 2 ^ w * 2 = pow-suc 2 w in
      let whole : size ≡ 2 ^ suc w * 1 = split.product ∙ plain (suc w) in
      let least_half : 1 ≤ 2 ^ w = one-le-pow w 2 (omega arith) in
      let one : 2 ^ w ≡ 2 ^ w * 1 = omega arith in
      let within = split.twos_within in
      let fits = split.fits in
      let smaller : IsSize s radix2 (2 ^ w) = (
        w,
        record {
          product = one ∙ sym (plain w);
          twos_within = omega (arith, within);
          odds_within = split.odds_within;
          fits = omega (arith, fits, whole, e);
        },
      ) in
      elim (cases_lt (2 ^ w) n) [
        | inl l ↦ omega (arith, l, whole, e)
        | inr l ↦ let bound : size ≤ 2 ^ w = is.least (2 ^ w) smaller l in absurd (omega (arith, bound, whole, e, least_half))
      ]

  few_doublings : (twos : ℕ) → Splits s size twos 0 → n ≤ 65536 → twos ≤ 16
  few_doublings zero split few = omega arith
  few_doublings (suc w) split few =
      let e : 2 ^ suc w ≡ 2 ^ w * 2 = pow-suc 2 w in
      let whole : size ≡ 2 ^ suc w * 1 = split.product ∙ plain (suc w) in
      let short : size < 2 * n = half (suc w) split (omega arith) in
      let below : 2 ^ w < 2 ^ 16 = omega (arith, e, whole, short, few) in
      let lt : w < 16 = power_lt w 16 below in
      omega (arith, lt)

  pub least_size : n ≤ 65536 → size ≡ domain_size n
  least_size few =
      let twos = is.holds.0 in
      let split = is.holds.1 in
      sym (doubled-is 16 1 n twos size (few_doublings twos split few) (split.product ∙ plain twos) is.above (half twos split))

-- ---- domains

radix2_kind : (s : Adicity) (n : ℕ) (kind : Kind) (size : ℕ) → IsRadix2 s n kind size → kind ≡ radix2
radix2_kind s n radix2 size h = refl
radix2_kind s n mixed_radix size h = absurd h

radix2_least : (s : Adicity) (n : ℕ) (kind : Kind) (size : ℕ) → IsRadix2 s n kind size → IsLeast (IsSize s radix2) n size
radix2_least s n radix2 size h = h
radix2_least s n mixed_radix size h = absurd h

-- where a field has the powers of two up to 2^16, each number up to it has a size
pub has_size : (s : Adicity) (n : ℕ) → 16 ≤ s.two → n ≤ 65536 → HasNoSize (IsRadix2 s) n → ⊥
has_size s n most few none =
    let one : odd_base s.odd ^ 0 ≡ 1 = pow-zero (odd_base s.odd) in
    let whole : 65536 ≡ 2 ^ 16 * 1 = omega arith in
    let split : Splits s 65536 16 0 = record {
      product = whole ∙ sym (ap (λ x. 2 ^ 16 * x) one);
      twos_within = most;
      odds_within = omega arith;
      fits = omega arith;
    } in
    let below = none_from_no_least (IsSize s radix2) n (λ m least. none radix2 m least) 65536 (16, split) in
    omega (arith, few, below)

-- and none of its sizes is below it
pub no_size_below : (s : Adicity) (k n : ℕ) → k ≤ n → (kind : Kind) × (m : ℕ) × IsRadix2 s n kind m × (m < k) → ⊥
no_size_below s k n fits (kind, m, size, below) =
    let above = (radix2_least s n kind m size).above in
    omega (arith, fits, below, above)

module _ {F : Type 0} (K : FieldOn F) (s : Adicity) (root : ℕ → F) (n : ℕ) where
  same_parts : (d e : Domain F) → d.kind ≡ e.kind → d.size ≡ e.size → d.root ≡ e.root → d.offset ≡ e.offset → d ≡ e
  same_parts d e a b c o =
      ap (λ k. domain_of k d.size d.root d.offset) a ∙ ap (λ m. domain_of e.kind m d.root d.offset) b
      ∙ ap (λ r. domain_of e.kind e.size r d.offset) c ∙ ap (λ x. domain_of e.kind e.size e.root x) o

  -- two domains that are made for n are one
  pub same_domain : (d e : Domain F) → IsDomain K s root d → IsDomain K s root e → IsRadix2 s n d.kind d.size → IsRadix2 s n e.kind e.size → d.offset ≡ K.one → e.offset ≡ K.one → d ≡ e
  same_domain d e D E a b o p =
      let x = radix2_least s n d.kind d.size a in
      let y = radix2_least s n e.kind e.size b in
      let up : d.size ≤ e.size = x.least e.size y.holds y.above in
      let down : e.size ≤ d.size = y.least d.size x.holds x.above in
      let size : d.size ≡ e.size = omega (arith, up, down) in
      same_parts d e (radix2_kind s n d.kind d.size a ∙ sym (radix2_kind s n e.kind e.size b)) size
      (D.root_of ∙ ap root size ∙ sym E.root_of) (o ∙ sym p)

  pub number_domain : (d : Domain F) → IsDomain K s root d → IsRadix2 s n d.kind d.size → d.offset ≡ K.one → n ≤ 65536 → IsNumberDomain K root n d
  number_domain d D a o few = record {
    size = least_size s n d.size (radix2_least s n d.kind d.size a) few;
    root_is = D.root_of;
    offset = o;
  }

  pub domain_room : (d : Domain F) → IsRadix2 s n d.kind d.size → n ≤ d.size
  domain_room d a = (radix2_least s n d.kind d.size a).above
