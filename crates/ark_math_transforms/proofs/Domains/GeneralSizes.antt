-- The size that the general type takes: that of radix 2, or the mixed one where radix 2 has none.
use Rattle.std.proofs.Common.{◌≡◌, ℕ, suc, zero, ◌^◌, ◌<◌, ◌≤◌, inl, inr, arith, refl}
use Rattle.std.proofs.lemmas.Bool.{cases_lt}
use Rattle.ark_math.specs.Root.{Adicity}
use Rattle.ark_math.specs.Domain.{Kind, radix2, mixed_radix, IsSize, IsLeast, HasNone, HasNoSize, IsRadix2, IsMixedRadix, IsGeneral}
use Rattle.ark_math.proofs.Domains.Sizes.{one_least}

-- where there is no least one there is none at all
none_before : (P : ℕ → Type 0) (k b : ℕ) → ((n : ℕ) → IsLeast P k n → ⊥) → (m : ℕ) → m < b → P m → k ≤ m → ⊥
none_before P k zero none m l p a = omega arith
none_before P k (suc b) none m l p a = none m
    (record {
      holds = p;
      above = a;
      least = λ n q c. elim (cases_lt n m) [
        | inl less ↦ absurd (none_before P k b none n (omega arith) q c)
        | inr more ↦ more
      ];
    })

pub none_from_no_least : (P : ℕ → Type 0) (k : ℕ) → ((n : ℕ) → IsLeast P k n → ⊥) → HasNone P k
none_from_no_least P k none m p = elim (cases_lt m k) [
  | inl less ↦ less
  | inr more ↦ absurd (none_before P k (suc m) none m (omega arith) p more)
]

pub general_sizes : (s : Adicity) (k : ℕ) (kind : Kind) (n : ℕ) → IsGeneral s k kind n → IsSize s kind n × (k ≤ n)
general_sizes s k radix2 n h = (h.holds, h.above)
general_sizes s k mixed_radix n h = (h.0.holds, h.0.above)

-- so it takes one for words alone
pub general_fits : (s : Adicity) (k : ℕ) (kind : Kind) (n : ℕ) → IsGeneral s k kind n → k < 2 ^ 64
general_fits s k radix2 n h = let f = h.holds.1.fits in let a = h.above in omega arith
general_fits s k mixed_radix n h = let f = h.0.holds.1.2.fits in let a = h.0.above in omega arith

pub general_from_radix2 : (s : Adicity) (k : ℕ) (kind : Kind) (n : ℕ) → IsRadix2 s k kind n → IsGeneral s k kind n
general_from_radix2 s k radix2 n h = h
general_from_radix2 s k mixed_radix n h = absurd h

-- where radix 2 has none, it takes what the mixed one does
pub general_from_mixed : (s : Adicity) (k : ℕ) → HasNoSize (IsRadix2 s) k → (kind : Kind) (n : ℕ) → IsMixedRadix s k kind n → IsGeneral s k kind n
general_from_mixed s k none radix2 n h = absurd h
general_from_mixed s k none mixed_radix n h = (h, none_from_no_least (IsSize s radix2) k (none radix2))

pub general_none : (s : Adicity) (k : ℕ) → HasNoSize (IsRadix2 s) k → HasNoSize (IsMixedRadix s) k → HasNoSize (IsGeneral s) k
general_none s k even mixed radix2 n h = even radix2 n h
general_none s k even mixed mixed_radix n h = mixed mixed_radix n h.0

pub one_general_size : (s : Adicity) (k : ℕ) (a b : Kind) (m n : ℕ) → IsGeneral s k a m → IsGeneral s k b n → (a ≡ b) × (m ≡ n)
one_general_size s k radix2 radix2 m n f g = (refl, one_least (IsSize s radix2) k m n f g)
one_general_size s k radix2 mixed_radix m n f g = let l = g.1 m f.holds in let a = f.above in absurd (omega arith)
one_general_size s k mixed_radix radix2 m n f g = let l = f.1 n g.holds in let a = g.above in absurd (omega arith)
one_general_size s k mixed_radix mixed_radix m n f g = (refl, one_least (IsSize s mixed_radix) k m n f.0 g.0)
