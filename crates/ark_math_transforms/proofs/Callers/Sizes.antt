-- The sizes of domains: what is computed is what the types take, and what `compute_size_of_domain` and `new` answer then.
use Rattle.std.proofs.Common.{◌≡◌, ◌↔◌, ◌⊎◌, ℕ, zero, suc, ◌*◌, ◌^◌, ◌<◌, ◌≤◌, inl, inr, Bool, true, false, ◌&&◌, Option, Some, None, is_some, IsSome, IsNone, IfSome, MatchOption, List, [], ◌∷◌, ◌++◌, if◌then◌else◌, sym, ◌∙◌, ap, refl, subst, arith, true≢false}
use Rattle.std.specs.Prelude.{nat_le, nat_lt}
use Rattle.std.proofs.lemmas.Bool.{cases_lt, cases_eq, and_parts, ltb-true, leb-true, ltb-false, leb-false}
use Rattle.ark_math.specs.Root.{Adicity, Splits, odd_base, odd_most}
use Rattle.ark_math.specs.Domain.{Kind, radix2, mixed_radix, IsSize, IsLeast, HasNone, HasNoSize, IsGeneral}
use Rattle.ark_math_transforms.proofs.Callers.ComputedSizes.{sizes_with, sizes_below, sizes_of, nearer, nearest, size_of_kind, first_kind, general_size}

-- m is an item of the list
abbrev IsAmong : ℕ → List ℕ → Type 0
IsAmong m [] = ⊥
IsAmong m (n ∷ ns) = (m ≡ n) ⊎ IsAmong m ns

-- ---- the nearest of a list

-- m is one of those looked at
abbrev Counts : ℕ → List ℕ → ℕ → Type 0
Counts k ns m = IsAmong m ns × (m < 2 ^ 64) × (k ≤ m)

abbrev IsNearest : ℕ → List ℕ → Option ℕ → Type 0
IsNearest k ns o = MatchOption o ((m : ℕ) → Counts k ns m → ⊥) (λ n. Counts k ns n × ((m : ℕ) → Counts k ns m → n ≤ m))

not_both : (a b : Bool) → (a && b) ≡ false → (a ≡ false) ⊎ (b ≡ false)
not_both true b e = inr e
not_both false b e = inl refl

nearer-is : (k n : ℕ) (ns : List ℕ) (o : Option ℕ) → IsNearest k ns o → IsNearest k (n ∷ ns) (nearer k n o)
nearer-is k n ns None h = by (nat_le k n && nat_lt n (2 ^ 64)) refl
  where
    by : (b : Bool) → (nat_le k n && nat_lt n (2 ^ 64)) ≡ b → IsNearest k (n ∷ ns) (if b then Some n else None)
    by true e = let p = and_parts (nat_le k n) (nat_lt n (2 ^ 64)) e in (
      (inl refl, ltb-true n (2 ^ 64) p.1, leb-true k n p.0),
      λ m c. elim c.0 [
        | inl same ↦ omega arith
        | inr among ↦ absurd (h m (among, c.1, c.2))
      ],
    )
    by false e = λ m c. elim c.0 [
      | inl same ↦ elim (not_both (nat_le k n) (nat_lt n (2 ^ 64)) e) [
        | inl f ↦ let l = leb-false k n f in let a = c.2 in omega arith
        | inr f ↦ let l = ltb-false n (2 ^ 64) f in let a = c.1 in omega arith
      ]
      | inr among ↦ h m (among, c.1, c.2)
    ]
nearer-is k n ns (Some x) h = by (nat_le k n && nat_lt n x) refl
  where
    by : (b : Bool) → (nat_le k n && nat_lt n x) ≡ b → IsNearest k (n ∷ ns) (if b then Some n else Some x)
    by true e =
        let p = and_parts (nat_le k n) (nat_lt n x) e in
        let l = ltb-true n x p.1 in
        let fits = h.0.1 in (
          (inl refl, omega arith, leb-true k n p.0),
          λ m c. elim c.0 [
            | inl same ↦ omega arith
            | inr among ↦ let a = h.1 m (among, c.1, c.2) in omega arith
          ],
        )
    by false e = (
      (inr h.0.0, h.0.1, h.0.2),
      λ m c. elim c.0 [
        | inl same ↦ elim (not_both (nat_le k n) (nat_lt n x) e) [
          | inl f ↦ let l = leb-false k n f in let a = c.2 in absurd (omega arith)
          | inr f ↦ let l = ltb-false n x f in omega arith
        ]
        | inr among ↦ h.1 m (among, c.1, c.2)
      ],
    )

nearest-is : (k : ℕ) (ns : List ℕ) → IsNearest k ns (nearest k ns)
nearest-is k [] = λ m c. c.0
nearest-is k (n ∷ ns) = nearer-is k n ns (nearest k ns) (nearest-is k ns)

-- ---- the lists of sizes

among-left : (m : ℕ) (xs ys : List ℕ) → IsAmong m xs → IsAmong m (xs ++ ys)
among-left m [] ys h = absurd h
among-left m (x ∷ xs) ys (inl e) = inl e
among-left m (x ∷ xs) ys (inr h) = inr (among-left m xs ys h)

among-right : (m : ℕ) (xs ys : List ℕ) → IsAmong m ys → IsAmong m (xs ++ ys)
among-right m [] ys h = h
among-right m (x ∷ xs) ys h = inr (among-right m xs ys h)

among-both : (m : ℕ) (xs ys : List ℕ) → IsAmong m (xs ++ ys) → IsAmong m xs ⊎ IsAmong m ys
among-both m [] ys h = inr h
among-both m (x ∷ xs) ys (inl e) = inl (inl e)
among-both m (x ∷ xs) ys (inr h) = elim (among-both m xs ys h) [
  | inl a ↦ inl (inr a)
  | inr b ↦ inr b
]

module _ (s : Adicity) where
  abbrev size_at : ℕ → ℕ → ℕ
  size_at twos odds = 2 ^ twos * odd_base s.odd ^ odds

  among_with : (odds count twos m : ℕ) → twos < count → m ≡ size_at twos odds → IsAmong m (sizes_with s odds count)
  among_with odds zero twos m l e = absurd (omega arith)
  among_with odds (suc count) twos m l e = elim (cases_eq twos count) [
    | inl same ↦ inl (e ∙ ap (λ t. size_at t odds) same)
    | inr ne ↦ inr (among_with odds count twos m (omega arith) e)
  ]

  with_among : (odds count m : ℕ) → IsAmong m (sizes_with s odds count) → (twos : ℕ) × (twos < count) × (m ≡ size_at twos odds)
  with_among odds zero m h = absurd h
  with_among odds (suc count) m (inl e) = (count, omega arith, e)
  with_among odds (suc count) m (inr h) = let w = with_among odds count m h in (w.0, omega (arith, w.1), w.2)

  among_below : (count twos odds m : ℕ) → odds < count → twos ≤ s.two → m ≡ size_at twos odds → IsAmong m (sizes_below s count)
  among_below zero twos odds m l t e = absurd (omega arith)
  among_below (suc count) twos odds m l t e = elim (cases_eq odds count) [
    | inl same ↦ among-left m (sizes_with s count (suc s.two)) (sizes_below s count) (among_with count (suc s.two) twos m (omega arith) (e ∙ ap (size_at twos) same))
    | inr ne ↦ among-right m (sizes_with s count (suc s.two)) (sizes_below s count) (among_below count twos odds m (omega arith) t e)
  ]

  below_among : (count m : ℕ) → IsAmong m (sizes_below s count) → (twos : ℕ) × (odds : ℕ) × (odds < count) × (twos ≤ s.two) × (m ≡ size_at twos odds)
  below_among zero m h = absurd h
  below_among (suc count) m h = elim (among-both m (sizes_with s count (suc s.two)) (sizes_below s count) h) [
    | inl a ↦ let w = with_among count (suc s.two) m a in (w.0, count, omega arith, omega (arith, w.1), w.2)
    | inr b ↦ let w = below_among count m b in (w.0, w.1, omega (arith, w.2), w.3, w.4)
  ]

  -- the sizes of a kind are the listed products that fit
  listed : (kind : Kind) (m : ℕ) → IsSize s kind m → IsAmong m (sizes_of s kind)
  listed radix2 m h = let w = h.1.twos_within in among_with 0 (suc s.two) h.0 m (omega arith) h.1.product
  listed mixed_radix m h = by (is_some s.odd) h.0
    where
      by : (b : Bool) → b ≡ true → IsAmong m (if b then sizes_below s (suc (odd_most s.odd)) else [])
      by true e =
          let w = h.1.2.odds_within in
          among_below (suc (odd_most s.odd)) h.1.0 h.1.1 m (omega arith) h.1.2.twos_within h.1.2.product
      by false e = absurd (true≢false (sym e))

  size_listed : (kind : Kind) (m : ℕ) → IsAmong m (sizes_of s kind) → m < 2 ^ 64 → IsSize s kind m
  size_listed radix2 m h fits =
      let w = with_among 0 (suc s.two) m h in
      (w.0, record { product = w.2; twos_within = omega (arith, w.1); odds_within = omega arith; fits = fits })
  size_listed mixed_radix m h fits = by (is_some s.odd) refl h
    where
      by : (b : Bool) → is_some s.odd ≡ b → IsAmong m (if b then sizes_below s (suc (odd_most s.odd)) else []) → IsSome s.odd × ((twos : ℕ) × (odds : ℕ) × Splits s m twos odds)
      by true e a =
          let w = below_among (suc (odd_most s.odd)) m a in
          (e, (w.0, w.1, record { product = w.4; twos_within = w.3; odds_within = omega (arith, w.2); fits = fits }))
      by false e a = absurd a

  size_fits : (kind : Kind) (m : ℕ) → IsSize s kind m → m < 2 ^ 64
  size_fits radix2 m h = h.1.fits
  size_fits mixed_radix m h = h.1.2.fits

  -- ---- what is computed

  size_of_kind-is : (kind : Kind) (k : ℕ) (o : Option ℕ) → IsNearest k (sizes_of s kind) o → MatchOption o (HasNone (IsSize s kind) k) (IsLeast (IsSize s kind) k)
  size_of_kind-is kind k None h = λ m size. elim (cases_lt m k) [
    | inl less ↦ less
    | inr more ↦ absurd (h m (listed kind m size, size_fits kind m size, more))
  ]
  size_of_kind-is kind k (Some n) h = record {
    holds = size_listed kind n h.0.0 h.0.1;
    above = h.0.2;
    least = λ m size l. h.1 m (listed kind m size, size_fits kind m size, l);
  }

  computed : (kind : Kind) (k : ℕ) → MatchOption (size_of_kind s kind k) (HasNone (IsSize s kind) k) (IsLeast (IsSize s kind) k)
  computed kind k = size_of_kind-is kind k (size_of_kind s kind k) (nearest-is k (sizes_of s kind))

  -- a computed size is what the type of radix 2 or of mixed radix domains takes for k: `IsRadix2` or `IsMixedRadix`
  pub size_of_kind-some : (kind : Kind) (k n : ℕ) → size_of_kind s kind k ≡ Some n → IsLeast (IsSize s kind) k n
  size_of_kind-some kind k n e = subst (λ o. MatchOption o (HasNone (IsSize s kind) k) (IsLeast (IsSize s kind) k)) e (computed kind k)

  -- where no size is computed the type has none for k
  pub size_of_kind-none : (kind : Kind) (k : ℕ) → size_of_kind s kind k ≡ None → HasNone (IsSize s kind) k
  size_of_kind-none kind k e = subst (λ o. MatchOption o (HasNone (IsSize s kind) k) (IsLeast (IsSize s kind) k)) e (computed kind k)

  general_is : (k : ℕ) (o p : Option ℕ) → MatchOption o (HasNone (IsSize s radix2) k) (IsLeast (IsSize s radix2) k) → MatchOption p (HasNone (IsSize s mixed_radix) k) (IsLeast (IsSize s mixed_radix) k) → MatchOption (first_kind o p) (HasNoSize (IsGeneral s) k) (λ q. IsGeneral s k q.0 q.1)
  general_is k (Some n) p g h = g
  general_is k None (Some n) g h = (h, g)
  general_is k None None g h = none
    where
      none : (kind : Kind) (n : ℕ) → IsGeneral s k kind n → ⊥
      none radix2 n f = let l = g n f.holds in let a = f.above in omega arith
      none mixed_radix n f = let l = h n f.0.holds in let a = f.0.above in omega arith

  general_computed : (k : ℕ) → MatchOption (general_size s k) (HasNoSize (IsGeneral s) k) (λ q. IsGeneral s k q.0 q.1)
  general_computed k = general_is k (size_of_kind s radix2 k) (size_of_kind s mixed_radix k) (computed radix2 k) (computed mixed_radix k)

  -- a computed size is what the general type takes for k
  pub general_size-some : (k : ℕ) (kind : Kind) (n : ℕ) → general_size s k ≡ Some (kind, n) → IsGeneral s k kind n
  general_size-some k kind n e = subst (λ o. MatchOption o (HasNoSize (IsGeneral s) k) (λ q. IsGeneral s k q.0 q.1)) e (general_computed k)

  -- where no size is computed the general type has none for k
  pub general_size-none : (k : ℕ) → general_size s k ≡ None → HasNoSize (IsGeneral s) k
  general_size-none k e = subst (λ o. MatchOption o (HasNoSize (IsGeneral s) k) (λ q. IsGeneral s k q.0 q.1)) e (general_computed k)

-- ---- by the clauses of `compute_size_of_domain` and `new`

module _ (chooses : ℕ → Kind → ℕ → Type 0) (k : ℕ) (kind : Kind) (n : ℕ) (chosen : chooses k kind n) where
  -- `new` answers a domain where there is a size
  pub new-IsSome : {D : Type 0} (result : Option D) → (IsNone result ↔ HasNoSize chooses k) → IsSome result
  new-IsSome None none = absurd (none.0 refl kind n chosen)
  new-IsSome (Some d) none = refl

  -- `compute_size_of_domain` answers that size; `one_size` is a law of `EvaluationDomain`
  pub compute_size_of_domain-Some : ((k : ℕ) (a b : Kind) (m n : ℕ) → chooses k a m → chooses k b n → (a ≡ b) × (m ≡ n)) → (result : Option ℕ) → IfSome result (λ n. (kind : Kind) × chooses k kind n) → (IsNone result ↔ HasNoSize chooses k) → result ≡ Some n
  compute_size_of_domain-Some one_size None size none = absurd (none.0 refl kind n chosen)
  compute_size_of_domain-Some one_size (Some m) size none = ap Some (one_size k size.0 kind m n size.1 chosen).1
