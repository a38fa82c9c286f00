-- The graded order is total, ties exactly the same lists, and on the lists of terms is the order by the least variable where two differ.
use Rattle.std.proofs.Common.{◌≡◌, ◌≢◌, ℕ, suc, ◌+◌, ◌<◌, ◌≤◌, ◌==◌, ◌&&◌, ◌⊎◌, ◌↔◌, inl, inr, Bool, true, false, Decides, List, [], ◌∷◌, if◌then◌else◌, sym, ◌∙◌, ap, ap₂, refl, subst, arith, ⊎_elim}
use Rattle.std.specs.Cmp.{IsTotalOrder, IsPartialOrder, on_total, back_total, then_total, nat_cmp_total, nat_eq_equiv, po, unsigned_ties, both_tied, tied_itself}
use Rattle.std.specs.Cmp.Lexicographic.{slice_cmp, lists_total, lists_ties, pointwise_decides}
use Rattle.std.specs.List.{All, AllPairs}
use Rattle.std.specs.Ordering.{nat_cmp, as_partial_cmp, eq_by_cmp, is_eq, is_gt, ordering_then, ordering_reverse}
use Rattle.std.specs.declared.cmp.Ordering.{Ordering}
use Rattle.std.specs.declared.cmp.Ordering.TheVariants.{Less, Equal, Greater}
use Rattle.std.proofs.lemmas.Bool.{eqb-true, eq-eqb, true≢false, cases_order}
use Rattle.std.proofs.lemmas.Bool.Decides.{Decides-and, Decides-eqb}
use Rattle.std.proofs.lemmas.Cmp.{ranked}
use Rattle.std.proofs.lemmas.List.Elements.{All-head, All-tail}
use Rattle.std.proofs.lemmas.List.Sums.{sum_by-cons}
use Rattle.ark_math_variables.specs.Multivariate.{same_term}
use Rattle.ark_math_variables.specs.Term.{IsTerm, IsAbove, FirstGreater, power_of, total_degree}
use Rattle.ark_tables.specs.Graded.{pair_cmp, graded_cmp}

-- ---- the laws of a comparison

pair_total : IsTotalOrder pair_cmp
pair_total = then_total (back_total (on_total (λ p. p.0) nat_cmp_total)) (on_total (λ p. p.1) nat_cmp_total)

-- of lists, by the first pairs that differ
pub pairs_total : IsTotalOrder (slice_cmp pair_cmp)
pairs_total = lists_total pair_total

pub graded_total : IsTotalOrder graded_cmp
graded_total = then_total (on_total total_degree nat_cmp_total) pairs_total

abbrev same_pair : ℕ × ℕ → ℕ × ℕ → Bool
same_pair p q = (p.0 == q.0) && (p.1 == q.1)

pair_ties : (p q : ℕ × ℕ) → same_pair p q ≡ eq_by_cmp pair_cmp p q
pair_ties p q = both_tied (p.0 == q.0) (p.1 == q.1) (nat_cmp q.0 p.0) (nat_cmp p.1 q.1) (nat_eq_equiv.symm p.0 q.0 ∙ unsigned_ties q.0 p.0) (unsigned_ties p.1 q.1)

pair_decides : (p q : ℕ × ℕ) → Decides (same_pair p q) (p ≡ q)
pair_decides p q =
    let both = Decides-and (p.0 == q.0) (p.1 == q.1) (Decides-eqb p.0 q.0) (Decides-eqb p.1 q.1) in
    (λ e. let same = both.0 e in ap₂ (λ variable power. (variable, power)) same.0 same.1, λ e. both.1 (ap (λ x. x.0) e, ap (λ x. x.1) e))

pub same_term_Decides : (s t : List (ℕ × ℕ)) → Decides (same_term s t) (s ≡ t)
same_term_Decides s t = pointwise_decides pair_decides s t

then_tied : (a b : Ordering) → (b ≡ Equal → a ≡ Equal) → is_eq b ≡ is_eq (ordering_then a b)
then_tied Less Less h = refl
then_tied Less Equal h = sym (ap is_eq (h refl))
then_tied Less Greater h = refl
then_tied Equal b h = refl
then_tied Greater Less h = refl
then_tied Greater Equal h = sym (ap is_eq (h refl))
then_tied Greater Greater h = refl

pub pairs_ties : (s t : List (ℕ × ℕ)) → same_term s t ≡ eq_by_cmp (slice_cmp pair_cmp) s t
pairs_ties s t = lists_ties pair_cmp pair_ties s t

same_totals : (s t : List (ℕ × ℕ)) → s ≡ t → nat_cmp (total_degree s) (total_degree t) ≡ Equal
same_totals s t e = ap (λ u. nat_cmp (total_degree s) (total_degree u)) (sym e) ∙ tied_itself nat_cmp_total (total_degree s)

pub graded_ties : (s t : List (ℕ × ℕ)) → same_term s t ≡ eq_by_cmp graded_cmp s t
graded_ties s t =
    pairs_ties s t
    ∙ then_tied (nat_cmp (total_degree s) (total_degree t)) (slice_cmp pair_cmp s t)
    (λ e. same_totals s t ((same_term_Decides s t).0 (pairs_ties s t ∙ ap is_eq e)))

pub graded_partial : IsPartialOrder same_term (as_partial_cmp graded_cmp)
graded_partial = po graded_total graded_ties

-- ---- lists of terms

rising-head : (p : ℕ × ℕ) (ps : List (ℕ × ℕ)) → AllPairs (λ p q. p.0 < q.0) (p ∷ ps) → All (λ q. p.0 < q.0) ps
rising-head p ps h k d l = h 0 (suc k) d (omega arith) (omega arith)

rising-tail : (p : ℕ × ℕ) (ps : List (ℕ × ℕ)) → AllPairs (λ p q. p.0 < q.0) (p ∷ ps) → AllPairs (λ p q. p.0 < q.0) ps
rising-tail p ps h i j d a l = h (suc i) (suc j) d (omega arith) (omega arith)

abbrev share : ℕ × ℕ → ℕ → ℕ
share p u = if p.0 == u then p.1 else 0

share_other : (p : ℕ × ℕ) (u : ℕ) → p.0 ≢ u → share p u ≡ 0
share_other p u ne = go (p.0 == u) refl
  where
    go : (b : Bool) → (p.0 == u) ≡ b → (if b then p.1 else 0) ≡ 0
    go true e = absurd (ne (eqb-true p.0 u e))
    go false e = refl

share_own : (p : ℕ × ℕ) (u : ℕ) → p.0 ≡ u → share p u ≡ p.1
share_own p u e = ap (λ b. if b then p.1 else 0) (eq-eqb p.0 u e)

power_of-cons : (p : ℕ × ℕ) (ps : List (ℕ × ℕ)) (u : ℕ) → power_of (p ∷ ps) u ≡ share p u + power_of ps u
power_of-cons p ps u = sum_by-cons (λ q. share q u) p ps

-- no power of a variable below all
power_of-below : (u : ℕ) (ps : List (ℕ × ℕ)) → All (λ q. u < q.0) ps → power_of ps u ≡ 0
power_of-below u [] h = refl
power_of-below u (p ∷ ps) h =
    let first : u < p.0 = All-head (λ q. u < q.0) p ps h in
    let own = share_other p u (omega arith) in
    let rest = power_of-below u ps (All-tail (λ q. u < q.0) p ps h) in
    let both = power_of-cons p ps u in
    omega arith

all_above : (u v : ℕ) (ps : List (ℕ × ℕ)) → u ≤ v → All (λ q. v < q.0) ps → All (λ q. u < q.0) ps
all_above u v ps le h = λ k d l. let b = h k d l in omega arith

-- ---- the first pairs that differ

-- what makes a chain of two greater
then_greater : (a b : Ordering) → ordering_then a b ≡ Greater → (a ≡ Greater) ⊎ ((a ≡ Equal) × (b ≡ Greater))
then_greater Less b h = inl h
then_greater Equal b h = inr (refl, h)
then_greater Greater b h = inl refl

nat_greater : (m n : ℕ) → nat_cmp m n ≡ Greater → n < m
nat_greater m n h = ranked m n Greater (sym h)

nat_equal : (m n : ℕ) → nat_cmp m n ≡ Equal → m ≡ n
nat_equal m n h = ranked m n Equal (sym h)

abbrev IsFirst : List (ℕ × ℕ) → List (ℕ × ℕ) → Type 0
IsFirst ps qs = (v : ℕ) × FirstGreater ps qs v

-- the lower variable stands in one list alone
first_lower : (p q : ℕ × ℕ) (ps qs : List (ℕ × ℕ)) → AllPairs (λ p q. p.0 < q.0) (p ∷ ps) → AllPairs (λ p q. p.0 < q.0) (q ∷ qs) → 0 < p.1 → p.0 < q.0 → IsFirst (p ∷ ps) (q ∷ qs)
first_lower p q ps qs left right some lower = (
  p.0,
  record {
    before = λ u l.
        let mine = power_of-cons p ps u in
        let own = share_other p u (omega arith) in
        let rest = power_of-below u ps (all_above u p.0 ps (omega arith) (rising-head p ps left)) in
        let theirs = power_of-cons q qs u in
        let other = share_other q u (omega arith) in
        let others = power_of-below u qs (all_above u q.0 qs (omega arith) (rising-head q qs right)) in
        omega arith;
    greater =
        let mine = power_of-cons p ps p.0 in
        let own = share_own p p.0 refl in
        let theirs = power_of-cons q qs p.0 in
        let other = share_other q p.0 (omega arith) in
        let others = power_of-below p.0 qs (all_above p.0 q.0 qs (omega arith) (rising-head q qs right)) in
        omega arith;
  },
)

-- one variable, and two powers
first_more : (p q : ℕ × ℕ) (ps qs : List (ℕ × ℕ)) → AllPairs (λ p q. p.0 < q.0) (p ∷ ps) → AllPairs (λ p q. p.0 < q.0) (q ∷ qs) → p.0 ≡ q.0 → q.1 < p.1 → IsFirst (p ∷ ps) (q ∷ qs)
first_more p q ps qs left right same more = (
  p.0,
  record {
    before = λ u l.
        let mine = power_of-cons p ps u in
        let own = share_other p u (omega arith) in
        let rest = power_of-below u ps (all_above u p.0 ps (omega arith) (rising-head p ps left)) in
        let theirs = power_of-cons q qs u in
        let other = share_other q u (omega arith) in
        let others = power_of-below u qs (all_above u q.0 qs (omega arith) (rising-head q qs right)) in
        omega arith;
    greater =
        let mine = power_of-cons p ps p.0 in
        let own = share_own p p.0 refl in
        let theirs = power_of-cons q qs p.0 in
        let other = share_own q p.0 (sym same) in
        let others = power_of-below p.0 qs (all_above p.0 q.0 qs (omega arith) (rising-head q qs right)) in
        omega arith;
  },
)

-- the same pair before both
first_behind : (p q : ℕ × ℕ) (ps qs : List (ℕ × ℕ)) → p ≡ q → IsFirst ps qs → IsFirst (p ∷ ps) (q ∷ qs)
first_behind p q ps qs e h = (
  h.0,
  record {
    before = λ u l.
        let mine = power_of-cons p ps u in
        let theirs = power_of-cons q qs u in
        let same : share p u ≡ share q u = ap (λ x. share x u) e in
        let rest = h.1.before u l in
        omega arith;
    greater =
        let mine = power_of-cons p ps h.0 in
        let theirs = power_of-cons q qs h.0 in
        let same : share p h.0 ≡ share q h.0 = ap (λ x. share x h.0) e in
        let rest = h.1.greater in
        omega arith;
  },
)

total_degree-cons : (p : ℕ × ℕ) (ps : List (ℕ × ℕ)) → total_degree (p ∷ ps) ≡ p.1 + total_degree ps
total_degree-cons p ps = sum_by-cons (λ q. q.1) p ps

first_greater : (ps qs : List (ℕ × ℕ)) → AllPairs (λ p q. p.0 < q.0) ps → AllPairs (λ p q. p.0 < q.0) qs → All (λ p. 0 < p.1) ps → total_degree ps ≡ total_degree qs → slice_cmp pair_cmp ps qs ≡ Greater → IsFirst ps qs
first_greater [] [] left right some totals h = absurd (true≢false (ap is_eq h))
first_greater [] (q ∷ qs) left right some totals h = absurd (true≢false (sym (ap is_gt h)))
first_greater (p ∷ ps) [] left right some totals h =
    let pos : 0 < p.1 = All-head (λ p. 0 < p.1) p ps some in
    let all = total_degree-cons p ps in
    absurd (omega (arith, totals, all, pos))
first_greater (p ∷ ps) (q ∷ qs) left right some totals h =
    let pos : 0 < p.1 = All-head (λ p. 0 < p.1) p ps some in
    ⊎_elim
    (λ a. ⊎_elim
    (λ lower. first_lower p q ps qs left right pos (nat_greater q.0 p.0 lower))
    (λ more. first_more p q ps qs left right (sym (nat_equal q.0 p.0 more.0)) (nat_greater p.1 q.1 more.1))
    (then_greater (nat_cmp q.0 p.0) (nat_cmp p.1 q.1) a))
    (λ b.
    let e : p ≡ q = (pair_decides p q).0 (pair_ties p q ∙ ap is_eq b.0) in
    let powers : p.1 ≡ q.1 = ap (λ x. x.1) e in
    let mine = total_degree-cons p ps in
    let theirs = total_degree-cons q qs in
    first_behind p q ps qs e (first_greater ps qs (rising-tail p ps left) (rising-tail q qs right) (All-tail (λ p. 0 < p.1) p ps some) (omega arith) b.1))
    (then_greater (pair_cmp p q) (slice_cmp pair_cmp ps qs) h)

-- ---- the order of terms

above_from_greater : (s t : List (ℕ × ℕ)) → IsTerm s → IsTerm t → graded_cmp s t ≡ Greater → IsAbove s t
above_from_greater s t left right h =
    ⊎_elim
    (λ a. inl (nat_greater (total_degree s) (total_degree t) a))
    (λ b.
    let totals = nat_equal (total_degree s) (total_degree t) b.0 in
    inr (sym totals, first_greater s t left.rising right.rising left.some totals b.1))
    (then_greater (nat_cmp (total_degree s) (total_degree t)) (slice_cmp pair_cmp s t) h)

first_one_way : (s t : List (ℕ × ℕ)) (v w : ℕ) → FirstGreater s t v → FirstGreater t s w → ⊥
first_one_way s t v w h k =
    ⊎_elim
    (λ e. let there : power_of s v < power_of t v = subst (λ u. power_of s u < power_of t u) (sym e) k.greater in
    let here = h.greater in
    omega arith)
    (λ d. ⊎_elim
    (λ l. let same = k.before v l in
    let here = h.greater in
    omega arith)
    (λ l. let same = h.before w l in
    let here = k.greater in
    omega arith)
    d)
    (cases_order v w)

above_one_way : (s t : List (ℕ × ℕ)) → IsAbove s t → IsAbove t s → ⊥
above_one_way s t (inl a) (inl b) = omega arith
above_one_way s t (inl a) (inr b) = let e = b.0 in omega arith
above_one_way s t (inr a) (inl b) = let e = a.0 in omega arith
above_one_way s t (inr a) (inr b) = first_one_way s t a.1.0 b.1.0 a.1.1 b.1.1

graded_same : (s t : List (ℕ × ℕ)) → graded_cmp s t ≡ Equal → s ≡ t
graded_same s t h = (same_term_Decides s t).0 (graded_ties s t ∙ ap is_eq h)

turned : (s t : List (ℕ × ℕ)) → graded_cmp s t ≡ Less → graded_cmp t s ≡ Greater
turned s t h = graded_total.antisymm t s ∙ ap ordering_reverse h

greater_from_above : (s t : List (ℕ × ℕ)) → IsTerm s → IsTerm t → IsAbove s t → graded_cmp s t ≡ Greater
greater_from_above s t left right h = go (graded_cmp s t) refl
  where
    go : (o : Ordering) → graded_cmp s t ≡ o → o ≡ Greater
    go Less e = absurd (above_one_way s t h (above_from_greater t s right left (turned s t e)))
    go Equal e =
        let same = graded_same s t e in
        absurd (above_one_way s s (subst (IsAbove s) (sym same) h) (subst (IsAbove s) (sym same) h))
    go Greater e = refl

pub IsGreater : (s t : List (ℕ × ℕ)) (o : Ordering) → IsTerm s → IsTerm t → o ≡ graded_cmp s t → (o ≡ Greater) ↔ IsAbove s t
IsGreater s t o left right is = (λ e. above_from_greater s t left right (sym is ∙ e), λ h. is ∙ greater_from_above s t left right h)

pub IsLess : (s t : List (ℕ × ℕ)) (o : Ordering) → IsTerm s → IsTerm t → o ≡ graded_cmp s t → (o ≡ Less) ↔ IsAbove t s
IsLess s t o left right is = (
  λ e. above_from_greater t s right left (turned s t (sym is ∙ e)),
  λ h. is ∙ graded_total.antisymm s t ∙ ap ordering_reverse (greater_from_above t s right left h),
)

pub IsEqual : (s t : List (ℕ × ℕ)) (o : Ordering) → o ≡ graded_cmp s t → (o ≡ Equal) ↔ (s ≡ t)
IsEqual s t o is = (λ e. graded_same s t (sym is ∙ e), λ e. is ∙ ap (λ u. graded_cmp s u) (sym e) ∙ tied_itself graded_total s)
