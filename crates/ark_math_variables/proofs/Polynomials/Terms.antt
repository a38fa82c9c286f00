-- Terms by their lists: when two are the same, and powers and degrees of lists joined or put in another order.
use Rattle.std.proofs.Common.{◌≡◌, ◌≢◌, ℕ, zero, suc, ◌+◌, ◌<◌, ◌≤◌, ◌⊎◌, true, false, List, [], ◌∷◌, ◌++◌, get_or, Decides, All, ◌==◌, if◌then◌else◌, sym, ◌∙◌, ap, ap₂, refl, arith, inl, inr, ⊎_elim, eqb}
use Rattle.std.proofs.lemmas.Bool.{cases_eq, cases_order, cases_Bool, cond-true, cond-false, eq-eqb, ne_eqb, false_from_ne_true}
use Rattle.std.proofs.lemmas.Bool.Decides.{Decides-eqb, not_from_Decides}
use Rattle.std.proofs.lemmas.Slice.Eq.{slice_eq-Decides}
use Rattle.std.proofs.lemmas.List.Elements.{All-head, All-tail}
use Rattle.std.proofs.lemmas.List.Sums.{sum_by-cons}
use Rattle.ark_math.specs.Field.{FieldOn, IsField, power}
use Rattle.ark_math_variables.specs.Term.{power_of, total_degree, term_value, IsTerm, IsWithin}
use Rattle.ark_math_variables.specs.Multivariate.{same_term}
use Rattle.ark_math.proofs.Algebra.Groups.{pair_Decides, one_times}

-- ---- one term or two

pub same_term-Decides : (s t : List (ℕ × ℕ)) → Decides (same_term s t) (s ≡ t)
same_term-Decides s t = slice_eq-Decides (λ p q. pair_Decides (Decides-eqb p.0 q.0) (Decides-eqb p.1 q.1)) s t (same_term s t) refl

pub same_term-same : (t : List (ℕ × ℕ)) → same_term t t ≡ true
same_term-same t = (same_term-Decides t t).1 refl

pub same_term-other : (s t : List (ℕ × ℕ)) → s ≢ t → same_term s t ≡ false
same_term-other s t ne = false_from_ne_true (same_term s t) (λ e. ne ((same_term-Decides s t).0 e))

pub cases_term : (s t : List (ℕ × ℕ)) → (s ≡ t) ⊎ (s ≢ t)
cases_term s t = ⊎_elim
    (λ e. inl ((same_term-Decides s t).0 e))
    (λ e. inr (not_from_Decides (same_term s t) (same_term-Decides s t) e))
    (cases_Bool (same_term s t))

-- ---- powers and totals of any lists

module _ (p : ℕ × ℕ) (ps : List (ℕ × ℕ)) (v : ℕ) where
  pub power_of-same : p.0 ≡ v → power_of (p ∷ ps) v ≡ p.1 + power_of ps v
  power_of-same e =
      sum_by-cons (λ q. if q.0 == v then q.1 else 0) p ps ∙ ap (λ n. n + power_of ps v) (cond-true (eqb p.0 v) p.1 0 (eq-eqb p.0 v e))

  pub power_of-other : p.0 ≢ v → power_of (p ∷ ps) v ≡ power_of ps v
  power_of-other ne =
      sum_by-cons (λ q. if q.0 == v then q.1 else 0) p ps
      ∙ ap (λ n. n + power_of ps v) (cond-false (eqb p.0 v) p.1 0 (ne_eqb p.0 v ne))
      ∙ omega arith

pub power_of-absent : (ps : List (ℕ × ℕ)) (v : ℕ) → All (λ p. p.0 ≢ v) ps → power_of ps v ≡ 0
power_of-absent [] v h = refl
power_of-absent (p ∷ ps) v h =
    power_of-other p ps v (All-head (λ q. q.0 ≢ v) p ps h) ∙ power_of-absent ps v (All-tail (λ q. q.0 ≢ v) p ps h)

pub total_degree-cons : (p : ℕ × ℕ) (ps : List (ℕ × ℕ)) → total_degree (p ∷ ps) ≡ p.1 + total_degree ps
total_degree-cons p ps = sum_by-cons (λ q. q.1) p ps

-- ---- variables below a bound

pub IsWithin-more : (m n : ℕ) (ps : List (ℕ × ℕ)) → m ≤ n → IsWithin m ps → IsWithin n ps
IsWithin-more m n ps l h k d b = let s = h k d b in omega (arith, l, s)

-- ---- what is made of the powers, however they are gathered

-- total joins a part for each pair, and the parts of one variable join to that of the sum
module _ {M : Type 0} (join : M → M → M) (none : M) (assoc : (a b c : M) → join (join a b) c ≡ join a (join b c)) (turn : (a b c : M) → join a (join b c) ≡ join b (join a c)) (unit : (a : M) → join none a ≡ a)
    (part : ℕ → ℕ → M) (part_zero : (v : ℕ) → part v 0 ≡ none) (part_sum : (v m n : ℕ) → part v (m + n) ≡ join (part v m) (part v n))
    (total : List (ℕ × ℕ) → M) (start : total [] ≡ none) (step : (p : ℕ × ℕ) (ps : List (ℕ × ℕ)) → total (p ∷ ps) ≡ join (part p.0 p.1) (total ps)) where
  -- of the first n variables
  total_below : ℕ → List (ℕ × ℕ) → M
  total_below zero ps = none
  total_below (suc n) ps = join (part n (power_of ps n)) (total_below n ps)

  total_below-nil : (n : ℕ) → total_below n [] ≡ none
  unfolding total_below
  total_below-nil zero = refl
  total_below-nil (suc n) = ap₂ join (part_zero n) (total_below-nil n) ∙ unit none

  total_below-past : (n : ℕ) (p : ℕ × ℕ) (ps : List (ℕ × ℕ)) → n ≤ p.0 → total_below n (p ∷ ps) ≡ total_below n ps
  unfolding total_below
  total_below-past zero p ps l = refl
  total_below-past (suc n) p ps l = ap₂ join (ap (part n) (power_of-other p ps n (λ e. omega arith))) (total_below-past n p ps (omega arith))

  total_below-cons : (n : ℕ) (p : ℕ × ℕ) (ps : List (ℕ × ℕ)) → p.0 < n → total_below n (p ∷ ps) ≡ join (part p.0 p.1) (total_below n ps)
  unfolding total_below
  total_below-cons zero p ps l = absurd (omega arith)
  total_below-cons (suc n) p ps l = ⊎_elim
      (λ (e : p.0 ≡ n).
      ap₂ join (ap (part n) (power_of-same p ps n e) ∙ part_sum n p.1 (power_of ps n)) (total_below-past n p ps (omega arith))
      ∙ assoc (part n p.1) (part n (power_of ps n)) (total_below n ps)
      ∙ ap (λ v. join (part v p.1) (join (part n (power_of ps n)) (total_below n ps))) (sym e))
      (λ (ne : p.0 ≢ n).
      ap₂ join (ap (part n) (power_of-other p ps n ne)) (total_below-cons n p ps (omega arith))
      ∙ turn (part n (power_of ps n)) (part p.0 p.1) (total_below n ps))
      (cases_eq p.0 n)

  total_below-same : (n : ℕ) (ps qs : List (ℕ × ℕ)) → ((v : ℕ) → power_of ps v ≡ power_of qs v) → total_below n ps ≡ total_below n qs
  unfolding total_below
  total_below-same zero ps qs h = refl
  total_below-same (suc n) ps qs h = ap₂ join (ap (part n) (h n)) (total_below-same n ps qs h)

pub term_value-append : {F : Type 0} (K : FieldOn F) → IsField K → (x : List F) (ps qs : List (ℕ × ℕ)) → term_value K (ps ++ qs) x ≡ K.times (term_value K ps x) (term_value K qs x)
term_value-append K N x [] qs = sym (one_times K N (term_value K qs x))
term_value-append K N x (p ∷ ps) qs =
    ap (K.times (power K (get_or x p.0 K.zero) p.1)) (term_value-append K N x ps qs)
    ∙ sym (N.times_assoc (power K (get_or x p.0 K.zero) p.1) (term_value K ps x) (term_value K qs x))

-- ---- the one list of a term

pub IsTerm-nil : IsTerm []
IsTerm-nil = record { rising = λ i j d l m. absurd (omega arith); some = λ k d l. absurd (omega arith); fits = omega arith }

IsTerm-tail : (p : ℕ × ℕ) (ps : List (ℕ × ℕ)) → IsTerm (p ∷ ps) → IsTerm ps
IsTerm-tail p ps h = record {
  rising = λ i j d l m. h.rising (suc i) (suc j) d (omega arith) (omega arith);
  some = λ k d l. h.some (suc k) d (omega arith);
  fits = let t = total_degree-cons p ps in let f = h.fits in omega (arith, t, f);
}

module _ (p : ℕ × ℕ) (ps : List (ℕ × ℕ)) (h : IsTerm (p ∷ ps)) where
  after_first : All (λ q. p.0 < q.0) ps
  after_first k d l = h.rising 0 (suc k) d (omega arith) (omega arith)

  power_of-first : power_of (p ∷ ps) p.0 ≡ p.1
  power_of-first =
      power_of-same p ps p.0 refl
      ∙ ap (λ n. p.1 + n) (power_of-absent ps p.0 (λ k d l e. let m = after_first k d l in omega (arith, m, e)))
      ∙ omega arith

  power_of-before : (v : ℕ) → v < p.0 → power_of (p ∷ ps) v ≡ 0
  power_of-before v l =
      power_of-other p ps v (λ e. omega arith) ∙ power_of-absent ps v (λ k d b e. let m = after_first k d b in omega (arith, m, e, l))

-- terms are told by their powers
pub same_powers : (ps qs : List (ℕ × ℕ)) → IsTerm ps → IsTerm qs → ((v : ℕ) → power_of ps v ≡ power_of qs v) → ps ≡ qs
same_powers [] [] s t e = refl
same_powers [] (q ∷ qs) s t e = let a = power_of-first q qs t in let b = e q.0 in let l = t.some 0 q (omega arith) in absurd (omega (arith, a, b, l))
same_powers (p ∷ ps) [] s t e = let a = power_of-first p ps s in let b = e p.0 in let l = s.some 0 p (omega arith) in absurd (omega (arith, a, b, l))
same_powers (p ∷ ps) (q ∷ qs) s t e =
    let a = power_of-first p ps s in
    let b = power_of-first q qs t in
    ⊎_elim
    (λ (f : p.0 ≡ q.0).
    let g : p.1 ≡ q.1 = sym a ∙ e p.0 ∙ ap (power_of (q ∷ qs)) f ∙ b in
    let rest : (v : ℕ) → power_of ps v ≡ power_of qs v = λ v. ⊎_elim
    (λ (c : p.0 ≡ v).
    let x = power_of-same p ps v c in
    let y = power_of-same q qs v (sym f ∙ c) in
    let z = e v in
    omega (arith, x, y, z, g))
    (λ (ne : p.0 ≢ v). sym (power_of-other p ps v ne) ∙ e v ∙ power_of-other q qs v (λ c. ne (f ∙ c)))
    (cases_eq p.0 v) in
    ap₂ (λ u us. u ∷ us) (ap₂ (λ x y. (x, y)) f g) (same_powers ps qs (IsTerm-tail p ps s) (IsTerm-tail q qs t) rest))
    (λ h. ⊎_elim
    (λ (l : p.0 < q.0).
    let x = power_of-before q qs t p.0 l in
    let y = e p.0 in
    let m = s.some 0 p (omega arith) in
    absurd (omega (arith, a, x, y, m)))
    (λ (l : q.0 < p.0).
    let x = power_of-before p ps s q.0 l in
    let y = e q.0 in
    let m = t.some 0 q (omega arith) in
    absurd (omega (arith, b, x, y, m)))
    h)
    (cases_order p.0 q.0)
