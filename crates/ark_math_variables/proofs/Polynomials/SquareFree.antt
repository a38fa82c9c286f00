-- Products of variables, each once: their powers, one variable more, and those whose variables are all among another's.
use Rattle.std.proofs.Common.{◌≡◌, ◌≢◌, ℕ, zero, suc, ◌<◌, ◌≤◌, ◌⊎◌, All, List, [], ◌∷◌, ◌++◌, length, get_or, sym, ◌∙◌, ap, ap₂, refl, arith, inl, inr, ⊎_elim}
use Rattle.std.proofs.lemmas.Bool.{cases_eq, cases_order}
use Rattle.std.proofs.lemmas.List.Elements.{All-append, All-cons, All-tail}
use Rattle.std.proofs.lemmas.List.Quantifiers.{all_pairs_push}
use Rattle.ark_math_variables.specs.Term.{power_of}
use Rattle.ark_math_variables.specs.Multilinear.{IsSquareFree}
use Rattle.ark_math_variables.proofs.Polynomials.Terms.{power_of-same, power_of-other, power_of-absent}

pub square_free-nil : (m : ℕ) → IsSquareFree m []
square_free-nil m = record { rising = λ i j d l k. absurd (omega arith); once = λ k d l. absurd (omega arith) }

pub square_free-tail : (m : ℕ) (p : ℕ × ℕ) (ps : List (ℕ × ℕ)) → IsSquareFree m (p ∷ ps) → IsSquareFree m ps
square_free-tail m p ps h = record {
  rising = λ i j d l k. h.rising (suc i) (suc j) d (omega arith) (omega arith);
  once = All-tail (λ q. (q.0 < m) × (q.1 ≡ 1)) p ps h.once;
}

-- ---- powers

-- the first variable is in none of the rest
first_absent : (m : ℕ) (p : ℕ × ℕ) (ps : List (ℕ × ℕ)) (v : ℕ) → IsSquareFree m (p ∷ ps) → v ≤ p.0 → power_of ps v ≡ 0
first_absent m p ps v h l =
    power_of-absent ps v (λ k d b e. let a = h.rising 0 (suc k) d (omega arith) (omega arith) in omega (arith, a, e, l))

pub square_free-few : (m : ℕ) (ps : List (ℕ × ℕ)) (v : ℕ) → IsSquareFree m ps → power_of ps v ≤ 1
square_free-few m [] v h = omega arith
square_free-few m (p ∷ ps) v h = ⊎_elim
    (λ (e : p.0 ≡ v).
    let s = power_of-same p ps v e in
    let none = first_absent m p ps v h (omega arith) in
    let one = (h.once 0 p (omega arith)).1 in
    omega (arith, s, none, one))
    (λ (ne : p.0 ≢ v).
    let s = power_of-other p ps v ne in
    let rest = square_free-few m ps v (square_free-tail m p ps h) in
    omega (arith, s, rest))
    (cases_eq p.0 v)

-- each of its variables has power one
pub square_free-at : (m : ℕ) (ps : List (ℕ × ℕ)) → IsSquareFree m ps → All (λ p. power_of ps p.0 ≡ 1) ps
square_free-at m [] h k d l = absurd (omega arith)
square_free-at m (p ∷ ps) h zero d l =
    let s = power_of-same p ps p.0 refl in
    let none = first_absent m p ps p.0 h (omega arith) in
    let one = (h.once 0 p (omega arith)).1 in
    omega (arith, s, none, one)
square_free-at m (p ∷ ps) h (suc k) d l =
    let a = h.rising 0 (suc k) d (omega arith) (omega arith) in
    power_of-other p ps (get_or ps k d).0 (λ e. omega (arith, a, e)) ∙ square_free-at m ps (square_free-tail m p ps h) k d (omega arith)

-- ---- one variable more

pub square_free-wider : (m : ℕ) (ps : List (ℕ × ℕ)) → IsSquareFree m ps → IsSquareFree (suc m) ps
square_free-wider m ps h = record {
  rising = h.rising;
  once = λ k d l. let o = h.once k d l in let b = o.0 in (omega (arith, b), o.1);
}

pub square_free-push : (m : ℕ) (ps : List (ℕ × ℕ)) → IsSquareFree m ps → IsSquareFree (suc m) (ps ++ (m, 1) ∷ [])
square_free-push m ps h =
    let wider = square_free-wider m ps h in
    record {
      rising = all_pairs_push (λ p q. p.0 < q.0) ps (m, 1) h.rising (λ k d l. (h.once k d l).0);
      once = All-append (λ p. (p.0 < suc m) × (p.1 ≡ 1)) ps ((m, 1) ∷ []) wider.once
          (All-cons (λ p. (p.0 < suc m) × (p.1 ≡ 1)) (m, 1) [] (omega arith, refl) (λ k d l. absurd (omega arith)));
    }

-- ---- variables among another's

-- all of them, or fewer
pub square_free-among : (m n : ℕ) (ps qs : List (ℕ × ℕ)) → IsSquareFree m ps → IsSquareFree n qs → All (λ p. power_of qs p.0 ≡ 1) ps → (ps ≡ qs) ⊎ (length ps < length qs)
square_free-among m n [] [] g h w = inl refl
square_free-among m n [] (q ∷ qs) g h w = inr (omega arith)
square_free-among m n (p ∷ ps) [] g h w = let e = w 0 p (omega arith) in let z : power_of [] p.0 ≡ 0 = refl in absurd (omega (arith, e, z))
square_free-among m n (p ∷ ps) (q ∷ qs) g h w = ⊎_elim
    (λ (e : q.0 ≡ p.0).
    let rest : All (λ r. power_of qs r.0 ≡ 1) ps = λ k d l.
    let a = g.rising 0 (suc k) d (omega arith) (omega arith) in
    sym (power_of-other q qs (get_or ps k d).0 (λ f. omega (arith, a, e, f))) ∙ w (suc k) d (omega arith) in
    let one = (g.once 0 p (omega arith)).1 ∙ sym (h.once 0 q (omega arith)).1 in
    ⊎_elim
    (λ (same : ps ≡ qs). inl (ap₂ (λ u us. u ∷ us) (ap₂ (λ x y. (x, y)) (sym e) one) same))
    (λ (less : length ps < length qs). inr (omega (arith, less)))
    (square_free-among m n ps qs (square_free-tail m p ps g) (square_free-tail n q qs h) rest))
    (λ (ne : q.0 ≢ p.0).
    let here : power_of qs p.0 ≡ 1 = sym (power_of-other q qs p.0 ne) ∙ w 0 p (omega arith) in
    let after : q.0 < p.0 = ⊎_elim
    (λ (l : p.0 ≤ q.0). let z = first_absent n q qs p.0 h l in absurd (omega (arith, here, z)))
    (λ (l : q.0 < p.0). l)
    (⊎_elim (λ (e : q.0 ≡ p.0). inl (omega (arith, e))) (λ o. ⊎_elim (λ (l : q.0 < p.0). inr l) (λ (l : p.0 < q.0). inl (omega (arith, l))) o) (cases_order q.0 p.0)) in
    let rest : All (λ r. power_of qs r.0 ≡ 1) ps = λ k d l.
    let a = g.rising 0 (suc k) d (omega arith) (omega arith) in
    sym (power_of-other q qs (get_or ps k d).0 (λ f. omega (arith, a, after, f))) ∙ w (suc k) d (omega arith) in
    ⊎_elim
    (λ (same : p ∷ ps ≡ qs). let long = ap length same in inr (omega (arith, long)))
    (λ (less : length (p ∷ ps) < length qs). inr (omega (arith, less)))
    (square_free-among m n (p ∷ ps) qs g (square_free-tail n q qs h) (All-cons (λ r. power_of qs r.0 ≡ 1) p ps here rest)))
    (cases_eq q.0 p.0)
