-- The powers of like variables summed up, of pairs whose variables don't fall.
use Rattle.std.proofs.Common.{◌≡◌, ◌≢◌, ℕ, ◌+◌, ◌<◌, ◌≤◌, ◌==◌, Bool, true, false, List, length, get_or, take, if◌then◌else◌, ◌^◌, sym, ap, refl, subst, arith}
use Rattle.std.specs.List.{All}
use Rattle.std.specs.List.Sorted.{IsNonDecreasingBy}
use Rattle.std.proofs.lemmas.List.{get_or_default}
use Rattle.std.proofs.lemmas.List.Sums.{sum_by_more, sum_by-take-le}
use Rattle.ark_math_variables.specs.Term.{IsTerm, power_of, total_degree}

if_plus : (b : Bool) (m n : ℕ) → (if b then m + n else 0) ≡ (if b then m else 0) + (if b then n else 0)
if_plus true m n = refl
if_plus false m n = refl

if_zero : (b : Bool) (m : ℕ) → m ≡ 0 → (if b then m else 0) ≡ 0
if_zero true m e = e
if_zero false m e = refl

-- the first i pairs are done: those in c, and the power n of the variable v
pub record IsGathered (ps c : List (ℕ × ℕ)) (i v n : ℕ) : Type 0 where
  pub term : IsTerm c
  pub below : All (λ p. p.0 < v) c
  pub powers : (u : ℕ) → power_of c u + (if v == u then n else 0) ≡ power_of (take i ps) u
  pub total : total_degree c + n ≡ total_degree (take i ps)
  pub next : (k : ℕ) (d : ℕ × ℕ) → i ≤ k → k < length ps → v ≤ (get_or ps k d).0

-- one more pair of the same variable
gathered_same : (ps c : List (ℕ × ℕ)) (i v n : ℕ) → IsGathered ps c i v n → i < length ps → (get_or ps i (0, 0)).0 ≡ v → IsGathered ps c (i + 1) v (n + (get_or ps i (0, 0)).1)
gathered_same ps c i v n h l same = record {
  term = h.term;
  below = h.below;
  powers = λ u.
      let x = get_or ps i (0, 0) in
      let more : power_of (take (i + 1) ps) u ≡ power_of (take i ps) u + (if x.0 == u then x.1 else 0) = sum_by_more (λ p. if p.0 == u then p.1 else 0) ps i (0, 0) l in
      let here : (if x.0 == u then x.1 else 0) ≡ (if v == u then x.1 else 0) = ap (λ t. if t == u then x.1 else 0) same in
      let both : (if v == u then n + x.1 else 0) ≡ (if v == u then n else 0) + (if v == u then x.1 else 0) = if_plus (v == u) n x.1 in
      let before = h.powers u in
      omega arith;
  total =
      let more : total_degree (take (i + 1) ps) ≡ total_degree (take i ps) + (get_or ps i (0, 0)).1 = sum_by_more (λ p. p.1) ps i (0, 0) l in
      let before = h.total in
      omega arith;
  next = λ k d a b. h.next k d (omega arith) b;
}

-- the variable is done, and the next one begins
gathered_next : (ps c e : List (ℕ × ℕ)) (i v n : ℕ) → IsGathered ps c i v n → IsNonDecreasingBy (λ p. p.0) ps → i < length ps → (get_or ps i (0, 0)).0 ≢ v → IsTerm e → ((u : ℕ) → power_of e u ≡ power_of c u + (if v == u then n else 0)) → total_degree e ≡ total_degree c + n → ((m : ℕ) → v < m → All (λ p. p.0 < m) e) → IsGathered ps e i (get_or ps i (0, 0)).0 0
gathered_next ps c e i v n h rises l ne term powers total below =
    let x = get_or ps i (0, 0) in
    let up : v ≤ x.0 = h.next i (0, 0) (omega arith) l in
    record {
      term = term;
      below = below x.0 (omega arith);
      powers = λ u.
          let none = if_zero (x.0 == u) 0 refl in
          let before = h.powers u in
          let now = powers u in
          omega arith;
      total =
          let before = h.total in
          omega arith;
      next = λ k d a b.
          let r : (get_or ps i d).0 ≤ (get_or ps k d).0 = rises i k d a b in
          let u : x.0 ≡ (get_or ps i d).0 = ap (λ t. t.0) (get_or_default ps i (0, 0) d l) in
          omega arith;
    }

-- the two ways of a turn of the loop
pub gathered_step_same : (ps c e : List (ℕ × ℕ)) (i v n w m : ℕ) → IsGathered ps c i v n → i < length ps → (get_or ps i (0, 0)).0 ≡ v → e ≡ c → w ≡ v → m ≡ n → IsGathered ps e (i + 1) w (m + (get_or ps i (0, 0)).1)
gathered_step_same ps c e i v n w m h l same f g k =
    subst (λ t. IsGathered ps t (i + 1) w (m + (get_or ps i (0, 0)).1)) (sym f)
    (subst (λ t. IsGathered ps c (i + 1) t (m + (get_or ps i (0, 0)).1)) (sym g)
    (subst (λ t. IsGathered ps c (i + 1) v (t + (get_or ps i (0, 0)).1)) (sym k)
    (gathered_same ps c i v n h l same)))

pub gathered_step_next : (ps c e f : List (ℕ × ℕ)) (i v n w m : ℕ) → IsGathered ps c i v n → IsNonDecreasingBy (λ p. p.0) ps → i < length ps → (get_or ps i (0, 0)).0 ≢ v → IsTerm e → ((u : ℕ) → power_of e u ≡ power_of c u + (if v == u then n else 0)) → total_degree e ≡ total_degree c + n → ((m : ℕ) → v < m → All (λ p. p.0 < m) e) → f ≡ e → w ≡ (get_or ps i (0, 0)).0 → m ≡ 0 → IsGathered ps f (i + 1) w (m + (get_or ps i (0, 0)).1)
gathered_step_next ps c e f i v n w m h rises l ne term powers total below g j k =
    let x = get_or ps i (0, 0) in
    gathered_step_same ps e f i x.0 0 w m (gathered_next ps c e i v n h rises l ne term powers total below) l refl g j k

-- what waits fits beside what is done
pub gathered_fits : (ps c : List (ℕ × ℕ)) (i v n : ℕ) → IsGathered ps c i v n → total_degree ps < 2 ^ 64 → total_degree c + n < 2 ^ 64
gathered_fits ps c i v n h l =
    let part : total_degree (take i ps) ≤ total_degree ps = sum_by-take-le (λ p. p.1) ps i in
    let all = h.total in
    omega arith
