-- Lists that are written at the multiples of a number, with zeros between them.
use Rattle.std.proofs.Common.{◌≡◌, ◌≢◌, ℕ, ◌+◌, ◌*◌, ◌/◌, ◌%◌, ◌<◌, ◌≤◌, List, length, set, sym, ◌∙◌, ap, arith, ⊎_elim, get_or-set_same, get_or-set_other}
use Rattle.std.proofs.Math.Nat.{mod-add-div, mul-le-mul_left}
use Rattle.std.proofs.lemmas.Bool.{cases_lt}
use Rattle.std.proofs.lemmas.Nat.{mod-mul-add}
use Rattle.ark_math.specs.Field.{FieldOn}
use Rattle.ark_math.specs.Univariate.{of_list}

pub multiple_within : (n s k : ℕ) → n % s ≡ 0 → k < n / s → k * s + s ≤ n
multiple_within n s k z l =
    let more : s * (k + 1) ≤ s * (n / s) = mul-le-mul_left s (omega arith) in
    omega (arith, mod-add-div n s, more, z)

not_multiple : (s j k r : ℕ) → 0 < r → r < s → s * j + r ≢ k * s
not_multiple s j k r p l e =
    let a : (j * s + r) % s ≡ r = mod-mul-add j s r l in
    let b : (k * s + 0) % s ≡ 0 = mod-mul-add k s 0 (omega arith) in
    let same : j * s + r ≡ k * s + 0 = omega arith in
    let c : (j * s + r) % s ≡ (k * s + 0) % s = ap (λ t. t % s) same in
    omega arith

module _ {F : Type 0} (K : FieldOn F) (s : ℕ) (f : ℕ → F) where
  -- the first k multiples of s are written
  pub record IsSpaced (k : ℕ) (c : List F) : Type 0 where
    pub at : (j : ℕ) → j < k → of_list K c (s * j) ≡ f j
    pub apart : (j r : ℕ) → 0 < r → r < s → of_list K c (s * j + r) ≡ K.zero

  pub spaced-set : (k : ℕ) (c : List F) (x : F) → 0 < s → k * s < length c → x ≡ f k → IsSpaced k c → IsSpaced (k + 1) (set c (k * s) x)
  spaced-set k c x p l e h = record {
    at = λ j b. ⊎_elim
        (λ (m : j < k).
        let more : s * (j + 1) ≤ s * k = mul-le-mul_left s (omega arith) in
        get_or-set_other c (k * s) (s * j) x K.zero (λ g. omega arith) ∙ h.at j m)
        (λ (m : k ≤ j).
        let same : k ≡ j = omega arith in
        let here : s * j ≡ k * s = ap (λ t. s * t) (sym same) ∙ (let g : s * k ≡ k * s = omega arith in g) in
        ap (of_list K (set c (k * s) x)) here ∙ get_or-set_same c (k * s) x K.zero l ∙ e ∙ ap f same)
        (cases_lt j k);
    apart = λ j r q b. get_or-set_other c (k * s) (s * j + r) x K.zero (not_multiple s j k r q b) ∙ h.apart j r q b;
  }
