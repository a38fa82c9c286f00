-- Lists of elements of a field below, as elements of its extension.
use Rattle.std.proofs.Common.{◌≡◌, ℕ, ◌+◌, ◌*◌, ◌^◌, ◌<◌, ◌≤◌, List, length, get_or, map, ap, ap₂, ◌∙◌, arith}
use Rattle.std.proofs.Math.Nat.{pow-le-pow_right}
use Rattle.ark_math.specs.Field.{FieldOn, IsField, minus, IsFieldEmbedding}
use Rattle.ark_math.specs.Univariate.{of_list}
use Rattle.ark_math.proofs.Lists.Lists.{read_as}
use Rattle.ark_math_variables.proofs.Polynomials.Multilinear.{bound}

module _ {F G : Type 0} (K : FieldOn F) (E : FieldOn G) (e : F → G) where
  -- an item that was read
  pub embedded_item : (xs : List F) (i : ℕ) (x : F) → i < length xs → x ≡ get_or xs i x → e x ≡ of_list E (map e xs) i
  embedded_item xs i x l is = read_as e E.zero xs i x l is

  module _ (N : IsField E) (embeds : IsFieldEmbedding K E e) where
    difference_kept : (a b : F) → e (minus K a b) ≡ minus E (e a) (e b)
    difference_kept a b = embeds.plus_kept a (K.negated b) ∙ ap (E.plus (e a)) (embeds.negated_kept b)

    -- a pair of a table's values, of which the first variable is bound to x
    pub bound_pair : (t : List F) (x : G) (i : ℕ) (low high : F) → 2 * i + 1 < length t → low ≡ get_or t (2 * i) low → high ≡ get_or t (2 * i + 1) high
        → E.plus (e low) (E.times (e (minus K high low)) x) ≡ bound E (of_list E (map e t)) x i
    bound_pair t x i low high l lower upper =
        ap (E.plus (e low)) (N.times_comm (e (minus K high low)) x ∙ ap (E.times x) (difference_kept high low))
        ∙ ap₂ (λ a b. E.plus a (E.times x (minus E b a))) (embedded_item t (2 * i) low (omega arith) lower) (embedded_item t (2 * i + 1) high l upper)

-- no word is a power of two with 64 or more
pub too_many : (len variables : ℕ) → len < 2 ^ 64 → 64 ≤ variables → len ≡ 2 ^ variables → ⊥
too_many len variables fits many e =
    let big : 2 ^ 64 ≤ 2 ^ variables = pow-le-pow_right (omega arith) many in
    omega arith
