-- The marked places of a subgroup and the kept ones: together they are the roots of x ^ n - 1, so at a marked place the
-- derivative of the one polynomial comes from the value of the other.
use Rattle.std.proofs.Common.{◌≡◌, ◌≢◌, ℕ, zero, suc, ◌+◌, ◌<◌, Bool, true, false, List, [], ◌∷◌, ◌++◌, length, map, get_or, cond, sym, ◌∙◌, ap, ap₂, refl, subst, arith, ⊎_elim}
use mathlib.Core.Path.{fun_ext}
use Rattle.std.specs.Prelude.{not}
use Rattle.std.proofs.lemmas.Bool.{cases_eq}
use Rattle.std.proofs.lemmas.List.{get_or-map, length-append, length-map}
use Rattle.std.proofs.lemmas.List.Sums.{sum_by-cons}
use Rattle.ark_math.specs.Field.{FieldOn, IsField, power, natural, minus}
use Rattle.ark_math.specs.Module.{itself}
use Rattle.ark_math.specs.Root.{HasOrder}
use Rattle.ark_math.specs.Domain.{Domain, element}
use Rattle.ark_math.specs.Univariate.{difference, monomial, nothing, IsBelow, IsValue}
use Rattle.ark_math_domains.specs.Points.{vanishing}
use Rattle.ark_math.proofs.Algebra.Groups.{itself_is_module, one_times, zero_scale}
use Rattle.ark_math.proofs.Algebra.Powers.{power-one, times_zero}
use Rattle.ark_math.proofs.Algebra.Solve.{◌⊕◌, ◌⊗◌, unit, nought}
use Rattle.ark_math.proofs.Algebra.Ring.{ring2, ring4, ring5}
use Rattle.ark_math_domains.proofs.Domains.Elements.{element-power, elements_differ}
use Rattle.ark_math_domains.proofs.OverDomains.AtElements.{value-vanishing, element-vanishes}
use Rattle.ark_math.proofs.Algebra.NonZero.{minus_same, same_from_minus}
use Rattle.ark_math_domains.proofs.OverDomains.Vanishing.{vanishing-below, vanishing-leading}
use Rattle.ark_math_polynomials.proofs.Polynomials.Univariate.{IsBelow-less, difference-below, monomial-same, monomial-other}
use Rattle.ark_math_polynomials.proofs.Polynomials.UnivariateValues.{one_value, value_is, value-difference, value-monomial}
use Rattle.ark_math_polynomials.proofs.Polynomials.Zeros.{zeros_nothing}
use Rattle.ark_math_polynomials.specs.Nodes.{nodes}
use Rattle.rs_code.specs.Codeword.{mark_count}
use Rattle.rs_code.specs.Locator.{euler, locator_at, lost, derivative_at}
use Rattle.rs_code.proofs.Factors.{nodes-value, derivative_at-value}
use Rattle.rs_code.proofs.Lost.{locator_at-lost, lost-length}
use Rattle.rs_code.proofs.Monic.{nodes_monic}

-- ---- the roots of two lists

module _ {F : Type 0} (K : FieldOn F) (N : IsField K) where
  locator_at-append : (rs ss : List F) (x : F) → locator_at K (rs ++ ss) x ≡ K.times (locator_at K rs x) (locator_at K ss x)
  locator_at-append [] ss x = sym (one_times K N (locator_at K ss x))
  locator_at-append (r ∷ rs) ss x =
      ap (K.times (minus K x r)) (locator_at-append rs ss x) ∙ sym (N.times_assoc (minus K x r) (locator_at K rs x) (locator_at K ss x))

  -- the product rule
  derivative_at-append : (rs ss : List F) (x : F) → derivative_at K (rs ++ ss) x ≡ K.plus (K.times (derivative_at K rs x) (locator_at K ss x)) (K.times (locator_at K rs x) (derivative_at K ss x))
  derivative_at-append [] ss x = ring2 K N (λ l s. (s, nought ⊗ l ⊕ unit ⊗ s)) refl (locator_at K ss x) (derivative_at K ss x)
  derivative_at-append (r ∷ rs) ss x =
      ap₂ (λ l s. K.plus l (K.times (minus K x r) s)) (locator_at-append rs ss x) (derivative_at-append rs ss x)
      ∙ ring5 K N (λ m l s k t. (l ⊗ k ⊕ m ⊗ (s ⊗ k ⊕ l ⊗ t), (l ⊕ m ⊗ s) ⊗ k ⊕ (m ⊗ l) ⊗ t)) refl (minus K x r) (locator_at K rs x) (derivative_at K rs x) (locator_at K ss x) (derivative_at K ss x)

-- ---- as many roots as a domain has elements, and each element one of them

module _ {F : Type 0} (K : FieldOn F) (N : IsField K) (d : Domain F) where
  euler-others : (i : ℕ) → i ≢ d.size → euler K (itself K) (vanishing K d) i ≡ K.zero
  euler-others zero ne = zero_scale N (itself_is_module K N) (vanishing K d 0)
  euler-others (suc i) ne =
      ap (K.times (natural K (suc i)))
      (ap₂ (minus K) (monomial-other K d.size K.one (suc i) (λ e. ne (sym e))) (monomial-other K 0 (power K d.offset d.size) (suc i) (λ e. omega arith))
      ∙ minus_same K N K.zero K.zero refl)
      ∙ times_zero K N (natural K (suc i))

  euler-vanishing : 0 < d.size → euler K (itself K) (vanishing K d) ≡ monomial K d.size (natural K d.size)
  euler-vanishing some =
      let leading = natural K d.size in
      fun_ext (λ i. ⊎_elim
      (λ (e : i ≡ d.size).
      ap (λ k. K.times (natural K k) (vanishing K d k)) e ∙ ap (K.times leading) (vanishing-leading K N d some) ∙ N.times_one leading
      ∙ sym (ap (monomial K d.size leading) e ∙ monomial-same K d.size leading))
      (λ (ne : i ≢ d.size). euler-others i ne ∙ sym (monomial-other K d.size leading i (λ e. ne (sym e))))
      (cases_eq i d.size))

  module _ (o : HasOrder K d.root d.size) (off : d.offset ≢ K.zero) (some : 0 < d.size) (rs : List F) (len : length rs ≡ d.size) (roots : (i : ℕ) → i < d.size → locator_at K rs (element K d i) ≡ K.zero) where
    less : ℕ → F
    less = difference K (nodes K rs) (vanishing K d)

    less-below : IsBelow K d.size less
    unfolding less
    less-below =
        let monic = nodes_monic K N rs in
        IsBelow-less K d.size less
        (minus_same K N _ _ (ap (nodes K rs) (sym len) ∙ monic.leading ∙ sym (vanishing-leading K N d some)))
        (difference-below K N (suc d.size) (nodes K rs) (vanishing K d)
        (λ i l. monic.rest i (omega arith))
        (λ i l. vanishing-below K N d i (omega arith)))

    less-value : (i : ℕ) → i < d.size → IsValue K less (element K d i) K.zero
    unfolding less
    less-value i l =
        subst (IsValue K less (element K d i)) (minus_same K N _ _ (roots i l))
        (value-difference K N (nodes K rs) (vanishing K d) (element K d i) _ _ (nodes-value K N rs (element K d i)) (element-vanishes K N d o i))

    nodes_is_vanishing : nodes K rs ≡ vanishing K d
    unfolding less
    nodes_is_vanishing =
        let none : less ≡ nothing K =
        zeros_nothing K N d.size less (element K d) less-below (elements_differ K N d o off)
        (λ i l. sym (value_is K N d.size less (element K d i) K.zero less-below (less-value i l))) in
        fun_ext (λ i. same_from_minus K N _ _ (ap (λ a. a i) none))

    locator_at-roots : (x : F) → locator_at K rs x ≡ minus K (power K x d.size) (power K d.offset d.size)
    locator_at-roots x =
        one_value K N (nodes K rs) x _ _ (nodes-value K N rs x)
        (subst (λ a. IsValue K a x (minus K (power K x d.size) (power K d.offset d.size))) (sym nodes_is_vanishing) (value-vanishing K N d x))

    derivative_at-roots : (x : F) → K.times x (derivative_at K rs x) ≡ K.times (natural K d.size) (power K x d.size)
    derivative_at-roots x =
        one_value K N (euler K (itself K) (nodes K rs)) x _ _ (derivative_at-value K N rs x)
        (subst (λ a. IsValue K a x (K.times (power K x d.size) (natural K d.size)))
        (sym (ap (euler K (itself K)) nodes_is_vanishing ∙ euler-vanishing some))
        (value-monomial K N d.size (natural K d.size) x))
        ∙ N.times_comm _ _

-- ---- the marked places and the others

pub mark_count-not : (marks : List Bool) → mark_count marks + mark_count (map not marks) ≡ length marks
mark_count-not [] = refl
mark_count-not (true ∷ marks) =
    let e = sum_by-cons (λ (mark : Bool). cond mark 1 0) true marks in
    let f = sum_by-cons (λ (mark : Bool). cond mark 1 0) false (map not marks) in
    let h = mark_count-not marks in
    omega (arith, e, f, h)
mark_count-not (false ∷ marks) =
    let e = sum_by-cons (λ (mark : Bool). cond mark 1 0) false marks in
    let f = sum_by-cons (λ (mark : Bool). cond mark 1 0) true (map not marks) in
    let h = mark_count-not marks in
    omega (arith, e, f, h)

module _ {F : Type 0} (K : FieldOn F) (N : IsField K) (d : Domain F) (o : HasOrder K d.root d.size) (one : d.offset ≡ K.one) where
  off : d.offset ≢ K.zero
  off z = N.one_not_zero (sym one ∙ z)

  offset_power : power K d.offset d.size ≡ K.one
  offset_power = ap (λ t. power K t d.size) one ∙ power-one K N d.size

  module _ (marks : List Bool) (len : length marks ≡ d.size) where
    abbrev gone : List F
    gone = lost K d marks

    abbrev kept : List F
    kept = lost K d (map not marks)

    both-length : length (gone ++ kept) ≡ d.size
    both-length = omega (arith, len, length-append gone kept, lost-length K d marks, lost-length K d (map not marks), mark_count-not marks)

    both-roots : (i : ℕ) → i < d.size → locator_at K (gone ++ kept) (element K d i) ≡ K.zero
    both-roots i l =
        let x = element K d i in
        let here : i < length marks = omega arith in
        let there : i < length (map not marks) = omega (arith, length-map marks not) in
        locator_at-append K N gone kept x
        ∙ elim (get_or marks i true) as (λ b. get_or marks i true ≡ b → K.times (locator_at K gone x) (locator_at K kept x) ≡ K.zero) [
          | true ↦ λ e.
              ap (λ t. K.times t (locator_at K kept x)) (locator_at-lost K N d o off marks i here e)
              ∙ zero_scale N (itself_is_module K N) (locator_at K kept x)
          | false ↦ λ e.
              ap (K.times (locator_at K gone x)) (locator_at-lost K N d o off (map not marks) i there (get_or-map not marks i true true here ∙ ap not e))
              ∙ times_zero K N (locator_at K gone x)
        ] refl

    derivative_at-kept : (i : ℕ) → i < d.size → get_or marks i true ≡ true → K.times (element K d i) (K.times (derivative_at K (lost K d marks) (element K d i)) (locator_at K (lost K d (map not marks)) (element K d i))) ≡ natural K d.size
    derivative_at-kept i l e =
        let x = element K d i in
        let s = K.times (derivative_at K gone x) (locator_at K kept x) in
        ap (K.times x)
        (sym (derivative_at-append K N gone kept x
        ∙ ap (λ t. K.plus s (K.times t (derivative_at K kept x))) (locator_at-lost K N d o off marks i (omega arith) e)
        ∙ ring2 K N (λ s t. (s ⊕ nought ⊗ t, s)) refl s (derivative_at K kept x)))
        ∙ derivative_at-roots K N d o off (omega arith) (gone ++ kept) both-length both-roots x
        ∙ ap (K.times (natural K d.size)) (element-power K N d o i ∙ offset_power)
        ∙ N.times_one (natural K d.size)

    -- where h is 1 / n, this is the inverse of the derivative's value
    pub inverse-derivative_at : (i : ℕ) → i < d.size → get_or marks i true ≡ true → (h : F) → K.times h (natural K d.size) ≡ K.one → K.times (K.times h (K.times (element K d i) (locator_at K (lost K d (map not marks)) (element K d i)))) (derivative_at K (lost K d marks) (element K d i)) ≡ K.one
    inverse-derivative_at i l e h inverse =
        let x = element K d i in
        ring4 K N (λ h x k s. ((h ⊗ (x ⊗ k)) ⊗ s, h ⊗ (x ⊗ (s ⊗ k)))) refl h x (locator_at K kept x) (derivative_at K gone x)
        ∙ ap (K.times h) (derivative_at-kept i l e)
        ∙ inverse
