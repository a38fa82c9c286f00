-- The product of x - z over a list: its length, its leading coefficient, its factors and its roots.
use Rattle.std.proofs.Common.{◌≡◌, ◌≢◌, ℕ, zero, suc, ◌+◌, ◌<◌, ◌≤◌, List, [], ◌∷◌, length, take, drop, ◌-◌, Vec, refl, sym, ◌∙◌, ap, ap₂, subst, arith, ⊎_elim}
use Rattle.std.specs.declared.alloc.Global.{Global}
use Rattle.std.proofs.lemmas.Bool.{cases_lt}
use Rattle.std.proofs.lemmas.List.{take-append-drop}
use Rattle.ark_math.specs.Field.{FieldOn, IsField, minus}
use Rattle.ark_math_polynomials.specs.Linear.{linear_factor}
use Rattle.ark_math.specs.Univariate.{IsBelow, IsTrimmed, IsValue, of_list, product, monomial}
use Rattle.ark_math.proofs.Algebra.Solve.{◌⊗◌, ◌⊖◌, nought, unit}
use Rattle.ark_math.proofs.Algebra.Ring.{ring1}
use Rattle.ark_math.proofs.Lists.Lists.{tail}
use Rattle.ark_math_polynomials.proofs.Polynomials.Univariate.{monomial-below}
use Rattle.ark_math_polynomials.proofs.Polynomials.UnivariateLists.{of_list-below, of_list-past, trimmed_length}
use Rattle.ark_math_polynomials.proofs.Polynomials.UnivariateProducts.{product_comm, product_assoc, product-below, value-product}
use Rattle.ark_math_polynomials.proofs.Polynomials.UnivariateValues.{has_value}
use Rattle.ark_math_polynomials.proofs.Callers.Remainders.{linear_root, divided_root}
use Rattle.ark_math_polynomials.proofs.Polynomials.LinearFactors.{before, linear-product, nodes-joined}
use Rattle.ark_math_polynomials.specs.Nodes.{nodes}
use Rattle.ark_subproducts.specs.Tree.{HasRoom, IsEnd, Represents, IsHalved, IsMonic}
use Rattle.ark_subproducts.specs.declared.few.FewProducts.{FewProducts}
use Rattle.ark_subproducts.specs.declared.tree.Tree.{Tree}
use Rattle.ark_subproducts.specs.declared.tree.Tree.TheVariants.{Few, Halves'}
use Rattle.ark_bit_reversed.specs.Blocks.{AreFirstValues}

module _ {F : Type 0} (K : FieldOn F) (N : IsField K) where
  pub nodes-below : (zs : List F) → IsBelow K (length zs + 1) (nodes K zs)
  nodes-below [] = monomial-below K 0 1 K.one (omega arith)
  nodes-below (z ∷ zs) = λ i l.
      product-below K N 2 (length zs + 1) (linear_factor K z) (nodes K zs) (of_list-below K (K.negated z ∷ K.one ∷ [])) (nodes-below zs) i (omega arith)

  nodes_item : (z : F) (a : ℕ → F) (i : ℕ) → product K (linear_factor K z) a i ≡ minus K (before K a i) (K.times z (a i))
  nodes_item z a i = ap (λ t. t i) (product_comm K N (linear_factor K z) a) ∙ linear-product K N a z i

  pub nodes-leading : (zs : List F) → nodes K zs (length zs) ≡ K.one
  nodes-leading [] = refl
  nodes-leading (z ∷ zs) =
      nodes_item z (nodes K zs) (suc (length zs))
      ∙ (ap₂ (λ x y. minus K x (K.times z y)) (nodes-leading zs) (nodes-below zs (suc (length zs)) (omega arith))
      ∙ ring1 K N (λ z. (unit ⊖ (z ⊗ nought), unit)) refl z)

  -- what is left without the point at i
  unfoldable pub cofactor : List F → ℕ → ℕ → F
  cofactor [] i = monomial K 0 K.one
  cofactor (z ∷ zs) zero = nodes K zs
  cofactor (z ∷ zs) (suc i) = product K (linear_factor K z) (cofactor zs i)

  pub cofactor-below : (zs : List F) (i : ℕ) → i < length zs → IsBelow K (length zs) (cofactor zs i)
  unfolding cofactor
  cofactor-below [] i l = absurd (omega arith)
  cofactor-below (z ∷ zs) zero l = λ k b. nodes-below zs k (omega arith)
  cofactor-below (z ∷ zs) (suc i) l = λ k b.
      product-below K N 2 (length zs) (linear_factor K z) (cofactor zs i) (of_list-below K (K.negated z ∷ K.one ∷ [])) (cofactor-below zs i (omega arith)) k (omega arith)

  -- times what was left out it is the whole
  pub cofactor-whole : (zs : List F) (i : ℕ) → i < length zs → nodes K zs ≡ product K (cofactor zs i) (linear_factor K (of_list K zs i))
  unfolding cofactor
  cofactor-whole [] i l = absurd (omega arith)
  cofactor-whole (z ∷ zs) zero l = product_comm K N (linear_factor K z) (nodes K zs)
  cofactor-whole (z ∷ zs) (suc i) l =
      ap (product K (linear_factor K z)) (cofactor-whole zs i (omega arith))
      ∙ sym (product_assoc K N (linear_factor K z) (cofactor zs i) (linear_factor K (of_list K zs i)))

  -- each of the list is a root
  pub nodes-zero : (zs : List F) (i : ℕ) → i < length zs → IsValue K (nodes K zs) (of_list K zs i) K.zero
  nodes-zero zs i l = divided_root K N (nodes K zs) (cofactor zs i) (length zs) (of_list K zs i) (cofactor-below zs i l) (cofactor-whole zs i l)

  -- what is left without one is zero at the others
  pub cofactor-other : (zs : List F) (i j : ℕ) → i < length zs → j < length zs → i ≢ j → IsValue K (cofactor zs i) (of_list K zs j) K.zero
  unfolding cofactor
  cofactor-other [] i j l k ne = absurd (omega arith)
  cofactor-other (z ∷ zs) zero zero l k ne = absurd (ne refl)
  cofactor-other (z ∷ zs) zero (suc j) l k ne = nodes-zero zs j (omega arith)
  cofactor-other (z ∷ zs) (suc i) zero l k ne =
      let there = has_value K N (length zs) (cofactor zs i) z (cofactor-below zs i (omega arith)) in
      subst (IsValue K (product K (linear_factor K z) (cofactor zs i)) z)
      (ring1 K N (λ x. (nought ⊗ x, nought)) refl _)
      (value-product K N (linear_factor K z) (cofactor zs i) z K.zero _ (linear_root K N z) there)
  cofactor-other (z ∷ zs) (suc i) (suc j) l k ne =
      let x : F = of_list K zs j in
      let line = has_value K N 2 (linear_factor K z) x (of_list-below K (K.negated z ∷ K.one ∷ [])) in
      subst (IsValue K (product K (linear_factor K z) (cofactor zs i)) x)
      (ring1 K N (λ x. (x ⊗ nought, nought)) refl _)
      (value-product K N (linear_factor K z) (cofactor zs i) x _ K.zero line (cofactor-other zs i j (omega arith) (omega arith) (λ e. omega (arith, ne, e))))

  pub nodes_monic : (zs : List F) → IsMonic K (length zs) (nodes K zs)
  nodes_monic zs = record { leading = nodes-leading zs; below = nodes-below zs }

  -- a trimmed list of it has one item more
  pub nodes-length : (zs xs : List F) → IsTrimmed K xs → of_list K xs ≡ nodes K zs → length xs ≡ length zs + 1
  nodes-length zs xs trimmed is =
      let most : length xs ≤ length zs + 1 = trimmed_length K xs (length zs + 1) trimmed (subst (IsBelow K (length zs + 1)) (sym is) (nodes-below zs)) in
      ⊎_elim
      (λ (l : length zs < length xs). let same : length xs ≡ length zs + 1 = omega (arith, l, most) in same)
      (λ (m : length xs ≤ length zs). absurd (N.one_not_zero (sym (nodes-leading zs) ∙ sym (ap (λ a. a (length zs)) is) ∙ of_list-past K xs (length zs) m)))
      (cases_lt (length zs) (length xs))

  pub nodes-halves : (zs : List F) (h : ℕ) → product K (nodes K (take h zs)) (nodes K (drop h zs)) ≡ nodes K zs
  nodes-halves zs h = sym (nodes-joined K N (take h zs) (drop h zs)) ∙ ap (nodes K) (take-append-drop h zs)

  -- the second half as slices spell it
  pub nodes-parts : (zs : List F) (h : ℕ) → product K (nodes K (take h zs)) (nodes K (take (length zs - h) (drop h zs))) ≡ nodes K zs
  nodes-parts zs h = ap (λ t. product K (nodes K (take h zs)) (nodes K t)) (tail zs h) ∙ nodes-halves zs h

-- what is below the points' number may end there
pub own_end : {F : Type 0} (t : Tree (FewProducts F) (List F) (Vec F Global)) (n count end : ℕ) → end ≡ n → n ≤ count → IsEnd t n count end
own_end (Few p) n count end is room = is
own_end (Halves' p a low v b high w) n count end is room = (omega (arith, is), omega (arith, is, room))

-- with halves it is given a polynomial by values, which may end later
pub halved_represents : {F : Type 0} (K : FieldOn F) (roots : List F) (t : Tree (FewProducts F) (List F) (Vec F Global)) (count : ℕ) (a : ℕ → F) (c : List F) → IsHalved t → AreFirstValues K roots count a c → Represents K roots t count a c
halved_represents K roots (Few p) count a c none h = absurd none
halved_represents K roots (Halves' p a low v b high w) count own c some h = h

pub halved_room : {F : Type 0} (t : Tree (FewProducts F) (List F) (Vec F Global)) (n count len : ℕ) → IsHalved t → len ≡ count → HasRoom t n count len
halved_room (Few p) n count len none is = absurd none
halved_room (Halves' p a low v b high w) n count len some is = is

pub halved_end : {F : Type 0} (t : Tree (FewProducts F) (List F) (Vec F Global)) (n count : ℕ) → IsHalved t → n ≤ count → IsEnd t n count count
halved_end (Few p) n count none room = absurd none
halved_end (Halves' p a low v b high w) n count some room = (room, omega arith)
