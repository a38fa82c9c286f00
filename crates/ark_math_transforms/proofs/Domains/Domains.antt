-- Domains by their sizes and offsets, and lists cut before a transform.
use Rattle.std.proofs.Common.{◌≡◌, ◌≢◌, ℕ, ◌==◌, ◌&&◌, Bool, true, false, Decides, IsSome, List, take, sym, ap, subst, ◌∙◌}
use Rattle.std.proofs.lemmas.Bool.{and_parts, and_from, eqb-true, eq-eqb}
use Rattle.std.proofs.lemmas.Bool.Decides.{not_from_Decides}
use Rattle.std.proofs.lemmas.List.{get_or-take}
use Rattle.ark_math.specs.Field.{FieldOn, natural}
use Rattle.ark_math.specs.Module.{ModuleOn, item, tabulate}
use Rattle.ark_math.specs.Root.{Adicity, Splits, IsSupported, HasOrder, AreRoots}
use Rattle.ark_math.specs.Domain.{Kind, radix2, mixed_radix, Domain, IsDomain, IsSize, domain_of, element}
use Rattle.ark_math.specs.Transform.{fit, value_at, transform, IsInverse, IsOnlyInverse}
use Rattle.ark_math.proofs.Lists.Tabulated.{tabulate-same}
use Rattle.ark_math.proofs.Domains.Sizes.{even_size}

-- of one kind, with the roots of their sizes, they are the same where sizes and offsets are
pub same_domain : {F : Type 0} (kind : Kind) (root : ℕ → F) {eq : F → F → Bool} {m n : ℕ} {v w o p : F} → ((x y : F) → Decides (eq x y) (x ≡ y)) → eq v (root m) ≡ true → eq w (root n) ≡ true →
    Decides ((m == n) && eq o p) (domain_of kind m v o ≡ domain_of kind n w p)
same_domain kind root {eq = eq} {m = m} {n = n} {v = v} {w = w} {o = o} {p = p} decides e f = (
  (λ h.
      let parts = and_parts (m == n) (eq o p) h in
      let size : m ≡ n = eqb-true m n parts.0 in
      let roots : v ≡ w = (decides v (root m)).0 e ∙ ap root size ∙ sym ((decides w (root n)).0 f) in
      let offsets : o ≡ p = (decides o p).0 parts.1 in
      λ i. record { kind = kind; size = size i; root = roots i; offset = offsets i }),
  λ h.
      and_from (m == n) (eq o p) (eq-eqb m n (ap (λ x. x.size) h)) ((decides o p).1 (ap (λ x. x.offset) h)),
)

-- size and offset tell a domain of a kind, whose root is that of the size
pub one_domain : {F : Type 0} (kind : Kind) (root : ℕ → F) {eq : F → F → Bool} {m n : ℕ} {v w o p : F} → ((x y : F) → Decides (eq x y) (x ≡ y)) → eq v (root m) ≡ true → eq w (root n) ≡ true → ◌≡◌ {A = ℕ × F} (m, o) (n, p) →
    domain_of kind m v o ≡ domain_of kind n w p
one_domain kind root {eq = eq} {m = m} {n = n} {v = v} {w = w} {o = o} {p = p} decides e f same =
    (same_domain kind root decides e f).0 (and_from (m == n) (eq o p) (eq-eqb m n (ap (λ x. x.0) same)) ((decides o p).1 (ap (λ x. x.1) same)))

-- of two kinds they differ
pub radix2_is_not_mixed : radix2 ≡ mixed_radix → ⊥
radix2_is_not_mixed e = cc

pub other_kind : {F : Type 0} (d e : Domain F) → (d.kind ≡ e.kind → ⊥) → Decides false (d ≡ e)
other_kind d e ne = ((λ f. cc), λ same. absurd (ne (ap (λ x. x.kind) same)))

pub size_supported : (s : Adicity) (kind : Kind) (n : ℕ) → IsSize s kind n → IsSupported s n
size_supported s radix2 n h = (h.0, 0, h.1)
size_supported s mixed_radix n h = h.1

module _ {F : Type 0} (K : FieldOn F) (s : Adicity) (root : ℕ → F) where
  pub radix2_is_domain : {eq : F → F → Bool} {n twos odds : ℕ} {w o : F} → ((x y : F) → Decides (eq x y) (x ≡ y)) → Splits s n twos odds → odds ≡ 0 → eq w (root n) ≡ true → eq o K.zero ≡ false → IsDomain K s root (domain_of radix2 n w o)
  radix2_is_domain decides h e f off =
      record { size_of = even_size s _ _ _ h e; root_of = (decides _ _).0 f; offset_not_zero = not_from_Decides _ (decides _ _) off }

  pub mixed_radix_is_domain : {eq : F → F → Bool} {n twos odds : ℕ} {w o : F} → ((x y : F) → Decides (eq x y) (x ≡ y)) → Splits s n twos odds → IsSome s.odd → eq w (root n) ≡ true → eq o K.zero ≡ false → IsDomain K s root (domain_of mixed_radix n w o)
  mixed_radix_is_domain decides h based f off =
      record { size_of = (based, (_, _, h)); root_of = (decides _ _).0 f; offset_not_zero = not_from_Decides _ (decides _ _) off }

  pub root_order : (d : Domain F) → AreRoots K s root → IsDomain K s root d → HasOrder K d.root d.size
  root_order d R D = subst (λ w. HasOrder K w d.size) (sym D.root_of) (R.order d.size (size_supported s d.kind d.size D.size_of))

  pub size_not_zero : (d : Domain F) → AreRoots K s root → IsDomain K s root d → natural K d.size ≢ K.zero
  size_not_zero d R D = R.invertible d.size (size_supported s d.kind d.size D.size_of)

module _ {F M : Type 0} (K : FieldOn F) (V : ModuleOn F M) where
  fit-take : (c : List M) (n : ℕ) → fit V (take n c) n ≡ fit V c n
  fit-take c n = tabulate-same n (item V (take n c)) (item V c) (λ i l. get_or-take n c i V.zero l)

  pub transform-take : (d : Domain F) (c : List M) → transform K V d (take d.size c) ≡ transform K V d c
  transform-take d c = ap (λ f. tabulate d.size (λ i. value_at K V f (element K d i))) (fit-take c d.size)

  pub inverse-take : (d : Domain F) (v w u : List M) → w ≡ take d.size v → IsInverse K V d w u → IsInverse K V d v u
  inverse-take d v w u e h = record { size = h.size; values = h.values ∙ ap (λ l. fit V l d.size) e ∙ fit-take v d.size }

  pub only-take : (d : Domain F) (v w u : List M) → w ≡ take d.size v → IsOnlyInverse K V d w u → IsOnlyInverse K V d v u
  only-take d v w u e h other i = h other (record { size = i.size; values = i.values ∙ sym (fit-take v d.size) ∙ ap (λ l. fit V l d.size) (sym e) })
