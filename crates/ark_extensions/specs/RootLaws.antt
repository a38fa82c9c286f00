-- Why roots of unity of a field are roots of unity of its extension.
use Rattle.std.proofs.Common.{◌≡◌, ◌≢◌, ◌↔◌, ℕ, ◌*◌, Option, None, Some, IsSome, option_map, refl, sym, ap, ◌∙◌}
use Rattle.ark_math.specs.Field.{FieldOn, IsField}
use Rattle.ark_math.specs.Module.{IsItself, itself}
use Rattle.ark_math.specs.Root.{Adicity, AreRoots, AreGreatest}
use Rattle.ark_extensions.specs.Elements.{embedded, extension}
use Rattle.ark_extensions.specs.ElementLaws.{embedded_power, embedded_natural}
use Rattle.ark_extensions.specs.declared.quadratic.Quadratic.{Quadratic}

pub extension_itself : {F : Type 0} (K : FieldOn F) → IsItself K (itself K) (λ x. x)
extension_itself K = record {
  one_to_one = λ x y e. e;
  onto = λ m. (m, refl);
  zero_kept = refl;
  plus_kept = λ x y. refl;
  negated_kept = λ x. refl;
  times_kept = λ a x. refl;
}

both_some : {A B : Type 0} (f : A → B) (large : Option A) → IsSome (option_map f large) ↔ IsSome large
both_some f None = ((λ h. h), (λ h. h))
both_some f (Some z) = ((λ h. h), (λ h. h))

module _ {F M : Type 0} (K : FieldOn F) where
  abbrev within : F → Quadratic F M
  within a = embedded K a

  mapped : (large : Option F) (y : F) → ((x : F) → large ≡ Some x → x ≡ y) → (x : Quadratic F M) → option_map within large ≡ Some x → x ≡ within y
  mapped None y h x e = cc
  mapped (Some z) y h x e = let same : within z ≡ x = cc in sym same ∙ ap within (h z refl)

  pub embedded_not_zero : (a : F) → a ≢ K.zero → within a ≢ within K.zero
  embedded_not_zero a ne e = ne (ap (λ x. x.c0) e)

  pub embedded_greatest : (s : Adicity) (root : ℕ → F) (two : F) (large : Option F) → AreGreatest s root two large → AreGreatest s (λ n. within (root n)) (within two) (option_map within large)
  embedded_greatest s root two large G = record {
    two_adic_is = λ fits. ap within (G.two_adic_is fits);
    large_is = λ x e fits. mapped large _ (λ y f. G.large_is y f fits) x e;
    together = ((λ h. G.together.0 ((both_some within large).0 h)), (λ h. (both_some within large).1 (G.together.1 h)));
  }

  module _ (L : IsField K) (w : F) where
    pub embedded_roots : (s : Adicity) (root : ℕ → F) → AreRoots K s root → AreRoots (extension {M = M} K w) s (λ n. within (root n))
    embedded_roots s root R = record {
      base = R.base;
      order = λ n h.
          let o = R.order n h in
          record {
            one = sym (embedded_power K L w (root n) n) ∙ ap within o.one;
            least = λ k lo hi e. o.least k lo hi (ap (λ x. x.c0) (embedded_power {M = M} K L w (root n) k ∙ e));
          };
      tower = λ m k a b. ap within (R.tower m k a b) ∙ embedded_power K L w (root (m * k)) k;
      invertible = λ n h z. R.invertible n h (ap (λ x. x.c0) (embedded_natural {M = M} K L w n ∙ z));
    }
