-- What writing a value as its fields comes to, and what reading these and then testing them does.
use Rattle.std.proofs.Common.{◌≡◌, ℕ, ◌^◌, ◌<◌, List, length, map, Decides, Result, refl, sym, ◌∙◌, ap, subst}
use Rattle.std.specs.List.{All}
use Rattle.std.specs.Cmp.{IsTotalOrder}
use Rattle.std.specs.Ordering.{is_lt}
use Rattle.std.specs.declared.cmp.Ordering.{Ordering}
use Rattle.std.specs.declared.cmp.Ordering.TheVariants.{Less, Equal, Greater}
use Rattle.std.proofs.lemmas.Bool.{true≢false}
use Rattle.std.proofs.lemmas.List.{length-map}
use Rattle.ark_math_formats.specs.Format.{Format, IsFormat, Tells, IsOneToOne, lawful, ◌⊗◌}
use Rattle.ark_math.specs.Field.{FieldOn, IsField}
use Rattle.ark_math_variables.specs.Term.{IsWithin}
use Rattle.ark_multi.specs.TermLists.{keyed}
use Rattle.ark_multi.specs.SortedTerms.{AreTerms}
use Rattle.ark_multi.proofs.SortedTerms.{IsTermOrder, rising_like, All_like}
use Rattle.ark_bytes.specs.Reading.{SourceState, TakesSpelling, TakesFault, Refuses}
use Rattle.ark_bytes.specs.Writing.{SinkState, PutsSpelling, Stops, Writes}
use Rattle.ark_bytes.proofs.Reading.{refused_first, refused_second, refused_weaker, refused_fields, read_pair, unlawful}
use Rattle.ark_bytes.proofs.Writing.{stops_before, write_fields, write_pair}
use Rattle.ark_bytes.specs.declared.error.SerializationError.{SerializationError}

module _ {X Z : Type 0} (layout : Format X) (fields : Z → X) (IsLawful : Z → Type 0) where
  pub write_value : {A : Type 0} (a b : SinkState) (z s : Z) (x : X) (r : Result A SerializationError) → s ≡ z → x ≡ fields z → IsLawful z → Writes layout x a b r
      → Writes (lawful layout fields IsLawful) s a b r
  write_value a b z s x r same is law w =
      subst (λ v. Writes (lawful layout fields IsLawful) v a b r) (sym same)
      (write_fields layout fields IsLawful a b z r law (subst (λ v. Writes layout v a b r) is w))

  -- fields without what those of all lawful values have, where a spelling tells what this depends on
  fault_by_view : {V : Type 0} (view : X → V) → Tells view layout → (Kept : X → Type 0) → ((x y : X) → view x ≡ view y → Kept y → Kept x) → ((z : Z) → IsLawful z → Kept (fields z))
      → (a b : SourceState) (x : X) → ¬ Kept x → TakesSpelling layout a b x → TakesFault (lawful layout fields IsLawful) a b
  fault_by_view view one Kept alike kept a b x lost t =
      unlawful layout fields IsLawful a b x (λ z has law e. lost (alike x (fields z) (one x (fields z) t.has has e) (kept z law))) t

  pub fault_by_fields : IsOneToOne layout → (Kept : X → Type 0) → ((z : Z) → IsLawful z → Kept (fields z))
      → (a b : SourceState) (x : X) → ¬ Kept x → TakesSpelling layout a b x → TakesFault (lawful layout fields IsLawful) a b
  fault_by_fields one Kept = fault_by_view (λ x. x) one Kept (λ x y e h. subst Kept (sym e) h)

-- ---- two fields

module _ {X Y Z : Type 0} (first : Format X) (second : Format Y) (fields : Z → X × Y) (IsLawful : Z → Type 0) where
  pub stops_in_first : (a b : SinkState) (z : Z) (x : X) (e : SerializationError) → x ≡ (fields z).0 → Stops (first.spelling x) a b e → Stops ((lawful (first ⊗ second) fields IsLawful).spelling z) a b e
  stops_in_first a b z x e same s =
      stops_before a b (first.spelling (fields z).0) (second.spelling (fields z).1) e (subst (λ v. Stops (first.spelling v) a b e) same s)

  pub write_both : {A : Type 0} (a b c : SinkState) (z : Z) (x : X) (y : Y) (r : Result A SerializationError) → x ≡ (fields z).0 → y ≡ (fields z).1 → IsLawful z → PutsSpelling first a b x → Writes second y b c r
      → Writes (lawful (first ⊗ second) fields IsLawful) z a c r
  write_both a b c z x y r same other law s t =
      write_fields (first ⊗ second) fields IsLawful a c z r law
      (write_pair first second a b c (fields z).0 (fields z).1 r (subst (PutsSpelling first a b) same s) (subst (λ v. Writes second v b c r) other t))

  module _ (A : IsFormat first) where
    -- of a type whose reading takes memory, for one of both fields or for more
    pub refused_in_first : (M : Type 0) (a b : SourceState) (e : SerializationError) → Refuses first M a b e → Refuses (lawful (first ⊗ second) fields IsLawful) (Unit {0}) a b e
    refused_in_first M a b e r =
        refused_fields (first ⊗ second) fields IsLawful (Unit {0}) a b e
        (refused_first first second A (Unit {0}) a b e (refused_weaker first M (Unit {0}) (λ m. tt) a b e r))

    pub refused_in_second : (M : Type 0) (a b c : SourceState) (x : X) (e : SerializationError) → TakesSpelling first a b x → Refuses second M b c e
        → Refuses (lawful (first ⊗ second) fields IsLawful) (Unit {0}) a c e
    refused_in_second M a b c x e t r =
        refused_fields (first ⊗ second) fields IsLawful (Unit {0}) a c e
        (refused_second first second A (Unit {0}) a b c x e t (refused_weaker second M (Unit {0}) (λ m. tt) b c e r))

    pub fault_in_both : {V : Type 0} (view : X × Y → V) → Tells view (first ⊗ second) → (Kept : X × Y → Type 0) → ((p q : X × Y) → view p ≡ view q → Kept q → Kept p) → ((z : Z) → IsLawful z → Kept (fields z))
        → (a b c : SourceState) (x : X) (y : Y) → ¬ Kept (x, y) → TakesSpelling first a b x → TakesSpelling second b c y → TakesFault (lawful (first ⊗ second) fields IsLawful) a c
    fault_in_both view one Kept alike kept a b c x y lost s t =
        fault_by_view (first ⊗ second) fields IsLawful view one Kept alike kept a c (x, y) lost (read_pair first second A a b c x y s t)

-- ---- tables

-- as many values as a table of so many variables has
abbrev pub IsWhole : {F : Type 0} → List F × ℕ → Type 0
IsWhole p = (p.1 < 64) × (length p.0 ≡ 2 ^ p.1)

pub whole_alike : {F V : Type 0} (view : F → V) (p q : List F × ℕ) → ◌≡◌ {A = List V × ℕ} (map view p.0, p.1) (map view q.0, q.1) → IsWhole q → IsWhole p
whole_alike view p q e h =
    let variables : p.1 ≡ q.1 = ap (λ t. t.1) e in
    let values : length p.0 ≡ length q.0 = sym (length-map p.0 view) ∙ ap (λ t. length t.0) e ∙ length-map q.0 view in
    (subst (λ n. n < 64) (sym variables) h.0, values ∙ h.1 ∙ ap (λ n. 2 ^ n) (sym variables))

-- ---- terms

abbrev pub is_below : {F T : Type 0} → (T → T → Ordering) → F × T → F × T → Type 0
is_below cmp c d = cmp c.1 d.1 ≡ Less

decides_less : (r : Ordering) → Decides (is_lt r) (r ≡ Less)
decides_less Less = (λ _. refl, λ _. refl)
decides_less Equal = (λ e. absurd (true≢false (sym e)), λ e. cc)
decides_less Greater = (λ e. absurd (true≢false (sym e)), λ e. cc)

module _ {F T : Type 0} (cmp : T → T → Ordering) where
  pub Decides-below : (c d : F × T) → Decides (is_lt (cmp c.1 d.1)) (is_below cmp c d)
  Decides-below c d = decides_less (cmp c.1 d.1)

  pub below_joined : IsTotalOrder cmp → (b c d : F × T) → is_below cmp b c → is_below cmp c d → is_below cmp b d
  below_joined total b c d l m = total.trans b.1 c.1 d.1 l m

module _ {F T : Type 0} (K : FieldOn F) (N : IsField K) {cmp : T → T → Ordering} {listed : T → List (ℕ × ℕ)} (order : IsTermOrder cmp listed) where
  pub terms_like : (p q : ℕ × List (F × T)) → ◌≡◌ {A = ℕ × List (F × List (ℕ × ℕ))} (p.0, keyed listed p.1) (q.0, keyed listed q.1) → AreTerms K cmp listed q → AreTerms K cmp listed p
  terms_like p q e h =
      let variables : p.0 ≡ q.0 = ap (λ t. t.0) e in
      let same : keyed listed p.1 ≡ keyed listed q.1 = ap (λ t. t.1) e in
      record {
        ordered = rising_like K N order q.1 p.1 same h.ordered;
        within = subst (λ n. All (λ c. IsWithin n (listed c.1)) p.1) (sym variables) (All_like K N order (λ c. IsWithin q.0 c.1) q.1 p.1 same h.within);
      }
