-- What is said of sums of products, over a field that theirs lies in: an embedding keeps sums and products.
use Rattle.std.proofs.Common.{◌≡◌, ◌≢◌, ℕ, zero, suc, ◌+◌, ◌*◌, ◌^◌, ◌<◌, ◌≤◌, max, List, [], ◌∷◌, ◌++◌, Option, None, Some, option_map, length, get_or, take, map, refl, sym, ◌∙◌, ap, ap₂, subst, subst₂, arith, ⊎_elim, length-append, Vec, Global}
use mathlib.Core.Path.{fun_ext}
use Rattle.std.specs.Prelude.{All}
use Rattle.std.proofs.lemmas.Bool.{cases_eq, cases_lt}
use Rattle.std.proofs.lemmas.List.{length-map, map-append, take_more}
use Rattle.std.proofs.lemmas.List.Elements.{All-map, All-nil, All-push}
use Rattle.std.proofs.lemmas.Simd.{map-map}
use Rattle.ark_math.specs.Field.{FieldOn, IsField, minus, natural, IsFieldEmbedding}
use Rattle.ark_math.specs.Module.{itself, sum_below, tabulate}
use Rattle.ark_math_variables.specs.Multilinear.{fixed}
use Rattle.ark_math.specs.Univariate.{nothing, of_list}
use Rattle.ark_math.proofs.Lists.Lists.{item_of, read_as, read_at, read_back, read_front}
use Rattle.ark_math_variables.proofs.Polynomials.Multilinear.{fixed-nothing, fixed-one}
use Rattle.ark_sum_check.specs.Cube.{Product, SumOfProducts, bound_to, combined, cube_sum, degree_of, longest, picked_product, round_value, sum_at, sum_value, sum_with}
use Rattle.ark_sum_check.specs.Embedded.{embedded_products, embedded_sum}
use Rattle.ark_sum_check.specs.Lists.{AreWithin, as_products, as_sum, as_tables}
use Rattle.ark_sum_check.specs.Provers.{addends_of}
use Rattle.ark_sum_check.specs.Rounds.{AreAccepted, AreTrueRounds, IsTrueRound, rounds_at}
use Rattle.ark_sum_check.specs.declared.addend.Addend.{Addend}
use Rattle.ark_sum_check.proofs.Accepted.{true_accepted}
use Rattle.ark_sum_check.proofs.BoundTables.{past_tables}
use Rattle.ark_sum_check.proofs.Factors.{summed}
use Rattle.ark_sum_check.proofs.Verified.{challenges-rounds_at, length-rounds_at}

abbrev pub as_product : {F : Type 0} → Addend F → Product F
as_product a = record { coefficient = a.coefficient; factors = a.factors.items }

abbrev pub embedded_product : {F G : Type 0} → (F → G) → Product F → Product G
embedded_product f a = record { coefficient = f a.coefficient; factors = a.factors }

-- as many factors
pub longest_kept : {F G : Type 0} (f : F → G) (ps : List (Product F)) → longest (embedded_products f ps) ≡ longest ps
longest_kept f [] = refl
longest_kept f (a ∷ ps) = ap (max (length a.factors)) (longest_kept f ps)

module _ {F G : Type 0} (K : FieldOn F) (E : FieldOn G) (f : F → G) (h : IsFieldEmbedding K E f) where
  minus_kept : (a b : F) → f (minus K a b) ≡ minus E (f a) (f b)
  minus_kept a b = h.plus_kept a (K.negated b) ∙ ap (E.plus (f a)) (h.negated_kept b)

  natural_kept : (n : ℕ) → f (natural K n) ≡ natural E n
  natural_kept zero = h.zero_kept
  natural_kept (suc n) = h.plus_kept (natural K n) K.one ∙ ap₂ E.plus (natural_kept n) h.one_kept

  -- items of a list, and zero past it
  pub items_kept : (xs : List F) (i : ℕ) → f (of_list K xs i) ≡ of_list E (map f xs) i
  items_kept [] i = h.zero_kept
  items_kept (x ∷ xs) zero = refl
  items_kept (x ∷ xs) (suc i) = items_kept xs i

  sum_kept : (n : ℕ) (t : ℕ → F) → f (sum_below (itself K) n t) ≡ sum_below (itself E) n (λ b. f (t b))
  sum_kept zero t = h.zero_kept
  sum_kept (suc n) t = h.plus_kept (sum_below (itself K) n t) (t n) ∙ ap (λ s. E.plus s (f (t n))) (sum_kept n t)

  picked_kept : (is : List ℕ) (v : ℕ → F) → f (picked_product K is v) ≡ picked_product E is (λ i. f (v i))
  picked_kept [] v = h.one_kept
  picked_kept (i ∷ is) v = h.times_kept (v i) (picked_product K is v) ∙ ap (E.times (f (v i))) (picked_kept is v)

  pub combined_kept : (ps : List (Product F)) (v : ℕ → F) → f (combined K ps v) ≡ combined E (embedded_products f ps) (λ i. f (v i))
  combined_kept [] v = h.zero_kept
  combined_kept (a ∷ ps) v =
      h.plus_kept (K.times a.coefficient (picked_product K a.factors v)) (combined K ps v)
      ∙ ap₂ E.plus
      (h.times_kept a.coefficient (picked_product K a.factors v) ∙ ap (E.times (f a.coefficient)) (picked_kept a.factors v))
      (combined_kept ps v)

  -- the sum over the cube
  pub cube_sum_kept : (m : ℕ) (s : SumOfProducts F) → f (cube_sum K m s) ≡ cube_sum E m (embedded_sum f s)
  cube_sum_kept m s =
      sum_kept (2 ^ m) (sum_at K s) ∙ ap (sum_below (itself E) (2 ^ m)) (fun_ext (λ b. combined_kept s.addends (λ i. s.tables i b)))

  module _ (N : IsField K) (M : IsField E) where
    -- the first variable bound
    fixed_kept : (t : ℕ → F) (x : F) (c : ℕ) → f (fixed K t (x ∷ []) c) ≡ fixed E (λ b. f (t b)) (f x ∷ []) c
    fixed_kept t x c =
        ap (λ s. f (s c)) (fixed-one K N t x)
        ∙ h.plus_kept (t (2 * c)) (K.times x (minus K (t (2 * c + 1)) (t (2 * c))))
        ∙ ap (E.plus (f (t (2 * c)))) (h.times_kept x (minus K (t (2 * c + 1)) (t (2 * c))) ∙ ap (E.times (f x)) (minus_kept (t (2 * c + 1)) (t (2 * c))))
        ∙ sym (ap (λ s. s c) (fixed-one E M (λ b. f (t b)) (f x)))

    bound_kept : (x : F) (s : SumOfProducts F) → embedded_sum f (bound_to K x s) ≡ bound_to E (f x) (embedded_sum f s)
    bound_kept x s =
        ap (λ (ts : ℕ → ℕ → G). record { tables = ts; addends = embedded_products f s.addends }) (fun_ext (λ i. fun_ext (λ b. fixed_kept (s.tables i) x b)))

    round_value_kept : (m : ℕ) (s : SumOfProducts F) (x : F) → f (round_value K m s x) ≡ round_value E m (embedded_sum f s) (f x)
    round_value_kept m s x = cube_sum_kept m (bound_to K x s) ∙ ap (cube_sum E m) (bound_kept x s)

    -- a true round
    pub true_round_kept : (d m : ℕ) (s : SumOfProducts F) (values : List F) → IsTrueRound K d m s values → IsTrueRound E d m (embedded_sum f s) (map f values)
    true_round_kept d m s values t = record {
      count = length-map values f ∙ t.count;
      sums = λ i l.
          sym (items_kept values i)
          ∙ ap f (t.sums i l)
          ∙ round_value_kept m s (natural K i)
          ∙ ap (round_value E m (embedded_sum f s)) (natural_kept i);
    }

-- ---- the parts of a prover

-- addends, or none where all tables make one product
pub addends_kept : {F G : Type 0} (K : FieldOn F) (E : FieldOn G) (f : F → G) → IsFieldEmbedding K E f → (n : ℕ) (o : Option (List (Product F))) → addends_of E n (option_map (embedded_products f) o) ≡ embedded_products f (addends_of K n o)
addends_kept {G = G} K E f h n None = ap (λ (c : G). record { coefficient = c; factors = tabulate n (λ i. i) } ∷ []) (sym h.one_kept)
addends_kept K E f h n (Some ps) = refl

-- each factor is still one of n tables
pub within_kept : {F G : Type 0} (f : F → G) (n : ℕ) (ps : List (Addend F)) (qs : List (Addend G)) → as_products qs ≡ embedded_products f (as_products ps) → AreWithin n ps → AreWithin n qs
within_kept {F = F} {G = G} f n ps qs e h = λ k d l.
    let same : map (λ (a : Addend G). a.factors.items) qs ≡ map (λ (a : Addend F). a.factors.items) ps =
    sym (map-map (λ (p : Product G). p.factors) as_product qs)
    ∙ ap (map (λ (p : Product G). p.factors)) e
    ∙ map-map (λ (p : Product G). p.factors) (embedded_product f) (as_products ps)
    ∙ map-map (λ (p : Product F). p.factors) as_product ps in
    let whole : All (All (λ i. i < n)) (map (λ (a : Addend G). a.factors.items) qs) =
    subst (All (All (λ i. i < n))) (sym same) (All-map (All (λ i. i < n)) (λ (a : Addend F). a.factors.items) ps h) in
    subst (All (λ i. i < n)) (sym (read_at (λ (a : Addend G). a.factors.items) [] qs k d l))
    (whole k [] (omega (arith, length-map qs (λ (a : Addend G). a.factors.items))))

-- one addend more
pub addends_kept-more : {F G : Type 0} (f : F → G) (ps : List (Addend F)) (i : ℕ) (a : Addend F) (qs : List (Addend G)) (b : Addend G) → i < length ps → a ≡ get_or ps i a → b.coefficient ≡ f a.coefficient → b.factors.items ≡ a.factors.items
    → as_products qs ≡ embedded_products f (as_products (take i ps)) → as_products (qs ++ b ∷ []) ≡ embedded_products f (as_products (take (i + 1) ps))
addends_kept-more {F = F} {G = G} f ps i a qs b l is coefficient factors h =
    map-append as_product qs (b ∷ [])
    ∙ ap₂ (λ us (u : Product G). us ++ u ∷ []) h (ap₂ (λ (c : G) (ns : List ℕ). record { coefficient = c; factors = ns }) coefficient factors)
    ∙ sym (ap (λ us. embedded_products f (as_products us)) (take_more ps i a l ∙ ap (λ (c : Addend F). take i ps ++ c ∷ []) (sym is))
    ∙ ap (embedded_products f) (map-append as_product (take i ps) (a ∷ []))
    ∙ map-append (embedded_product f) (as_products (take i ps)) (as_product a ∷ []))

-- the first i tables are bound to x, over the greater field
pub record AreBoundWithin {F G : Type 0} (K : FieldOn F) (E : FieldOn G) (f : F → G) (x : G) (old : List (Vec F Global)) (i : ℕ) (now : List (Vec G Global)) : Type 0 where
  pub count : length now ≡ i
  pub bound : (k : ℕ) → k < i → get_or (as_tables E now) k (nothing E) ≡ fixed E (λ b. f (get_or (as_tables K old) k (nothing K) b)) (x ∷ [])
  pub halves : (n : ℕ) → All (λ t. length t.items ≡ 2 * n) old → All (λ t. length t.items ≡ n) now

module _ {F G : Type 0} (K : FieldOn F) (E : FieldOn G) (f : F → G) (h : IsFieldEmbedding K E f) (M : IsField E) (x : G) (old : List (Vec F Global)) where
  pub AreBoundWithin-none : AreBoundWithin K E f x old 0 []
  AreBoundWithin-none = record {
    count = refl;
    bound = λ k l. absurd (omega arith);
    halves = λ n all. All-nil (λ t. length t.items ≡ n);
  }

  -- one table more
  pub AreBoundWithin-more : (i : ℕ) (now : List (Vec G Global)) (u : Vec F Global) (v : Vec G Global) → i < length old → u ≡ get_or old i u → AreBoundWithin K E f x old i now
      → of_list E v.items ≡ fixed E (of_list E (map f u.items)) (x ∷ []) → 2 * length v.items ≡ length u.items → AreBoundWithin K E f x old (i + 1) (now ++ v ∷ [])
  AreBoundWithin-more i now u v l e is was len = record {
    count = omega (arith, is.count, length-append now (v ∷ []));
    bound = λ k m. ⊎_elim
        (λ (same : k ≡ i).
        let seam : k ≡ i + 0 = omega arith in
        ap (λ n. get_or (as_tables E (now ++ v ∷ [])) n (nothing E)) seam
        ∙ read_back (λ w. of_list E w.items) (nothing E) now (v ∷ []) i 0 is.count
        ∙ was
        ∙ ap (λ t. fixed E t (x ∷ [])) (fun_ext (λ b. sym (items_kept K E f h u.items b)))
        ∙ ap (λ (t : ℕ → F). fixed E (λ b. f (t b)) (x ∷ [])) (read_as (λ w. of_list K w.items) (nothing K) old i u l e)
        ∙ ap (λ n. fixed E (λ b. f (get_or (as_tables K old) n (nothing K) b)) (x ∷ [])) (sym same))
        (λ (ne : k ≢ i). read_front (λ w. of_list E w.items) (nothing E) now (v ∷ []) k (omega (arith, is.count)) ∙ is.bound k (omega arith))
        (cases_eq k i);
    halves = λ n all.
        let whole : length u.items ≡ 2 * n = item_of (λ t. length t.items ≡ 2 * n) old i u all l e in
        All-push (λ t. length t.items ≡ n) now v (is.halves n all) (omega (arith, whole, len));
  }

  -- all of them
  pub AreBoundWithin-tables : (i : ℕ) (now : List (Vec G Global)) → length old ≤ i → i ≤ length old → AreBoundWithin K E f x old i now
      → sum_with E (as_tables E now) [] ≡ bound_to E x (embedded_sum f (sum_with K (as_tables K old) []))
  AreBoundWithin-tables i now l m is = ap (λ (ts : ℕ → ℕ → G). record { tables = ts; addends = [] }) (fun_ext (λ k. ⊎_elim
      (λ (inside : k < i). is.bound k inside)
      (λ (past : i ≤ k).
      past_tables E now k (omega (arith, is.count))
      ∙ sym (ap (λ (t : ℕ → F). fixed E (λ b. f (t b)) (x ∷ [])) (past_tables K old k (omega arith))
      ∙ ap (λ t. fixed E t (x ∷ [])) (fun_ext (λ b. h.zero_kept))
      ∙ fixed-nothing E M (x ∷ [])))
      (cases_lt k i)))

-- tables that are bound, with these addends
pub summed-embedded : {F G : Type 0} (K : FieldOn F) (E : FieldOn G) (f : F → G) → IsFieldEmbedding K E f → (x : G) (vs : List (Vec F Global)) (bs : Option (Vec (Addend F) Global)) (us : List (Vec G Global)) (cs : Option (Vec (Addend G) Global)) → length us ≡ length vs
    → sum_with E (as_tables E us) [] ≡ bound_to E x (embedded_sum f (sum_with K (as_tables K vs) [])) → as_sum cs ≡ option_map (embedded_products f) (as_sum bs) → summed E us cs ≡ bound_to E x (embedded_sum f (summed K vs bs))
summed-embedded {G = G} K E f h x vs bs us cs count tables addends =
    ap₂ (λ (ts : ℕ → ℕ → G) (ps : List (Product G)). record { tables = ts; addends = ps }) (ap (λ (s : SumOfProducts G). s.tables) tables)
    (ap₂ (λ n o. addends_of E n o) count addends ∙ addends_kept K E f h (length vs) (as_sum bs))

-- ---- one round before others

module _ {F : Type 0} (K : FieldOn F) (d : ℕ) (s : SumOfProducts F) where
  pub first_true : (e m : ℕ) (us : SumOfProducts F) (v : Vec F Global) (x : F) (vs ws : List (Vec F Global)) (xs ys : List F) → ws ≡ v ∷ vs → ys ≡ x ∷ xs → e ≡ d → us ≡ bound_to K x s → length (rounds_at vs xs) ≡ m
      → IsTrueRound K d m s v.items → AreTrueRounds K e us (rounds_at vs xs) → AreTrueRounds K d s (rounds_at ws ys)
  first_true e m us v x vs ws xs ys rounds point degree is count t h =
      subst (AreTrueRounds K d s) (sym (ap₂ rounds_at rounds point))
      (subst (λ n. IsTrueRound K d n s v.items) (sym count) t, subst₂ (λ n w. AreTrueRounds K n w (rounds_at vs xs)) degree is h)

  pub true_lists_accepted : IsField K → (ws : List (Vec F Global)) (ys : List F) (n : ℕ) → 0 < d → degree_of s ≤ d → length ys ≤ length ws → length ys ≡ n → AreTrueRounds K d s (rounds_at ws ys) → AreAccepted K d (cube_sum K n s) (rounds_at ws ys) (sum_value K s ys)
  true_lists_accepted N ws ys n some degree few count t =
      subst₂ (λ k p. AreAccepted K d (cube_sum K k s) (rounds_at ws ys) (sum_value K s p)) (length-rounds_at ws ys few ∙ count) (challenges-rounds_at ws ys few)
      (true_accepted K N d s (rounds_at ws ys) some degree t)
