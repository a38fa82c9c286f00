use Rattle.std.proofs.Common.{◌≡◌, ℕ, ◌+◌, ◌<◌, ◌≤◌, length, refl, sym, subst, ap, ◌∙◌, arith}
use mathlib.Core.Path.{fun_ext}
use Rattle.std.specs.List.{swap}
use Rattle.std.proofs.lemmas.List.Edits.{swapped_from_swap}
use Rattle.ark_math_variables.specs.Multilinear.{extension}
use Rattle.ark_math.specs.Univariate.{of_list}
use Rattle.ark_tables.proofs.Exchanged.{exchanged_index-same, exchanged_index-none, exchanged_index-below, exchanged_index-twice, extension-exchanged}
use Rattle.ark_tables.specs.Exchanged.{exchanged_index}
use Rattle.ark_math_variables.proofs.Polynomials.Multilinear.{extension-same}
use Rattle.ark_tables.proofs.TableLists.{exchanged_below, exchanged_below-inside, exchanged_below-swap, exchanged_below-kept}
use Rattle.ark_tables.proofs.tables.relabel_table.Goals as goal
use Rattle.ark_tables.proofs.tables.relabel_table.Goals.{then-by-eq0-via-else-by-eq0+then-by, then-by-eq0-via-then-by-eq0, then-i-j, else-i-j}

pub returns-then-by-eq0 : goal.returns-then-by-eq0
returns-then-by-eq0 g c x whole windows =
    let K = g.F.Field.field in
    let t = of_list K c.args.table.now in
    let still : (n : ℕ) → exchanged_index n c.args.by.first c.args.by.second c.args.by.count ≡ n = λ n. elim c.then-by-eq0.branch [
      | then-by-eq0-via-else-by-eq0+then-by w ↦ ap (λ b. exchanged_index n c.args.by.first b c.args.by.count) (sym w.if-by.true) ∙ exchanged_index-same n c.args.by.first c.args.by.count
      | then-by-eq0-via-then-by-eq0 w ↦ ap (exchanged_index n c.args.by.first c.args.by.second) w.if-by-eq0.true ∙ exchanged_index-none n c.args.by.first c.args.by.second
    ] in
    ap (λ f. extension K f x) (fun_ext (λ n. ap t (sym (still n))))
    ∙ extension-exchanged K g.met.F.Field.field_laws (length x) c.args.by.first c.args.by.second c.args.by.count windows t x refl

pub swap-requires-clause-b_in_bounds : goal.swap-requires-clause-b_in_bounds
swap-requires-clause-b_in_bounds g c =
    let below = exchanged_index-below c.requires.0 c.args.by.first c.args.by.second c.args.by.count c.requires.3 c.loop-i.i
    (subst (λ n. c.loop-i.i < n) c.requires.2 c.loop-i-test.true) in
    let whole = c.requires.2 in
    let is = c.exchanged_bits-j.ensures in
    omega (arith, c.loop-i.auto.table)

pub loop-i-preserved : goal.loop-i-preserved
loop-i-preserved g c n =
    let K = g.F.Field.field in
    let t = of_list K c.args.table.now in
    let i = c.loop-i.i in
    let s : ℕ → ℕ = λ n. exchanged_index n c.args.by.first c.args.by.second c.args.by.count in
    let twice : (n : ℕ) → s (s n) ≡ n = exchanged_index-twice c.requires.0 c.args.by.first c.args.by.second c.args.by.count c.requires.3 in
    let is : c.exchanged_bits-j.result ≡ s i = c.exchanged_bits-j.ensures in
    let inside : i < length c.loop-i.table = let l = c.loop-i-test.true in omega (arith, c.loop-i.auto.table) in
    let below : s i < length c.loop-i.table =
    let b = exchanged_index-below c.requires.0 c.args.by.first c.args.by.second c.args.by.count c.requires.3 i (subst (λ m. i < m) c.requires.2 c.loop-i-test.true) in
    let whole = c.requires.2 in
    omega (arith, c.loop-i.auto.table) in
    elim c.if-i-j.branch [
      | then-i-j w ↦ subst (λ u. of_list K u n ≡ exchanged_below s (i + 1) t n) (sym w.table-is)
          (exchanged_below-swap s t twice i (subst (λ m. i < m) is w.if-i-j.true) (of_list K c.loop-i.table) (of_list K w.swap.new.self) c.loop-i.invariant
          (swapped_from_swap c.loop-i.table w.swap.new.self i (s i) K.zero inside below (w.swap.ensures.after ∙ ap (swap c.loop-i.table i) is)) n)
      | else-i-j w ↦ subst (λ u. of_list K u n ≡ exchanged_below s (i + 1) t n) (sym w.table-is)
          (c.loop-i.invariant n ∙ exchanged_below-kept s t twice i (subst (λ m. m ≤ i) is w.if-i-j.false) n)
    ]

pub returns : goal.returns
returns g c x whole windows =
    let K = g.F.Field.field in
    let t = of_list K c.args.table.now in
    let s : ℕ → ℕ = λ n. exchanged_index n c.args.by.first c.args.by.second c.args.by.count in
    let done : length c.args.table.now ≤ c.loop-i.i = omega arith in
    extension-same K g.met.F.Field.field_laws (of_list K c.loop-i.table) (λ n. t (s n)) x
    (λ n l. c.loop-i.invariant n ∙ exchanged_below-inside s t c.loop-i.i n (omega arith))
    ∙ extension-exchanged K g.met.F.Field.field_laws (length x) c.args.by.first c.args.by.second c.args.by.count windows t x refl
