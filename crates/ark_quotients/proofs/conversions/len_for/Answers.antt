use Rattle.std.proofs.Common.{◌≡◌, ◌≢◌, ◌-◌, ◌+◌, ℕ, length, Option, None, Some, IfSome, IsNone, true≢false, refl, subst, sym, ap, ◌∙◌, arith}
use Rattle.std.specs.List.{slice_get, slice_index_or}
use Rattle.std.specs.Option.{SomeIff}
use Rattle.std.proofs.lemmas.Bool.{eqb-false}
use Rattle.std.proofs.lemmas.Option.{slice_get-get_or}
use Rattle.ark_math.specs.Univariate.{of_pairs, IsDegree}
use Rattle.ark_math_polynomials.proofs.Polynomials.Univariate.{one_degree}
use Rattle.ark_math_polynomials.proofs.Polynomials.UnivariatePairs.{sparse_last}
use Rattle.ark_quotients.proofs.ConvertedLists.{below_last, last_not_zero}
use Rattle.ark_quotients.proofs.conversions.len_for.Given as given
use Rattle.ark_quotients.proofs.conversions.len_for.Goals as goal

some_is : {X : Type 0} (C : Type 0) (v : X) (P : X → Type 0) (r : Option X) → SomeIff r C v → P v → IfSome r P
some_is C v P None h p = tt
some_is C v P (Some x) h p = subst P (sym h.1) p

none_is : {X : Type 0} (C : Type 0) (v : X) (r : Option X) → SomeIff r C v → IsNone r → C → ⊥
none_is C v None h n = h
none_is C v (Some x) h n = absurd (true≢false n)

is_none : {X : Type 0} (C : Type 0) (v : X) (r : Option X) → SomeIff r C v → (C → ⊥) → IsNone r
is_none C v None h n = refl
is_none C v (Some x) h n = absurd (n h.0)

abbrev last : (g : given.Over) (c : goal.After-checked_add g) → ℕ × g.row.F.Denot
last g c = slice_index_or c.args.terms.now (length c.args.terms.now - 1) c.index-terms-terms.result

last_is : (g : given.Over) (c : goal.After-checked_add g) → slice_get c.args.terms.now (length c.args.terms.now - 1) ≡ Some (last g c)
last_is g c =
    let terms = c.args.terms.now in
    let some : length terms ≢ 0 = eqb-false (length terms) 0 (sym c.is_empty.ensures ∙ c.if-is_empty.false) in
    slice_get-get_or terms (length terms - 1) c.index-terms-terms.result (omega (arith, some))

pub returns-clause-room : goal.returns-clause-room
returns-clause-room g c =
    some_is _ _ _ c.checked_add.result c.checked_add.ensures (below_last g.F.Field.field g.met.F.Field.field_laws c.args.terms.now (last g c) c.requires (last_is g c))

pub returns-clause-last : goal.returns-clause-last
returns-clause-last g c =
    let K = g.F.Field.field in
    let x = last g c in
    let same : x.0 ≡ x.0 + 1 - 1 = omega arith in
    some_is _ _ _ c.checked_add.result c.checked_add.ensures
    (λ _ z. last_not_zero K g.met.F.Field.field_laws c.args.terms.now x c.requires (last_is g c) (ap (of_pairs K c.args.terms.now) same ∙ z))

pub returns-clause-none : goal.returns-clause-none
returns-clause-none g c =
    let K = g.F.Field.field in
    let a = of_pairs K c.args.terms.now in
    let x = last g c in
    let degree : IsDegree K a x.0 = sparse_last K g.met.F.Field.field_laws c.args.terms.now x c.requires (last_is g c) in (
      λ none. subst (IsDegree K a) (let past = none_is _ _ c.checked_add.result c.checked_add.ensures none in omega (arith, past, c.index-terms-terms.element_fits.fits)) degree,
      λ greatest. is_none _ _ c.checked_add.result c.checked_add.ensures (λ room. let same = one_degree K a _ x.0 greatest degree in omega (arith, room, same)),
    )
