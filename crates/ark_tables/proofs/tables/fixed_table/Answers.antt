use Rattle.std.proofs.Common.{◌≡◌, suc, ◌+◌, ◌*◌, ◌/◌, ◌^◌, ◌<◌, [], ◌∷◌, ◌++◌, length, get_or, take, sym, subst, ap, ◌∙◌, arith}
use Rattle.std.proofs.lemmas.List.{get_or_append_left, take_all}
use Rattle.std.proofs.Math.Seq.{get_or-append_seam}
use Rattle.ark_math_variables.specs.Multilinear.{fixed}
use Rattle.ark_math.specs.Univariate.{of_list}
use Rattle.ark_math.proofs.Outcomes.Results.{IfOk_more}
use Rattle.ark_tables.proofs.TableLists.{IsLeft-more, even_left, fixed-next, halved}
use Rattle.ark_tables.proofs.tables.fixed_table.Goals as goal

pub bound_table-requires : goal.bound_table-requires
bound_table-requires g c =
    let p = c.args.point.now in
    let some : 0 < length p = let e = ap length c.in-Some.ensures.cases.0 in omega arith in
    let none : length c.args.table.now * 2 ^ 0 ≡ length c.args.table.now = omega arith in
    even_left (length c.args.table.now) c.requires.0 0 (length p) (length c.args.table.now) some none c.requires.1

pub loop-x-init : goal.loop-x-init
loop-x-init g c =
    let K = g.F.Field.field in
    let p = c.args.point.now in
    let first : take 1 p ≡ c.in-Some.first.now ∷ [] = ap (take 1) c.in-Some.ensures.cases.0 in
    record {
      values = c.in_ok-left.ensures.values ∙ ap (fixed K (of_list K c.args.table.now)) (sym first);
      len = let e = c.in_ok-left.ensures.len in omega arith;
    }

pub loop-x-preserved : goal.loop-x-preserved
loop-x-preserved g c =
    let K = g.F.Field.field in
    let p = c.args.point.now in
    let i = c.loop-x.x-index in
    let between = c.in-Some-split_last.between.now in
    let others = c.in-Some-split_last.ensures.cases.0 in
    let l : i < length between = c.loop-x-test.true in
    let inside : i + 1 < length p = let e = ap length c.in-Some.ensures.cases.0 in let f = c.in-Some-split_last.ensures.cases.1 in omega arith in
    let next : i + 1 ≡ suc i = omega arith in
    let item : c.x-item.result ≡ get_or p (i + 1) c.x-item.result =
    c.x-item.is ∙ sym (ap (λ k. get_or p k c.x-item.result) next ∙ ap (λ q. get_or q (suc i) c.x-item.result) c.in-Some.ensures.cases.0
    ∙ ap (λ q. get_or q i c.x-item.result) others ∙ get_or_append_left between (c.in-Some-split_last.last.now ∷ []) c.x-item.result i l) in
    IsLeft-more K g.met.F.Field.field_laws c.args.table.now p (i + 1) c.loop-x.left.items c.bind_first.new.table.items c.x-item.result inside item c.loop-x.invariant
    c.bind_first.ensures.values c.bind_first.ensures.len

pub bind_first-requires : goal.bind_first-requires
bind_first-requires g c =
    let i = c.loop-x.x-index in
    let inside : i + 1 < length c.args.point.now =
    let e = ap length c.in-Some.ensures.cases.0 in let f = c.in-Some-split_last.ensures.cases.1 in let l = c.loop-x-test.true in omega arith in
    even_left (length c.loop-x.left.items) c.requires.0 (i + 1) (length c.args.point.now) (length c.args.table.now) inside c.loop-x.invariant.len c.requires.1

pub bound_table-requires-2 : goal.bound_table-requires-2
bound_table-requires-2 g c =
    let left = c.loop-x.left.items in
    let i = c.loop-x.x-index in
    let inside : i + 1 < length c.args.point.now =
    let e = ap length c.in-Some.ensures.cases.0 in let f = c.in-Some-split_last.ensures.cases.1 in let past = c.loop-x-test.false in omega (arith, c.loop-x.auto.x-index-end) in
    subst (λ n. n ≡ 2 * (n / 2)) (sym (ap length c.deref.ensures.value))
    (even_left (length left) c.requires.0 (i + 1) (length c.args.point.now) (length c.args.table.now) inside c.loop-x.invariant.len c.requires.1)

pub returns-clause-values : goal.returns-clause-values
returns-clause-values g c =
    let K = g.F.Field.field in
    let t = of_list K c.args.table.now in
    let p = c.args.point.now in
    let i = c.loop-x.x-index in
    let between = c.in-Some-split_last.between.now in
    let x = c.in-Some-split_last.last.now in
    let end : i ≡ length between = let past = c.loop-x-test.false in omega (arith, c.loop-x.auto.x-index-end) in
    let whole : length p ≡ i + 1 + 1 = let e = ap length c.in-Some.ensures.cases.0 in let f = c.in-Some-split_last.ensures.cases.1 in omega arith in
    let next : i + 1 ≡ suc i = omega arith in
    let item : x ≡ get_or p (i + 1) x =
    sym (ap (λ k. get_or p k x) next ∙ ap (λ q. get_or q (suc i) x) c.in-Some.ensures.cases.0
    ∙ ap (λ q. get_or q i x) c.in-Some-split_last.ensures.cases.0 ∙ ap (λ k. get_or (between ++ x ∷ []) k x) end ∙ get_or-append_seam between x [] x) in
    IfOk_more c.bound_table-2.result
    (λ v e.
    fixed-next K g.met.F.Field.field_laws t p (i + 1) (of_list K c.loop-x.left.items) (of_list K v.items) x (omega arith) item c.loop-x.invariant.values
    (e ∙ ap (λ u. fixed K (of_list K u) (x ∷ [])) c.deref.ensures.value)
    ∙ ap (fixed K t) (take_all (i + 1 + 1) p (omega arith)))
    c.bound_table-2.ensures.values

pub returns-clause-len : goal.returns-clause-len
returns-clause-len g c =
    let i = c.loop-x.x-index in
    let h = length c.args.table.now in
    let whole : length c.args.point.now ≡ i + 1 + 1 =
    let e = ap length c.in-Some.ensures.cases.0 in let f = c.in-Some-split_last.ensures.cases.1 in let past = c.loop-x-test.false in omega (arith, c.loop-x.auto.x-index-end) in
    IfOk_more c.bound_table-2.result
    (λ v e. subst (λ k. length v.items * 2 ^ k ≡ h) (sym whole) (halved (length c.loop-x.left.items) (length v.items) (i + 1) h c.loop-x.invariant.len (e ∙ ap length c.deref.ensures.value)))
    c.bound_table-2.ensures.len
