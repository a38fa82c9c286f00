use Rattle.std.proofs.Common.{◌≡◌, ◌-◌, suc, sym, ap, ap₂, ◌∙◌, arith}
use Rattle.std.proofs.lemmas.List.{get_or_read}
use Rattle.ark_math.proofs.Outcomes.Results.{IfOk_more}
use Rattle.ark_sum_check.specs.Cube.{cube_sum, round_value}
use Rattle.ark_sum_check.specs.Provers.{sum_of, variables_of}
use Rattle.ark_sum_check.proofs.TrueRounds.{cube_sum-halves, cube_sum-none, natural-one}
use Rattle.ark_word_sums.proofs.sums.sum_by_round.Goals as goal

pub returns-then-num_vars-eq0-clause-sum : goal.returns-then-num_vars-eq0-clause-sum
returns-then-num_vars-eq0-clause-sum g c =
    let K = g.F.Field.field in
    let s = sum_of K c.args.prover.now in
    let none : variables_of c.args.prover.now ≡ 0 = omega arith in
    IfOk_more c.last_value.result
    (λ y is. is ∙ sym (ap (λ n. cube_sum K n s) none ∙ cube_sum-none K g.met.F.Field.field_laws s))
    c.last_value.ensures.value

pub returns-clause-sum : goal.returns-clause-sum
returns-clause-sum g c =
    let K = g.F.Field.field in
    let N = g.met.F.Field.field_laws in
    let s = sum_of K c.args.prover.now in
    let m = variables_of c.args.prover.now - 1 in
    let vs = c.args.first.now in
    let t = c.requires.first (omega arith) in
    let low = get_or_read vs 0 c.index-first-0.result (omega (arith, t.count)) c.index-first-0.is K.zero ∙ t.sums 0 (omega arith) in
    let high = get_or_read vs 1 c.index-first-1.result (omega (arith, t.count)) c.index-first-1.is K.zero ∙ t.sums 1 (omega arith) ∙ ap (round_value K m s) (natural-one K N) in
    let whole : suc m ≡ variables_of c.args.prover.now = omega arith in
    g.met.F.Field.add_law _ _ _ c.add.ensures
    ∙ ap₂ K.plus low high
    ∙ cube_sum-halves K N m s
    ∙ ap (λ n. cube_sum K n s) whole
