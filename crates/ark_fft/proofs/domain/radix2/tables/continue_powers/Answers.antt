use Rattle.std.proofs.Common.{◌≡◌, ◌<◌, set, length, get_or, ap, ◌∙◌, arith, get_or-set_same, get_or-set_other}
use Rattle.std.proofs.lemmas.List.{get_or_read}
use borrow.Author.Count.{below_more}
use Rattle.ark_fft.proofs.domain.radix2.tables.continue_powers.Goals as goal

pub loop-i-preserved : goal.loop-i-preserved
loop-i-preserved g c =
    let K = g.F.Field.field in
    let i = c.loop-i.i in
    let known = c.args.known.now in
    let rest = c.loop-i.rest in
    let next = c.args.next in
    let product = c.mul.result in
    let in_known : i < length known = omega arith in
    let in_rest : i < length rest = omega arith in
    let is : product ≡ K.times (get_or known i K.zero) next =
    g.met.F.Field.mul_law _ _ _ c.mul.ensures ∙ ap (λ t. K.times t next) (get_or_read known i c.index-known-i.result in_known c.index-known-i.is K.zero) in
    below_more (λ k. get_or (set rest i product) k K.zero ≡ K.times (get_or known k K.zero) next) i
    (λ k l. get_or-set_other rest i k product K.zero (omega arith) ∙ c.loop-i.invariant k l)
    (get_or-set_same rest i product K.zero in_rest ∙ is)
