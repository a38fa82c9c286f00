use Rattle.std.proofs.Common.{rules}
use Rattle.std.specs.Ordering.{is_lt}
use Rattle.std.proofs.lemmas.List.Sorted.{answers_always}
use Rattle.ark_coeffs.proofs.Rising.{rising_answer}
use Rattle.ark_multi.proofs.Bytes.{is_below, Decides-below, below_joined}
use Rattle.ark_multi.proofs.multivariate.sparse.bytes.are_rising.Goals as goal

pub returns : goal.returns
returns g c =
    let cmp = g.T.Ord.cmp in
    let answer = c.is_sorted_by.ensures.cases (λ s t. is_lt (cmp s.1 t.1)) (answers_always _ _ _ (λ f a r f' called. search rules)) in
    rising_answer (is_below cmp) (λ s t. is_lt (cmp s.1 t.1)) (Decides-below cmp) (below_joined cmp g.met.T.Ord.total) c.args.terms.now c.is_sorted_by.result answer
