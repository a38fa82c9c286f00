use Rattle.std.proofs.Common.{rules, ◌≡◌, ◌<◌, nat_lt, arith}
use Rattle.std.proofs.lemmas.Bool.Decides.{Decides-ltb}
use Rattle.std.proofs.lemmas.List.Sorted.{answers_always}
use Rattle.ark_coeffs.proofs.Rising.{rising_answer}
use Rattle.ark_coeffs.proofs.sparse.is_rising.Goals as goal

pub returns : goal.returns
returns g c =
    let answer = c.is_sorted_by.ensures.cases (λ p q. nat_lt p.0 q.0) (answers_always _ _ _ (λ f a r f' called. search rules)) in
    rising_answer (λ p q. p.0 < q.0) (λ p q. nat_lt p.0 q.0) (λ p q. Decides-ltb p.0 q.0) (λ p q r l m. omega (arith, l, m)) c.args.items.now c.is_sorted_by.result answer
