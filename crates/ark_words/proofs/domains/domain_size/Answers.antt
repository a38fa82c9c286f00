use Rattle.std.proofs.Common.{sym, subst, rules}
use Rattle.ark_numbers.specs.Answers.{IsChosen}
use Rattle.ark_words.proofs.domains.domain_size.Goals as goal

pub returns-clause-no_domain : goal.returns-clause-no_domain
returns-clause-no_domain g c = (
  (λ e. absurd (search rules)),
  (λ none.
      let size = rw c.in_ok-size.ensures.ok_part at c.compute_size_of_domain-found.ensures.size in
      absurd (none size.0 c.in_ok-size.field-0
      (subst (λ f. IsChosen f.known.adicity c.args.at_least size.0 c.in_ok-size.field-0) (sym g.met.F.WordElement.spelled_law) size.1))),
)
