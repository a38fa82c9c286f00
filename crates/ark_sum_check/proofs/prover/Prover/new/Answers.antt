use Rattle.std.proofs.Common.{None, sym, ap, ◌∙◌}
use Rattle.std.proofs.lemmas.List.{length-map}
use Rattle.ark_math.specs.Univariate.{of_list}
use Rattle.ark_sum_check.specs.Cube.{all_of, sum_with}
use Rattle.ark_sum_check.specs.Lists.{as_tables}
use Rattle.ark_sum_check.proofs.Factors.{sum_of-summed}
use Rattle.ark_sum_check.proofs.prover.Prover.new.Goals as goal

pub returns-clause-sum : goal.returns-clause-sum
returns-clause-sum g c =
    let K = g.F.Field.field in
    let vs = c.args.tables.items in
    sum_of-summed K vs None c.args.num_vars ∙ ap (λ n. sum_with K (as_tables K vs) (all_of K n)) (sym (length-map vs (λ v. of_list K v.items)))
