use Rattle.std.proofs.Common.{◌≡◌, ◌+◌, ◌*◌, ◌/◌, ◌<◌, length, sym, subst, ◌∙◌, arith}
use Rattle.ark_math.specs.Univariate.{of_list}
use Rattle.ark_math_polynomials.proofs.Polynomials.Univariate.{IsBelow-more}
use Rattle.ark_math_polynomials.proofs.Polynomials.UnivariateLists.{of_list-below}
use Rattle.ark_bit_reversed.specs.Blocks.{AreRoots, element_of}
use Rattle.ark_bit_reversed.proofs.Callers.Padded.{whole_blocks}
use Rattle.ark_bit_reversed.proofs.Callers.Runs.{first_values}
use Rattle.ark_bit_reversed.proofs.table.BlockRoots.values.Goals as goal

pub returns : goal.returns
returns g c =
    let K = g.F.Field.field in
    let n = c.next_power_of_two-len.ensures in
    let d = c.in_ok-push_blocks.ensures in
    let len = c.next_power_of_two-len.result in
    let count = c.args.count in
    let coeffs = c.args.coeffs.now in
    let table = c.args.self.now in
    let x = element_of K table in
    let all : count / len * len ≡ count = whole_blocks (length coeffs) len count n.power n.upper_bound c.requires.power c.requires.few in
    let below = IsBelow-more K (length coeffs) (len + len) (of_list K coeffs) (omega (arith, n.lower_bound)) (of_list-below K coeffs) in
    let own : AreRoots K x table = subst (λ t. AreRoots K (element_of K t) t) c.self.view_is c.self.invariant.roots in
    let roots : AreRoots K x c.deref.result.now = subst (AreRoots K x) (sym (c.deref.ensures.value ∙ c.self.view_is)) own in
    record {
      values = first_values K g.met.F.Field.field_laws x count (len + len) (of_list K coeffs) c.push_blocks.new.values.items below
          (d.len ∙ all)
          (λ i l. d.values x roots (λ j none. absurd (omega (arith, none))) i (subst (λ t. i < t) (sym all) l));
    }
