use Rattle.std.proofs.Common.{◌≡◌, ◌+◌, ◌*◌, ◌/◌, ◌<◌, max, length, sym, ap, subst, ◌∙◌, arith}
use Rattle.std.proofs.lemmas.Nat.{pow_pos}
use Rattle.ark_math.specs.Univariate.{of_list}
use Rattle.ark_math_polynomials.proofs.Polynomials.Univariate.{IsBelow-more}
use Rattle.ark_math_polynomials.proofs.Polynomials.UnivariateLists.{of_list-below}
use Rattle.ark_bit_reversed.specs.Blocks.{AreRoots, IsPowerOfTwo, element_of}
use Rattle.ark_bit_reversed.proofs.Callers.Padded.{whole_blocks}
use Rattle.ark_bit_reversed.proofs.Callers.Runs.{first_item, first_values}
use Rattle.ark_bit_reversed.proofs.table.BlockRoots.extend.Goals as goal

pub returns-in-Ok-clause-values : goal.returns-in-Ok-clause-values
returns-in-Ok-clause-values g c V =
    let K = g.F.Field.field in
    let N = g.met.F.Field.field_laws in
    let d = c.in-Ok.ensures in
    let len = c.len-len.result in
    let count = c.args.count in
    let coeffs = c.args.coeffs.now in
    let old = c.args.values.now.items in
    let new = c.push_blocks.new.values.items in
    let table = c.args.self.now in
    let x = element_of K table in
    let a = of_list K coeffs in
    let many : length old ≡ len = omega (arith, c.len-len.ensures) in
    let power = subst IsPowerOfTwo many c.requires.power in
    let least : len / 2 < max 1 len = omega (arith, power.1, pow_pos power.0) in
    let all : count / len * len ≡ count = whole_blocks len len count power least c.requires.whole (omega (arith, c.requires.more, many)) in
    let below = IsBelow-more K (length coeffs) (len + len) a (omega (arith, c.requires.few, many)) (of_list-below K coeffs) in
    let own : AreRoots K x table = subst (λ t. AreRoots K (element_of K t) t) c.self.view_is c.self.invariant.roots in
    let roots : AreRoots K x c.deref.result.now = subst (AreRoots K x) (sym (c.deref.ensures.value ∙ c.self.view_is)) own in
    first_values K N x count (len + len) a new below (d.len ∙ all)
    (λ i l.
    d.values x roots
    (λ j few.
    ap (λ t. of_list K t j) c.in_ok-reserve.ensures.items
    ∙ first_item K N x (length old) (len + len) a old below V j (omega (arith, few, many)))
    i (subst (λ t. i < t) (sym all) l))
