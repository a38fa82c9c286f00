use Rattle.std.proofs.Common.{◌≡◌, ◌<◌, ◌≤◌, ◌+◌, ◌-◌, length, subst, ap, ◌∙◌, arith}
use Rattle.std.proofs.lemmas.List.{get_or_read}
use Rattle.ark_math.specs.Univariate.{of_list}
use Rattle.ark_quotients.proofs.LongDivision.{IsDivided, divided-none, divided-set, divided_list, leading_taken}
use Rattle.ark_quotients.specs.Divisors.{denoted}
use Rattle.ark_quotients.proofs.Divisors.{denoted-below}
use Rattle.ark_quotients.proofs.division.Divisor.divide.Goals as goal

pub loop-i-init : goal.loop-i-init
loop-i-init g c d h = divided-none g.F.Field.field g.met.F.Field.field_laws d c.args.self.now.degree c.args.coeffs.now

pub loop-i-preserved : goal.loop-i-preserved
loop-i-preserved g c d h =
    let K = g.F.Field.field in
    let N = g.met.F.Field.field_laws in
    let v = c.args.self.now in
    let k = v.degree in
    let xs = c.loop-i.coeffs in
    let i = c.loop-i.i - 1 in
    let y = c.mul-coefficient.result in
    let past : k ≤ i = let t = c.loop-i-test.true in omega arith in
    let inside : i < length xs = let t = c.loop-i-test.true in omega arith in
    let one_more : c.loop-i.i ≡ i + 1 = let t = c.loop-i-test.true in omega arith in
    let high : c.index-coeffs-i.result ≡ of_list K xs i = get_or_read xs i c.index-coeffs-i.result inside c.index-coeffs-i.is K.zero in
    let is : y ≡ K.times (of_list K xs i) v.inverse = g.met.F.Field.mul_law _ _ _ c.mul-coefficient.ensures ∙ ap (λ t. K.times t v.inverse) high in
    let taken : K.times y (d k) ≡ of_list K xs i = ap (λ t. K.times t (d k)) is ∙ leading_taken K N (of_list K xs i) v.inverse (d k) h.leading in
    divided-set K N d (denoted K v.lower) (of_list K c.args.coeffs.now) k i y xs c.subtract_lower.new.coeffs past inside h.rest
    (denoted-below K N k v.lower h.within) h.lower taken c.subtract_lower.ensures
    (subst (λ t. IsDivided K d k t (of_list K c.args.coeffs.now) (of_list K xs)) one_more (c.loop-i.invariant d h))

pub returns : goal.returns
returns g c d h =
    let t = c.loop-i-test.false in
    divided_list g.F.Field.field g.met.F.Field.field_laws d (of_list g.F.Field.field c.args.coeffs.now) c.args.self.now.degree c.loop-i.i c.loop-i.coeffs
    (omega arith) (c.loop-i.invariant d h)
