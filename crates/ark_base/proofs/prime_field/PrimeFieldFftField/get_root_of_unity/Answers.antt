use Rattle.std.proofs.Common.{◌≡◌, ◌-◌, ◌/◌, ◌%◌, ap, sym, refl, ◌∙◌}
use Rattle.std.proofs.lemmas.Bool.{false≢true}
use Rattle.ark_math.specs.Field.{power, natural}
use Rattle.ark_math.specs.Root.{greatest_size}
use Rattle.ark_base.specs.RootLaws.{supported_from_divisor, divisor_from_supported}
use Rattle.ark_base.specs.Element.{prime_field, generator_of, adicity}
use Rattle.ark_base.specs.ElementLaws.{prime_roots}
use Rattle.ark_base.proofs.prime_field.PrimeFieldFftField.get_root_of_unity.Goals as goal

pub returns-then-n-eq0-clause-supported : goal.returns-then-n-eq0-clause-supported
returns-then-n-eq0-clause-supported g c =
    let m = g.M.PrimeModulus in
    let roots = prime_roots g.row.M.Denot m m.modulus in
    (λ some. absurd (false≢true some), λ h. absurd (roots.invertible c.args.n h (ap (natural (prime_field m.modulus.prime)) c.if-n-eq0.true)))

pub returns-then-GREATEST_SIZE-n-ne0-clause-supported : goal.returns-then-GREATEST_SIZE-n-ne0-clause-supported
returns-then-GREATEST_SIZE-n-ne0-clause-supported g c =
    let m = g.M.PrimeModulus in
    let divides = ap (λ v. v % c.args.n) (c.GREATEST_SIZE.ensures ∙ m.modulus.greatest_is) in
    (λ some. absurd (false≢true some), λ h. absurd (c.if-GREATEST_SIZE-n-ne0.true (divides ∙ divisor_from_supported (adicity m) c.args.n h)))

pub returns-clause-some : goal.returns-clause-some
returns-clause-some g c =
    let m = g.M.PrimeModulus in
    let K = prime_field {M = g.row.M.Denot} {g = m} m.modulus.prime in
    c.pow.ensures
    ∙ ap (λ y. power K y ((c.MODULUS.result - 1) / c.args.n)) c.GENERATOR.ensures
    ∙ ap (λ p. power K (generator_of m.modulus) ((p - 1) / c.args.n)) c.MODULUS.ensures

pub returns-clause-supported : goal.returns-clause-supported
returns-clause-supported g c =
    let m = g.M.PrimeModulus in
    let divides : greatest_size (adicity m) % c.args.n ≡ 0 =
    ap (λ v. v % c.args.n) (sym (c.GREATEST_SIZE.ensures ∙ m.modulus.greatest_is)) ∙ c.if-GREATEST_SIZE-n-ne0.false in
    (λ some. supported_from_divisor (adicity m) c.args.n m.modulus.generator.sizes.base c.ranges.n.fits divides, λ h. refl)
