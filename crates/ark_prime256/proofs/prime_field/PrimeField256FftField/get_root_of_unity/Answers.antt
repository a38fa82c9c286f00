use Rattle.std.proofs.Common.{◌≡◌, ◌/◌, ◌%◌, ap, sym, refl, ◌∙◌, pos_of_ne-zero}
use Rattle.std.proofs.lemmas.Bool.{false≢true}
use Rattle.ark_math.specs.Field.{power, natural}
use Rattle.ark_math.specs.Root.{greatest_size}
use Rattle.ark_base.specs.RootLaws.{supported_from_divisor, divisor_from_supported}
use Rattle.ark_prime256.specs.Element.{adicity, numbering, field_of}
use Rattle.ark_base.specs.Residues.{root_of}
use Rattle.ark_base.specs.ResiduesLaws.{residue_roots}
use Rattle.ark_prime256.proofs.Constants.{root_of_part}
use Rattle.ark_prime256.proofs.prime_field.PrimeField256FftField.get_root_of_unity.Goals as goal

pub returns-then-n-eq0-clause-supported : goal.returns-then-n-eq0-clause-supported
returns-then-n-eq0-clause-supported g c =
    let m = g.M.PrimeModulus256 in
    let roots = residue_roots (numbering {M = g.row.M.Denot} {g = m} m.modulus) m.modulus.numbers in
    (λ some. absurd (false≢true some), λ h. absurd (roots.invertible c.args.n h (ap (natural (field_of {M = g.row.M.Denot} {g = m} m.modulus)) c.if-n-eq0.true)))

pub returns-then-GREATEST_SIZE-n-ne0-clause-supported : goal.returns-then-GREATEST_SIZE-n-ne0-clause-supported
returns-then-GREATEST_SIZE-n-ne0-clause-supported g c =
    let m = g.M.PrimeModulus256 in
    let divides = ap (λ v. v % c.args.n) (c.GREATEST_SIZE.ensures ∙ m.modulus.numbers.greatest_is) in
    (λ some. absurd (false≢true some), λ h. absurd (c.if-GREATEST_SIZE-n-ne0.true (divides ∙ divisor_from_supported (adicity m) c.args.n h)))

pub returns-clause-some : goal.returns-clause-some
returns-clause-some g c =
    let m = g.M.PrimeModulus256 in
    let n = c.args.n in
    let K = field_of {M = g.row.M.Denot} {g = m} m.modulus in
    let greatest = root_of (numbering {M = g.row.M.Denot} {g = m} m.modulus) m.modulus.numbers m.GREATEST_SIZE in
    let divides : m.GREATEST_SIZE % n ≡ 0 = ap (λ v. v % n) (sym c.GREATEST_SIZE.ensures) ∙ c.if-GREATEST_SIZE-n-ne0.false in
    c.pow.ensures
    ∙ ap (λ y. power K y (c.GREATEST_SIZE-2.result / n)) c.greatest_root.ensures
    ∙ ap (λ k. power K greatest (k / n)) c.GREATEST_SIZE-2.ensures
    ∙ root_of_part {M = g.row.M.Denot} {g = m} m.modulus n (pos_of_ne-zero c.if-n-eq0.false) divides

pub returns-clause-supported : goal.returns-clause-supported
returns-clause-supported g c =
    let m = g.M.PrimeModulus256 in
    let divides : greatest_size (adicity m) % c.args.n ≡ 0 =
    ap (λ v. v % c.args.n) (sym (c.GREATEST_SIZE.ensures ∙ m.modulus.numbers.greatest_is)) ∙ c.if-GREATEST_SIZE-n-ne0.false in
    (λ some. supported_from_divisor (adicity m) c.args.n m.modulus.numbers.generator.sizes.base c.ranges.n.fits divides, λ h. refl)
