use Rattle.std.proofs.Common.{◌<◌, ◌≤◌, subst, ◌∙◌, mod-eq_of_lt}
use Rattle.ark_math_formats.specs.Format.{number}
use Rattle.ark_bytes.specs.Reading.{source_state, TakesSpelling}
use Rattle.ark_base.specs.Element32.{numbering}
use Rattle.ark_base.proofs.ElementBytes.{read_element, past_the_modulus}
use Rattle.ark_base.proofs.prime_field32.bytes.PrimeField32CanonicalDeserialize.deserialize_with_mode.Goals as goal

pub returns-then-value-MODULUS : goal.returns-then-value-MODULUS
returns-then-value-MODULUS g c =
    let m = g.M.PrimeModulus32 in
    let v = c.in_ok-value.value in
    let below : v < m.MODULUS = subst (λ p. v < p) c.MODULUS.ensures c.if-value-MODULUS.true in
    let old = source_state g.R.Source.remaining g.R.Source.failures c.args.reader.now in
    let new = source_state g.R.Source.remaining g.R.Source.failures c.read_number.new.reader in
    read_element (numbering {M = g.row.M.Denot} {g = m} m.modulus) old new c.reduce.result v (c.reduce.ensures ∙ mod-eq_of_lt below)
    (subst (λ w. TakesSpelling (number w) old new v) c.width.ensures c.in_ok-value.ensures)

pub returns-else-value-MODULUS : goal.returns-else-value-MODULUS
returns-else-value-MODULUS g c =
    let m = g.M.PrimeModulus32 in
    let v = c.in_ok-value.value in
    let above : m.MODULUS ≤ v = subst (λ p. p ≤ v) c.MODULUS.ensures c.if-value-MODULUS.false in
    let old = source_state g.R.Source.remaining g.R.Source.failures c.args.reader.now in
    let new = source_state g.R.Source.remaining g.R.Source.failures c.read_number.new.reader in
    past_the_modulus (numbering {M = g.row.M.Denot} {g = m} m.modulus) old new v above
    (subst (λ w. TakesSpelling (number w) old new v) c.width.ensures c.in_ok-value.ensures)
