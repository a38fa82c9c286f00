use Rattle.std.proofs.Common.{◌≢◌, ◌-◌, refl, ap, sym, ◌∙◌}
use Rattle.std.proofs.lemmas.Bool.{false≢true}
use Rattle.ark_math.specs.Field.{power}
use Rattle.ark_base.specs.ResiduesLaws.{inverse_by_power}
use Rattle.ark_base.specs.Element32.{numbering, field_of}
use Rattle.ark_base.specs.Element32Laws.{equal_elements}
use Rattle.ark_base.proofs.prime_field32.PrimeField32Field.inverse.Goals as goal

pub returns-then-is_zero-clause-none : goal.returns-then-is_zero-clause-none
returns-then-is_zero-clause-none g c =
    let m = g.M.PrimeModulus32 in
    (λ _. (equal_elements {g = m} m.modulus _ _).0 (sym c.is_zero.ensures ∙ c.if-is_zero.true), λ _. refl)

pub returns-else-is_zero-clause-some : goal.returns-else-is_zero-clause-some
returns-else-is_zero-clause-some g c =
    let m = g.M.PrimeModulus32 in
    let x = c.args.self.now in
    let K = field_of {M = g.row.M.Denot} {g = m} m.modulus in
    let some : x ≢ K.zero = λ e. false≢true (sym c.if-is_zero.false ∙ c.is_zero.ensures ∙ (equal_elements {g = m} m.modulus _ _).1 e) in
    ap (K.times x) (c.pow.ensures ∙ ap (λ p. power K x (p - 2)) c.MODULUS.ensures)
    ∙ inverse_by_power (numbering {M = g.row.M.Denot} {g = m} m.modulus) m.modulus.numbers x some
