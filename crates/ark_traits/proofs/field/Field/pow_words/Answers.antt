use Rattle.std.proofs.Common.{◌+◌, ap, sym, ◌∙◌, drop}
use Rattle.ark_math.specs.Field.{power}
use Rattle.ark_math.specs.Words.{number_of_words}
use Rattle.ark_math.proofs.Algebra.Groups.{one_times}
use Rattle.ark_traits.proofs.WordPowers.{odd_kept, even_kept, halved_within, all_bits, words_split, no_words}
use Rattle.ark_traits.proofs.field.Field.pow_words.Goals.{then-left-eq1, else-left-eq1}
use Rattle.ark_traits.proofs.field.Field.pow_words.Goals as goal

pub words-init : goal.words-init
words-init g c =
    let K = g.Self.Field.field in
    let whole = power K c.args.self.now (number_of_words c.args.exponent.now) in
    ap (λ y. K.times y whole) (c.one-result.ensures ∙ g.met.Self.Field.one_law) ∙ one_times K g.met.Self.Field.field_laws whole

pub bits-init : goal.bits-init
bits-init g c =
    let K = g.Self.Field.field in
    let i = c.words.word-index in
    let words = c.args.exponent.now in
    record {
      within = record { few = c.type_inv.left.fits };
      powers = ap (λ m. K.times c.words.result (power K c.words.square m)) (sym (words_split words i c.words-test.true)) ∙ c.words.invariant;
    }

pub bits-preserved : goal.bits-preserved
bits-preserved g c =
    let K = g.Self.Field.field in
    let L = g.met.Self.Field.field_laws in
    let times = g.met.Self.Field.mul_law in
    let b = c.bits in
    let whole = power K c.args.self.now (number_of_words c.args.exponent.now) in
    let rest = number_of_words (drop (c.words.word-index + 1) c.args.exponent.now) in
    let r' = c.if-left-eq1.result in
    let s' = c.mul-square.result in
    let squared = times _ _ _ c.mul-square.ensures in
    record {
      within = halved_within b.left b._i c.bits-test.true b.invariant.within;
      powers = elim c.if-left-eq1.branch [
        | then-left-eq1 w ↦ odd_kept K L b.result b.square r' s' whole b.left b._i rest c.bits-test.true (w.result-is ∙ times _ _ _ w.mul-result.ensures) squared w.if-left-eq1.true b.invariant.powers
        | else-left-eq1 w ↦ even_kept K L b.result b.square r' s' whole b.left b._i rest c.bits-test.true w.result-is squared w.if-left-eq1.false b.invariant.powers
      ];
    }

pub words-preserved : goal.words-preserved
words-preserved g c =
    let K = g.Self.Field.field in
    let b = c.bits in
    let rest = number_of_words (drop (c.words.word-index + 1) c.args.exponent.now) in
    ap (λ m. K.times b.result (power K b.square m)) (sym (all_bits b.left b._i rest c.bits-test.false b.invariant.within)) ∙ b.invariant.powers

pub returns : goal.returns
returns g c =
    let K = g.Self.Field.field in
    sym (g.met.Self.Field.field_laws.times_one c.words.result)
    ∙ ap (λ m. K.times c.words.result (power K c.words.square m)) (sym (no_words c.args.exponent.now c.words.word-index c.words-test.false))
    ∙ c.words.invariant
