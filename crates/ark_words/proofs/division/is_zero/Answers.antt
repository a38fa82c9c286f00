use Rattle.std.proofs.Common.{refl, sym, arith, true≢false}
use Rattle.ark_words.proofs.Zeros.{zero_words, some_word}
use Rattle.ark_words.proofs.division.is_zero.Goals as goal

pub returns-then-word-ne0 : goal.returns-then-word-ne0
returns-then-word-ne0 c = (
  (λ e. absurd (true≢false (sym e))),
  (λ zero. absurd (some_word c.args.words.now c.loop-word.word-index c.loop-word-test.true c.if-word-ne0.true zero)),
)

pub returns : goal.returns
returns c = (
  (λ e. zero_words c.args.words.now (λ k l. let end = c.loop-word-test.false in c.loop-word.invariant k (omega arith))),
  (λ zero. refl),
)
