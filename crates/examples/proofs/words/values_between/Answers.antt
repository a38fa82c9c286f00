use Rattle.std.proofs.Common.{Result, Ok, Err, OnOk}
use Rattle.ark_words.specs.declared.error.WordsError.{WordsError}
use Rattle.examples.proofs.words.values_between.Goals as goal

where_ok : {A B : Type 0} (r : Result (Unit {0}) WordsError) → (A → B) → OnOk r A → OnOk r B
where_ok (Ok done) f h = f h
where_ok (Err e) f h = h

pub returns-clause-values : goal.returns-clause-values
returns-clause-values g c = where_ok c.evaluate.result (λ evaluated. (_, c.in_ok-interpolate.ensures.coefficients, evaluated)) c.evaluate.ensures.values
