use Rattle.std.proofs.Common.{◌≡◌, ◌*◌, ◌/◌, ◌%◌, ◌<◌, length, sym, ap, subst, ◌∙◌, arith}
use Rattle.ark_words.specs.Numbers.{Spelled}
use Rattle.ark_words.specs.Codes.{IsRestored, IsFound, message_size, word_count}
use Rattle.ark_words.proofs.WordsApart.{each_of_both}
use Rattle.ark_words.proofs.PartsInNumbers.{in_multiples}
use Rattle.ark_words.proofs.laws.words_are_apart.Goals as goal

pub returns-clause-restored : goal.returns-clause-restored
returns-clause-restored g c = λ erased old more new made k fit same first rest.
    let f = g.F.WordElement.spelled in
    let n = length erased in
    let some : 0 < n = omega (arith, fit.3, fit.4) in
    let width : 0 < f.width = subst (λ (s : Spelled). 0 < s.width) (sym g.met.F.WordElement.spelled_law) g.met.F.WordElement.width_law in
    let turned : n * (length old / f.width / n) ≡ length old / f.width / n * n = omega arith in
    each_of_both f.width n n width some some (λ word restored. IsRestored f.known erased k word restored) old more new made
    fit.0 fit.2 (ap (λ t. t % f.width) same ∙ fit.0) (ap (λ t. t / f.width) same ∙ in_multiples (length old / f.width) n fit.2 ∙ turned) first rest

pub returns-clause-found : goal.returns-clause-found
returns-clause-found g c = λ erased words more messages others fit first rest.
    let f = g.F.WordElement.spelled in
    let n = length erased in
    let k = message_size f words erased messages in
    let some : 0 < n = omega (arith, fit.5, fit.6) in
    let width : 0 < f.width = subst (λ (s : Spelled). 0 < s.width) (sym g.met.F.WordElement.spelled_law) g.met.F.WordElement.width_law in
    each_of_both f.width n k width some fit.5 (λ word message. IsFound f.known erased k word message) words more messages others
    fit.0 fit.1 fit.3 (in_multiples (length messages / f.width) (word_count f words erased) fit.4) first rest
