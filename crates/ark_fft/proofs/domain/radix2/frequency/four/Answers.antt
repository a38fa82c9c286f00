use Rattle.std.proofs.Common.{◌≡◌, ℕ, ◌+◌, ◌*◌, ◌<◌, length, get_or, map, arith, ap, refl, ◌∙◌}
use Rattle.std.proofs.lemmas.List.{get_or_read}
use Rattle.ark_math.specs.Module.{item}
use Rattle.ark_math.proofs.Lists.Lists.{read_as}
use Rattle.ark_fft.proofs.Levels.{same_butterfly}
use Rattle.ark_fft.proofs.Fours.{block_written, written_nowhere_else}
use Rattle.ark_fft.proofs.domain.radix2.frequency.four.Goals as goal

pub returns-clause-sums : goal.returns-clause-sums
returns-clause-sums g c = λ w levels q l.
    let V = g.T.Summand.group in
    let m = g.T.Summand.meaning in
    let zero = g.F.Field.field.zero in
    let r = c.args.r in
    let xs = c.args.xs.now in
    let tables = c.args.tables.now in
    let inside : 4 * r + 3 < length xs = c.requires.within in
    let four : length tables ≡ 4 = c.requires.whole in
    let old = λ (j : ℕ). item V (map m xs) (4 * r + j) in
    let start : 4 * r ≡ 4 * r + 0 = omega arith in
    let x0 : m c.index-xs-r.result ≡ old 0 = read_as m V.zero xs _ _ (omega (arith, inside)) c.index-xs-r.is ∙ ap (item V (map m xs)) start in
    let x1 : m c.index-xs-r-2.result ≡ old 1 = read_as m V.zero xs _ _ (omega (arith, inside)) c.index-xs-r-2.is in
    let x2 : m c.index-xs-r-3.result ≡ old 2 = read_as m V.zero xs _ _ (omega (arith, inside)) c.index-xs-r-3.is in
    let x3 : m c.index-xs-r-4.result ≡ old 3 = read_as m V.zero xs _ _ inside c.index-xs-r-4.is in
    let t0 : c.index-tables-0.result ≡ get_or tables 0 zero = get_or_read tables _ _ (omega (arith, four)) c.index-tables-0.is zero in
    let t1 : c.index-tables-1.result ≡ get_or tables 1 zero = get_or_read tables _ _ (omega (arith, four)) c.index-tables-1.is zero in
    let t2 : c.index-tables-2.result ≡ get_or tables 2 zero = get_or_read tables _ _ (omega (arith, four)) c.index-tables-2.is zero in
    let t3 : c.index-tables-2-2.result ≡ get_or tables 2 zero = get_or_read tables _ _ (omega (arith, four)) c.index-tables-2-2.is zero in
    block_written g.met.F.Field.field_laws g.met.T.Summand.module_laws m w tables xs r c.butterfly.new.lo c.butterfly-2.new.lo c.butterfly.new.hi c.butterfly-2.new.hi c.butterfly-3.new.lo c.butterfly-3.new.hi c.butterfly-4.new.lo c.butterfly-4.new.hi levels four inside
    (record {
      evens = same_butterfly V t0 x0 x2 (record { sum = c.butterfly.ensures.sum; difference = c.butterfly.ensures.difference });
      odds = same_butterfly V t1 x1 x3 (record { sum = c.butterfly-2.ensures.sum; difference = c.butterfly-2.ensures.difference });
      front = same_butterfly V t2 refl refl (record { sum = c.butterfly-3.ensures.sum; difference = c.butterfly-3.ensures.difference });
      back = same_butterfly V t3 refl refl (record { sum = c.butterfly-4.ensures.sum; difference = c.butterfly-4.ensures.difference });
    })
    q l

pub returns-clause-others : goal.returns-clause-others
returns-clause-others g c = λ k out. written_nowhere_else g.T.Summand.meaning g.T.Summand.group.zero c.args.xs.now (4 * c.args.r) c.butterfly-3.new.lo c.butterfly-3.new.hi c.butterfly-4.new.lo c.butterfly-4.new.hi c.requires.within k out
