use Rattle.std.proofs.Common.{◌≡◌, ◌+◌, ◌*◌, ◌<◌, ◌≤◌, length, get_or, map, arith, refl}
use Rattle.std.proofs.lemmas.List.{get_or_read}
use Rattle.ark_math.specs.Module.{item}
use Rattle.ark_math.proofs.Lists.Lists.{read_as}
use Rattle.ark_fft.proofs.Levels.{same_butterfly}
use Rattle.ark_fft.proofs.Columns.{column_of}
use Rattle.ark_fft.proofs.domain.radix2.frequency.column.Goals as goal

pub returns-clause-items : goal.returns-clause-items
returns-clause-items g c =
    let V = g.T.Summand.group in
    let m = g.T.Summand.meaning in
    let zero = g.F.Field.field.zero in
    let i = c.args.i in
    let n = c.args.quarter in
    let xs = c.args.xs.now in
    let tables = c.args.tables.now in
    let within : i < n = c.requires.place in
    let size : length xs ≡ 4 * n = c.requires.size in
    let enough : 3 * n ≤ length tables = c.requires.enough in
    let x0 : m c.index-xs-i.result ≡ item V (map m xs) i = read_as m V.zero xs _ _ (omega (arith, within, size)) c.index-xs-i.is in
    let x1 : m c.index-xs-quarter.result ≡ item V (map m xs) (n + i) = read_as m V.zero xs _ _ (omega (arith, within, size)) c.index-xs-quarter.is in
    let x2 : m c.index-xs-quarter-2.result ≡ item V (map m xs) (n + n + i) = read_as m V.zero xs _ _ (omega (arith, within, size)) c.index-xs-quarter-2.is in
    let x3 : m c.index-xs-quarter-3.result ≡ item V (map m xs) (n + n + n + i) = read_as m V.zero xs _ _ (omega (arith, within, size)) c.index-xs-quarter-3.is in
    let below : c.index-tables-quarter.result ≡ get_or tables (n + n + i) zero = get_or_read tables _ _ (omega (arith, within, enough)) c.index-tables-quarter.is zero in
    let upper : c.index-tables-i.result ≡ get_or tables i zero = get_or_read tables _ _ (omega (arith, within, enough)) c.index-tables-i.is zero in
    let lower : c.index-tables-quarter-2.result ≡ get_or tables (n + i) zero = get_or_read tables _ _ (omega (arith, within, enough)) c.index-tables-quarter-2.is zero in
    column_of V
    (same_butterfly V upper x0 x2 (record { sum = c.butterfly.ensures.sum; difference = c.butterfly.ensures.difference }))
    (same_butterfly V lower x1 x3 (record { sum = c.butterfly-2.ensures.sum; difference = c.butterfly-2.ensures.difference }))
    (same_butterfly V below refl refl (record { sum = c.butterfly-3.ensures.sum; difference = c.butterfly-3.ensures.difference }))
    (same_butterfly V below refl refl (record { sum = c.butterfly-4.ensures.sum; difference = c.butterfly-4.ensures.difference }))
