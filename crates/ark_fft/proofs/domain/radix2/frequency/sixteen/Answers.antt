use Rattle.std.proofs.Common.{ℕ, ◌+◌, ◌≤◌, List, [], ◌∷◌, length, get_or, map, arith}
use Rattle.ark_math.specs.Module.{item}
use Rattle.ark_fft.specs.Columns.{IsColumn}
use Rattle.ark_fft.proofs.Columns.{of_four, same_column, written_from, written_at}
use Rattle.ark_fft.proofs.domain.radix2.frequency.sixteen.Goals as goal

pub returns-clause-columns : goal.returns-clause-columns
returns-clause-columns g c =
    let V = g.T.Summand.group in
    let m = g.T.Summand.meaning in
    let xs = c.args.xs.now in
    let twiddle = λ (k : ℕ). get_or c.args.tables.now k g.F.Field.field.zero in
    let vs : List g.row.T.Denot = c.column-zero.result.0 ∷ c.column-one.result.0 ∷ c.column-two.result.0 ∷ c.column-three.result.0 ∷ c.column-zero.result.1 ∷ c.column-one.result.1 ∷ c.column-two.result.1 ∷ c.column-three.result.1 ∷ c.column-zero.result.2 ∷ c.column-one.result.2 ∷ c.column-two.result.2 ∷ c.column-three.result.2 ∷ c.column-zero.result.3 ∷ c.column-one.result.3 ∷ c.column-two.result.3 ∷ c.column-three.result.3 ∷ [] in
    let fits : 0 + length vs ≤ length xs = omega (arith, c.requires.size) in
    let before = λ (k : ℕ). item V (map m xs) k in
    let after = λ (k : ℕ). item V (map m (written_from 0 vs xs)) k in
    of_four (λ i. IsColumn V (twiddle i) (twiddle (4 + i)) (twiddle (8 + i)) (before i) (before (4 + i)) (before (8 + i)) (before (12 + i)) (after i) (after (4 + i)) (after (8 + i)) (after (12 + i)))
    (same_column V (written_at m V.zero 0 vs xs 0 fits (omega arith)) (written_at m V.zero 0 vs xs 4 fits (omega arith)) (written_at m V.zero 0 vs xs 8 fits (omega arith)) (written_at m V.zero 0 vs xs 12 fits (omega arith)) c.column-zero.ensures.items)
    (same_column V (written_at m V.zero 0 vs xs 1 fits (omega arith)) (written_at m V.zero 0 vs xs 5 fits (omega arith)) (written_at m V.zero 0 vs xs 9 fits (omega arith)) (written_at m V.zero 0 vs xs 13 fits (omega arith)) c.column-one.ensures.items)
    (same_column V (written_at m V.zero 0 vs xs 2 fits (omega arith)) (written_at m V.zero 0 vs xs 6 fits (omega arith)) (written_at m V.zero 0 vs xs 10 fits (omega arith)) (written_at m V.zero 0 vs xs 14 fits (omega arith)) c.column-two.ensures.items)
    (same_column V (written_at m V.zero 0 vs xs 3 fits (omega arith)) (written_at m V.zero 0 vs xs 7 fits (omega arith)) (written_at m V.zero 0 vs xs 11 fits (omega arith)) (written_at m V.zero 0 vs xs 15 fits (omega arith)) c.column-three.ensures.items)
