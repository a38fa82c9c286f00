use Rattle.std.proofs.Common.{◌≡◌, ℕ, ◌*◌, ◌<◌, ◌≤◌, get_or}
use Rattle.ark_fft.specs.Halves.{IsDealt}
use Rattle.ark_fft.proofs.domain.radix2.bit_reversal.turn_blocks.Given as goal

abbrev pub invariant-loop-k : goal.invariant-loop-k
invariant-loop-k g l = record {
  first : (k : ℕ) → k < l.k → IsDealt l.initial.first l.initial.second l.initial.third l.initial.fourth 0 k l.first;
  second : (k : ℕ) → k < l.k → IsDealt l.initial.first l.initial.second l.initial.third l.initial.fourth 2 k l.second;
  third : (k : ℕ) → k < l.k → IsDealt l.initial.first l.initial.second l.initial.third l.initial.fourth 1 k l.third;
  fourth : (k : ℕ) → k < l.k → IsDealt l.initial.first l.initial.second l.initial.third l.initial.fourth 3 k l.fourth;
  rest : (i : ℕ) (d : g.row.T.Denot) → 4 * l.k ≤ i → (get_or l.first i d ≡ get_or l.initial.first i d) × (get_or l.second i d ≡ get_or l.initial.second i d) × (get_or l.third i d ≡ get_or l.initial.third i d) × (get_or l.fourth i d ≡ get_or l.initial.fourth i d);
}
