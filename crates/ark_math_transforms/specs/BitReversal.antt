-- The bit-reversal permutation, the order in which a transform by halves leaves its places.
use Rattle.std.specs.Prelude.{ℕ, suc, zero, ◌+◌, ◌-◌, ◌*◌, ◌^◌, nat_lt, if◌then◌else◌}

-- the place that the index p goes to when its lowest k bits are read backwards
abbrev pub reversed : ℕ → ℕ → ℕ
reversed zero p = 0
reversed (suc k) p = if nat_lt p (2 ^ k) then 2 * reversed k p else 2 * reversed k (p - 2 ^ k) + 1
