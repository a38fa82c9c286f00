-- The code of files, and the number of each outcome of a call over their pieces.
use Rattle.std.specs.Prelude.{ℕ, ◌<◌, ◌≤◌, Result, Ok, Err}
use Rattle.shards_buffers.specs.declared.error.BufferError.{BufferError}
use Rattle.shards_buffers.specs.declared.error.BufferError.TheVariants.{Memory, Length, NotPieces, Damaged}

-- a file can be kept in n pieces, any k of which give it back
abbrev pub HasFileCode : ℕ → ℕ → Type 0
HasFileCode k n = (0 < k) × (k ≤ n) × (n ≤ 65536)

abbrev pub piece_status_of : Result (Unit {0}) BufferError → ℕ
piece_status_of (Ok done) = 0
piece_status_of (Err Memory) = 1
piece_status_of (Err Length) = 3
piece_status_of (Err NotPieces) = 10
piece_status_of (Err Damaged) = 11
