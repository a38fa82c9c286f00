-- Numbers that are drawn word by word.
use Rattle.std.specs.Prelude.{ℕ, suc, zero, ◌+◌, ◌*◌, ◌^◌}
use Rattle.rand_core.specs.Stream.{Stream, next_u64}

-- so many words of 64 bits, the low one first, as one number
abbrev pub next_words : ℕ → Stream → ℕ × Stream
next_words zero s = (0, s)
next_words (suc n) s =
    let first = next_u64 s in
    let rest = next_words n first.1 in
    (first.0 + 2 ^ 64 * rest.0, rest.1)
