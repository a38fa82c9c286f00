-- What a clause reads of an `IoSink`.
use Rattle.std.specs.Prelude.{ℕ}
use Rattle.ark_bytes.specs.declared.sink.IoSink.{IoSink}

-- `sink.into_inner()`
abbrev pub io_sink_inner : {W : Type 0} → IoSink W → W
io_sink_inner sink = sink.inner

-- how many calls of `put` answered `Failed`
abbrev pub io_sink_failures : {W : Type 0} → IoSink W → ℕ
io_sink_failures sink = sink.failures.count
