-- What a clause reads of an `IoSource`.
use Rattle.std.specs.Prelude.{ℕ}
use Rattle.ark_bytes.specs.declared.source.IoSource.{IoSource}

-- `source.into_inner()`
abbrev pub io_source_inner : {R : Type 0} → IoSource R → R
io_source_inner source = source.inner

-- how many calls of `take` answered `Failed`
abbrev pub io_source_failures : {R : Type 0} → IoSource R → ℕ
io_source_failures source = source.failures.count
