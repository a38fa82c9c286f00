-- What is gone from `rest` was written, no write failed yet, and with no bytes nothing happened.
use Rattle.std.proofs.Common.{◌≡◌, ℕ, List, [], ◌++◌, length}
use Rattle.std.specs.Io.KnownBytes.{Appends}
use Rattle.ark_bytes.proofs.sink.IoSinkSink.put.Given as goal

abbrev pub invariant-loop-rest : goal.invariant-loop-rest
invariant-loop-rest g l = record {
  writes : (written : List ℕ) × (l.bytes ≡ written ++ l.rest)
      × Appends (g.W.Write.contents l.fn.self.inner) (g.W.Write.contents l.self.inner) written;
  counted : l.self.failures.count ≡ l.fn.self.failures.count;
  empty : l.bytes ≡ [] → l.self ≡ l.fn.self;
}

abbrev pub decreases-loop-rest : goal.decreases-loop-rest
decreases-loop-rest g l = length l.rest
