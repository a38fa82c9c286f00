-- What writers of pieces took, one time after another.
use Rattle.std.proofs.Common.{◌≡◌, ℕ, List, [], ◌++◌, append_assoc, append-nil, sym, subst}
use Rattle.std.proofs.KnownBytes.{Appends-nil, Appends-trans}
use Rattle.ark_bytes.specs.declared.sink.Sink.{Ghosts}
use Rattle.ark_bytes.proofs.Transfer.{AppendsBeginning-none, AppendsBeginning-all, AppendsBeginning-after}
use Rattle.shards_streams.specs.declared.writer.PieceWriter.{PieceWriter}
use Rattle.shards_streams.specs.Writers.{piece_sink, HasHashed, Took, TookSome}

module _ {W : Type 0} (sink : Ghosts W) where
  pub took_nothing : (a : PieceWriter W) → Took sink a a []
  took_nothing a = record {
    appends = Appends-nil (sink.contents (piece_sink a));
    hashed = λ text h. subst (HasHashed a) (sym (append-nil text)) h;
  }

  pub took_both : (a b c : PieceWriter W) (x y : List ℕ) → Took sink a b x → Took sink b c y → Took sink a c (x ++ y)
  took_both a b c x y p q = record {
    appends = Appends-trans (sink.contents (piece_sink a)) (sink.contents (piece_sink b)) (sink.contents (piece_sink c)) x y p.appends q.appends;
    hashed = λ text h. subst (HasHashed c) (append_assoc text x y) (q.hashed (text ++ x) (p.hashed text h));
  }

  pub some_after : (a b c : PieceWriter W) (x y : List ℕ) → Took sink a b x → TookSome sink b c y → TookSome sink a c (x ++ y)
  some_after a b c x y p q =
      AppendsBeginning-after (sink.contents (piece_sink a)) (sink.contents (piece_sink b)) (sink.contents (piece_sink c)) x y p.appends q

  pub some_of_all : (a b : PieceWriter W) (x : List ℕ) → Took sink a b x → TookSome sink a b x
  some_of_all a b x p = AppendsBeginning-all (sink.contents (piece_sink a)) (sink.contents (piece_sink b)) x p.appends

  pub some_of_none : (a b : PieceWriter W) (x : List ℕ) → b ≡ a → TookSome sink a b x
  some_of_none a b x same =
      subst (λ (w : PieceWriter W). TookSome sink a w x) (sym same) (AppendsBeginning-none (sink.contents (piece_sink a)) x)
