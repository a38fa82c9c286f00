-- What several calls of a writer append together.
use Rattle.std.proofs.Common.{ℕ, List, [], ◌++◌, Option, Result, Ok, Err, OnErr, refl, sym, ap, ◌∙◌, append_assoc, append-nil}
use Rattle.std.specs.Io.KnownBytes.{Appends}
use Rattle.std.proofs.KnownBytes.{Appends-nil, Appends-trans}
use Rattle.ark_bytes.specs.Transfer.{AppendsBeginning}

-- nothing is a beginning of any bytes
pub AppendsBeginning-none : (a : Option (List ℕ)) (bytes : List ℕ) → AppendsBeginning a a bytes
AppendsBeginning-none a bytes = record { written = []; unwritten = bytes; splits = refl; appends = Appends-nil a }

-- all bytes are a beginning of them
pub AppendsBeginning-all : (a b : Option (List ℕ)) (bytes : List ℕ) → Appends a b bytes → AppendsBeginning a b bytes
AppendsBeginning-all a b bytes appends =
    record { written = bytes; unwritten = []; splits = sym (append-nil bytes); appends = appends }

-- a beginning of some bytes is one of these and more
pub AppendsBeginning-more : (a b : Option (List ℕ)) (bytes more : List ℕ) → AppendsBeginning a b bytes → AppendsBeginning a b (bytes ++ more)
AppendsBeginning-more a b bytes more h = record {
  written = h.written;
  unwritten = h.unwritten ++ more;
  splits = ap (λ l. l ++ more) h.splits ∙ append_assoc h.written h.unwritten more;
  appends = h.appends;
}

-- some bytes, and then a beginning of more
pub AppendsBeginning-after : (a b c : Option (List ℕ)) (bytes more : List ℕ) → Appends a b bytes → AppendsBeginning b c more → AppendsBeginning a c (bytes ++ more)
AppendsBeginning-after a b c bytes more first h = record {
  written = bytes ++ h.written;
  unwritten = h.unwritten;
  splits = ap (λ l. bytes ++ l) h.splits ∙ sym (append_assoc bytes h.written h.unwritten);
  appends = Appends-trans a b c bytes h.written first h.appends;
}

-- the first of two calls failed
pub first_failed : {T E : Type 0} (r : Result T E) (a b : Option (List ℕ)) (bytes more : List ℕ) → AppendsBeginning a b bytes → OnErr r (AppendsBeginning a b (bytes ++ more))
first_failed (Ok x) a b bytes more h = tt
first_failed (Err e) a b bytes more h = AppendsBeginning-more a b bytes more h

-- the first of two calls appended its bytes, and the second may have failed
pub second_failed : {T E : Type 0} (r : Result T E) (a b c : Option (List ℕ)) (bytes more : List ℕ) → Appends a b bytes → OnErr r (AppendsBeginning b c more) → OnErr r (AppendsBeginning a c (bytes ++ more))
second_failed (Ok x) a b c bytes more first h = tt
second_failed (Err e) a b c bytes more first h = AppendsBeginning-after a b c bytes more first h

pub ruleset beginnings = (first_failed, second_failed, AppendsBeginning-more, AppendsBeginning-after, AppendsBeginning-none, AppendsBeginning-all)
